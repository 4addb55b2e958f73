-- A request has one object, and one answer.
use Rattle.std.proofs.Common.{◌≡◌, ℕ, List, Bool, true, false, Option, Some, None, ap, sym, ◌∙◌}
use Rattle.capabilities.specs.Values.{Members, object_of}
use Rattle.endpoints.specs.declared.route.Route.{Route}
use Rattle.parameters.proofs.Lookups.{object_of-Object}
use Rattle.parameters.specs.Body.{is_post, IsObjectBy}
use Rattle.parameters.specs.Parameters.{IsParametersOf, IsRefusedBy, NoObject, AtObject}
use Rattle.parameters.specs.Refusals.{refusal_in}
use Rattle.wd_json.specs.Data.{Data}
use Rattle.wd_errors.specs.declared.code.Code.{Code}
use Rattle.wd_json.proofs.Alone.{same_data}
use Rattle.wd_json.specs.declared.value.Json.{Json}
use Rattle.wd_json.specs.declared.value.Json.TheVariants.{Object}

same_members : (a b : Members) → Object a ≡ Object b → a ≡ b
same_members a b e =
    let same : Some a ≡ Some b = sym (object_of-Object a) ∙ ap object_of e ∙ object_of-Object b in
    cc

same_read : (o : Option Data) (d f : Data) → o ≡ Some d → o ≡ Some f → d ≡ f
same_read o d f p q = cc

same_object : (post : Bool) (body : List ℕ) (a b : Members) → IsObjectBy post body a → IsObjectBy post body b → a ≡ b
same_object true body a b p q = same_members a b (same_data (Object a) (Object b) (same_read _ _ _ p.reads.1 q.reads.1))
same_object false body a b p q = p ∙ sym q

no_code : (o : Option Code) (code : Code) → o ≡ None → o ≡ Some code → ⊥
no_code o code p q = cc

same_code : (o : Option Code) (a b : Code) → o ≡ Some a → o ≡ Some b → a ≡ b
same_code o a b p q = cc

pub one_object : (route : Route) (body : List ℕ) (a b : Json) → IsParametersOf route body a → IsParametersOf route body b → a ≡ b
one_object route body a b p q = p.is ∙ ap Object (same_object (is_post route.command) body p.members q.members p.read q.read) ∙ sym q.is

-- what the one object is answered with
at : (route : Route) (body : List ℕ) (a b : Members) (o : Option Code) → IsObjectBy (is_post route.command) body a → IsObjectBy (is_post route.command) body b → refusal_in route.command b ≡ o → refusal_in route.command a ≡ o
at route body a b o p q e = ap (refusal_in route.command) (same_object (is_post route.command) body a b p q) ∙ e

pub one_code : (route : Route) (body : List ℕ) (a b : Code) → IsRefusedBy route body a → IsRefusedBy route body b → a ≡ b
one_code route body a b (NoObject none e) (NoObject same f) = e ∙ sym f
one_code route body a b (NoObject none e) (AtObject members read f) = absurd (none members read)
one_code route body a b (AtObject members read e) (NoObject none f) = absurd (none members read)
one_code route body a b (AtObject members read e) (AtObject others also f) = same_code _ a b e (at route body members others (Some b) read also f)

pub not_both : (route : Route) (body : List ℕ) (json : Json) (code : Code) → IsParametersOf route body json → IsRefusedBy route body code → ⊥
not_both route body json code p (NoObject none e) = none p.members p.read
not_both route body json code p (AtObject members read e) = no_code _ code p.passes (at route body p.members members (Some code) p.read read e)
