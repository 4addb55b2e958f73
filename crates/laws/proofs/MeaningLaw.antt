-- A request means one thing.
use Rattle.std.proofs.Common.{◌≡◌, ◌∙◌, ◌⊎◌, ◌∷◌, ℕ, List, [], Option, Some, None, Result, Ok, Err, sym, ap, refl, subst, inl, inr}
use Rattle.std.specs.Prelude.{is_some}
use Rattle.std.specs.List.{position}
use Rattle.references.specs.Identifier.{is_text_of}
use Rattle.std.specs.Option.{option_map, option_map_or}
use Rattle.std.specs.Str.{encode_utf8_all}
use Rattle.endpoints.specs.declared.command.Command.{Command}
use Rattle.endpoints.specs.declared.route.Route.{Route}
use Rattle.endpoints.specs.Route.{IsRouteOf, SameRoute, IsRefusal, IsUnknownCommand, IsUnknownMethod}
use Rattle.endpoints.proofs.Answer.{same_route}
use Rattle.parameters.specs.Body.{IsObjectFor, HasNone}
use Rattle.parameters.specs.Parameters.{AtObject}
use Rattle.parameters.specs.Refusals.{refusal_in}
use Rattle.parameters.proofs.Unique.{one_object, one_code}
use Rattle.wd_errors.specs.declared.code.Code.{Code}
use Rattle.wd_errors.specs.declared.code.Code.TheVariants.{ElementClickIntercepted, ElementNotInteractable, InsecureCertificate, InvalidArgument, InvalidCookieDomain, InvalidElementState, InvalidSelector, InvalidSessionId, NoSuchAlert, NoSuchCookie, NoSuchElement, NoSuchFrame, NoSuchWindow, NoSuchShadowRoot, StaleElementReference, DetachedShadowRoot, UnknownCommand, UnknownMethod, JavascriptError, MoveTargetOutOfBounds, ScriptTimeout, SessionNotCreated, Timeout, UnableToSetCookie, UnableToCaptureScreen, UnexpectedAlertOpen, UnknownError, UnsupportedOperation}
use Rattle.wd_http.specs.declared.request.Request.{Request}
use Rattle.remote_end.specs.declared.order.Order.{Order}
use Rattle.remote_end.specs.declared.session.Session.{Session}
use Rattle.remote_end.specs.Meaning.{names_open, Check, OpenSession, ObjectBody, SessionLimit, GoodParameters, BuiltRow, checks, Refuses, AllPass, FirstRefusal, method_bytes, target_bytes, IsRefused, AtEndpoint, AtCheck, IsCommand, Means}
use Rattle.remote_end.specs.Rows.{is_built}
use Rattle.remote_end.specs.State.{State, own_place}
use Rattle.laws.proofs.RowLaw.{SameOrder}

-- ---- texts with the same bytes

place_same : (a b : Option (List ℕ)) → option_map encode_utf8_all a ≡ option_map encode_utf8_all b → (sessions : List Session) → own_place a sessions ≡ own_place b sessions
place_same None None same sessions = refl
place_same None (Some b) same sessions = absurd (let e : None ≡ Some (encode_utf8_all b) = same in cc)
place_same (Some a) None same sessions = absurd (let e : Some (encode_utf8_all a) ≡ None = same in cc)
place_same (Some a) (Some b) same sessions =
    let e : encode_utf8_all a ≡ encode_utf8_all b = cc in
    ap (λ (bytes : List ℕ). position (λ (s : Session). is_text_of s.id bytes) sessions) e

open_same : (a b : Option (List ℕ)) → option_map encode_utf8_all a ≡ option_map encode_utf8_all b → (sessions : List Session) → names_open a sessions ≡ names_open b sessions
open_same None None same sessions = refl
open_same None (Some b) same sessions = absurd (let e : None ≡ Some (encode_utf8_all b) = same in cc)
open_same (Some a) None same sessions = absurd (let e : Some (encode_utf8_all a) ≡ None = same in cc)
open_same (Some a) (Some b) same sessions =
    let e : encode_utf8_all a ≡ encode_utf8_all b = cc in
    ap (λ (bytes : List ℕ). is_some (position (λ (s : Session). is_text_of s.id bytes) sessions)) e

bytes_same : (a b : Option (List ℕ)) → option_map encode_utf8_all a ≡ option_map encode_utf8_all b → option_map_or encode_utf8_all a [] ≡ option_map_or encode_utf8_all b []
bytes_same None None same = refl
bytes_same None (Some b) same = absurd (let e : None ≡ Some (encode_utf8_all b) = same in cc)
bytes_same (Some a) None same = absurd (let e : Some (encode_utf8_all a) ≡ None = same in cc)
bytes_same (Some a) (Some b) same = let e : encode_utf8_all a ≡ encode_utf8_all b = cc in e

-- ---- why there is no endpoint

refusal_is : (method target : List ℕ) (code : Code) → IsRefusal method target code → ((code ≡ UnknownCommand) × IsUnknownCommand target) ⊎ ((code ≡ UnknownMethod) × IsUnknownMethod method target)
refusal_is method target code = elim code as (λ c. IsRefusal method target c → ((c ≡ UnknownCommand) × IsUnknownCommand target) ⊎ ((c ≡ UnknownMethod) × IsUnknownMethod method target)) [ ElementClickIntercepted ↦ λ r. absurd r | ElementNotInteractable ↦ λ r. absurd r | InsecureCertificate ↦ λ r. absurd r | InvalidArgument ↦ λ r. absurd r | InvalidCookieDomain ↦ λ r. absurd r | InvalidElementState ↦ λ r. absurd r | InvalidSelector ↦ λ r. absurd r | InvalidSessionId ↦ λ r. absurd r | NoSuchAlert ↦ λ r. absurd r | NoSuchCookie ↦ λ r. absurd r | NoSuchElement ↦ λ r. absurd r | NoSuchFrame ↦ λ r. absurd r | NoSuchWindow ↦ λ r. absurd r | NoSuchShadowRoot ↦ λ r. absurd r | StaleElementReference ↦ λ r. absurd r | DetachedShadowRoot ↦ λ r. absurd r | UnknownCommand ↦ λ r. inl (refl, r) | UnknownMethod ↦ λ r. inr (refl, r) | JavascriptError ↦ λ r. absurd r | MoveTargetOutOfBounds ↦ λ r. absurd r | ScriptTimeout ↦ λ r. absurd r | SessionNotCreated ↦ λ r. absurd r | Timeout ↦ λ r. absurd r | UnableToSetCookie ↦ λ r. absurd r | UnableToCaptureScreen ↦ λ r. absurd r | UnexpectedAlertOpen ↦ λ r. absurd r | UnknownError ↦ λ r. absurd r | UnsupportedOperation ↦ λ r. absurd r ]

no_route : (method target : List ℕ) (code : Code) (route : Route) → IsRefusal method target code → IsRouteOf method target route → ⊥
no_route method target code route refused is = by (refusal_is method target code refused)
  where
    by : ((code ≡ UnknownCommand) × IsUnknownCommand target) ⊎ ((code ≡ UnknownMethod) × IsUnknownMethod method target) → ⊥
    by (inl (e, none)) = none route.command is.path_fits is.texts
    by (inr (e, none)) = none.others route.command is.path_fits is.method_is

refusals_one : (method target : List ℕ) (c d : Code) → IsRefusal method target c → IsRefusal method target d → c ≡ d
refusals_one method target c d r q = by (refusal_is method target c r) (refusal_is method target d q)
  where
    by : ((c ≡ UnknownCommand) × IsUnknownCommand target) ⊎ ((c ≡ UnknownMethod) × IsUnknownMethod method target) → ((d ≡ UnknownCommand) × IsUnknownCommand target) ⊎ ((d ≡ UnknownMethod) × IsUnknownMethod method target) → c ≡ d
    by (inl (e, none)) (inl (f, also)) = e ∙ sym f
    by (inl (e, none)) (inr (f, also)) = absurd (none also.some.0 also.some.1 also.some.2)
    by (inr (e, none)) (inl (f, also)) = absurd (also none.some.0 none.some.1 none.some.2)
    by (inr (e, none)) (inr (f, also)) = e ∙ sym f

-- ---- the checks

module _ (state : State) (a b : Route) (body : List ℕ) (same : SameRoute a b) where
  refuses_same : (check : Check) (code : Code) → Refuses state a body check code → Refuses state b body check code
  refuses_same OpenSession code (none, e) = (sym (open_same a.session b.session same.session state.sessions) ∙ none, e)
  refuses_same ObjectBody code (none, e) = let P : Command → Type 0 = λ c. HasNone c body in (subst P same.command none, e)
  refuses_same SessionLimit code (new, full, e) = (sym same.command ∙ new, full, e)
  refuses_same GoodParameters code (members, read, refused) =
      let P : Command → Type 0 = λ c. IsObjectFor c body members in
      (members, subst P same.command read, ap (λ (c : Command). refusal_in c members) (sym same.command) ∙ refused)
  refuses_same BuiltRow code (none, e) = (ap is_built (sym same.command) ∙ none, e)

refuses_one : (state : State) (route : Route) (body : List ℕ) (check : Check) (c d : Code) → Refuses state route body check c → Refuses state route body check d → c ≡ d
refuses_one state route body OpenSession c d (none, e) (also, f) = e ∙ sym f
refuses_one state route body ObjectBody c d (none, e) (also, f) = e ∙ sym f
refuses_one state route body SessionLimit c d (new, full, e) (also, fully, f) = e ∙ sym f
refuses_one state route body GoodParameters c d (members, read, refused) (others, also, refuse) = one_code route body c d (AtObject members read refused) (AtObject others also refuse)
refuses_one state route body BuiltRow c d (none, e) (also, f) = e ∙ sym f

back : (a b : Route) → SameRoute a b → SameRoute b a
back a b same = record { command = sym same.command; session = sym same.session; item = sym same.item; name = sym same.name }

module _ (state : State) (a b : Route) (body : List ℕ) (same : SameRoute a b) where
  first_one : (list : List Check) (c d : Code) → FirstRefusal state a body list c → FirstRefusal state b body list d → c ≡ d
  first_one [] c d f g = absurd f
  first_one (check ∷ later) c d (inl f) (inl g) = refuses_one state b body check c d (refuses_same state a b body same check c f) g
  first_one (check ∷ later) c d (inl f) (inr (passes, g)) = absurd (passes c (refuses_same state a b body same check c f))
  first_one (check ∷ later) c d (inr (passes, f)) (inl g) = absurd (passes d (refuses_same state b a body (back a b same) check d g))
  first_one (check ∷ later) c d (inr (passes, f)) (inr (also, g)) = first_one later c d f g

  not_both : (list : List Check) (d : Code) → AllPass state a body list → FirstRefusal state b body list d → ⊥
  not_both [] d f g = absurd g
  not_both (check ∷ later) d (passes, f) (inl g) = passes d (refuses_same state b a body (back a b same) check d g)
  not_both (check ∷ later) d (passes, f) (inr (also, g)) = not_both later d f g

-- ---- what a request means

abbrev pub SameMeaning : Result Order Code → Result Order Code → Type 0
SameMeaning (Ok a) (Ok b) = SameOrder a b
SameMeaning (Err c) (Err d) = c ≡ d
SameMeaning (Ok a) (Err d) = ⊥
SameMeaning (Err c) (Ok b) = ⊥

module _ (state : State) (request : Request) where
  orders_one : (a b : Order) → IsCommand state request a → IsCommand state request b → SameOrder a b
  orders_one a b f g =
      let same = same_route (method_bytes request) (target_bytes request) a.route b.route f.endpoint g.endpoint in
      let P : Command → Type 0 = λ c. IsObjectFor c request.body g.carries.members in
      record {
        command = same.command;
        item = bytes_same a.route.item b.route.item same.item;
        parameters = one_object a.route request.body a.parameters b.parameters f.carries (record {
          members = g.carries.members;
          is = g.carries.is;
          read = subst P (sym same.command) g.carries.read;
          passes = ap (λ (c : Command). refusal_in c g.carries.members) same.command ∙ g.carries.passes;
        });
        place = place_same a.route.session b.route.session same.session;
      }

  not_refused : (a : Order) (d : Code) → IsCommand state request a → IsRefused state request d → ⊥
  not_refused a d f (AtEndpoint refused) = no_route (method_bytes request) (target_bytes request) d a.route refused f.endpoint
  not_refused a d f (AtCheck route is refused) =
      not_both state a.route route request.body (same_route (method_bytes request) (target_bytes request) a.route route f.endpoint is) checks d f.passes refused

  refused_one : (c d : Code) → IsRefused state request c → IsRefused state request d → c ≡ d
  refused_one c d (AtEndpoint f) (AtEndpoint g) = refusals_one (method_bytes request) (target_bytes request) c d f g
  refused_one c d (AtEndpoint f) (AtCheck route is g) = absurd (no_route (method_bytes request) (target_bytes request) c route f is)
  refused_one c d (AtCheck route is f) (AtEndpoint g) = absurd (no_route (method_bytes request) (target_bytes request) d route g is)
  refused_one c d (AtCheck route is f) (AtCheck other also g) =
      first_one state route other request.body (same_route (method_bytes request) (target_bytes request) route other is also) checks c d f g

  pub means_one : (m n : Result Order Code) → Means state request m → Means state request n → SameMeaning m n
  means_one (Ok a) (Ok b) f g = orders_one a b f g
  means_one (Ok a) (Err d) f g = not_refused a d f g
  means_one (Err c) (Ok b) f g = not_refused b c g f
  means_one (Err c) (Err d) f g = refused_one c d f g
