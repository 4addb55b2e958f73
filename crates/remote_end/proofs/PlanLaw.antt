-- A command that waits has one plan.
use Rattle.std.proofs.Common.{◌≡◌, ◌<◌, ◌≤◌, ◌∙◌, ℕ, Bool, true, false, List, [], ◌∷◌, Option, Some, None, sym, ap, refl, subst, arith}
use Rattle.std.specs.Prelude.{nat_lt}
use Rattle.std.proofs.lemmas.Bool.{ltb-true, ltb-false}
use Rattle.page_engine.specs.Scene.{PageState}
use Rattle.remote_end.specs.declared.reply.Reply.{Reply}
use Rattle.remote_end.specs.declared.session.Session.{Session}
use Rattle.remote_end.specs.declared.waiting.FindWait.{FindWait}
use Rattle.remote_end.specs.declared.waiting.Waiting.{Waiting}
use Rattle.remote_end.specs.declared.waiting.Waiting.TheVariants.{Find, Ended}
use Rattle.remote_end.specs.Advance.{Advanced}
use Rattle.remote_end.specs.FindSpans.{Gives, EndsAt, FindEnds, soonest, Passes, AtEnd, Onwards}
use Rattle.remote_end.specs.Finds.{BegunIs, nodes_plan, FindPlan}
use Rattle.remote_end.specs.Plan.{Stage, Plan, at_once}
use Rattle.remote_end.specs.Resumed.{PlansAreOne}
use Rattle.remote_end.specs.State.{After}
use Rattle.remote_end.specs.Waits.{settled, PlansIn}
use Rattle.remote_end.proofs.AdvanceMoreLemmas.{advances_to_one}
use Rattle.remote_end.proofs.FindLemmas.{gives_one}
use Rattle.remote_end.specs.declared.setting.Setting.{Setting}

pub advanced_one : {setting : Setting} (s one two : Session) (m : ℕ) → Advanced setting s m one → Advanced setting s m two → one ≡ two
advanced_one {setting} s one two m a b =
    let page : one.page ≡ two.page = advances_to_one setting m s.at s.page one.page two.page a.page b.page in
    a.kept ∙ ap (λ (p : PageState). let t : Session = record s { page = p; at = m } in t) page ∙ sym b.kept

ends_within : (find : FindWait) (nodes : List ℕ) (m : ℕ) → EndsAt find nodes m → m ≤ find.until
ends_within find [] m e = omega (arith, e)
ends_within find (n ∷ nodes) m e = e

not_sooner : {setting : Setting} (find : FindWait) (s e f : Session) (ns ms : List ℕ) → FindEnds setting find s e ns → FindEnds setting find s f ms → e.at < f.at → ⊥
not_sooner {setting} find s e f ns ms a b less =
    let none : [] ≡ ns = gives_one find e.page.rows [] ns (b.least e.at e a.onwards less a.advanced) a.gives in
    let P : List ℕ → Type 0 = λ l. EndsAt find l e.at in
    let over : e.at ≡ find.until = subst P (sym none) a.ends in
    let within = ends_within find ms f.at b.ends in
    omega (arith, over, within, less)

same_moment : {setting : Setting} (find : FindWait) (s e f : Session) (ns ms : List ℕ) → FindEnds setting find s e ns → FindEnds setting find s f ms → e.at ≡ f.at
same_moment {setting} find s e f ns ms a b = by (nat_lt e.at f.at) (nat_lt f.at e.at) refl refl
  where
    by : (x y : Bool) → nat_lt e.at f.at ≡ x → nat_lt f.at e.at ≡ y → e.at ≡ f.at
    by true y p q = absurd (not_sooner find s e f ns ms a b (ltb-true e.at f.at p))
    by false true p q = absurd (not_sooner find s f e ms ns b a (ltb-true f.at e.at q))
    by false false p q = let l = ltb-false e.at f.at p in let m = ltb-false f.at e.at q in omega (arith, l, m)

same_end : {setting : Setting} (find : FindWait) (s e f : Session) (ns ms : List ℕ) → FindEnds setting find s e ns → FindEnds setting find s f ms → e ≡ f
same_end {setting} find s e f ns ms a b =
    let P : ℕ → Type 0 = λ m. Advanced setting s m f in
    advanced_one s e f e.at a.advanced (subst P (sym (same_moment find s e f ns ms a b)) b.advanced)

same_start : {setting : Setting} (until : ℕ) (s : Session) (l k : List Stage) (e f : Session) → Passes setting until s l e → Passes setting until s k f → e ≡ f → l ≡ k
same_start {setting} until s l k e f (AtEnd x) (AtEnd y) same = refl
same_start {setting} until s l k e f (AtEnd x) (Onwards y mid end stages less a rest) same = absurd (let t : x.at ≡ end.at = ap (λ (u : Session). u.at) same in omega (arith, t, less))
same_start {setting} until s l k e f (Onwards x mid end stages less a rest) (AtEnd y) same = absurd (let t : end.at ≡ y.at = ap (λ (u : Session). u.at) same in omega (arith, t, less))
same_start {setting} until s l k e f (Onwards x mid end stages less a rest) (Onwards y mid' end' stages' less' a' rest') same =
    let mids : mid' ≡ mid = advanced_one x mid' mid (soonest until x.page.pending) a' a in
    let P : Session → Type 0 = λ t. Passes setting until t stages' end' in
    let more : stages ≡ stages' = same_start until mid stages stages' end end' rest (subst P mids rest') same in
    ap (λ (t : Session). record { moment = soonest until x.page.pending; session = t } ∷ stages) (sym mids)
    ∙ ap (λ (l : List Stage). record { moment = soonest until x.page.pending; session = mid' } ∷ l) more

same_begun : (stages : List Stage) (a b : Option Session) (s : Session) → BegunIs stages a s → BegunIs stages b s → a ≡ b
same_begun [] a b s x y = x ∙ sym y
same_begun (stage ∷ stages) a b s x y = x ∙ sym y

same_answer : (r q : Reply) (a b : After) → at_once r a ≡ at_once q b → (r ≡ q) × (a ≡ b)
same_answer r q a b plans = (ap (λ (p : Plan). p.reply) plans, ap (λ (p : Plan). p.after) plans)

plan_of : Reply → After → Option Session → List Stage → Plan
plan_of r a b l = record { reply = r; after = a; begun = b; stages = l }

find_one : {setting : Setting} (find : FindWait) (s : Session) (p q : Plan) → FindPlan setting find s p → FindPlan setting find s q → p ≡ q
unfolding plan_of
find_one {setting} find s p q a b =
    let end : a.end ≡ b.end = same_end find s a.end b.end a.nodes b.nodes a.ends b.ends in
    let P : Session → Type 0 = λ e. Gives find e.page.rows b.nodes in
    let nodes : a.nodes ≡ b.nodes = gives_one find a.end.page.rows a.nodes b.nodes a.ends.gives (subst P (sym end) b.ends.gives) in
    let stages : p.stages ≡ q.stages = same_start find.until s p.stages q.stages a.end b.end a.passes b.passes end in
    let Q : List Stage → Type 0 = λ l. BegunIs l p.begun s in
    let begun : p.begun ≡ q.begun = same_begun q.stages p.begun q.begun s (subst Q stages a.begun) b.begun in
    let answers = same_answer p.reply q.reply p.after q.after
    (sym a.answers ∙ ap (λ (e : Session). nodes_plan find.wanted e a.nodes) end ∙ ap (λ (ns : List ℕ). nodes_plan find.wanted b.end ns) nodes ∙ b.answers) in
    ap (λ (r : Reply). plan_of r p.after p.begun p.stages) answers.0
    ∙ ap (λ (x : After). plan_of q.reply x p.begun p.stages) answers.1
    ∙ ap (λ (o : Option Session). plan_of q.reply q.after o p.stages) begun
    ∙ ap (λ (l : List Stage). plan_of q.reply q.after q.begun l) stages

one_in : (setting : Setting) (waiting : Option Waiting) (s : Session) (p q : Plan) → PlansIn setting waiting s p → PlansIn setting waiting s q → p ≡ q
one_in setting None s p q a b = absurd a
one_in setting (Some (Find find)) s p q a b = find_one find s p q a b
one_in setting (Some (Ended reply)) s p q a b = a ∙ sym b

pub plans_are_one : PlansAreOne
plans_are_one setting s p q a b = one_in setting s.waiting (settled s) p q a b
