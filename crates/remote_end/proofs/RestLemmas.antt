-- The rests of a command that waits, by the plans that it had and has.
use Rattle.std.proofs.Common.{◌≡◌, ◌<◌, ◌≤◌, ◌∙◌, ℕ, max, List, [], ◌∷◌, ◌++◌, Some, append_assoc, sym, ap, refl, subst, arith}
use Rattle.std.specs.Prelude.{Bool, false, true, nat_lt, if◌then◌else◌}
use Rattle.std.proofs.lemmas.Bool.{ltb-false}
use Rattle.remote_end.specs.declared.reply.Reply.{Reply}
use Rattle.remote_end.specs.declared.session.Session.{Session}
use Rattle.remote_end.specs.State.{After}
use Rattle.remote_end.specs.Plan.{Stage, Plan}
use Rattle.remote_end.specs.Moments.{later, first_moment}
use Rattle.remote_end.specs.Carried.{EndsBy, WaitsBy}
use Rattle.remote_end.specs.Waits.{IsPlanOf}
use Rattle.remote_end.specs.Outside.{Call, Now, Rest}
use Rattle.remote_end.specs.Step.{Rests}
use Rattle.remote_end.proofs.WaitLemmas.{not_yet, not_lt}
use Rattle.remote_end.specs.declared.setting.Setting.{Setting}

-- ---- rests

-- what comes after a later moment comes after an earlier one and that
later_again : (stages : List Stage) (a b : ℕ) → a ≤ b → later (later stages a) b ≡ later stages b
later_again [] a b h = refl
later_again (stage ∷ stages) a b h = by (later_again stages a b h) (nat_lt a stage.moment) refl
  where
    by : later (later stages a) b ≡ later stages b → (yes : Bool) → nat_lt a stage.moment ≡ yes → later (if yes then stage ∷ stages else later stages a) b ≡ later (stage ∷ stages) b
    by rest true is = refl
    by rest false is =
        let within : stage.moment ≤ a = ltb-false a stage.moment is in
        let no : nat_lt b stage.moment ≡ false = not_lt b stage.moment (omega (arith, within, h)) in
        rest ∙ sym (ap (λ (c : Bool). if c then stage ∷ stages else later stages b) no)

rests_of_rest : (stages : List Stage) (a r : ℕ) (calls : List Call) → a ≤ r → Rests (later stages a) r calls → Rests stages r calls
rests_of_rest stages a r [] h over = sym (ap first_moment (later_again stages a r h)) ∙ over
rests_of_rest stages a r (Rest asked answer ∷ calls) h (next, late, more) =
    (sym (ap first_moment (later_again stages a r h)) ∙ next, late, rests_of_rest stages a (max r answer) calls (omega (arith, h)) more)
rests_of_rest stages a r (Now answer ∷ calls) h rests = absurd rests

-- ---- a command that was begun with one of these plans, and made these rests since

module _ (IsPlan : Plan → Type 0) (start : ℕ) where
  pub record HasMade (calls : List Call) (rest : Plan) : Type 0 where
    pub plan : Plan
    pub is : IsPlan plan
    pub rests : Rests plan.stages start calls
    pub reply_is : rest.reply ≡ plan.reply
    pub after_is : rest.after ≡ plan.after

module _ (setting : Setting) (IsPlan : Plan → Type 0) (start : ℕ) where
  -- where it waits: each plan that it has, with the rests that are to come, gives one that it had
  abbrev pub Known : List Call → ℕ → Session → Type 0
  Known made r session = (rest : Plan) (more : List Call) → IsPlanOf setting session rest → Rests rest.stages r more → HasMade IsPlan start (made ++ more) rest

  pub known_first : (number until : ℕ) (session : Session) → WaitsBy setting IsPlan start number until session → Known [] start session
  known_first number until session waits rest more is rests =
      let lead = waits.leads rest is in
      let P : Plan → Type 0 = λ p. Rests p.stages start more in
      record {
        plan = lead.plan;
        is = lead.is;
        rests = rests_of_rest lead.plan.stages start start more (omega arith) (subst P lead.rest_is rests);
        reply_is = ap (λ (p : Plan). p.reply) lead.rest_is;
        after_is = ap (λ (p : Plan). p.after) lead.rest_is;
      }

module _ (setting : Setting) (IsPlan : Plan → Type 0) (start r number until x : ℕ) (session : Session) (made : List Call) (known : Known setting IsPlan start made r session)
    (less : r < until) (late : until ≤ x) where
  -- a plan of the session begins with a rest until its next moment
  pub rested : (plan : Plan) (more : List Call) → IsPlanOf setting session plan → first_moment plan.stages ≡ Some until → Rests plan.stages x more → HasMade IsPlan start (made ++ Rest until x ∷ more) plan
  rested plan more is first rests =
      let none = not_yet plan.stages plan.begun r until first less in
      let greatest : max r x ≡ x = omega (arith, less, late) in
      let P : ℕ → Type 0 = λ m. Rests plan.stages m more in
      known plan (Rest until x ∷ more) is (ap first_moment none.0 ∙ first, late, subst P (sym greatest) rests)

  -- the session waits again
  pub known_next : (other next : ℕ) (left : Session) → WaitsBy setting (IsPlanOf setting session) x other next left → ((plan : Plan) → IsPlanOf setting session plan → first_moment plan.stages ≡ Some until)
      → Known setting IsPlan start (made ++ Rest until x ∷ []) x left
  known_next other next left waits first rest more is rests =
      let lead = waits.leads rest is in
      let P : Plan → Type 0 = λ p. Rests p.stages x more in
      let m = rested lead.plan more lead.is (first lead.plan lead.is) (rests_of_rest lead.plan.stages x x more (omega arith) (subst P lead.rest_is rests)) in
      let Q : List Call → Type 0 = λ calls. Rests m.plan.stages start calls in
      record {
        plan = m.plan;
        is = m.is;
        rests = subst Q (sym (append_assoc made (Rest until x ∷ []) more)) m.rests;
        reply_is = ap (λ (p : Plan). p.reply) lead.rest_is ∙ m.reply_is;
        after_is = ap (λ (p : Plan). p.after) lead.rest_is ∙ m.after_is;
      }

  -- it has ended
  pub made_all : (reply : Reply) (after : After) → EndsBy (IsPlanOf setting session) x reply after → ((plan : Plan) → IsPlanOf setting session plan → first_moment plan.stages ≡ Some until)
      → (m : Plan) × HasMade IsPlan start (made ++ Rest until x ∷ []) m × (reply ≡ m.reply) × (after ≡ m.after)
  made_all reply after ends first = (ends.plan, rested ends.plan [] ends.is (first ends.plan ends.is) ends.over, ends.reply_is, ends.after_is)

-- the first next moment of its plans is the moment until which it waits
pub first_of : {setting : Setting} (IsPlan : Plan → Type 0) (r number until : ℕ) (session : Session) → WaitsBy setting IsPlan r number until session → (plan : Plan) → IsPlanOf setting session plan → first_moment plan.stages ≡ Some until
first_of {setting} IsPlan r number until session waits plan is =
    let lead = waits.leads plan is in
    ap (λ (p : Plan). first_moment p.stages) lead.rest_is ∙ lead.next
