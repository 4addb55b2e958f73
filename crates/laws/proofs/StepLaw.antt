-- A step leads to one reply and one state.
use Rattle.std.specs.Prelude.{IfSome}
use Rattle.std.proofs.lemmas.List.Elements.{All-get_or}
use Rattle.std.proofs.lemmas.Option.{get_or_from_slice_get, slice_get_within}
use Rattle.remote_end.specs.Waits.{AreIdle}
use Rattle.std.proofs.Common.{slice_get, ◌≡◌, ◌∙◌, ◌∷◌, ◌++◌, ℕ, List, Option, Some, None, Result, Ok, Err, sym, ap, refl, subst}
use Rattle.wd_errors.specs.declared.code.Code.{Code}
use Rattle.remote_end.specs.declared.order.Order.{Order}
use Rattle.remote_end.specs.declared.session.Session.{Session}
use Rattle.remote_end.specs.declared.setting.Setting.{Setting}
use Rattle.remote_end.specs.Advance.{NoneDue}
use Rattle.laws.specs.OneStep.{StepsToOne}
use Rattle.remote_end.specs.Moments.{start_of}
use Rattle.remote_end.specs.Outside.{Call, Now}
use Rattle.remote_end.specs.Plan.{Plan, at_once}
use Rattle.remote_end.specs.Replies.{failure}
use Rattle.remote_end.specs.State.{State, After, Same, Leaves, Ends, Opens, own_place, at_place, session_named, set_at, without_at, changed}
use Rattle.remote_end.specs.Step.{IsRow, IsActOf, IsActFor, own, Steps}
use Rattle.remote_end.proofs.AdvanceMoreLemmas.{over_after, at_of}
use Rattle.laws.proofs.MeaningLaw.{SameMeaning, means_one}
use Rattle.remote_end.proofs.PlanLaw.{advanced_one}
use Rattle.laws.proofs.RowLaw.{SameOrder, AreOne, row_one, row_alone_one}

module _ (setting : Setting) (state : State) (idle : AreIdle state.sessions) (reading : ℕ) (x y : List Call) (p q : Plan) where
  act_of_one : (a b : Order) → SameOrder a b → (o : Option Session) → IfSome o (λ s. s.waiting ≡ None) → IsActOf setting state a reading o x p → IsActOf setting state b reading o y q → AreOne x y p q
  act_of_one a b same None free f g = row_alone_one setting state reading a.parameters b.parameters same.parameters x y p q a.route.command b.route.command same.command f g
  act_of_one a b same (Some s) free (begun, advanced, f) (other, also, g) =
      let start : ℕ = start_of (Some s) reading in
      let e : begun ≡ other = advanced_one s begun other start advanced also in
      let P : ℕ → Type 0 = λ m. NoneDue begun.page.pending m in
      let still : NoneDue begun.page.pending begun.at = subst P (sym (at_of s begun start advanced)) (over_after setting start s.page s.at begun.page advanced.page) in
      let Q : Session → Type 0 = λ t. IsRow setting b t y q in
      row_one setting a b same begun still (ap (λ (t : Session). t.waiting) advanced.kept ∙ free) x y p q f (subst Q (sym e) g)

  found_idle : (i : ℕ) (o : Option Session) → slice_get state.sessions i ≡ o → IfSome o (λ s. s.waiting ≡ None)
  found_idle i None here = tt
  found_idle i (Some s) here =
      let P : Session → Type 0 = λ t. t.waiting ≡ None in
      subst P (get_or_from_slice_get state.sessions i s s here) (All-get_or P state.sessions i s (slice_get_within state.sessions i s here) idle)

  named_idle : (o : Option ℕ) → IfSome (at_place state.sessions o) (λ s. s.waiting ≡ None)
  named_idle None = tt
  named_idle (Some i) = found_idle i (slice_get state.sessions i) refl

  pub act_one : (m n : Result Order Code) → SameMeaning m n → IsActFor setting state m reading x p → IsActFor setting state n reading y q → AreOne x y p q
  act_one (Ok a) (Ok b) same f g =
      let P : Option ℕ → Type 0 = λ o. IsActOf setting state b reading (at_place state.sessions o) y q in
      act_of_one a b same (session_named a.route.session state.sessions) (named_idle (own_place a.route.session state.sessions)) f (subst P (sym (same.place state.sessions)) g)
  act_one (Err c) (Err d) same f g = (f.0, g.0, f.1 ∙ ap (λ (code : Code). at_once (failure code) Same) same ∙ sym g.1)
  act_one (Ok a) (Err d) same f g = absurd same
  act_one (Err c) (Ok b) same f g = absurd same

-- the state after it
set_same : (sessions : List Session) (o p : Option ℕ) (s : Session) → o ≡ p → set_at sessions o s ≡ set_at sessions p s
set_same sessions o p s e = ap (λ (i : Option ℕ). set_at sessions i s) e

pub changed_same : (state : State) (a b : Option (List ℕ)) (after : After) → own_place a state.sessions ≡ own_place b state.sessions → changed state a after ≡ changed state b after
changed_same state a b Same e = refl
changed_same state a b (Leaves s) e = ap (λ (o : Option ℕ). let t : State = record state { sessions = set_at state.sessions o s } in t) e
changed_same state a b Ends e = ap (λ (o : Option ℕ). let t : State = record state { sessions = without_at state.sessions o } in t) e
changed_same state a b (Opens s) e = refl

pub own_same : (state : State) (m n : Result Order Code) → SameMeaning m n → own_place (own m) state.sessions ≡ own_place (own n) state.sessions
own_same state (Ok a) (Ok b) same = same.place state.sessions
own_same state (Err c) (Err d) same = refl
own_same state (Ok a) (Err d) same = absurd same
own_same state (Err c) (Ok b) same = absurd same

pub first_call : (a b : ℕ) (x y : List Call) → Now a ∷ x ≡ Now b ∷ y → a ≡ b
first_call a b x y e = cc

pub steps_to_one : StepsToOne
unfolding Steps
steps_to_one setting old one other request calls reply answer idle f g =
    let same = means_one old request f.meaning g.meaning f.means g.means in
    let reading : f.reading ≡ g.reading = first_call f.reading g.reading (f.asked ++ f.rests) (g.asked ++ g.rests) (sym f.calls_are ∙ g.calls_are) in
    let P : ℕ → Type 0 = λ r. IsActFor setting old g.meaning r g.asked g.plan in
    let act = act_one setting old idle f.reading f.asked g.asked f.plan g.plan f.meaning g.meaning same f.act (subst P (sym reading) g.act) in
    let plan : f.plan ≡ g.plan = act.2 in (
      g.reply_is ∙ ap (λ (p : Plan). p.reply) (sym plan) ∙ sym f.reply_is,
      g.new_is ∙ ap (λ (p : Plan). changed old (own g.meaning) p.after) (sym plan)
          ∙ changed_same old (own g.meaning) (own f.meaning) f.plan.after (sym (own_same old f.meaning g.meaning same)) ∙ sym f.new_is,
    )
