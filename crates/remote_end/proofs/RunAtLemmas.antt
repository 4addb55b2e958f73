-- A command of the session at a place.
use Rattle.std.proofs.Common.{◌≡◌, ◌∙◌, ◌<◌, ◌∷◌, ℕ, zero, suc, List, [], Option, Some, None, length, take, drop, slice_get, slice_set, ap, sym, subst, refl, arith}
use Rattle.std.specs.List.{All, remove}
use Rattle.std.proofs.lemmas.List.Elements.{All-append, All-take, All-drop}
use Rattle.std.proofs.lemmas.List.{set-set, get_or-set_same, length-set}
use Rattle.std.proofs.lemmas.Option.{slice_get-get_or}
use Rattle.remote_end.specs.declared.order.Order.{Order}
use Rattle.remote_end.specs.declared.reply.Reply.{Reply}
use Rattle.remote_end.specs.declared.session.Session.{Session}
use Rattle.remote_end.specs.declared.step.Step.{Step as Outcome}
use Rattle.remote_end.specs.declared.step.Step.TheVariants.{Reply as Replied, Wait}
use Rattle.remote_end.specs.Carried.{ComesTo}
use Rattle.remote_end.specs.Waits.{IsPlanOf}
use Rattle.remote_end.proofs.NumberLemmas.{numbered_at}
use Rattle.remote_end.proofs.StepLemmas.{ends_at_once, comes_of}
use Rattle.remote_end.specs.declared.setting.Setting.{Setting}
use Rattle.remote_end.specs.Advance.{Advanced}
use Rattle.remote_end.specs.Moments.{start_of}
use Rattle.remote_end.specs.State.{State, IsWhole, Rise, place_numbered, After, Same, Leaves, Ends, Opens, own_place, at_place, session_named, set_at, without_at, changed}
use Rattle.remote_end.specs.Plan.{Plan, at_once}
use Rattle.remote_end.specs.Step.{GoesOn, NumberIs, IsNamed, AreLeft, RunsAt, RunsAlone, ActsAt, IsRow, IsActOf}

abbrev pub with_sessions : State → List Session → State
with_sessions old sessions = record { next = old.next; sessions = sessions }

pub some_session : (a b : Session) → Some a ≡ Some b → a ≡ b
some_session a b e = cc

pub here_set : (sessions : List Session) (place : ℕ) (s : Session) → place < length sessions → slice_get (slice_set sessions place s) place ≡ Some s
here_set sessions place s within = slice_get-get_or (slice_set sessions place s) place s (let l = length-set sessions place s in omega (arith, l, within)) ∙ ap (λ (t : Session). Some t) (get_or-set_same sessions place s s within)

pub set_again : (sessions : List Session) (place : ℕ) (s t : Session) → slice_set (slice_set sessions place s) place t ≡ slice_set sessions place t
set_again sessions place s t = set-set sessions place s t

-- one that was set is taken out
pub removed_again : (sessions : List Session) (place : ℕ) (s : Session) → remove (slice_set sessions place s) place ≡ remove sessions place
removed_again [] place s = refl
removed_again (t ∷ ts) zero s = refl
removed_again (t ∷ ts) (suc i) s = ap (λ (l : List Session). t ∷ l) (removed_again ts i s)

number_of : (setting : Setting) (IsPlan : Plan → Type 0) (r : ℕ) (s left : Session) (outcome : Outcome) → ComesTo setting IsPlan r outcome (Leaves left) → left.number ≡ s.number → NumberIs outcome s
number_of setting IsPlan r s left (Replied reply) ends n = tt
number_of setting IsPlan r s left (Wait number until) (session, after_is, waits) n = let same : left ≡ session = cc in waits.number_is ∙ ap (λ (t : Session). t.number) (sym same) ∙ n

module _ (setting : Setting) (order : Order) (reading : ℕ) (old : List Session) (place : ℕ) (session : Session) (here : slice_get old place ≡ Some session)
    (begun : Session) (advanced : Advanced setting session (start_of (Some session) reading) begun) where
  abbrev IsPlan : Plan → Type 0
  IsPlan plan = IsRow setting order begun [] plan

  -- it ends
  pub ends_here : (left : Session) (reply : Reply) (new : List Session) → IsPlan (at_once reply Ends) → new ≡ remove (slice_set old place left) place → RunsAt setting order reading old place new (Replied reply)
  ends_here left reply new row new_is = record {
    session = session;
    here = here;
    begun = begun;
    advanced = advanced;
    after = Ends;
    comes = ends_at_once IsPlan (start_of (Some session) reading) reply Ends tt row;
    number = tt;
    left = new_is ∙ removed_again old place left;
  }

  -- it has its reply at once
  pub stays_here : (left : Session) (reply : Reply) → left.waiting ≡ None → IsPlan (at_once reply (Leaves left)) → RunsAt setting order reading old place (slice_set old place left) (Replied reply)
  stays_here left reply idle turn = record {
    session = session;
    here = here;
    begun = begun;
    advanced = advanced;
    after = Leaves left;
    comes = ends_at_once IsPlan (start_of (Some session) reading) reply (Leaves left) idle turn;
    number = tt;
    left = refl;
  }

  -- it waits at its start, and is carried to it
  pub waits_here : (waiting : Session) (new : List Session) (outcome : Outcome) → place < length old → waiting.number ≡ session.number → ((plan : Plan) → IsPlanOf setting waiting plan → IsPlan plan)
      → GoesOn setting (slice_set old place waiting) place (start_of (Some session) reading) new outcome → RunsAt setting order reading old place new outcome
  waits_here waiting new outcome within number plans goes = record {
    session = session;
    here = here;
    begun = begun;
    advanced = advanced;
    after = Leaves goes.left;
    comes =
        let same : goes.session ≡ waiting = some_session goes.session waiting (sym goes.here ∙ here_set old place waiting within) in
        let P : Session → Type 0 = λ s. (plan : Plan) → IsPlanOf setting s plan → IsPlan plan in
        comes_of setting (IsPlanOf setting goes.session) IsPlan (subst P (sym same) plans) (start_of (Some session) reading) outcome (Leaves goes.left) goes.comes;
    number =
        let same : goes.session ≡ waiting = some_session goes.session waiting (sym goes.here ∙ here_set old place waiting within) in
        number_of setting (IsPlanOf setting goes.session) (start_of (Some session) reading) session goes.left outcome goes.comes (goes.number ∙ ap (λ (s : Session). s.number) same ∙ number);
    left = goes.new_is ∙ set_again old place waiting goes.left;
  }

pub all_left : (old new : List Session) (place : ℕ) → new ≡ remove old place → All IsWhole old → All IsWhole new
all_left old new place is all =
    let P : List Session → Type 0 = All IsWhole in
    subst P (sym is) (All-append IsWhole (take place old) (drop (suc place) old) (All-take IsWhole place old all) (All-drop IsWhole (suc place) old all))

-- ---- a command of the session that a request names, or of none

named_at : (named : Option (List ℕ)) (sessions : List Session) (place : ℕ) (session : Session) → own_place named sessions ≡ Some place → slice_get sessions place ≡ Some session
    → session_named named sessions ≡ Some session
named_at named sessions place session is here = ap (at_place sessions) is ∙ here

set_of : (named : Option (List ℕ)) (old : State) (place : ℕ) (new : List Session) (after : After) → own_place named old.sessions ≡ Some place → AreLeft old.sessions place new after
    → record { next = old.next; sessions = new } ≡ changed old named after
set_of named old place new Same is left = ap (λ (xs : List Session). with_sessions old xs) left
set_of named old place new (Leaves s) is left = ap (with_sessions old) (left ∙ ap (λ (o : Option ℕ). set_at old.sessions o s) (sym is))
set_of named old place new Ends is left = ap (with_sessions old) (left ∙ ap (λ (o : Option ℕ). without_at old.sessions o) (sym is))
set_of named old place new (Opens s) is left = absurd left

pub acts_in : (setting : Setting) (order : Order) (reading : ℕ) (old : State) (place : ℕ) (new : List Session) (outcome : Outcome)
    → Rise 1 old.sessions old.next → own_place order.route.session old.sessions ≡ Some place → RunsAt setting order reading old.sessions place new outcome
    → ActsAt setting old order reading (with_sessions old new) outcome
acts_in setting order reading old place new outcome rise is runs =
    let named : session_named order.route.session old.sessions ≡ Some runs.session = named_at order.route.session old.sessions place runs.session is runs.here in
    let P : Option Session → Type 0 = λ s. ComesTo setting (IsActOf setting old order reading s []) (start_of s reading) outcome runs.after in
    record {
      after = runs.after;
      comes = subst P (sym named) (comes_of setting (IsRow setting order runs.begun []) (IsActOf setting old order reading (Some runs.session) [])
          (λ plan row. (runs.begun, runs.advanced, row)) (start_of (Some runs.session) reading) outcome runs.after runs.comes);
      named = named_by outcome runs.number;
      new_is = set_of order.route.session old place new runs.after is runs.left;
    }
  where
    named_by : (o : Outcome) → NumberIs o runs.session → IsNamed o order.route.session old.sessions
    named_by (Replied reply) n = tt
    named_by (Wait number until) n =
        (place, is, ap (λ (k : ℕ). place_numbered k old.sessions) n ∙ numbered_at 1 old.sessions old.next place runs.session rise runs.here)

pub acts_alone : (setting : Setting) (order : Order) (reading : ℕ) (old new : State) (reply : Reply)
    → own_place order.route.session old.sessions ≡ None
    → RunsAlone setting order reading old order.route.session new reply
    → ActsAt setting old order reading new (Replied reply)
acts_alone setting order reading old new reply is runs =
    let P : Option Session → Type 0 = λ s. ComesTo setting (IsActOf setting old order reading s []) (start_of s reading) (Replied reply) runs.after in
    record {
      after = runs.after;
      comes = subst P (sym (ap (at_place old.sessions) is)) (ends_at_once (IsActOf setting old order reading None []) (start_of None reading) reply runs.after runs.idle runs.act);
      named = tt;
      new_is = runs.new_is;
    }
