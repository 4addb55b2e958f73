-- A find looks at its next moments alone: between them nothing changes.
use Rattle.std.proofs.Common.{◌≡◌, ◌<◌, ◌≤◌, ◌∙◌, ℕ, zero, suc, min, Bool, true, false, List, [], ◌∷◌, Option, Some, None, slice_get, sym, ap, refl, subst, arith}
use Rattle.std.specs.Prelude.{nat_lt}
use Rattle.std.proofs.lemmas.Bool.{ltb-true, ltb-false}
use Rattle.interaction.specs.Found.{Finds, Refuses}
use Rattle.interaction.specs.declared.by.By.{By}
use Rattle.interaction.specs.declared.by.By.TheVariants.{Css, Link, PartialLink, Tag}
use Rattle.page_engine.specs.Scene.{PageState}
use Rattle.page_engine.specs.Timers.{Timer, AreInOrder, first_due}
use Rattle.page_engine.specs.declared.due.Due.{Due}
use Rattle.page_tree.specs.Rows.{Rows}
use Rattle.references.specs.declared.name.NodeName.{NodeName}
use Rattle.selectors.specs.declared.selector.Scope.{Scope}
use Rattle.selectors.specs.declared.selector.Scope.TheVariants.{Document, Under}
use Rattle.selectors.specs.declared.fault.SelFault.TheVariants.{Invalid}
use Rattle.selectors.proofs.Alternatives.{one_selector}
use Rattle.selectors.specs.Named.{selected}
use Rattle.remote_end.specs.declared.reply.Reply.{Reply}
use Rattle.remote_end.specs.declared.session.Session.{Session}
use Rattle.remote_end.specs.declared.waiting.FindWait.{FindWait}
use Rattle.remote_end.specs.Advance.{NoneDue, Advanced}
use Rattle.remote_end.specs.Elements.{is_current}
use Rattle.remote_end.specs.FindSpans.{StartsIn, GivesBelow, GivesFrom, Gives, EndsAt, FindEnds, soonest, AtEnd, Onwards}
use Rattle.remote_end.specs.Finds.{nodes_plan, FindPlan}
use Rattle.remote_end.specs.Plan.{Plan, at_once}
use Rattle.remote_end.specs.State.{After}
use Rattle.remote_end.specs.Waits.{IsSought, FindFits}
use Rattle.remote_end.proofs.DueOrder.{due_first}
use Rattle.remote_end.proofs.AdvanceLemmas.{before_later}
use Rattle.remote_end.proofs.AdvanceMoreLemmas.{still_page, advanced_here, at_of, advanced_on, advanced_rest}
use Rattle.remote_end.specs.declared.setting.Setting.{Setting}

-- ---- what a find gives is one list

finds_one : (rows : Rows) (scope : Scope) (by : By) (text one two : List ℕ) → Finds rows scope by text one → Finds rows scope by text two → one ≡ two
unfolding Finds
finds_one rows scope Css text one two (a, ga, ea) (b, gb, eb) = ea ∙ ap (selected rows scope) (one_selector text a b ga gb) ∙ sym eb
finds_one rows scope Link text one two a b = a ∙ sym b
finds_one rows scope PartialLink text one two a b = a ∙ sym b
finds_one rows scope Tag text one two a b = a ∙ sym b

below_one : (current : Bool) (rows : Rows) (node : ℕ) (by : By) (text one two : List ℕ) → GivesBelow current rows node by text one → GivesBelow current rows node by text two → one ≡ two
below_one true rows node by text one two a b = finds_one rows (Under node) by text one two a b
below_one false rows node by text one two a b = a ∙ sym b

from_one : (start : Option NodeName) (rows : Rows) (by : By) (text one two : List ℕ) → GivesFrom start rows by text one → GivesFrom start rows by text two → one ≡ two
from_one None rows by text one two a b = finds_one rows Document by text one two a b
from_one (Some name) rows by text one two a b = below_one (is_current rows name) rows name.node by text one two a b

pub gives_one : (find : FindWait) (rows : Rows) (one two : List ℕ) → Gives find rows one → Gives find rows two → one ≡ two
gives_one find rows one two a b = from_one find.start rows find.by find.text one two a b

-- what finds nodes by a text can look for it
finds_sought : (rows : Rows) (scope : Scope) (by : By) (text nodes : List ℕ) → Finds rows scope by text nodes → IsSought by text
unfolding Finds
finds_sought rows scope Css text nodes (selector, grammar, is) = (selector, grammar)
finds_sought rows scope Link text nodes is = tt
finds_sought rows scope PartialLink text nodes is = tt
finds_sought rows scope Tag text nodes is = tt

from_sought : (start : Option NodeName) (rows : Rows) (by : By) (text nodes : List ℕ) → StartsIn start rows → GivesFrom start rows by text nodes → IsSought by text
from_sought None rows by text nodes starts gives = finds_sought rows Document by text nodes gives
from_sought (Some name) rows by text nodes starts gives =
    let P : Bool → Type 0 = λ current. GivesBelow current rows name.node by text nodes in
    finds_sought rows (Under name.node) by text nodes (subst P starts gives)

pub gives_sought : (find : FindWait) (rows : Rows) (nodes : List ℕ) → StartsIn find.start rows → Gives find rows nodes → IsSought find.by find.text
gives_sought find rows nodes starts gives = from_sought find.start rows find.by find.text nodes starts gives

-- and isn't refused
pub sought_lawful : (by : By) (text : List ℕ) → IsSought by text → Refuses by text Invalid → ⊥
unfolding Refuses
sought_lawful Css text (selector, grammar) none = none selector grammar
sought_lawful Link text sought none = absurd (cc)
sought_lawful PartialLink text sought none = absurd (cc)
sought_lawful Tag text sought none = absurd (cc)

-- ---- the next moment

pub soonest_within : (until : ℕ) (pending : List Timer) → soonest until pending ≤ until
soonest_within until [] = omega arith
soonest_within until (t ∷ ts) = let rest = soonest_within until ts in omega (arith, rest)

-- nothing is due before it
pub not_before : (until : ℕ) (pending : List Timer) (m : ℕ) → m < soonest until pending → NoneDue pending m
not_before until [] m h place timer here = absurd (let f : None ≡ Some timer = here in cc)
not_before until (t ∷ ts) m h zero timer here =
    let same : t ≡ timer = cc in
    let P : Timer → Type 0 = λ x. m < x.0.0 in
    subst P same (omega (arith, h))
not_before until (t ∷ ts) m h (suc k) timer here = not_before until ts m (omega (arith, h)) k timer here

-- it is to come
pub to_come : (until : ℕ) (pending : List Timer) (m : ℕ) → m < until → NoneDue pending m → m < soonest until pending
to_come until [] m h still = h
to_come until (t ∷ ts) m h still =
    let rest = to_come until ts m h (λ place timer here. still (suc place) timer here) in
    let first : m < t.0.0 = still zero t refl in
    omega (arith, rest, first)

-- a timer is due at it, unless it is the end
abbrev pub IsDue : List Timer → ℕ → Type 0
IsDue pending m = (place : ℕ) × (timer : Timer) × (slice_get pending place ≡ Some timer) × (timer.0.0 ≤ m)

pub due_then : (until : ℕ) (pending : List Timer) → soonest until pending < until → IsDue pending (soonest until pending)
due_then until [] h = absurd (omega (arith, h))
due_then until (t ∷ ts) h = then_or_now (λ more. due_then until ts more) (nat_lt (soonest until ts) t.0.0) refl
  where
    then_or_now : (soonest until ts < until → IsDue ts (soonest until ts)) → (earlier : Bool) → nat_lt (soonest until ts) t.0.0 ≡ earlier → IsDue (t ∷ ts) (min t.0.0 (soonest until ts))
    then_or_now more true is =
        let less : soonest until ts < t.0.0 = ltb-true (soonest until ts) t.0.0 is in
        let d = more (omega (arith, h, less)) in
        let due : d.1.0.0 ≤ soonest until ts = d.3 in
        (suc d.0, d.1, d.2, omega (arith, due, less))
    then_or_now more false is =
        let no : t.0.0 ≤ soonest until ts = ltb-false (soonest until ts) t.0.0 is in
        (zero, t, refl, omega (arith, no))

-- of timers in order the first is due first
least_later : (m until : ℕ) (ts : List Timer) → ((place : ℕ) (timer : Timer) → slice_get ts place ≡ Some timer → m ≤ timer.0.0) → min m (soonest until ts) ≡ min m until
least_later m until [] all = refl
least_later m until (t ∷ ts) all =
    let rest = least_later m until ts (λ place timer here. all (suc place) timer here) in
    let first : m ≤ t.0.0 = all zero t refl in
    omega (arith, rest, first)

pub soonest_first : (until : ℕ) (pending : List Timer) (due : Due) → AreInOrder pending → first_due pending ≡ Some due → min due.moment until ≡ soonest until pending
soonest_first until [] due order e = absurd (let f : None ≡ Some due = e in cc)
soonest_first until (t ∷ ts) due order e =
    let same : record { moment = t.0.0; number = t.0.1 } ≡ due = cc in
    ap (λ (d : Due). min d.moment until) (sym same)
    ∙ sym (least_later t.0.0 until ts (λ place timer here. due_first t.0 timer.0 (before_later t ts order place timer here)))

pub soonest_none : (until : ℕ) (pending : List Timer) → first_due pending ≡ None → until ≡ soonest until pending
soonest_none until [] e = refl
soonest_none until (t ∷ ts) e = absurd (cc)

-- ---- one next moment

module _ (setting : Setting) (find : FindWait) (s : Session) (fits : FindFits find s.page s.at) where
  abbrev moment : ℕ
  moment = soonest find.until s.page.pending

  pub later : s.at < moment
  later = to_come find.until s.page.pending s.at fits.short fits.still

  -- before it the find gives nothing, at whatever moment
  pub nothing_before : (m : ℕ) (mid : Session) → m < moment → Advanced setting s m mid → Gives find mid.page.rows []
  nothing_before m mid early a =
      let same : s.page ≡ mid.page = still_page s mid m (not_before find.until s.page.pending m early) a in
      let P : PageState → Type 0 = λ p. Gives find p.rows [] in
      subst P same fits.nothing

  -- it ends there
  pub ends_there : (end : Session) (nodes : List ℕ) → Advanced setting s moment end → Gives find end.page.rows nodes → EndsAt find nodes moment → FindEnds setting find s end nodes
  ends_there end nodes a gives ends =
      let at : end.at ≡ moment = at_of s end moment a in
      let P : ℕ → Type 0 = λ m. Advanced setting s m end in
      let Q : ℕ → Type 0 = λ m. EndsAt find nodes m in
      record {
        onwards = let late = later in omega (arith, at, late);
        advanced = subst P (sym at) a;
        gives = gives;
        ends = subst Q (sym at) ends;
        least = λ m mid from early b. nothing_before m mid (omega (arith, early, at)) b;
      }

  -- it goes on there
  pub ends_later : (mid end : Session) (nodes : List ℕ) → Advanced setting s moment mid → FindEnds setting find mid end nodes → FindEnds setting find s end nodes
  ends_later mid end nodes a ends =
      let at : mid.at ≡ moment = at_of s mid moment a in
      let late = later in
      let onwards : mid.at ≤ end.at = ends.onwards in
      let from : moment ≤ end.at = omega (arith, at, onwards) in
      record {
        onwards = omega (arith, from, late);
        advanced = advanced_on s mid end moment end.at (omega (arith, late)) from a ends.advanced;
        gives = ends.gives;
        ends = ends.ends;
        least = least;
      }
    where
      by : (m : ℕ) (one : Session) → s.at ≤ m → m < end.at → Advanced setting s m one → (early : Bool) → nat_lt m moment ≡ early → Gives find one.page.rows []
      by m one from before b true is = nothing_before m one (ltb-true m moment is) b
      by m one from before b false is =
          let not_early : moment ≤ m = ltb-false m moment is in
          let at : mid.at ≡ moment = at_of s mid moment a in
          let late = later in
          ends.least m one (omega (arith, at, not_early)) before (advanced_rest s mid one moment m (omega (arith, late)) not_early a b)

      least : (m : ℕ) (one : Session) → s.at ≤ m → m < end.at → Advanced setting s m one → Gives find one.page.rows []
      least m one from before b = by m one from before b (nat_lt m moment) refl

  -- it doesn't end at once
  pub ends_after : (end : Session) (nodes : List ℕ) → FindEnds setting find s end nodes → s.at < end.at
  ends_after end nodes ends = by (nat_lt s.at end.at) refl
    where
      by : (after : Bool) → nat_lt s.at end.at ≡ after → s.at < end.at
      by true is = ltb-true s.at end.at is
      by false is =
          let onwards : s.at ≤ end.at = ends.onwards in
          let not_later : end.at ≤ s.at = ltb-false s.at end.at is in
          let same : s.at ≡ end.at = omega (arith, onwards, not_later) in
          let P : ℕ → Type 0 = λ m. NoneDue s.page.pending m in
          let page : s.page ≡ end.page = still_page s end end.at (subst P same fits.still) ends.advanced in
          let Q : PageState → Type 0 = λ p. Gives find p.rows [] in
          let none : [] ≡ nodes = gives_one find end.page.rows [] nodes (subst Q page fits.nothing) ends.gives in
          let R : List ℕ → Type 0 = λ ns. EndsAt find ns end.at in
          let over : end.at ≡ find.until = subst R (sym none) ends.ends in
          let short : s.at < find.until = fits.short in
          absurd (omega (arith, over, short, same))

  -- ---- the plan from there on is what is left of the plan

  pub plan_there : (end : Session) (nodes : List ℕ) (reply : Reply) (after : After) → Advanced setting s moment end → Gives find end.page.rows nodes → EndsAt find nodes moment
      → nodes_plan find.wanted end nodes ≡ at_once reply after
      → FindPlan setting find s (record { reply = reply; after = after; begun = Some s; stages = record { moment = moment; session = end } ∷ [] })
  plan_there end nodes reply after a gives ends answers = record {
    end = end;
    nodes = nodes;
    begun = refl;
    ends = ends_there end nodes a gives ends;
    passes = Onwards s end end [] (let at : end.at ≡ moment = at_of s end moment a in let late = later in omega (arith, at, late)) a (AtEnd end);
    answers = answers;
  }

  pub plan_later : (mid : Session) (rest : Plan) → Advanced setting s moment mid → FindPlan setting find mid rest
      → FindPlan setting find s (record rest { begun = Some s; stages = record { moment = moment; session = mid } ∷ rest.stages })
  plan_later mid rest a plan = record {
    end = plan.end;
    nodes = plan.nodes;
    begun = refl;
    ends = ends_later mid plan.end plan.nodes a plan.ends;
    passes =
        let at : mid.at ≡ moment = at_of s mid moment a in
        let late = later in
        let onwards : mid.at ≤ plan.end.at = plan.ends.onwards in
        Onwards s mid plan.end rest.stages (omega (arith, at, late, onwards)) a plan.passes;
    answers = plan.answers;
  }

-- ---- at once

-- a find that gives a node at its start, or whose span is over there, ends there
pub plan_at_once : {setting : Setting} (find : FindWait) (s : Session) (nodes : List ℕ) (reply : Reply) (after : After) → NoneDue s.page.pending s.at → Gives find s.page.rows nodes → EndsAt find nodes s.at
    → nodes_plan find.wanted s nodes ≡ at_once reply after → FindPlan setting find s (record { reply = reply; after = after; begun = None; stages = [] })
plan_at_once {setting} find s nodes reply after still gives ends answers = record {
  end = s;
  nodes = nodes;
  begun = refl;
  ends = record {
    onwards = omega arith;
    advanced = advanced_here s still;
    gives = gives;
    ends = ends;
    least = λ m mid from before a. absurd (omega (arith, from, before));
  };
  passes = AtEnd s;
  answers = answers;
}
