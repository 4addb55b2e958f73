-- A command that waits has a plan.
use Rattle.std.proofs.Common.{◌≡◌, ◌<◌, ◌≤◌, ◌∙◌, ℕ, zero, suc, Bool, true, false, List, [], ◌∷◌, Option, Some, None, length, sym, refl, arith}
use Rattle.std.specs.Prelude.{nat_lt}
use Rattle.std.proofs.lemmas.Bool.{ltb-true, ltb-false}
use Rattle.interaction.specs.Found.{Finds, named}
use Rattle.interaction.specs.declared.by.By.{By}
use Rattle.interaction.specs.declared.by.By.TheVariants.{Css, Link, PartialLink, Tag}
use Rattle.interaction.specs.declared.by.Words.TheVariants as words
use Rattle.page_tree.specs.Rows.{Rows}
use Rattle.references.specs.Handed.{Handed, handed}
use Rattle.references.specs.HandedAll.{named as named_node, handed_all}
use Rattle.references.specs.Identifier.{Identifier}
use Rattle.references.specs.declared.kind.Kind.{Kind}
use Rattle.references.specs.declared.kind.Kind.TheVariants.{Element}
use Rattle.references.specs.declared.name.NodeName.{NodeName}
use Rattle.selectors.specs.Named.{selected, first_of_list}
use Rattle.selectors.specs.declared.selector.Scope.{Scope}
use Rattle.selectors.specs.declared.selector.Scope.TheVariants.{Document, Under}
use Rattle.remote_end.specs.declared.finds.Wanted.{Wanted}
use Rattle.remote_end.specs.declared.finds.Wanted.TheVariants.{First, All}
use Rattle.remote_end.specs.declared.reply.Reply.{Reply}
use Rattle.remote_end.specs.declared.session.Session.{Session}
use Rattle.remote_end.specs.declared.waiting.FindWait.{FindWait}
use Rattle.remote_end.specs.declared.waiting.Waiting.{Waiting}
use Rattle.remote_end.specs.declared.waiting.Waiting.TheVariants.{Find, Ended}
use Rattle.remote_end.specs.Advance.{Advanced}
use Rattle.remote_end.specs.Elements.{current_document, is_current}
use Rattle.remote_end.specs.FindSpans.{GivesBelow, GivesFrom, Gives, EndsAt, soonest}
use Rattle.remote_end.specs.Finds.{first_plan, with_references, nodes_plan, FindPlan}
use Rattle.remote_end.specs.Handing.{with_reference}
use Rattle.remote_end.specs.Plan.{Plan, at_once}
use Rattle.remote_end.specs.Resumed.{PlansAreThere}
use Rattle.remote_end.specs.State.{After}
use Rattle.remote_end.specs.Waits.{settled, PlansIn, next_in, IsSought, FindFits, Fits}
use Rattle.remote_end.proofs.PageTimers.{fewer_after}
use Rattle.remote_end.proofs.AdvanceMoreLemmas.{advanced_somewhere}
use Rattle.remote_end.proofs.FindLemmas.{soonest_within, due_then, plan_there, plan_later}
use Rattle.remote_end.proofs.WaitLemmas.{mid_fits, next_settled}
use Rattle.remote_end.specs.declared.setting.Setting.{Setting}

-- ---- what a find gives

finds_there : (rows : Rows) (scope : Scope) (by : By) (text : List ℕ) → IsSought by text → (nodes : List ℕ) × Finds rows scope by text nodes
unfolding Finds
finds_there rows scope Css text (selector, grammar) = (selected rows scope selector, (selector, grammar, refl))
finds_there rows scope Link text sought = (named rows scope words.Link text, refl)
finds_there rows scope PartialLink text sought = (named rows scope words.PartialLink text, refl)
finds_there rows scope Tag text sought = (named rows scope words.Tag text, refl)

below_there : (current : Bool) (rows : Rows) (node : ℕ) (by : By) (text : List ℕ) → IsSought by text → (nodes : List ℕ) × GivesBelow current rows node by text nodes
below_there true rows node by text sought = finds_there rows (Under node) by text sought
below_there false rows node by text sought = ([], refl)

from_there : (start : Option NodeName) (rows : Rows) (by : By) (text : List ℕ) → IsSought by text → (nodes : List ℕ) × GivesFrom start rows by text nodes
from_there None rows by text sought = finds_there rows Document by text sought
from_there (Some name) rows by text sought = below_there (is_current rows name) rows name.node by text sought

gives_there : (find : FindWait) (rows : Rows) → IsSought find.by find.text → (nodes : List ℕ) × Gives find rows nodes
gives_there find rows sought = from_there find.start rows find.by find.text sought

-- ---- what it answers

abbrev AnswersAtOnce : Plan → Type 0
AnswersAtOnce plan = (reply : Reply) × (after : After) × (plan ≡ at_once reply after)

reference_there : (kind : Kind) (s : Session) (o : Option (Identifier × Handed)) → AnswersAtOnce (with_reference kind s o)
reference_there kind s None = (_, _, refl)
reference_there kind s (Some (id, known)) = (_, _, refl)

references_there : (s : Session) (o : Option (List Identifier × Handed)) → AnswersAtOnce (with_references s o)
references_there s None = (_, _, refl)
references_there s (Some (ids, known)) = (_, _, refl)

first_there : (s : Session) (o : Option ℕ) → AnswersAtOnce (first_plan s o)
first_there s None = (_, _, refl)
first_there s (Some node) = reference_there Element s (handed s.known Element (named_node current_document node))

nodes_there : (wanted : Wanted) (s : Session) (nodes : List ℕ) → AnswersAtOnce (nodes_plan wanted s nodes)
nodes_there First s nodes = first_there s (first_of_list nodes)
nodes_there All s nodes = references_there s (handed_all s.known Element current_document nodes)

-- ---- the plan of a find

abbrev HasFindPlan : Setting → FindWait → Session → Type 0
HasFindPlan setting find s = (plan : Plan) × FindPlan setting find s plan

module _ (setting : Setting) (find : FindWait) (s : Session) (fits : FindFits find s.page s.at) where
  abbrev moment : ℕ
  moment = soonest find.until s.page.pending

  -- it ends at its next moment
  ends : (end : Session) (nodes : List ℕ) → Advanced setting s moment end → Gives find end.page.rows nodes → EndsAt find nodes moment → HasFindPlan setting find s
  ends end nodes advanced gives at_end =
      let answer = nodes_there find.wanted end nodes in
      (_, plan_there setting find s fits end nodes answer.0 answer.1 advanced gives at_end answer.2)

  -- it goes on there, with fewer timers
  goes : (mid : Session) → Advanced setting s moment mid → Gives find mid.page.rows [] → (early : Bool) → nat_lt moment find.until ≡ early
      → (FindFits find mid.page mid.at → length mid.page.pending < length s.page.pending → HasFindPlan setting find mid) → HasFindPlan setting find s
  goes mid advanced gives true is again =
      let less : moment < find.until = ltb-true moment find.until is in
      let due = due_then find.until s.page.pending less in
      let within : due.1.0.0 ≤ moment = due.3 in
      let fewer : length mid.page.pending < length s.page.pending = fewer_after setting moment s.page s.at mid.page advanced.page due.0 due.1 due.2 within in
      let rest = again (mid_fits find s mid moment fits advanced gives less) fewer in
      (_, plan_later setting find s fits mid rest.0 advanced rest.1)
  goes mid advanced gives false is again =
      let late : find.until ≤ moment = ltb-false moment find.until is in
      let within = soonest_within find.until s.page.pending in
      ends mid [] advanced gives (omega (arith, late, within))

  step : (mid : Session) → Advanced setting s moment mid → (nodes : List ℕ) → Gives find mid.page.rows nodes
      → (FindFits find mid.page mid.at → length mid.page.pending < length s.page.pending → HasFindPlan setting find mid) → HasFindPlan setting find s
  step mid advanced [] gives again = goes mid advanced gives (nat_lt moment find.until) refl again
  step mid advanced (node ∷ nodes) gives again = ends mid (node ∷ nodes) advanced gives (soonest_within find.until s.page.pending)

  from_here : ((mid : Session) → FindFits find mid.page mid.at → length mid.page.pending < length s.page.pending → HasFindPlan setting find mid) → HasFindPlan setting find s
  from_here again =
      let next = advanced_somewhere setting s moment in
      let given = gives_there find next.0.page.rows fits.sought in
      step next.0 next.1 given.0 given.1 (again next.0)

find_there : (setting : Setting) (most : ℕ) (find : FindWait) (s : Session) → FindFits find s.page s.at → length s.page.pending ≤ most → HasFindPlan setting find s
find_there setting zero find s fits few = from_here setting find s fits (λ mid mid_fits fewer. absurd (omega (arith, few, fewer)))
find_there setting (suc most) find s fits few = from_here setting find s fits (λ mid mid_fits fewer. find_there setting most find mid mid_fits (omega (arith, few, fewer)))

there_in : (setting : Setting) (waiting : Option Waiting) (s : Session) (until : ℕ) → Fits waiting s.page s.at → next_in waiting s ≡ Some until → (plan : Plan) × PlansIn setting waiting s plan
there_in setting None s until fits next = absurd (let f : None ≡ Some until = next in cc)
there_in setting (Some (Find find)) s until fits next = find_there setting (length s.page.pending) find s fits (omega arith)
there_in setting (Some (Ended reply)) s until fits next = absurd fits

pub plans_are_there : PlansAreThere
plans_are_there setting s kept until next = there_in setting s.waiting (settled s) until kept.fits (sym (next_settled s.waiting s) ∙ next)
