-- The span of a find: the moment at which it ends, and the moments at which it is looked at.
use Rattle.std.specs.Prelude.{◌≡◌, ◌≤◌, ◌<◌, ℕ, min, List, [], ◌∷◌, Bool, true, false, Option, Some, None}
use Rattle.interaction.specs.Found.{Finds}
use Rattle.interaction.specs.declared.by.By.{By}
use Rattle.page_engine.specs.Timers.{Timer}
use Rattle.page_tree.specs.Rows.{Rows}
use Rattle.references.specs.declared.name.NodeName.{NodeName}
use Rattle.selectors.specs.declared.selector.Scope.TheVariants.{Document, Under}
use Rattle.remote_end.specs.declared.session.Session.{Session}
use Rattle.remote_end.specs.declared.waiting.FindWait.{FindWait}
use Rattle.remote_end.specs.Advance.{Advanced}
use Rattle.remote_end.specs.Elements.{is_current}
use Rattle.remote_end.specs.Plan.{Stage}
use Rattle.remote_end.specs.declared.setting.Setting.{Setting}

-- ---- what a find gives

-- nothing below a node that isn't connected to the current document
abbrev pub GivesBelow : Bool → Rows → ℕ → By → List ℕ → List ℕ → Type 0
GivesBelow true rows node by text nodes = Finds rows (Under node) by text nodes
GivesBelow false rows node by text nodes = nodes ≡ []

abbrev pub GivesFrom : Option NodeName → Rows → By → List ℕ → List ℕ → Type 0
GivesFrom None rows by text nodes = Finds rows Document by text nodes
GivesFrom (Some name) rows by text nodes = GivesBelow (is_current rows name) rows name.node by text nodes

-- the nodes that a find gives on a page
abbrev pub Gives : FindWait → Rows → List ℕ → Type 0
Gives find rows nodes = GivesFrom find.start rows find.by find.text nodes

-- the node below which a find starts is connected to the current document
abbrev pub StartsIn : Option NodeName → Rows → Type 0
StartsIn None rows = Unit {0}
StartsIn (Some name) rows = is_current rows name ≡ true

-- ---- when it ends

-- a find with a node ends within its span, and one with none at the end of it
abbrev pub EndsAt : FindWait → List ℕ → ℕ → Type 0
EndsAt find [] moment = moment ≡ find.until
EndsAt find (node ∷ nodes) moment = moment ≤ find.until

-- A find that a session begins ends at the least moment of its span at which the page, advanced to that moment,
-- gives a node: at each moment before, whatever moment it is, the page advanced to that one gives none. Where there
-- is no such moment in the span, it ends at the end of it, with nothing.
pub record FindEnds (setting : Setting) (find : FindWait) (s end : Session) (nodes : List ℕ) : Type 0 where
  pub onwards : s.at ≤ end.at
  pub advanced : Advanced setting s end.at end
  pub gives : Gives find end.page.rows nodes
  pub ends : EndsAt find nodes end.at
  pub least : (m : ℕ) (mid : Session) → s.at ≤ m → m < end.at → Advanced setting s m mid → Gives find mid.page.rows []

-- ---- its next moments

-- of a moment and the moments at which pending timers are due, the least
abbrev pub soonest : ℕ → List Timer → ℕ
soonest until [] = until
soonest until (timer ∷ timers) = min timer.0.0 (soonest until timers)

-- The next moments of a session that is to come to an end before or at that moment: each is the least of it and the
-- moments at which pending timers are due, and the session advances to it.
pub data Passes (setting : Setting) (until : ℕ) : Session → List Stage → Session → Type 0 where
  AtEnd : (end : Session) → Passes setting until end [] end
  Onwards : (s mid end : Session) (stages : List Stage) → s.at < end.at → Advanced setting s (soonest until s.page.pending) mid → Passes setting until mid stages end
      → Passes setting until s (record { moment = soonest until s.page.pending; session = mid } ∷ stages) end
