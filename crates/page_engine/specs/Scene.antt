-- What events, timers and scripts change of a page, and what they ask of the world around it.
use Rattle.std.specs.Prelude.{ℕ, Bool, List, [], None}
use Rattle.page_tree.specs.Rows.{Rows}
use Rattle.page_engine.specs.Timers.{Timer}
use Rattle.page_engine.specs.declared.effect.Effect.{Effect}
use Rattle.page_engine.specs.declared.event.EventKind.{EventKind}
use Rattle.page_engine.specs.declared.first.First.{First}
use Rattle.page_engine.specs.declared.outcome.Outcome.{Outcome}
use Rattle.page_engine.specs.declared.parts.Parts.{Parts}

pub record Scene : Type 0 where
  pub rows : Rows
  pub log : List (List ℕ)
  -- the pending timers, in the order in which they run
  pub pending : List Timer
  pub asked : Outcome

-- a page as contracts see it
pub record PageState : Type 0 where
  pub rows : Rows
  pub log : List (List ℕ)
  pub pending : List Timer
  -- the handlers of each node
  pub handlers : List (List (EventKind × List Effect))
  -- the first value and state of each node
  pub firsts : List First
  pub address : List ℕ
  -- after want of memory, when only `spent` may be called
  pub spent : Bool

abbrev pub nothing_asked : Outcome
nothing_asked = record { go = None; opens = []; prompt = None; made = 0 }

-- a page at the start of a dispatch, of a timer or of a script's effects
abbrev pub scene_of : PageState → Scene
scene_of page = record { rows = page.rows; log = page.log; pending = page.pending; asked = nothing_asked }

-- the page once that has happened
abbrev pub page_after : PageState → Scene → PageState
page_after page scene = record page { rows = scene.rows; log = scene.log; pending = scene.pending }

-- what the parts of a page and of an outcome stand for
abbrev pub scene_in : Parts → Outcome → Scene
scene_in parts asked = record { rows = parts.document.rows; log = parts.log; pending = parts.pending; asked = asked }
