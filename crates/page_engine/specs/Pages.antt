-- When a page keeps the rules on one page.
use Rattle.std.specs.Prelude.{◌≡◌, ℕ, ◌≤◌, Bool, true, ◌&&◌, length}
use Rattle.std.specs.List.{list_all}
use Rattle.page_engine.specs.Books.{is_book}
use Rattle.page_engine.specs.Fitting.{timed, fit_at, is_wait}
use Rattle.page_engine.specs.Nodes.{AreNodes}
use Rattle.page_engine.specs.declared.page_def.PageDef.{PageDef}
use Rattle.page_engine.specs.declared.page_def.TimerDef.{TimerDef}

-- a document has at most so many pending timers
abbrev pub max_timers : ℕ
max_timers = 1000

-- the longest that a navigation takes, in milliseconds
abbrev pub longest_load : ℕ
longest_load = 3600000

abbrev pub is_timer : TimerDef → Bool
is_timer timer = is_wait timer.at && fit_at timed timer.effects

pub record IsLawfulPage (page : PageDef) : Type 0 where
  pub nodes : AreNodes page.nodes
  pub few_timers : length page.timers ≤ max_timers
  pub timers : list_all is_timer page.timers ≡ true
  pub book : is_book page.book ≡ true
  pub eager : page.eager ≤ page.load
  pub load : page.load ≤ longest_load
