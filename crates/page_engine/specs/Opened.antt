-- A page as it is opened.
use Rattle.std.specs.Prelude.{ℕ, Bool, false, [], map, if◌then◌else◌}
use Rattle.page_engine.specs.Opening.{bare_rows, with_timers}
use Rattle.page_engine.specs.FirstValues.{firsts_of, with_firsts}
use Rattle.page_engine.specs.Scene.{PageState}
use Rattle.page_engine.specs.declared.page_def.PageDef.{PageDef}

-- with its timers from that moment on, numbered from that number; where a timer opens it, with none
abbrev pub opened : PageDef → ℕ → ℕ → Bool → PageState
opened def moment number timed = record {
  rows = with_firsts (bare_rows def.nodes);
  log = [];
  pending = if timed then [] else with_timers moment number def.timers [];
  handlers = map (λ d. d.on) def.nodes;
  firsts = firsts_of (bare_rows def.nodes);
  address = def.address;
  spent = false;
}
