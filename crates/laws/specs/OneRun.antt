-- What is true of every run of the command machine under a virtual clock.
use Rattle.std.specs.Prelude.{◌≡◌, ◌<◌, ◌^◌, ℕ, List, map}
use Rattle.wd_http.specs.Clocks.{virtual_now, virtual_rest}
use Rattle.wd_http.specs.Made.{Made}
use Rattle.remote_end.specs.declared.setting.Setting.{Setting}
use Rattle.remote_end.specs.Machine.{Exchange, Runs, request_of, calls_of}
use Rattle.remote_end.specs.Outside.{outside}
use Rattle.remote_end.specs.State.{State, first_state}

-- Two runs with the same requests, each under a virtual clock that begins at the same moment, are one: they have the same
-- calls and replies, and lead to one state.
abbrev pub RunsAreOne : Type 0 → Type 0
RunsAreOne E = (setting : Setting) (clock : ℕ) (evaluator : E) (es fs : List Exchange) (one other : State) (a b : ℕ × E) → setting.run < 2 ^ 48
    → map request_of es ≡ map request_of fs → Runs setting first_state es one → Runs setting first_state fs other
    → Made (outside virtual_now virtual_rest) (clock, evaluator) (calls_of es) a → Made (outside virtual_now virtual_rest) (clock, evaluator) (calls_of fs) b
    → (es ≡ fs) × (one ≡ other)
