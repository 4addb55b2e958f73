-- What came of asking for connections.
use Rattle.std.specs.Prelude.{◌≡◌, ◌+◌, ℕ, Bool, IsTrue, List, [], drop, length}
use Rattle.wd_http.specs.Made.{LineCall, Asks}
use Rattle.wd_http.specs.Talk.{Talk}
use Rattle.remote_end.specs.Machine.{Exchange}
use Rattle.remote_end.specs.Outside.{Call}
use Rattle.remote_end.specs.Runs.{Ran}
use Rattle.remote_end.specs.Standing.{Standing}
use Rattle.webdriverd.specs.Headline.{Gave, joined}
use Rattle.webdriverd.specs.Serving.{Turns, Attending, Calls}
use Rattle.webdriverd.specs.declared.turn.Came.{Came}
use Rattle.webdriverd.specs.declared.turn.Came.TheVariants.{Served, NoneCame, Refused}

-- so many connections were given, one after another, and each was served and hung up
pub record Turned {K O : Type 0} (makes : K → Call → K → Type 0) (a b : K) (old new : Standing) (line_makes : O → LineCall → O → Type 0) (line left : O)
    (tells : Bool) (before after : Talk) (count : ℕ) : Type 0 where
  pub turns : List (List Exchange)
  pub count_is : count ≡ length turns
  pub ran : Ran makes a b old new (joined turns)
  pub calls : Calls line_makes line left (Turns turns)
  pub gave : IsTrue tells → Gave before after turns

-- one was asked for, and none came
pub record Lacked {K O : Type 0} (a b : K) (old new : Standing) (line_makes : O → LineCall → O → Type 0) (line left : O) (tells : Bool) (before after : Talk) : Type 0 where
  pub outside : b ≡ a
  pub standing : new ≡ old
  pub asks : line_makes line Asks left
  pub told : IsTrue tells → after ≡ before

-- what came of asking for one
abbrev pub CameTo : {K O : Type 0} → (K → Call → K → Type 0) → K → K → Standing → Standing → (O → LineCall → O → Type 0) → O → O → Bool → Talk → Talk → Came → Type 0
CameTo {K} {O} makes a b old new line_makes line left tells before after Served = Turned makes a b old new line_makes line left tells before after 1
CameTo {K} {O} makes a b old new line_makes line left tells before after NoneCame =
    Lacked a b old new line_makes line left tells before after × (IsTrue tells → before.coming ≡ [])
CameTo {K} {O} makes a b old new line_makes line left tells before after Refused = Lacked a b old new line_makes line left tells before after

-- of asking for so many, until one didn't come
pub record Attended {K O : Type 0} (makes : K → Call → K → Type 0) (a b : K) (old new : Standing) (line_makes : O → LineCall → O → Type 0) (line left : O)
    (tells : Bool) (before after : Talk) (most : ℕ) : Type 0 where
  pub turns : List (List Exchange)
  pub ran : Ran makes a b old new (joined turns)
  pub calls : Calls line_makes line left (Attending most turns)
  pub gave : IsTrue tells → Gave before after turns

-- how often `open` or `next` has failed then
abbrev pub RefusedBy : ℕ → ℕ → Came → Type 0
RefusedBy before now Served = now ≡ before
RefusedBy before now NoneCame = now ≡ before
RefusedBy before now Refused = now ≡ before + 1

-- which connections are still to come, where no call failed
abbrev pub LeftBy : ℕ → List (List ℕ) → List (List ℕ) → Came → Type 0
LeftBy most old new Served = new ≡ drop most old
LeftBy most old new NoneCame = new ≡ drop most old
LeftBy most old new Refused = Unit {0}
