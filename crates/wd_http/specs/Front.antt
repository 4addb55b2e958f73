-- What is found in front of unread bytes, with what is kept for the next look.
use Rattle.std.specs.Prelude.{◌≤◌, ◌<◌, ℕ, List, take, length}
use Rattle.wd_http.specs.Frames.{Spelling, BadFront, IsOpen, most_unread}
use Rattle.wd_http.specs.SearchedHead.{IsSeen}
use Rattle.wd_http.specs.Known.{IsKnown}
use Rattle.wd_http.specs.declared.front.Front.{Front}
use Rattle.wd_http.specs.declared.front.Front.TheVariants.{Whole, Body, More, Bad}

abbrev pub FrontIs : List ℕ → Front → Type 0
FrontIs unread (Whole request len) = (len ≤ length unread) × Spelling (take len unread) request
FrontIs unread (More seen mark) = IsOpen unread × (length unread < most_unread) × IsSeen unread seen mark
FrontIs unread (Body waiting) = IsOpen unread × (length unread < most_unread) × IsKnown unread waiting
FrontIs unread (Bad kind) = BadFront unread kind
