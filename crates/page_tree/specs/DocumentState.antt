-- A document as contracts see it: its rows, and whether it is spent.
use Rattle.std.specs.Prelude.{Bool}
use Rattle.page_tree.specs.Rows.{Rows}

pub record DocumentState : Type 0 where
  pub rows : Rows
  -- after want of memory, when only `spent` may be called
  pub spent : Bool
