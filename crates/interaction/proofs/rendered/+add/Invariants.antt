use Rattle.std.proofs.Common.{◌≡◌, ◌-◌, ◌++◌, take}
use Rattle.std.specs.Prelude.{filter}
use Rattle.std.specs.List.{flat_map}
use Rattle.page_tree.specs.Rows.{tag_of, text_of}
use Rattle.page_tree.specs.Display.{is_shown}
use Rattle.interaction.specs.RenderedText.{breaks_before, break_if, characters, marks}
use Rattle.interaction.specs.Writing.{written}
use Rattle.interaction.proofs.rendered.+add.Given as goal

abbrev pub decreases-add : goal.decreases-add
decreases-add l = l.levels

abbrev pub invariant-loop-kid : goal.invariant-loop-kid
invariant-loop-kid l =
    let rows = l.document.rows in
    l.lines ≡ written l.fn.lines ((break_if (breaks_before (tag_of rows l.fn.node)) ++ characters (text_of rows l.fn.node)) ++ flat_map (marks (l.levels - 1) rows) (filter (is_shown rows) (take l.kid-index l.kid-items)))
