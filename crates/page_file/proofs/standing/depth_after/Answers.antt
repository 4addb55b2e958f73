use Rattle.std.proofs.Common.{◌≡◌, ℕ, ◌+◌, ◌≤◌, take, arith, tests, false, sym, ap, ◌∙◌, get_or}
use Rattle.std.specs.Prelude.{nat_lt}
use Rattle.std.proofs.lemmas.Option.{get_or_from_slice_get}
use Rattle.page_file.proofs.Depths.{up_within, depth_top, depth_under, found_at}
use Rattle.page_file.specs.NodeRows.{depth_after}
use Rattle.page_file.proofs.standing.depth_after.Goals as goal
use Rattle.page_tree.specs.Places.{max_depth}

level : (level n : ℕ) → level ≡ n → nat_lt max_depth n ≡ false → level ≤ 200
level l n e h = grind (arith, tests)

pub overflow_add-result : goal.overflow_add-result
overflow_add-result c =
    let defs = c.args.defs.now in
    let p = c.in-Some.up in
    let here = found_at defs p (up_within defs c.args.def.now p c.requires.node c.in-Some.is) in
    let deep = get_or_from_slice_get c.args.depths.now p (depth_after (take p defs) here.0.up) 0 (c.requires.depths.each p here.0 here.1) in
    let low : get_or c.args.depths.now p 0 ≤ 200 = level (get_or c.args.depths.now p 0) (depth_after (take p defs) here.0.up) deep (c.requires.depths.stand.shallow p here.0 here.1) in
    omega arith

pub returns-in-Some : goal.returns-in-Some
returns-in-Some c =
    let defs = c.args.defs.now in
    let p = c.in-Some.up in
    let here = found_at defs p (up_within defs c.args.def.now p c.requires.node c.in-Some.is) in
    let deep = get_or_from_slice_get c.args.depths.now p (depth_after (take p defs) here.0.up) 0 (c.requires.depths.each p here.0 here.1) in
    ap (λ n. n + 1) deep ∙ sym (depth_under defs c.requires.depths.stand.each p here.0 here.1 (c.requires.depths.stand.shallow p here.0 here.1)) ∙ ap (depth_after defs) (sym c.in-Some.is)

pub returns-in-None : goal.returns-in-None
returns-in-None c = sym (depth_top c.args.defs.now) ∙ ap (depth_after c.args.defs.now) (sym c.in-None.is)
