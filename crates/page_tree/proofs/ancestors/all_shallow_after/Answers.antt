use Rattle.std.proofs.Common.{refl, ◌∙◌}
use Rattle.page_tree.proofs.Heights.{shallow_after}
use Rattle.page_tree.proofs.ancestors.all_shallow_after.Goals as goal

pub returns : goal.returns
returns c = c.fits_levels.ensures ∙ shallow_after c.args.nodes.now c.args.node c.args.under c.requires.tree c.requires.within c.requires.apart c.depth.result _ c.depth.ensures refl
