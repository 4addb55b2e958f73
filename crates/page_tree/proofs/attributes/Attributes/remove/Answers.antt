use Rattle.std.proofs.Common.{rules, ap, ◌∙◌}
use Rattle.std.specs.Prelude.{not}
use Rattle.std.specs.Str.{chars}
use Rattle.std.proofs.lemmas.Fn.{filter_same}
use Rattle.page_tree.specs.Attributes.{has_name, without_name}
use Rattle.page_tree.proofs.attributes.Attributes.remove.Goals as goal

pub returns : goal.returns
returns c =
    filter_same _ (λ e. not (has_name (chars c.args.name.now) e)) _ (λ x b f' t. search rules) _ _ c.retain.ensures.filtered ∙ ap (without_name (chars c.args.name.now)) c.self.view_is
