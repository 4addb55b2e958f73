use Rattle.std.proofs.Common.{◌≡◌, Some, get_or, rules, sym, ap, ◌∙◌}
use Rattle.std.specs.Str.{chars}
use Rattle.page_tree.proofs.AttributeLemmas.{first_from_position, none_from_position, value_at, value_none}
use Rattle.page_tree.proofs.attributes.Attributes.value.Goals as goal

pub returns-in-Some : goal.returns-in-Some
returns-in-Some c =
    let name = chars c.args.name.now in
    let entries = c.self.inside.entries.items in
    let entry = c.index.result.now in
    let read : entry ≡ get_or entries c.in-Some.at entry = search rules in
    ap Some (c.as_str.ensures.characters ∙ ap (λ e. e.1) (read ∙ ap (λ es. get_or es c.in-Some.at entry) c.self.view_is))
    ∙ sym (value_at name c.args.self.now c.in-Some.at entry (first_from_position name c.args.self.now c.in-Some.at entry c.in-Some.ensures))

pub returns-in-None : goal.returns-in-None
returns-in-None c = sym (value_none (chars c.args.name.now) c.args.self.now (none_from_position (chars c.args.name.now) c.args.self.now c.in-None.ensures))
