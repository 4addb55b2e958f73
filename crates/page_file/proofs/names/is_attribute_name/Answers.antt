use Rattle.std.proofs.Common.{◌≡◌, true, ◌&&◌, sym, ap, ◌∙◌}
use Rattle.std.specs.List.{list_all}
use Rattle.page_engine.specs.Names.{is_name_character}
use Rattle.page_file.specs.NodeValues.{begins_lower}
use Rattle.page_file.proofs.NameTests.{name_is}
use Rattle.page_file.proofs.names.is_attribute_name.Goals as goal

pub returns-then-begins_lower : goal.returns-then-begins_lower
returns-then-begins_lower c =
    let text = c.args.text.now in
    let begins : begins_lower text ≡ true = sym c.begins_lower.ensures ∙ c.if-begins_lower.true in
    c.are_name_characters.ensures ∙ ap (list_all is_name_character) c.as_str.ensures.characters
    ∙ sym (ap (λ b. b && list_all is_name_character text) begins) ∙ sym (name_is text)
