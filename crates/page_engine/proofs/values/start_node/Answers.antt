use Rattle.std.proofs.Common.{◌≡◌, true, false, rules, refl, ap, ◌∙◌}
use Rattle.std.specs.Str.{chars}
use Rattle.page_tree.specs.Rows.{is_element}
use Rattle.page_engine.proofs.Filling.{kept, written, written_twice}
use Rattle.page_engine.proofs.FirstSteps.{started_element, started_other}
use Rattle.page_engine.proofs.values.start_node.Goals as goal

pub set_checked-requires-clause-an_element : goal.set_checked-requires-clause-an_element
set_checked-requires-clause-an_element c =
    let here : is_element c.args.document.now.rows c.args.node ≡ true = search rules in
    kept c.args.document.now c.set_value.new.self c.args.node (λ content. record content { value = chars c.as_str.result.now }) (λ x. refl) c.in_ok-set_value.ensures.ok here

pub returns-in_ok-set_value : goal.returns-in_ok-set_value
returns-in_ok-set_value c =
    let now = c.args.document.now in
    let n = c.args.node in
    let first = c.args.first.now in
    let here : is_element now.rows n ≡ true = search rules in
    written_twice now c.set_value.new.self c.set_checked.new.self n (λ content. record content { value = chars c.as_str.result.now }) (λ content. record content { checked = first.checked }) c.in_ok-set_value.ensures.ok c.set_checked.ensures
    ∙ ap (λ v. written now n (λ content. record content { value = v; checked = first.checked })) c.as_str.ensures.characters
    ∙ started_element now n first here

pub returns-else-is_some : goal.returns-else-is_some
returns-else-is_some c =
    let here : is_element c.args.document.now.rows c.args.node ≡ false = search rules in
    started_other c.args.document.now c.args.node c.args.first.now here
