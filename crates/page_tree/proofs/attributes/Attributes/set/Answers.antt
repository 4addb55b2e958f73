use Rattle.std.proofs.Common.{[], ◌∷◌, ◌++◌, set, get_or, ap, ◌∙◌}
use Rattle.std.specs.Str.{chars}
use Rattle.page_tree.specs.Attributes.{with_value}
use Rattle.page_tree.proofs.AttributeLemmas.{first_from_position, none_from_position, with_value_at, with_value_none}
use Rattle.page_tree.proofs.attributes.Attributes.set.Goals as goal

pub returns-in-Some-clause-ok : goal.returns-in-Some-clause-ok
returns-in-Some-clause-ok c =
    let name = chars c.args.name.now in
    let now = c.args.self.now in
    let at = c.in-Some.at in
    let entry = c.index_mut.result.now in
    let value = c.in_ok-value.value in
    ap (λ es. set es at (entry.0, value)) c.self.view_is ∙ ap (λ e. set now at (e.0, value)) (c.index_mut.ensures.value ∙ ap (λ es. get_or es at entry) c.self.view_is)
    ∙ with_value_at name value now at entry (first_from_position name now at entry c.in-Some.ensures) ∙ ap (λ v. with_value name v now) c.in_ok-value.ensures.characters

pub returns-in_ok-push-in-None-clause-ok : goal.returns-in_ok-push-in-None-clause-ok
returns-in_ok-push-in-None-clause-ok c =
    let name = chars c.args.name.now in
    let now = c.args.self.now in
    let value = c.in_ok-value.value in
    c.in_ok-push-in-None.ensures.items ∙ ap (λ es. es ++ (c.in_ok-of-in-None.field-0, value) ∷ []) c.self.view_is
    ∙ ap (λ k. now ++ (k, value) ∷ []) c.in_ok-of-in-None.ensures.characters ∙ with_value_none name value now (none_from_position name now c.in-None.ensures)
    ∙ ap (λ v. with_value name v now) c.in_ok-value.ensures.characters
