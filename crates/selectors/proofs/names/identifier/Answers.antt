use Rattle.std.proofs.Common.{[], ◌∷◌, ◌++◌, sym, ap, subst, ◌∙◌, append_assoc, append-nil, ℕ, List, Some, None}
use Rattle.std.proofs.lemmas.Bool.{false≢true}
use Rattle.selectors.specs.Escapes.{is_of_name}
use Rattle.selectors.specs.Names.{IdentifierIs}
use Rattle.selectors.specs.Reading.{name_piece_at}
use Rattle.selectors.proofs.Spelled.{Spelled, none, more, piece_shortens}
use Rattle.selectors.proofs.NamePieces.{name_reads}
use Rattle.selectors.proofs.Identifiers.{identifier_from, identifier_to, identifier_same}
use Rattle.selectors.proofs.names.identifier.Goals as goal

pub returns-then-not-is_identifier_next : goal.returns-then-not-is_identifier_next
returns-then-not-is_identifier_next c =
    let never : (value rest : List ℕ) → IdentifierIs c.args.text.now value rest → ⊥ = λ value rest is. false≢true (sym c.if-not-is_identifier_next.true ∙ c.is_identifier_next.ensures ∙ (identifier_to c.args.text.now value rest is).0) in
    record { exact = never; reads = identifier_same c.args.text.now None never }

pub loop-c-smaller : goal.loop-c-smaller
loop-c-smaller c = piece_shortens is_of_name _ _ _ (name_reads _ (c.in-Some.c ∷ []) _ (sym c.in-Some.ensures))

pub loop-c-preserved : goal.loop-c-preserved
loop-c-preserved c = λ value left s.
    let onwards : Spelled name_piece_at c.loop-c.rest.now ((c.in-Some.c ∷ []) ++ value) left = more _ (c.in-Some.c ∷ []) c.in-Some.after.now value left (sym c.in-Some.ensures) s in
    subst (λ v. Spelled name_piece_at c.args.text.now v left)
    (sym (append_assoc c.loop-c.value (c.in-Some.c ∷ []) value) ∙ ap (λ v. v ++ value) (sym c.in_ok-push.ensures.ok))
    (c.loop-c.invariant ((c.in-Some.c ∷ []) ++ value) left onwards)

pub returns : goal.returns
returns c =
    let is : IdentifierIs c.args.text.now c.loop-c.value c.loop-c.rest.now =
    identifier_from c.args.text.now c.loop-c.value c.loop-c.rest.now (sym c.is_identifier_next.ensures ∙ c.if-not-is_identifier_next.false)
    (subst (λ v. Spelled name_piece_at c.args.text.now v c.loop-c.rest.now) (append-nil c.loop-c.value) (c.loop-c.invariant [] c.loop-c.rest.now (none c.loop-c.rest.now (sym c.in_default.ensures)))) in
    record { exact = is; reads = identifier_same c.args.text.now (Some (c.loop-c.value, c.loop-c.rest.now)) is }
