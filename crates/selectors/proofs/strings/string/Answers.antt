use Rattle.std.proofs.Common.{◌≡◌, ℕ, List, [], ◌∷◌, ◌++◌, length, None, sym, ap, subst, ◌∙◌, arith, append_assoc, append-nil, Some}
use Rattle.std.specs.Option.{option_to_list}
use Rattle.selectors.specs.Escapes.{is_of_string}
use Rattle.selectors.specs.Names.{StringIs}
use Rattle.selectors.specs.Reading.{string_piece_at}
use Rattle.selectors.proofs.Spelled.{Spelled, none, more, piece_shortens}
use Rattle.selectors.proofs.StringPieces.{string_reads}
use Rattle.selectors.proofs.StringLemmas.{string_from, string_read, heads_same, string_same, string_at_nothing, string_at_other}
use Rattle.selectors.proofs.strings.string.Goals as goal

spelled_to : (quote : ℕ) (after value rest : List ℕ) → string_piece_at quote rest ≡ None
    → ((other left : List ℕ) → Spelled (string_piece_at quote) rest other left → Spelled (string_piece_at quote) after (value ++ other) left) → Spelled (string_piece_at quote) after value rest
spelled_to quote after value rest stops spells = subst (λ v. Spelled (string_piece_at quote) after v rest) (append-nil value) (spells [] rest (none rest stops))

no_front : (text rest : List ℕ) (c : ℕ) → text ≡ c ∷ rest → length text ≡ 0 → ⊥
no_front text rest c same nothing_is = omega (arith, ap length same)

pub loop-part-init : goal.loop-part-init
loop-part-init c = λ value left s. subst (λ v. Spelled (string_piece_at c.in-Some.quote.now) c.in-Some.after.now (v ++ value) left) (sym c.new-value.ensures) s

pub loop-part-smaller : goal.loop-part-smaller
loop-part-smaller c = piece_shortens (is_of_string c.in-Some.quote.now) _ _ _ (string_reads c.in-Some.quote.now _ (option_to_list c.in-Some-string_piece.part) _ (sym c.in-Some-string_piece.ensures))

pub loop-part-preserved : goal.loop-part-preserved
loop-part-preserved c = λ value left s.
    let part : List ℕ = option_to_list c.in-Some-string_piece.part in
    let onwards : Spelled (string_piece_at c.in-Some.quote.now) c.loop-part.rest.now (part ++ value) left = more _ part c.in-Some-string_piece.behind.now value left (sym c.in-Some-string_piece.ensures) s in
    subst (λ v. Spelled (string_piece_at c.in-Some.quote.now) c.in-Some.after.now v left)
    (sym (append_assoc c.loop-part.value part value) ∙ ap (λ v. v ++ value) (sym c.in_ok-push_part.ensures))
    (c.loop-part.invariant (part ++ value) left onwards)

-- the text behind the quote spells what was read, up to a rest where no piece stands
went_over : (quote : ℕ) (text after value rest : List ℕ) → text ≡ quote ∷ after → string_piece_at quote rest ≡ None
    → ((other left : List ℕ) → Spelled (string_piece_at quote) rest other left → Spelled (string_piece_at quote) after (value ++ other) left)
    → (other left : List ℕ) → StringIs text other left → (value ≡ other) × (rest ≡ quote ∷ left)
went_over quote text after value rest whole stops spells other left is =
    string_read quote after value rest (spelled_to quote after value rest stops spells) other left (subst (λ t. StringIs t other left) whole is)

pub returns-in_default-split_first : goal.returns-in_default-split_first
returns-in_default-split_first c = let never : (value rest : List ℕ) → StringIs c.args.text.now value rest → ⊥ = λ value rest is.
    let same : c.loop-part.rest.now ≡ c.in-Some.quote.now ∷ rest = (went_over c.in-Some.quote.now c.args.text.now c.in-Some.after.now c.loop-part.value c.loop-part.rest.now c.in-Some.ensures.cases.0 (sym c.in_default-string_piece.ensures) c.loop-part.invariant value rest is).1 in
    no_front _ _ _ same c.in_default-split_first.ensures.cases in
    record { exact = never; reads = string_same c.args.text.now None never }

pub returns-then-last-quote : goal.returns-then-last-quote
returns-then-last-quote c = let never : (value rest : List ℕ) → StringIs c.args.text.now value rest → ⊥ = λ value rest is.
    let same : c.loop-part.rest.now ≡ c.in-Some.quote.now ∷ rest = (went_over c.in-Some.quote.now c.args.text.now c.in-Some.after.now c.loop-part.value c.loop-part.rest.now c.in-Some.ensures.cases.0 (sym c.in_default-string_piece.ensures) c.loop-part.invariant value rest is).1 in
    c.if-last-quote.true ((heads_same _ _ _ _ (sym c.in-Some-split_first.ensures.cases.0 ∙ same)).0) in
    record { exact = never; reads = string_same c.args.text.now None never }

pub returns : goal.returns
returns c =
    let rest_is : c.loop-part.rest.now ≡ c.in-Some.quote.now ∷ c.in-Some-split_first.behind.now = c.in-Some-split_first.ensures.cases.0 ∙ ap (λ d. d ∷ c.in-Some-split_first.behind.now) c.if-last-quote.false in
    let is : StringIs c.args.text.now c.loop-part.value c.in-Some-split_first.behind.now = subst (λ t. StringIs t c.loop-part.value c.in-Some-split_first.behind.now) (sym c.in-Some.ensures.cases.0)
    (string_from c.in-Some.quote.now c.in-Some.after.now c.loop-part.value c.in-Some-split_first.behind.now (sym c.is_quote.ensures ∙ c.if-not-is_quote.false)
    (subst (λ r. Spelled (string_piece_at c.in-Some.quote.now) c.in-Some.after.now c.loop-part.value r) rest_is
    (spelled_to c.in-Some.quote.now c.in-Some.after.now c.loop-part.value c.loop-part.rest.now (sym c.in_default-string_piece.ensures) c.loop-part.invariant))) in
    record { exact = is; reads = string_same c.args.text.now (Some (c.loop-part.value, c.in-Some-split_first.behind.now)) is }

pub returns-in_default-clause-reads : goal.returns-in_default-clause-reads
returns-in_default-clause-reads c = string_at_nothing c.args.text.now c.in_default.ensures.cases

pub returns-then-not-is_quote-clause-reads : goal.returns-then-not-is_quote-clause-reads
returns-then-not-is_quote-clause-reads c = string_at_other c.args.text.now _ _ c.in-Some.ensures.cases.0 (sym c.is_quote.ensures ∙ c.if-not-is_quote.true)
