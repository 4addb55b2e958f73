use Rattle.std.proofs.Common.{◌≡◌, ℕ, ◌%◌, ◌/◌, ◌<◌, ◌≤◌, List, [], ◌∷◌, ◌++◌, sym, ap, ◌∙◌, arith, append_assoc}
use Rattle.std.specs.Char.{digit_char}
use Rattle.selectors.specs.Printing.{digits_text}
use Rattle.selectors.proofs.OnOks.{on_ok_map}
use Rattle.selectors.proofs.PrintedPieces.{digits_text_step}
use Rattle.selectors.proofs.printed_names.+push_digits.Goals as goal

-- the digits before, and one more
more_digits : (base n digit : ℕ) (old middle new : List ℕ) → 2 ≤ base → 0 < n → digit ≡ digit_char (n % base) → middle ≡ old ++ digits_text base (n / base) → new ≡ middle ++ digit ∷ [] → new ≡ old ++ digits_text base n
more_digits base n digit old middle new two some is first last =
    last ∙ ap (λ m. m ++ digit ∷ []) first ∙ ap (λ d. (old ++ digits_text base (n / base)) ++ d ∷ []) is ∙ append_assoc old (digits_text base (n / base)) (digit_char (n % base) ∷ [])
    ∙ ap (λ t. old ++ t) (sym (digits_text_step base n two some))

pub returns : goal.returns
returns t c = on_ok_map c.push.result _ _
    (λ e. more_digits c.args.base c.args.number c.unwrap.result c.args.out.now _ _ c.requires.some (omega arith) (rw c.unwrap.ensures at c.from_digit.ensures.value).1 c.in_ok-push_digits.ensures e) c.push.ensures.ok
