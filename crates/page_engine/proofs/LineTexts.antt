-- The characters of a line's bytes.
use Rattle.std.proofs.Common.{◌≡◌, ℕ, ℤ, ◌^◌, ◌<◌, true, List, ◌∷◌, ◌++◌, codes, refl, sym, ap, ◌∙◌}
use Rattle.std.specs.Str.{chars, IsAscii}
use Rattle.std.specs.Fmt.{decimal, signed_decimal}
use Rattle.std.specs.List.{list_all}
use Rattle.std.proofs.lemmas.Str.{IsAscii-append, IsUtf8-from_ascii, chars-append, chars-IsAscii}
use Rattle.std.proofs.lemmas.Fmt.{IsAscii-decimal_wide}
use Rattle.std.proofs.lemmas.List.{append_assoc}
use Rattle.page_engine.specs.Lines.{kind_name, head_of, place_text}
use Rattle.page_engine.specs.declared.event.EventKind.{EventKind}
use Rattle.page_engine.specs.declared.event.EventKind.TheVariants.{PointerMove, PointerDown, PointerUp, Click, KeyDown, KeyUp, Input, Change, Focus, Blur, Submit, Reset}
use Rattle.wd_json.proofs.Texts.{is_ascii, ascii_text}

named : (kind : EventKind) → list_all is_ascii (kind_name kind) ≡ true
named PointerMove = refl
named PointerDown = refl
named PointerUp = refl
named Click = refl
named KeyDown = refl
named KeyUp = refl
named Input = refl
named Change = refl
named Focus = refl
named Blur = refl
named Submit = refl
named Reset = refl

space : IsAscii (codes " ")
space = ascii_text (codes " ") refl

comma : IsAscii (codes ",")
comma = ascii_text (codes ",") refl

head_ascii : (kind : EventKind) (n : ℕ) → n < 10 ^ 64 → IsAscii (head_of kind n)
head_ascii kind n small = IsAscii-append _ _ (IsAscii-append _ _ (ascii_text (kind_name kind) (named kind)) space) (IsAscii-decimal_wide n small)

pub plain_text : (kind : EventKind) (n : ℕ) (bytes : List ℕ) → n < 10 ^ 64 → bytes ≡ kind_name kind ++ 32 ∷ decimal n → chars bytes ≡ head_of kind n
plain_text kind n bytes small is =
    let same : bytes ≡ head_of kind n = is ∙ sym (append_assoc (kind_name kind) (codes " ") (decimal n)) in
    ap chars same ∙ chars-IsAscii (head_of kind n) (head_ascii kind n small)

-- the head, a space and more
pub spaced_text : (kind : EventKind) (n : ℕ) (bytes rest : List ℕ) → n < 10 ^ 64 → bytes ≡ kind_name kind ++ 32 ∷ (decimal n ++ 32 ∷ rest) → chars bytes ≡ head_of kind n ++ codes " " ++ chars rest
spaced_text kind n bytes rest small is =
    let head = head_of kind n ++ codes " " in
    let ascii : IsAscii head = IsAscii-append _ _ (head_ascii kind n small) space in
    let same : bytes ≡ head ++ rest =
    is ∙ sym (append_assoc (kind_name kind) (codes " ") (decimal n ++ 32 ∷ rest))
    ∙ sym (append_assoc (kind_name kind ++ codes " ") (decimal n) (32 ∷ rest))
    ∙ sym (append_assoc (head_of kind n) (codes " ") rest) in
    ap chars same ∙ chars-append head rest (IsUtf8-from_ascii head ascii) ∙ ap (λ t. t ++ chars rest) (chars-IsAscii head ascii)

pub number_text : (n : ℕ) → n < 10 ^ 64 → chars (decimal n) ≡ decimal n
number_text n small = chars-IsAscii (decimal n) (IsAscii-decimal_wide n small)

pub place_chars : (x y : ℤ) → IsAscii (signed_decimal x) → IsAscii (signed_decimal y) → chars (signed_decimal x ++ 44 ∷ signed_decimal y) ≡ place_text x y
place_chars x y ascii_x ascii_y =
    let same : signed_decimal x ++ 44 ∷ signed_decimal y ≡ place_text x y = sym (append_assoc (signed_decimal x) (codes ",") (signed_decimal y)) in
    ap chars same ∙ chars-IsAscii (place_text x y) (IsAscii-append _ _ (IsAscii-append _ _ ascii_x comma) ascii_y)

pub named_head : (kind : EventKind) (name rest : List ℕ) → name ≡ kind_name kind → name ++ 32 ∷ rest ≡ kind_name kind ++ 32 ∷ rest
named_head kind name rest is = ap (λ (t : List ℕ). t ++ 32 ∷ rest) is
