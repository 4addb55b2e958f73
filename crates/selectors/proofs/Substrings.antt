-- A text that stands somewhere in another.
use Rattle.std.proofs.Common.{◌≡◌, ℕ, Bool, true, false, List, [], ◌∷◌, ◌++◌, length, drop, refl, ap, ◌∙◌}
use Rattle.std.specs.Prelude.{◌||◌, nat_eq}
use Rattle.std.specs.List.{starts_with}
use Rattle.std.specs.Str.Iter.{HasSubslice}
use Rattle.std.proofs.lemmas.Slice.Eq.{starts_is}
use Rattle.std.proofs.lemmas.Bool.Decides.{Decides-eqb}
use Rattle.selectors.specs.Passes.{holds}

starts : (text value : List ℕ) → starts_with nat_eq value text ≡ true → value ≡ text ++ drop (length text) value
starts text value h = (starts_is Decides-eqb value text (starts_with nat_eq value text) refl).0 h

starts_back : (text value rest : List ℕ) → value ≡ text ++ rest → starts_with nat_eq value text ≡ true
starts_back text value rest h = (starts_is Decides-eqb value text (starts_with nat_eq value text) refl).1 rest h

or_true : (b : Bool) → (b || true) ≡ true
or_true true = refl
or_true false = refl

further : (text value : List ℕ) (b : ℕ) → HasSubslice value text → HasSubslice (b ∷ value) text
further text value b found = (b ∷ found.0, found.1, ap (λ xs. b ∷ xs) found.2)

step : (text value : List ℕ) (b : ℕ) (s : Bool) → starts_with nat_eq (b ∷ value) text ≡ s → (holds text value ≡ true → HasSubslice value text) → (s || holds text value) ≡ true → HasSubslice (b ∷ value) text
step text value b true is later h = ([], drop (length text) (b ∷ value), starts text (b ∷ value) is)
step text value b false is later h = further text value b (later h)

pub holds_from : (text value : List ℕ) → holds text value ≡ true → HasSubslice value text
holds_from text [] h = ([], drop (length text) [], starts text [] h)
holds_from text (b ∷ value) h = step text value b (starts_with nat_eq (b ∷ value) text) refl (holds_from text value) h

here : (text value rest : List ℕ) → value ≡ text ++ rest → holds text value ≡ true
here text [] rest h = starts_back text [] rest h
here text (b ∷ value) rest h = ap (λ s. s || holds text value) (starts_back text (b ∷ value) rest h)

pub holds_to : (text value a b : List ℕ) → value ≡ a ++ (text ++ b) → holds text value ≡ true
holds_to text value [] b h = here text value b h
holds_to text [] (x ∷ a) b h = cc
holds_to text (y ∷ value) (x ∷ a) b h =
    let rest : value ≡ a ++ (text ++ b) = cc in
    ap (λ t. starts_with nat_eq (y ∷ value) text || t) (holds_to text value a b rest) ∙ or_true (starts_with nat_eq (y ∷ value) text)
