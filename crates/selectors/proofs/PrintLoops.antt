-- A loop that prints items: a step.
use Rattle.std.proofs.Common.{◌≡◌, ◌∙◌, ℕ, suc, ◌+◌, ◌<◌, Bool, true, List, ◌∷◌, ◌++◌, append_assoc, length, drop, get_or, sym, ap, add-one, drop-cons}
use Rattle.std.specs.List.{flat_map, list_all}
use Rattle.std.proofs.lemmas.Bool.{and_parts}

-- the first of what is left, and the others
left_is : {A : Type 0} (items : List A) (i : ℕ) (x : A) → i < length items → x ≡ get_or items i x → drop i items ≡ x ∷ drop (i + 1) items
left_is items i x h e = rw add-one (drop-cons items i x h ∙ ap (λ y. y ∷ drop (suc i) items) (sym e))

pub printed_more : {A : Type 0} (f : A → List ℕ) (old new whole : List ℕ) (items : List A) (i : ℕ) (x : A) → i < length items → x ≡ get_or items i x
    → new ≡ old ++ f x → old ++ flat_map f (drop i items) ≡ whole → new ++ flat_map f (drop (i + 1) items) ≡ whole
printed_more f old new whole items i x h e n w =
    ap (λ t. t ++ flat_map f (drop (i + 1) items)) n ∙ append_assoc old (f x) (flat_map f (drop (i + 1) items)) ∙ ap (λ t. old ++ flat_map f t) (sym (left_is items i x h e)) ∙ w

pub good_now : {A : Type 0} (good : A → Bool) (items : List A) (i : ℕ) (x : A) → i < length items → x ≡ get_or items i x → list_all good (drop i items) ≡ true → good x ≡ true
good_now good items i x h e g = (and_parts (good x) (list_all good (drop (i + 1) items)) (sym (ap (list_all good) (left_is items i x h e)) ∙ g)).0

pub good_more : {A : Type 0} (good : A → Bool) (items : List A) (i : ℕ) (x : A) → i < length items → x ≡ get_or items i x → list_all good (drop i items) ≡ true → list_all good (drop (i + 1) items) ≡ true
good_more good items i x h e g = (and_parts (good x) (list_all good (drop (i + 1) items)) (sym (ap (list_all good) (left_is items i x h e)) ∙ g)).1

-- three texts added one behind another
pub three_added : (old a b c one two new : List ℕ) → one ≡ old ++ a → two ≡ one ++ b → new ≡ two ++ c → new ≡ old ++ (a ++ b ++ c)
three_added old a b c one two new e f g = g ∙ ap (λ t. t ++ c) (f ∙ ap (λ t. t ++ b) e) ∙ append_assoc (old ++ a) b c ∙ append_assoc old a (b ++ c) ∙ ap (λ t. old ++ t) (sym (append_assoc a b c))
