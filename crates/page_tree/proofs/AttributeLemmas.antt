-- The attribute with a name, by the place where it stands.
use Rattle.std.proofs.Common.{◌≡◌, ℕ, zero, suc, ◌<◌, ◌≤◌, Bool, true, false, cond, List, [], ◌∷◌, ◌++◌, Some, None, length, set, get_or, refl, sym, ap, arith}
use Rattle.std.specs.Prelude.{position, nat_lt}
use Rattle.std.specs.List.{position_or_len}
use Rattle.std.proofs.lemmas.List.Quantifiers.{position-Some}
use Rattle.std.proofs.lemmas.List.Sums.{fails_before_first}
use Rattle.page_tree.specs.Attributes.{Attributes, has_name, value_of, with_value}

-- the first attribute with the name is the one at place i
pub record IsFirst (name : List ℕ) (attributes : Attributes) (i : ℕ) (d : List ℕ × List ℕ) : Type 0 where
  pub within : i < length attributes
  pub here : has_name name (get_or attributes i d) ≡ true
  pub before : (k : ℕ) → k < i → has_name name (get_or attributes k d) ≡ false

rest_first : (name : List ℕ) (e : List ℕ × List ℕ) (es : Attributes) (i : ℕ) (d : List ℕ × List ℕ) → IsFirst name (e ∷ es) (suc i) d → IsFirst name es i d
rest_first name e es i d first = record { within = omega (arith, first.within); here = first.here; before = λ k below. first.before (suc k) (omega arith) }

pub value_at : (name : List ℕ) (es : Attributes) (i : ℕ) (d : List ℕ × List ℕ) → IsFirst name es i d → value_of name es ≡ Some (get_or es i d).1
value_at name [] i d first = absurd (omega (arith, first.within))
value_at name (e ∷ es) zero d first = rw first.here refl
value_at name (e ∷ es) (suc i) d first = rw (first.before 0 (omega arith)) (value_at name es i d (rest_first name e es i d first))

pub with_value_at : (name value : List ℕ) (es : Attributes) (i : ℕ) (d : List ℕ × List ℕ) → IsFirst name es i d → set es i ((get_or es i d).0, value) ≡ with_value name value es
with_value_at name value [] i d first = absurd (omega (arith, first.within))
with_value_at name value (e ∷ es) zero d first = rw first.here refl
with_value_at name value (e ∷ es) (suc i) d first = rw (first.before 0 (omega arith)) (ap (λ rest. e ∷ rest) (with_value_at name value es i d (rest_first name e es i d first)))

at_first : (name : List ℕ) (es : Attributes) (i : ℕ) (d : List ℕ × List ℕ) → (i < length es) × (has_name name (get_or es i d) ≡ true) × ((k : ℕ) → k < i → has_name name (get_or es k d) ≡ false) → IsFirst name es i d
at_first name es i d parts = record { within = parts.0; here = parts.1; before = parts.2 }

pub first_from_position : (name : List ℕ) (es : Attributes) (i : ℕ) (d : List ℕ × List ℕ) → Some i ≡ position (has_name name) es → IsFirst name es i d
first_from_position name es i d found = at_first name es i d (position-Some (has_name name) es i d (sym found))

not_within : (b : Bool) (i : ℕ) → None ≡ cond b (Some i) None → b ≡ false
not_within true i h = cc
not_within false i h = refl

pub none_from_position : (name : List ℕ) (es : Attributes) → None ≡ position (has_name name) es → (k : ℕ) (d : List ℕ × List ℕ) → k < length es → has_name name (get_or es k d) ≡ false
none_from_position name es absent k d within =
    let past : nat_lt (position_or_len (has_name name) es) (length es) ≡ false = not_within (nat_lt (position_or_len (has_name name) es) (length es)) (position_or_len (has_name name) es) absent in
    let far : length es ≤ position_or_len (has_name name) es = grind (arith, past) in
    fails_before_first (has_name name) es k d (omega arith)

pub value_none : (name : List ℕ) (es : Attributes) → ((k : ℕ) (d : List ℕ × List ℕ) → k < length es → has_name name (get_or es k d) ≡ false) → value_of name es ≡ None
value_none name [] none = refl
value_none name (e ∷ es) none = rw (none 0 e (omega arith)) (value_none name es (λ k d within. none (suc k) d (omega arith)))

pub with_value_none : (name value : List ℕ) (es : Attributes) → ((k : ℕ) (d : List ℕ × List ℕ) → k < length es → has_name name (get_or es k d) ≡ false) → es ++ (name, value) ∷ [] ≡ with_value name value es
with_value_none name value [] none = refl
with_value_none name value (e ∷ es) none = rw (none 0 e (omega arith)) (ap (λ rest. e ∷ rest) (with_value_none name value es (λ k d within. none (suc k) d (omega arith))))
