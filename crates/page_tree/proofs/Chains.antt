-- The chain of parents, one step at a time.
use Rattle.std.proofs.Common.{◌≡◌, ℕ, zero, suc, ◌+◌, ◌-◌, ◌<◌, ◌≤◌, true, List, [], ◌∷◌, Option, Some, None, length, eq-eqb, refl, ap, ◌∙◌, arith}
use Rattle.page_tree.specs.Places.{up_of, contains, onwards, chain}

pub chain-suc : (steps : ℕ) (ups : List (Option ℕ)) (n : ℕ) → chain (suc steps) ups n ≡ n ∷ onwards (chain steps ups) (up_of ups n)
unfolding chain
chain-suc steps ups n = refl

pub chain-zero : (ups : List (Option ℕ)) (n : ℕ) → chain 0 ups n ≡ n ∷ []
unfolding chain
chain-zero ups n = refl

one_less : (left i : ℕ) → i < left → left - i ≡ suc (left - (i + 1))
one_less left i h = omega arith

-- one step up
pub chain_up : (left i : ℕ) (ups : List (Option ℕ)) (n p : ℕ) → i < left → up_of ups n ≡ Some p → chain (left - i) ups n ≡ n ∷ chain (left - (i + 1)) ups p
chain_up left i ups n p within up = ap (λ s. chain s ups n) (one_less left i within) ∙ chain-suc (left - (i + 1)) ups n ∙ ap (λ o. n ∷ onwards (chain (left - (i + 1)) ups) o) up

-- the top of a tree
pub chain_top : (left i : ℕ) (ups : List (Option ℕ)) (n : ℕ) → i < left → up_of ups n ≡ None → chain (left - i) ups n ≡ n ∷ []
chain_top left i ups n within up = ap (λ s. chain s ups n) (one_less left i within) ∙ chain-suc (left - (i + 1)) ups n ∙ ap (λ o. n ∷ onwards (chain (left - (i + 1)) ups) o) up

pub chain_end : (left i : ℕ) (ups : List (Option ℕ)) (n : ℕ) → left ≤ i → chain (left - i) ups n ≡ n ∷ []
chain_end left i ups n past = let e : left - i ≡ 0 = omega arith in ap (λ s. chain s ups n) e ∙ chain-zero ups n

-- the node itself is in its chain
pub contains_first : (left : ℕ) (ups : List (Option ℕ)) (n m : ℕ) → n ≡ m → contains m (chain left ups n) ≡ true
unfolding chain
contains_first zero ups n m same = grind (arith, eq-eqb n m same)
contains_first (suc left) ups n m same = grind (arith, eq-eqb n m same)

pub chain_some : (left i : ℕ) (ups : List (Option ℕ)) (n : ℕ) → 0 < length (chain (left - i) ups n)
chain_some left i ups n = some (left - i)
  where
    some : (steps : ℕ) → 0 < length (chain steps ups n)
    some zero = omega (arith, ap length (chain-zero ups n))
    some (suc steps) = omega (arith, ap length (chain-suc steps ups n))

-- for `grind`
pub ruleset chain_steps = (chain_up, chain_top, chain_end, contains_first, chain_some)
