-- The places a * n + b.
use Rattle.std.proofs.Common.{◌≡◌, ℕ, zero, suc, ◌*◌, ◌/◌, ◌%◌, true, eq-eqb, inl, inr, sym, ap, ◌∙◌, arith}
use Rattle.std.specs.Prelude.{ℤ, pos, negsuc, ◌+ℤ◌, ◌*ℤ◌, ◌-ℤ◌, ◌↔◌, IsTrue}
use Rattle.std.proofs.Math.IntN.{neg_ℤ, pos-*ℤ-pos}
use Rattle.std.proofs.Math.Nat.{mul-zero, zero-mul, mul-mod_right}
use Rattle.std.proofs.lemmas.Bool.{cases_eq}
use Rattle.std.proofs.lemmas.Int.{ints}
use Rattle.selectors.specs.Nth.{is_reached, goes, is_nth}

to_steps : (step way : ℕ) → is_reached step way ≡ true → (n : ℕ) × (way ≡ step * n)
to_steps step way h = elim (cases_eq step 0) [
  | inl none ↦ (0, let w : way ≡ 0 = grind (arith, h, none) in w ∙ sym (mul-zero step))
  | inr some ↦ (way / step, let m : way % step ≡ 0 = grind (arith, h, some) in omega (arith, m, some))
]

from_steps : (step way n : ℕ) → way ≡ step * n → is_reached step way ≡ true
from_steps step way n h = elim (cases_eq step 0) [
  | inl none ↦ let w : way ≡ 0 = h ∙ ap (λ s. s * n) none ∙ zero-mul n in grind (arith, w, none)
  | inr some ↦ let m : way % step ≡ 0 = ap (λ w. w % step) h ∙ mul-mod_right step n in grind (arith, m, some)
]

neg_back : (m way : ℕ) → negsuc way ≡ neg_ℤ (pos m) → suc way ≡ m
neg_back zero way h = cc
neg_back (suc m) way h = let e : way ≡ m = cc in ap suc e

neg_on : (m way : ℕ) → suc way ≡ m → negsuc way ≡ neg_ℤ (pos m)
neg_on zero way h = absurd (omega arith)
neg_on (suc m) way h = let e : way ≡ m = omega arith in ap negsuc e

neg_pos : (m way : ℕ) → pos way ≡ neg_ℤ (pos m) → way ≡ 0
neg_pos zero way h = cc
neg_pos (suc m) way h = cc

to_goes : (a w : ℤ) → goes a w ≡ true → (n : ℕ) × (w ≡ a *ℤ pos n)
to_goes (pos step) (pos way) h = let r : (n : ℕ) × (way ≡ step * n) = to_steps step way h in (r.0, ap pos r.1 ∙ sym (pos-*ℤ-pos step r.0))
to_goes (pos step) (negsuc way) h = cc
to_goes (negsuc step) (pos way) h = (0, let e : way ≡ 0 = grind (arith, h) in ap pos e ∙ sym (ap (λ m. neg_ℤ (pos m)) (mul-zero (suc step))))
to_goes (negsuc step) (negsuc way) h = let r : (n : ℕ) × (suc way ≡ suc step * n) = to_steps (suc step) (suc way) h in (r.0, neg_on (suc step * r.0) way r.1)

from_goes : (a w : ℤ) (n : ℕ) → w ≡ a *ℤ pos n → goes a w ≡ true
from_goes (pos step) (pos way) n h = let e : pos way ≡ pos (step * n) = h ∙ pos-*ℤ-pos step n in let f : way ≡ step * n = cc in from_steps step way n f
from_goes (pos step) (negsuc way) n h = let e : negsuc way ≡ pos (step * n) = h ∙ pos-*ℤ-pos step n in cc
from_goes (negsuc step) (pos way) n h = eq-eqb way 0 (neg_pos (suc step * n) way h)
from_goes (negsuc step) (negsuc way) n h = from_steps (suc step) (suc way) n (neg_back (suc step * n) way h)

shift : (p b y : ℤ) → (p -ℤ b) ≡ y → p ≡ y +ℤ b
shift p b y h = omega (arith, ints)

unshift : (p b y : ℤ) → p ≡ y +ℤ b → (p -ℤ b) ≡ y
unshift p b y h = omega (arith, ints)

pub nth_exact : (a b : ℤ) (place : ℕ) → IsTrue (is_nth a b place) ↔ ((n : ℕ) × (pos place ≡ (a *ℤ pos n) +ℤ b))
nth_exact a b place = (
  (λ h. let r : (n : ℕ) × ((pos place -ℤ b) ≡ a *ℤ pos n) = to_goes a (pos place -ℤ b) h in (r.0, shift (pos place) b (a *ℤ pos r.0) r.1)),
  (λ r. from_goes a (pos place -ℤ b) r.0 (unshift (pos place) b (a *ℤ pos r.0) r.1)),
)
