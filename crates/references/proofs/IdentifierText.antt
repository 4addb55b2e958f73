-- The identifier is found again from its text.
use Rattle.std.proofs.Common.{◌≡◌, inl, ℕ, ◌+◌, ◌*◌, ◌^◌, ◌%◌, ◌<◌, List, Option, unwrap_or, [], refl, sym, ap, ◌∙◌, arith}
use Rattle.std.specs.List.{All}
use Rattle.std.specs.Int.{to_be_bytes, from_be_bytes, w128}
use Rattle.std.proofs.lemmas.List.Elements.{All-from_recursion}
use Rattle.uuid.specs.Text.{lower, parsed}
use Rattle.uuid.proofs.RoundTrips.{parses_hyphenated}
use Rattle.uuid.proofs.OrderLemmas.{from_be_bytes-to_be_bytes_16}
use Rattle.references.specs.declared.kind.Kind.{Kind}
use Rattle.references.specs.declared.kind.Kind.TheVariants.{Session, Window, Element, Shadow}
use Rattle.references.specs.Identifier.{Identifier, kind_number, high_of, low_of, bytes_of, text_of, IsInRange}

small : (x : ℕ) → x % 256 < 256
small x = omega arith

bytes_small : (n : ℕ) → All (λ b. b < 256) (to_be_bytes w128 n)
bytes_small n = All-from_recursion (λ b. b < 256) (to_be_bytes w128 n)
    (small _, (small _, (small _, (small _, (small _, (small _, (small _, (small _, (small _, (small _, (small _, (small _, (small _, (small _, (small _, (small _, tt))))))))))))))))

kind_small : (k : Kind) → kind_number k < 4
kind_small Session = omega arith
kind_small Window = omega arith
kind_small Element = omega arith
kind_small Shadow = omega arith

pub kind_same : (a b : Kind) → kind_number a ≡ kind_number b → a ≡ b
kind_same a b e = grind arith

parts : (h l g m : ℕ) → l < 2 ^ 64 → m < 2 ^ 64 → h * 2 ^ 64 + l ≡ g * 2 ^ 64 + m → (h ≡ g) × (l ≡ m)
parts h l g m p q e = (omega arith, omega arith)

fits : (id : Identifier) → IsInRange id → (high_of id < 2 ^ 64) × (low_of id < 2 ^ 64)
fits id r = let k = kind_small id.kind in (omega arith, omega arith)

same_number : (a b : Identifier) → IsInRange a → IsInRange b → text_of a ≡ text_of b → high_of a * 2 ^ 64 + low_of a ≡ high_of b * 2 ^ 64 + low_of b
unfolding text_of bytes_of
same_number a b ra rb e =
    let n = high_of a * 2 ^ 64 + low_of a in
    let m = high_of b * 2 ^ 64 + low_of b in
    let pa = parses_hyphenated lower (to_be_bytes w128 n) (inl refl) refl (bytes_small n) in
    let pb = parses_hyphenated lower (to_be_bytes w128 m) (inl refl) refl (bytes_small m) in
    let s : to_be_bytes w128 n ≡ to_be_bytes w128 m = ap (λ (o : Option (List ℕ)). unwrap_or o []) (pa ∙ ap parsed e ∙ sym pb) in
    let fa = fits a ra in
    let fb = fits b rb in
    sym (from_be_bytes-to_be_bytes_16 n (omega arith)) ∙ ap (from_be_bytes w128) s ∙ from_be_bytes-to_be_bytes_16 m (omega arith)

pub same_id : (a b : Identifier) → IsInRange a → IsInRange b → text_of a ≡ text_of b → a ≡ b
same_id a b ra rb e =
    let fa = fits a ra in
    let fb = fits b rb in
    let s = parts (high_of a) (low_of a) (high_of b) (low_of b) fa.1 fb.1 (same_number a b ra rb e) in
    let ka = kind_small a.kind in
    let kb = kind_small b.kind in
    let run : a.run ≡ b.run = omega (arith, s.0) in
    let k : kind_number a.kind ≡ kind_number b.kind = omega (arith, s.0) in
    let session : a.session ≡ b.session = omega (arith, s.1) in
    let serial : a.serial ≡ b.serial = omega (arith, s.1) in
    let kind = kind_same a.kind b.kind k in
    made a.run b.run a.kind b.kind a.session b.session a.serial b.serial run kind session serial
  where
    made : (r q : ℕ) (k j : Kind) (s t n m : ℕ) → r ≡ q → k ≡ j → s ≡ t → n ≡ m → ◌≡◌ {A = Identifier} (record { run = r; kind = k; session = s; serial = n }) (record { run = q; kind = j; session = t; serial = m })
    made r q k j s t n m a b c d = rw (a, b, c, d) refl
