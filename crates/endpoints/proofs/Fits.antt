-- Tokens take a path just where their segments take the path's.
use Rattle.std.proofs.Common.{◌≡◌, ℕ, List, [], ◌∷◌, Bool, true, false, cond, refl, sym, ap, ◌∙◌, arith, ◌==◌, ltb, ◌&&◌, not, map}
use Rattle.std.proofs.lemmas.Bool.{and_parts}
use Rattle.std.proofs.lemmas.Bool.Decides.{nat_tests}
use Rattle.std.proofs.Math.Bool.{and_assoc}
use Rattle.std.specs.List.{onto_first, list_all}
use Rattle.endpoints.specs.Path.{segments, same_text, is_variable, fits_segment, fits}
use Rattle.endpoints.proofs.Walk.{takes, rest_of, is_whole, slash_next}

-- a segment of tokens takes a segment of a path
abbrev part_takes : List ℕ → List ℕ → Bool
part_takes [] [] = true
part_takes [] (b ∷ p) = false
part_takes (x ∷ t) [] = false
part_takes (x ∷ t) (b ∷ p) = cond (x == 256) true ((x == b) && part_takes t p)

-- as many segments, and each takes its one
abbrev pub parts_take : List (List ℕ) → List (List ℕ) → Bool
parts_take [] [] = true
parts_take [] (s ∷ ss) = false
parts_take (t ∷ ts) [] = false
parts_take (t ∷ ts) (s ∷ ss) = part_takes t s && parts_take ts ss

-- the first segment of a path, and the others
record Parted (p : List ℕ) : Type 0 where
  head : List ℕ
  tail : List (List ℕ)
  is : segments p ≡ head ∷ tail
  rest : segments (rest_of p) ≡ [] ∷ tail
  clear : slash_next p ≡ true → head ≡ []

parted : (p : List ℕ) → Parted p
parted [] = record { head = []; tail = []; is = refl; rest = refl; clear = λ e. refl }
parted (b ∷ p) = by (b == 47) refl (parted p)
  where
    by : (v : Bool) → (b == 47) ≡ v → Parted p → Parted (b ∷ p)
    by true e r = record { head = []; tail = segments p; is = rw e refl; rest = rw (e, e) refl; clear = λ f. refl }
    by false e r = record { head = b ∷ r.head; tail = r.tail; is = rw (e, r.is) refl; rest = rw e r.rest; clear = λ f. cc }

pub takes-parts : (t p : List ℕ) → is_whole t ≡ true → takes t p ≡ parts_take (segments t) (segments p)
takes-parts [] [] h = refl
takes-parts [] (b ∷ p) h = by (b == 47) (parted p)
  where
    by : (w : Bool) → Parted p → false ≡ parts_take ([] ∷ []) (cond w ([] ∷ segments p) (onto_first b (segments p)))
    by true r = rw r.is refl
    by false r = rw r.is refl
takes-parts (x ∷ t) [] h = by (x == 47) (parted t)
  where
    by : (v : Bool) → Parted t → false ≡ parts_take (cond v ([] ∷ segments t) (onto_first x (segments t))) ([] ∷ [])
    by true r = rw r.is refl
    by false r = rw r.is refl
takes-parts (x ∷ t) (b ∷ p) h =
    let w = and_parts (cond (x == 256) (slash_next t) (ltb x 256)) (is_whole t) h in
    by (x == 256) (x == 47) (b == 47) refl refl refl w.0 (parted t) (parted p) (λ p. takes-parts t p w.1)
  where
    by : (u v w : Bool) → (x == 256) ≡ u → (x == 47) ≡ v → (b == 47) ≡ w → cond u (slash_next t) (ltb x 256) ≡ true → Parted t → Parted p
        → ((p : List ℕ) → takes t p ≡ parts_take (segments t) (segments p))
        → cond u (not w && takes t (rest_of p)) ((x == b) && takes t p) ≡ parts_take (cond v ([] ∷ segments t) (onto_first x (segments t))) (cond w ([] ∷ segments p) (onto_first b (segments p)))
    by true true w e f g n r s ih = absurd (grind (arith, nat_tests))
    by true false true e f g n r s ih = rw r.is refl
    by true false false e f g n r s ih = rw (r.is, s.is, e) (ih (rest_of p) ∙ rw (r.is, s.rest, r.clear n) refl)
    by false true true e f g n r s ih = let m : (x == b) ≡ true = grind (arith, nat_tests) in rw m (ih p)
    by false true false e f g n r s ih = let m : (x == b) ≡ false = grind (arith, nat_tests) in rw (m, s.is) refl
    by false false true e f g n r s ih = let m : (x == b) ≡ false = grind (arith, nat_tests) in rw (m, r.is) refl
    by false false false e f g n r s ih = rw (ih p, r.is, s.is, e) (sym (and_assoc (x == b) (part_takes r.head s.head) (parts_take r.tail s.tail)))

-- a segment of a pattern as tokens
abbrev pub part_tokens : List ℕ → List ℕ
part_tokens part = cond (is_variable part) (256 ∷ []) part

-- no byte of a literal is taken for a parameter
abbrev pub is_literal : List ℕ → Bool
is_literal part = list_all (λ x. not (x == 256)) part

literal-takes : (part s : List ℕ) → is_literal part ≡ true → part_takes part s ≡ same_text part s
literal-takes [] [] h = refl
literal-takes [] (b ∷ s) h = refl
literal-takes (x ∷ part) [] h = refl
literal-takes (x ∷ part) (b ∷ s) h = by (x == 256) h (literal-takes part s)
  where
    by : (v : Bool) → (not v && is_literal part) ≡ true → (is_literal part ≡ true → part_takes part s ≡ same_text part s)
        → cond v true ((x == b) && part_takes part s) ≡ ((x == b) && same_text part s)
    by true h ih = cc
    by false h ih = ap (λ w. (x == b) && w) (ih h)

part-takes : (v : Bool) (part s : List ℕ) → is_literal part ≡ true → part_takes (cond v (256 ∷ []) part) s ≡ fits_segment v part s
part-takes true part [] h = refl
part-takes true part (b ∷ s) h = refl
part-takes false part s h = literal-takes part s h

pub parts-fit : (ps ss : List (List ℕ)) → list_all is_literal ps ≡ true → parts_take (map part_tokens ps) ss ≡ fits ps ss
parts-fit [] [] h = refl
parts-fit [] (s ∷ ss) h = refl
parts-fit (p ∷ ps) [] h = refl
parts-fit (p ∷ ps) (s ∷ ss) h =
    let w = and_parts (is_literal p) (list_all is_literal ps) h in
    rw (part-takes (is_variable p) p s w.0, parts-fit ps ss w.1) refl
