-- Options that stand once, and their values.
use Rattle.std.proofs.Common.{◌≡◌, ◌≢◌, ◌++◌, ℕ, List, [], ◌∷◌, Bool, true, false, is_some, refl, sym}
use Rattle.std.proofs.lemmas.Slice.Eq.{bytes_eq-Decides}
use Rattle.std.specs.Str.{bytes_eq}
use Rattle.command_line.specs.Given.{value_in}
use Rattle.command_line.specs.Words.{HaveNo, StandOnce}

abbrev pub Values : Type 0
Values = List (List ℕ × List ℕ)

pub no_value : (name : List ℕ) (vs : Values) → is_some (value_in name vs) ≡ false → HaveNo name vs
no_value name [] e = tt
no_value name (p ∷ ps) e = go (no_value name ps) (bytes_eq p.0 name) refl e
  where
    go : (is_some (value_in name ps) ≡ false → HaveNo name ps) → (b : Bool) → bytes_eq p.0 name ≡ b → is_some (value_in name (p ∷ ps)) ≡ false → HaveNo name (p ∷ ps)
    go further true t h = let bad : true ≡ false = (rw (t) at h) in absurd (cc (bad))
    go further false t h =
        let rest : is_some (value_in name ps) ≡ false = (rw (t) at h) in
        ((λ same. let yes = (bytes_eq-Decides p.0 name).1 same in absurd (cc (yes, t))), further rest)

pub no_value_from : (name : List ℕ) (vs : Values) → HaveNo name vs → is_some (value_in name vs) ≡ false
no_value_from name [] h = refl
no_value_from name (p ∷ ps) h = go (no_value_from name ps h.1) (bytes_eq p.0 name) refl
  where
    go : is_some (value_in name ps) ≡ false → (b : Bool) → bytes_eq p.0 name ≡ b → is_some (value_in name (p ∷ ps)) ≡ false
    go further true t = absurd (h.0 ((bytes_eq-Decides p.0 name).0 t))
    go further false t = rw t further

have_no-append : (name : List ℕ) (xs ys : Values) → HaveNo name xs → HaveNo name ys → HaveNo name (xs ++ ys)
have_no-append name [] ys h k = k
have_no-append name (x ∷ xs) ys h k = (h.0, have_no-append name xs ys h.1 k)

have_no-middle : (name other value : List ℕ) (xs ys : Values) → HaveNo name (xs ++ (other, value) ∷ ys) → other ≢ name
have_no-middle name other value [] ys h = h.0
have_no-middle name other value (x ∷ xs) ys h = have_no-middle name other value xs ys h.1

pub once_more : (name value : List ℕ) (vs : Values) → StandOnce vs → HaveNo name vs → StandOnce (vs ++ (name, value) ∷ [])
once_more name value [] h k = (tt, tt)
once_more name value (p ∷ ps) h k =
    (have_no-append p.0 ps ((name, value) ∷ []) h.0 ((λ same. k.0 (sym same)), tt), once_more name value ps h.1 k.1)

pub none_before : (name value : List ℕ) (xs ys : Values) → StandOnce (xs ++ (name, value) ∷ ys) → HaveNo name xs
none_before name value [] ys h = tt
none_before name value (p ∷ ps) ys h =
    ((λ same. have_no-middle p.0 name value ps ys h.0 (sym same)), none_before name value ps ys h.1)
