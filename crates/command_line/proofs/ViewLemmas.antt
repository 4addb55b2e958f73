-- What a word looks like, to the rule on words and to clap.
use Rattle.std.proofs.Common.{◌≡◌, ◌++◌, ◌∙◌, ◌==◌, ℕ, zero, suc, List, [], ◌∷◌, Bool, true, false, Option, Some, None, refl, ap, ap₂, arith}
use Rattle.std.proofs.lemmas.Bool.Decides.{nat_tests}
use Rattle.std.specs.Str.{bytes_eq}
use Rattle.clap.specs.Lexer.{long_of, name_and_value, short_of}
use Rattle.clap.proofs.CutLemmas.{Lacks}
use Rattle.clap.proofs.LexerLemmas.{name_and_value-at, name_and_value-without}
use Rattle.command_line.specs.Words.{dashes, is_value}
use Rattle.command_line.specs.Reading.{Named, Plain, look, look_behind, parted}
use Rattle.command_line.proofs.LookLemmas.{look-value, none_behind, some_behind}
use Rattle.command_line.proofs.Parts.{has_equals, head_of, joined, parted-joined}

pub data View (word : List ℕ) : Type 0 where
  dashes_alone : word ≡ dashes → View word
  named : (name : List ℕ) (value : Option (List ℕ)) → look word ≡ Named name value → long_of word ≡ Some (name, value)
      → bytes_eq word dashes ≡ false → is_value word ≡ false → has_equals name ≡ false → View word
  letters : (first : ℕ) (more : List ℕ) → word ≡ 45 ∷ first ∷ more → look word ≡ Plain → long_of word ≡ None → short_of word ≡ Some (first ∷ more)
      → bytes_eq word dashes ≡ false → is_value word ≡ false → View word
  empty : word ≡ [] → View word
  plain : look word ≡ Plain → long_of word ≡ None → short_of word ≡ None → bytes_eq word dashes ≡ false → is_value word ≡ true → View word

-- ---- how clap parts a text at its first `=`

lacks : (xs : List ℕ) → has_equals xs ≡ false → Lacks 61 xs
lacks [] h i lt = absurd (omega arith)
lacks (x ∷ xs) h zero lt = let differs = (head_of (x == 61) (has_equals xs) h).0 in grind (arith, nat_tests, differs)
lacks (x ∷ xs) h (suc i) lt = lacks xs (head_of (x == 61) (has_equals xs) h).1 i (omega arith)

pub name_has_none : (xs : List ℕ) → has_equals (parted xs).0 ≡ false
name_has_none [] = refl
name_has_none (x ∷ xs) = go (name_has_none xs) (x == 61) refl
  where
    go : has_equals (parted xs).0 ≡ false → (b : Bool) → (x == 61) ≡ b → has_equals (parted (x ∷ xs)).0 ≡ false
    go further true e = rw e refl
    go further false e = rw (e, e) further

as_joined : (name : List ℕ) (value : Option (List ℕ)) → has_equals name ≡ false → name_and_value (joined name value) ≡ (name, value)
as_joined name None h = name_and_value-without name (lacks name h)
as_joined name (Some value) h = name_and_value-at name value (lacks name h)

parted_so : (xs : List ℕ) → name_and_value xs ≡ ((parted xs).0, (parted xs).1)
parted_so xs = ap name_and_value (parted-joined xs) ∙ as_joined (parted xs).0 (parted xs).1 (name_has_none xs)

-- ---- each word has a view

is_dash : (x : ℕ) → (x == 45) ≡ true → x ≡ 45
is_dash x e = grind (arith, nat_tests)

view_one : (x : ℕ) (b : Bool) → (x == 45) ≡ b → View (x ∷ [])
view_one x true e = plain (look-value (x ∷ []) refl) (rw e refl) (rw e refl) (rw e refl) refl
view_one x false e = plain (look-value (x ∷ []) refl) (rw e refl) (rw e refl) (rw e refl) refl

other_look : (x y : ℕ) (more : List ℕ) → (y == 45) ≡ false → look (x ∷ y ∷ more) ≡ Plain
unfolding look
other_look x y more e = ap look_behind (none_behind dashes (x ∷ y ∷ more) (λ rest same. let second : y ≡ 45 = grind (arith, same) in grind (arith, nat_tests, second, e)))

dashes_look : (x y z : ℕ) (zs : List ℕ) → x ∷ y ∷ z ∷ zs ≡ dashes ++ (z ∷ zs) → look (x ∷ y ∷ z ∷ zs) ≡ Named (parted (z ∷ zs)).0 (parted (z ∷ zs)).1
unfolding look
dashes_look x y z zs e = ap look_behind (some_behind dashes (x ∷ y ∷ z ∷ zs) (z ∷ zs) e)

view_dashes : (x y : ℕ) (more : List ℕ) → (x == 45) ≡ true → (y == 45) ≡ true → View (x ∷ y ∷ more)
view_dashes x y [] e f = dashes_alone (ap₂ (λ (a b : ℕ). a ∷ b ∷ []) (is_dash x e) (is_dash y f))
view_dashes x y (z ∷ zs) e f =
    named (parted (z ∷ zs)).0 (parted (z ∷ zs)).1 (dashes_look x y z zs (ap₂ (λ (a b : ℕ). a ∷ b ∷ z ∷ zs) (is_dash x e) (is_dash y f)))
    (rw (e, f) (ap (λ (p : List ℕ × Option (List ℕ)). Some p) (parted_so (z ∷ zs)))) (rw (e, f) refl) (rw e refl) (name_has_none (z ∷ zs))

view_more : (x y : ℕ) (more : List ℕ) (b c : Bool) → (x == 45) ≡ b → (y == 45) ≡ c → View (x ∷ y ∷ more)
view_more x y more false c e f = plain (look-value (x ∷ y ∷ more) (rw e refl)) (rw e refl) (rw e refl) (rw e refl) (rw e refl)
view_more x y more true true e f = view_dashes x y more e f
view_more x y more true false e f =
    letters y more (ap (λ (a : ℕ). a ∷ y ∷ more) (is_dash x e)) (other_look x y more f) (rw (e, f) refl) (rw (e, f) refl) (rw (e, f) refl) (rw e refl)

pub view : (word : List ℕ) → View word
view [] = empty refl
view (x ∷ []) = view_one x (x == 45) refl
view (x ∷ y ∷ more) = view_more x y more (x == 45) (y == 45) refl refl
