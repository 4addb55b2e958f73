-- What words of each form look like.
use Rattle.std.proofs.Common.{◌≡◌, ◌≢◌, ◌++◌, ◌∙◌, ◌&&◌, ℕ, List, [], ◌∷◌, Bool, true, false, not, Option, Some, None, length, take, drop, refl, sym, ap, if◌then◌else◌, arith}
use Rattle.std.proofs.lemmas.Slice.Eq.{bytes_eq-Decides}
use Rattle.std.proofs.lemmas.List.{take-append-drop}
use Rattle.std.proofs.lemmas.Bool.Decides.{nat_tests}
use Rattle.std.proofs.Math.Seq.{take-append_seam, drop-append_seam}
use Rattle.std.specs.Str.{bytes_eq}
use Rattle.command_line.specs.Words.{dashes, is_empty, is_name, is_value}
use Rattle.command_line.specs.Reading.{Look, Dashes, Named, Plain, behind, look, look_behind}
use Rattle.command_line.proofs.Parts.{has_equals, joined, parted-at, parted-without, parted-joined}

-- by the answer of the test
by_test : (b : Bool) (one other : Option (List ℕ)) → b ≡ true → (if b then one else other) ≡ one
by_test true one other e = refl
by_test false one other e = absurd (cc (e))

by_no : (b : Bool) (one other : Option (List ℕ)) → (b ≡ true → ⊥) → (if b then one else other) ≡ other
by_no true one other e = absurd (e refl)
by_no false one other e = refl

-- ---- letters at the front of a word

pub some_behind : (letters word rest : List ℕ) → word ≡ letters ++ rest → behind letters word ≡ Some rest
unfolding behind
some_behind letters word rest e =
    let front : take (length letters) word ≡ letters = ap (take (length letters)) e ∙ take-append_seam letters rest in
    let back : drop (length letters) word ≡ rest = ap (drop (length letters)) e ∙ drop-append_seam letters rest in
    by_test _ (Some (drop (length letters) word)) None ((bytes_eq-Decides (take (length letters) word) letters).1 front) ∙ ap Some back

pub none_behind : (letters word : List ℕ) → ((rest : List ℕ) → word ≢ letters ++ rest) → behind letters word ≡ None
unfolding behind
none_behind letters word none =
    by_no _ (Some (drop (length letters) word)) None (λ e.
    let front = (bytes_eq-Decides (take (length letters) word) letters).0 e in
    none (drop (length letters) word) (sym (take-append-drop (length letters) word) ∙ ap (λ (l : List ℕ). l ++ drop (length letters) word) front))

behind_is : (b : Bool) (found rest : List ℕ) → (if b then Some found else None) ≡ Some rest → (b ≡ true) × (found ≡ rest)
behind_is true found rest e = (refl, grind (arith, e))
behind_is false found rest e = absurd (grind (arith, e))

front_of : (letters word rest : List ℕ) → behind letters word ≡ Some rest → word ≡ letters ++ rest
unfolding behind
front_of letters word rest e =
    let is = behind_is (bytes_eq (take (length letters) word) letters) (drop (length letters) word) rest e in
    let front = (bytes_eq-Decides (take (length letters) word) letters).0 is.0 in
    sym (take-append-drop (length letters) word) ∙ ap (λ (l : List ℕ). l ++ drop (length letters) word) front ∙ ap (λ (l : List ℕ). letters ++ l) is.1

-- ---- names

pub is_both : (a b : Bool) → (a && b) ≡ true → (a ≡ true) × (b ≡ true)
is_both true b e = (refl, e)
is_both false b e = absurd (cc (e))

pub is_not : (b : Bool) → not b ≡ true → b ≡ false
is_not true e = absurd (cc (e))
is_not false e = refl

pub name_has_none : (name : List ℕ) → is_name name ≡ true → has_equals name ≡ false
name_has_none name e = is_not (has_equals name) (is_both (not (is_empty name)) (not (has_equals name)) e).1

-- ---- what words look like

pub look-dashes : look dashes ≡ Dashes
unfolding look
look-dashes = ap look_behind (some_behind dashes dashes [] refl)

pub look-apart : (name : List ℕ) → is_name name ≡ true → look (dashes ++ name) ≡ Named name None
unfolding look
look-apart [] e = absurd (grind (arith, nat_tests, e))
look-apart (x ∷ name) e =
    ap look_behind (some_behind dashes (dashes ++ (x ∷ name)) (x ∷ name) refl)
    ∙ ap (λ (p : List ℕ × Option (List ℕ)). Named p.0 p.1) (parted-without (x ∷ name) (name_has_none (x ∷ name) e))

pub look-joined : (name value : List ℕ) → is_name name ≡ true → look (dashes ++ (name ++ 61 ∷ value)) ≡ Named name (Some value)
unfolding look
look-joined [] value e = absurd (grind (arith, nat_tests, e))
look-joined (x ∷ name) value e =
    ap look_behind (some_behind dashes (dashes ++ ((x ∷ name) ++ 61 ∷ value)) ((x ∷ name) ++ 61 ∷ value) refl)
    ∙ ap (λ (p : List ℕ × Option (List ℕ)). Named p.0 p.1) (parted-at (x ∷ name) value (name_has_none (x ∷ name) e))

value_differs : (word rest : List ℕ) → is_value word ≡ true → word ≢ dashes ++ rest
value_differs [] rest e = absurd (cc (e))
value_differs (x ∷ []) rest e = λ same. grind (arith, same)
value_differs (x ∷ y ∷ more) rest e = λ same. let first : x ≡ 45 = grind (arith, same) in grind (arith, nat_tests, first, e)

pub look-value : (word : List ℕ) → is_value word ≡ true → look word ≡ Plain
unfolding look
look-value word e = ap look_behind (none_behind dashes word (λ rest. value_differs word rest e))

-- ---- and which words look so

abbrev pub IsWordOf : Look → List ℕ → Type 0
IsWordOf Dashes word = word ≡ dashes
IsWordOf (Named name value) word = word ≡ dashes ++ joined name value
IsWordOf Plain word = Unit {0}

word_behind : (word : List ℕ) (rest : Option (List ℕ)) → behind dashes word ≡ rest → IsWordOf (look_behind rest) word
word_behind word None e = tt
word_behind word (Some []) e = front_of dashes word [] e
word_behind word (Some (x ∷ rest)) e = front_of dashes word (x ∷ rest) e ∙ ap (λ (l : List ℕ). dashes ++ l) (parted-joined (x ∷ rest))

pub look-is : (word : List ℕ) → IsWordOf (look word) word
unfolding look
look-is word = word_behind word (behind dashes word) refl
