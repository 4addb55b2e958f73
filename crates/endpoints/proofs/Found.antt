-- What a router of the table answers for a path.
use Rattle.std.proofs.Common.{◌≡◌, ℕ, suc, ◌<◌, List, [], ◌∷◌, length, get_or, Option, Some, None, Bool, true, false, refl, sym, ap, ◌∙◌, arith, not, ◌&&◌, ◌||◌}
use Rattle.std.proofs.lemmas.Bool.{and_parts, false≢true}
use Rattle.std.specs.List.{list_all, list_any}
use Rattle.std.specs.Cmp.Lexicographic.{bytes_decides}
use Rattle.matchit.specs.Level.{IsText}
use Rattle.matchit.specs.Router.{RouteOf}
use Rattle.matchit.specs.Seek.{seek}
use Rattle.endpoints.specs.declared.command.Command.{Command}
use Rattle.endpoints.specs.Table.{row_of}
use Rattle.endpoints.specs.Path.{segments, same_text, fits}
use Rattle.endpoints.specs.Route.{pattern, FitsPath}
use Rattle.endpoints.specs.Routes.{scan_of, table_rows}
use Rattle.endpoints.proofs.Walk.{takes, any, Says, search-says}
use Rattle.endpoints.proofs.Rows.{takes-pattern, is_own, has_row, IsTable}
use Rattle.endpoints.proofs.Names.{law}

-- the path fits the command's pattern, and the command has the method
abbrev is_asked : List ℕ → List ℕ → Command → Bool
is_asked method path c = fits (pattern c) (segments path) && same_text (row_of c).method method

-- no row that takes the path is of another command
none-other : (method path : List ℕ) (rs : List (List ℕ × RouteOf Command)) → list_all (is_own method) rs ≡ true
    → any (λ k. not (is_asked method path k.value)) rs path ≡ false
none-other method path [] h = refl
none-other method path ((t, k) ∷ rs) h =
    let w = and_parts (is_own method (t, k)) (list_all (is_own method) rs) h in
    let o = and_parts (same_text t (scan_of k.value).pattern) _ w.0 in
    let e : takes t path ≡ fits (pattern k.value) (segments path) =
    ap (λ u. takes u path) ((bytes_decides t (scan_of k.value).pattern).0 o.0) ∙ takes-pattern k.value path in
    rw (e, o.1, none-other method path rs w.1) (by (fits (pattern k.value) (segments path)))
  where
    by : (v : Bool) → ((v && not (v && true)) || false) ≡ false
    by true = refl
    by false = refl

-- where no row takes the path, none with these tokens does
none-takes : (t path : List ℕ) (rs : List (List ℕ × RouteOf Command)) → any (λ k. true) rs path ≡ false → list_any (λ r. same_text r.0 t) rs ≡ true
    → takes t path ≡ false
none-takes t path [] h l = cc
none-takes t path ((u, k) ∷ rs) h l = by (same_text u t) refl (takes u path) refl h l (none-takes t path rs)
  where
    by : (v : Bool) → same_text u t ≡ v → (w : Bool) → takes u path ≡ w → ((w && true) || any (λ k. true) rs path) ≡ false
        → (v || list_any (λ r. same_text r.0 t) rs) ≡ true
        → (any (λ k. true) rs path ≡ false → list_any (λ r. same_text r.0 t) rs ≡ true → takes t path ≡ false) → takes t path ≡ false
    by v e true f h l ih = cc
    by true e false f h l ih = ap (λ x. takes x path) (sym ((bytes_decides u t).0 e)) ∙ f
    by false e false f h l ih = ih h l

text_of : (p : List ℕ) → ((i : ℕ) → i < length p → get_or p i 0 < 256) → IsText p
text_of [] h = tt
text_of (b ∷ p) h = (h 0 (omega arith), text_of p (λ i l. h (suc i) (omega arith)))

-- what is found is a command that is asked for, and where nothing is found, none is
abbrev Answers : List ℕ → List ℕ → Option (RouteOf Command) → Type 0
Answers method path None = (c : Command) → (row_of c).method ≡ method → FitsPath c (segments path) → ⊥
Answers method path (Some k) = FitsPath k.value (segments path) × ((row_of k.value).method ≡ method)

pub answers : (method path : List ℕ) → IsTable method → ((i : ℕ) → i < length path → get_or path i 0 < 256) → (o : Option (RouteOf Command))
    → seek 0 (table_rows method) path ≡ o → Answers method path o
answers method path table small o e = by o (rw e at (search-says (length path) path (table_rows method) (omega arith) (text_of path small) table.whole))
  where
    by : (o : Option (RouteOf Command)) → Says (λ q. any q (table_rows method) path) o → Answers method path o
    by (Some k) says = on (is_asked method path k.value) refl
      where
        on : (v : Bool) → is_asked method path k.value ≡ v → FitsPath k.value (segments path) × ((row_of k.value).method ≡ method)
        on true f = let w = and_parts (fits (pattern k.value) (segments path)) _ f in (w.0, (bytes_decides _ _).0 w.1)
        on false f =
            absurd (false≢true (sym (none-other method path (table_rows method) table.own) ∙ says (λ k. not (is_asked method path k.value)) (ap not f)))
    by None says = λ c m f.
        let t : same_text (row_of c).method method ≡ true = (bytes_decides _ _).1 m in
        let r : list_any (λ r. same_text r.0 (scan_of c).pattern) (table_rows method) ≡ true = rw t at (law (has_row method) table.rows c) in
        false≢true (sym (none-takes (scan_of c).pattern path (table_rows method) (says (λ k. true)) r) ∙ takes-pattern c path ∙ f)
