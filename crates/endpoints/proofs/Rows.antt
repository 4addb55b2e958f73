-- The table's laws, by computation.
use Rattle.std.proofs.Common.{◌≡◌, ℕ, List, [], ◌∷◌, Ok, Bool, true, false, ◌&&◌, ◌||◌, not, refl, sym, ◌∙◌, rules, map, codes, subst}
use Rattle.std.proofs.lemmas.Bool.{and_parts}
use Rattle.std.specs.List.{list_all, list_any}
use Rattle.std.specs.Cmp.Lexicographic.{bytes_decides}
use Rattle.matchit.specs.Route.{parse_route}
use Rattle.matchit.specs.Router.{RouteOf}
use Rattle.matchit.proofs.OnLiterals.{matchit_on_literals}
use Rattle.endpoints.specs.declared.command.Command.{Command}
use Rattle.endpoints.specs.declared.table.TheConstants.{COMMANDS}
use Rattle.endpoints.specs.Table.{row_of}
use Rattle.endpoints.specs.Path.{segments, same_text, is_variable, fits_segment, fits}
use Rattle.endpoints.specs.Route.{pattern, FitsPath}
use Rattle.endpoints.specs.Routes.{scan_of, with_command, table_rows, is_known}
use Rattle.endpoints.proofs.Walk.{takes, is_whole, all_whole}
use Rattle.endpoints.proofs.Fits.{part_tokens, is_literal, takes-parts, parts-fit}
use Rattle.endpoints.proofs.Names.{law, same_name}

-- the router reads the path, and its tokens are the path's segments
pub reads : (c : Command) → parse_route (row_of c).path ≡ Ok (scan_of c)
unfolding matchit_on_literals scan_of
reads c = search rules

pattern-parts : (c : Command) → segments (scan_of c).pattern ≡ map part_tokens (pattern c)
unfolding matchit_on_literals scan_of
pattern-parts c = search rules

abbrev is_clean : Command → Bool
is_clean c = list_all is_literal (pattern c) && is_whole (scan_of c).pattern

all_clean : list_all is_clean COMMANDS ≡ true
unfolding matchit_on_literals scan_of
all_clean = refl

pub takes-pattern : (c : Command) (path : List ℕ) → takes (scan_of c).pattern path ≡ fits (pattern c) (segments path)
takes-pattern c path =
    let clean = and_parts (list_all is_literal (pattern c)) (is_whole (scan_of c).pattern) (law is_clean all_clean c) in
    takes-parts (scan_of c).pattern path clean.1 ∙ rw (pattern-parts c) (parts-fit (pattern c) (segments path) clean.0)

-- ---- the rows of each router

-- it has rows of commands with the method alone
abbrev pub is_own : List ℕ → List ℕ × RouteOf Command → Bool
is_own method r = same_text r.0 (scan_of r.1.value).pattern && same_text (row_of r.1.value).method method

-- and one for each of these
abbrev pub has_row : List ℕ → Command → Bool
has_row method c = not (same_text (row_of c).method method) || list_any (λ r. same_text r.0 (scan_of c).pattern) (table_rows method)

pub record IsTable (method : List ℕ) : Type 0 where
  pub whole : all_whole (table_rows method) ≡ true
  pub own : list_all (is_own method) (table_rows method) ≡ true
  pub rows : list_all (has_row method) COMMANDS ≡ true

gets : IsTable (codes "GET")
unfolding matchit_on_literals scan_of with_command table_rows
gets = record { whole = refl; own = refl; rows = refl }

posts : IsTable (codes "POST")
unfolding matchit_on_literals scan_of with_command table_rows
posts = record { whole = refl; own = refl; rows = refl }

deletes : IsTable (codes "DELETE")
unfolding matchit_on_literals scan_of with_command table_rows
deletes = record { whole = refl; own = refl; rows = refl }

pub table-of : (method : List ℕ) → is_known method ≡ true → IsTable method
table-of method h = by (same_text method (codes "GET")) refl (same_text method (codes "POST")) refl (same_text method (codes "DELETE")) refl h
  where
    at : (m : List ℕ) → IsTable m → same_text method m ≡ true → IsTable method
    at m t e = subst IsTable (sym ((bytes_decides method m).0 e)) t

    by : (u : Bool) → same_text method (codes "GET") ≡ u → (v : Bool) → same_text method (codes "POST") ≡ v → (w : Bool)
        → same_text method (codes "DELETE") ≡ w → (u || (v || w)) ≡ true → IsTable method
    by true e v f w g h = at _ gets e
    by false e true f w g h = at _ posts f
    by false e false f true g h = at _ deletes g
    by false e false f false g h = cc

all_known : list_all (λ c. is_known (row_of c).method) COMMANDS ≡ true
all_known = refl

pub known : (c : Command) → is_known (row_of c).method ≡ true
known = law (λ c. is_known (row_of c).method) all_known

-- ---- a path fits one pattern

-- two patterns that no path fits both
abbrev apart : List (List ℕ) → List (List ℕ) → Bool
apart [] [] = false
apart [] (q ∷ qs) = true
apart (p ∷ ps) [] = true
apart (p ∷ ps) (q ∷ qs) = (not (is_variable p || is_variable q) && not (same_text p q)) || apart ps qs

-- no path fits both, or they have one path, and not one method under two names
abbrev agrees : Command → Command → Bool
agrees a b =
    apart (pattern a) (pattern b)
    || (same_text (row_of a).path (row_of b).path && (not (same_text (row_of a).method (row_of b).method) || same_text (row_of a).name (row_of b).name))

all_agree : list_all (λ a. list_all (agrees a) COMMANDS) COMMANDS ≡ true
all_agree = refl

-- segments that fit two patterns show that they are not apart
apart-fits : (ps qs ss : List (List ℕ)) → apart ps qs ≡ true → fits ps ss ≡ true → fits qs ss ≡ true → ⊥
apart-fits [] [] ss a e f = cc
apart-fits [] (q ∷ qs) [] a e f = cc
apart-fits [] (q ∷ qs) (s ∷ ss) a e f = cc
apart-fits (p ∷ ps) [] [] a e f = cc
apart-fits (p ∷ ps) [] (s ∷ ss) a e f = cc
apart-fits (p ∷ ps) (q ∷ qs) [] a e f = cc
apart-fits (p ∷ ps) (q ∷ qs) (s ∷ ss) a e f =
    let x = and_parts (fits_segment (is_variable p) p s) (fits ps ss) e in
    let y = and_parts (fits_segment (is_variable q) q s) (fits qs ss) f in
    by (is_variable p) (is_variable q) (same_text p q) refl a x.0 y.0 (λ a. apart-fits ps qs ss a x.1 y.1)
  where
    by : (v w t : Bool) → same_text p q ≡ t → ((not (v || w) && not t) || apart ps qs) ≡ true → fits_segment v p s ≡ true → fits_segment w q s ≡ true
        → (apart ps qs ≡ true → ⊥) → ⊥
    by true w t z a e f ih = ih a
    by false true t z a e f ih = ih a
    by false false true z a e f ih = ih a
    by false false false z a e f ih = let n : same_text p q ≡ true = (bytes_decides p q).1 ((bytes_decides p s).0 e ∙ sym ((bytes_decides q s).0 f)) in cc

-- a path fits one pattern, and one command of each method has it
pub one-row : (a b : Command) (path : List (List ℕ)) → FitsPath a path → FitsPath b path
    → ((row_of a).path ≡ (row_of b).path) × ((row_of a).method ≡ (row_of b).method → a ≡ b)
one-row a b path e f = by (apart (pattern a) (pattern b)) refl (law (agrees a) (law (λ a. list_all (agrees a) COMMANDS) all_agree a) b)
  where
    names : (v : Bool) → same_text (row_of a).method (row_of b).method ≡ v → (not v || same_text (row_of a).name (row_of b).name) ≡ true
        → (row_of a).method ≡ (row_of b).method → a ≡ b
    names true x y m = same_name a b ((bytes_decides _ _).0 y)
    names false x y m = let n : same_text (row_of a).method (row_of b).method ≡ true = (bytes_decides _ _).1 m in cc

    by : (v : Bool) → apart (pattern a) (pattern b) ≡ v
        → (v || (same_text (row_of a).path (row_of b).path && (not (same_text (row_of a).method (row_of b).method) || same_text (row_of a).name (row_of b).name))) ≡ true
        → ((row_of a).path ≡ (row_of b).path) × ((row_of a).method ≡ (row_of b).method → a ≡ b)
    by true x y = absurd (apart-fits (pattern a) (pattern b) path x e f)
    by false x y =
        let z = and_parts (same_text (row_of a).path (row_of b).path) _ y in
        ((bytes_decides _ _).0 z.0, names _ refl z.1)
