-- Sessions by their numbers.
use Rattle.std.proofs.Common.{◌≡◌, ◌<◌, ◌≤◌, ◌+◌, ◌∙◌, ◌++◌, ℕ, zero, suc, Bool, true, false, List, [], ◌∷◌, Some, None, length, take, drop, get_or, slice_get, slice_set, sym, ap, refl, subst, arith, length-set, length-take, length-drop, length-append}
use Rattle.std.proofs.lemmas.List.{nil_from_length}
use Rattle.std.specs.Prelude.{◌==◌, cond, nat_lt}
use Rattle.std.specs.List.{remove, insert, position_or_len}
use Rattle.std.proofs.lemmas.Bool.{lt-ltb, eq-eqb, ne_eqb}
use Rattle.std.proofs.lemmas.List.Folds.{position_or_len-set}
use Rattle.std.proofs.lemmas.List.Sums.{position_or_len_is}
use Rattle.std.proofs.lemmas.Option.{slice_get_within, get_or_from_slice_get}
use Rattle.remote_end.specs.declared.session.Session.{Session}
use Rattle.remote_end.specs.State.{Rise, place_numbered}

-- ---- lists

pub insert_removed : {X : Type 0} (xs : List X) (i : ℕ) (y : X) → i < length xs → insert (remove xs i) i y ≡ slice_set xs i y
insert_removed [] i y h = absurd (omega (arith, h))
insert_removed (x ∷ xs) zero y h = refl
insert_removed {X} (x ∷ xs) (suc i) y h = ap (λ (l : List X). x ∷ l) (insert_removed xs i y (omega (arith, h)))

-- ---- numbers that rise

pub rise_lower : (low less : ℕ) (sessions : List Session) (next : ℕ) → less ≤ low → Rise low sessions next → Rise less sessions next
rise_lower low less [] next h rise = omega (arith, h, rise)
rise_lower low less (s ∷ sessions) next h rise = (let first : low ≤ s.number = rise.0 in omega (arith, h, first), rise.1)

pub rise_more : (low : ℕ) (sessions : List Session) (next : ℕ) (s : Session) → s.number ≡ next → Rise low sessions next → Rise low (sessions ++ s ∷ []) (next + 1)
rise_more low [] next s is rise = (omega (arith, is, rise), omega (arith, is))
rise_more low (t ∷ sessions) next s is rise = (rise.0, rise_more (t.number + 1) sessions next s is rise.1)

none_left : (i : ℕ) → remove {X = Session} [] i ≡ []
none_left i = nil_from_length (remove {X = Session} [] i) (let a = length-take {A = Session} i [] in let b = length-drop {A = Session} (suc i) [] in let l = length-append (take {A = Session} i []) (drop {A = Session} (suc i) []) in omega (arith, a, b, l))

pub rise_without : (low : ℕ) (sessions : List Session) (next i : ℕ) → Rise low sessions next → Rise low (remove sessions i) next
rise_without low [] next i rise =
    let P : List Session → Type 0 = λ l. Rise low l next in
    subst P (sym (none_left i)) rise
rise_without low (s ∷ sessions) next zero rise = let first : low ≤ s.number = rise.0 in rise_lower (s.number + 1) low sessions next (omega (arith, first)) rise.1
rise_without low (s ∷ sessions) next (suc i) rise = (rise.0, rise_without (s.number + 1) sessions next i rise.1)

pub rise_set : (low : ℕ) (sessions : List Session) (next i : ℕ) (s t : Session) → slice_get sessions i ≡ Some s → t.number ≡ s.number → Rise low sessions next → Rise low (slice_set sessions i t) next
rise_set low [] next i s t here same rise = rise
rise_set low (r ∷ sessions) next zero s t here same rise =
    let is : r ≡ s = cc in
    let n : t.number ≡ r.number = same ∙ ap (λ (x : Session). x.number) (sym is) in
    let P : ℕ → Type 0 = λ k. Rise low (r ∷ sessions) next → (low ≤ k) × Rise (k + 1) sessions next in
    let first : Rise low (r ∷ sessions) next → (low ≤ r.number) × Rise (r.number + 1) sessions next = λ x. (x.0, x.1) in
    let both = subst P (sym n) first rise in (both.0, both.1)
rise_set low (r ∷ sessions) next (suc i) s t here same rise = (rise.0, rise_set (r.number + 1) sessions next i s t here same rise.1)

-- ---- the place of a number

abbrev has : ℕ → Session → Bool
has number s = s.number == number

pub numbered_set : (sessions : List Session) (place number : ℕ) (s t : Session) → slice_get sessions place ≡ Some s → t.number ≡ s.number
    → place_numbered number (slice_set sessions place t) ≡ place_numbered number sessions
numbered_set sessions place number s t here same =
    let there : get_or sessions place s ≡ s = get_or_from_slice_get sessions place s s here in
    let e : position_or_len (has number) (slice_set sessions place t) ≡ position_or_len (has number) sessions =
    position_or_len-set (has number) sessions place t s (ap (λ (n : ℕ). n == number) (same ∙ ap (λ (x : Session). x.number) (sym there))) in
    let l : length (slice_set sessions place t) ≡ length sessions = length-set sessions place t in
    ap (λ (n : ℕ). cond (nat_lt (position_or_len (has number) (slice_set sessions place t)) n) (Some (position_or_len (has number) (slice_set sessions place t))) None) l
    ∙ ap (λ (n : ℕ). cond (nat_lt n (length sessions)) (Some n) None) e

above : (low : ℕ) (sessions : List Session) (next i : ℕ) (d : Session) → Rise low sessions next → i < length sessions → low ≤ (get_or sessions i d).number
above low [] next i d rise h = absurd (omega (arith, h))
above low (s ∷ sessions) next zero d rise h = rise.0
above low (s ∷ sessions) next (suc i) d rise h =
    let more = above (s.number + 1) sessions next i d rise.1 (omega (arith, h)) in
    let first : low ≤ s.number = rise.0 in omega (arith, more, first)

earlier : (low : ℕ) (sessions : List Session) (next k i : ℕ) (d : Session) → Rise low sessions next → k < i → i < length sessions → (get_or sessions k d).number < (get_or sessions i d).number
earlier low [] next k i d rise less h = absurd (omega (arith, h))
earlier low (s ∷ sessions) next k zero d rise less h = absurd (omega (arith, less))
earlier low (s ∷ sessions) next zero (suc i) d rise less h = let more = above (s.number + 1) sessions next i d rise.1 (omega (arith, h)) in omega (arith, more)
earlier low (s ∷ sessions) next (suc k) (suc i) d rise less h = earlier (s.number + 1) sessions next k i d rise.1 (omega (arith, less)) (omega (arith, h))

pub numbered_at : (low : ℕ) (sessions : List Session) (next place : ℕ) (s : Session) → Rise low sessions next → slice_get sessions place ≡ Some s → place_numbered s.number sessions ≡ Some place
numbered_at low sessions next place s rise here =
    let within : place < length sessions = slice_get_within sessions place s here in
    let there : get_or sessions place s ≡ s = get_or_from_slice_get sessions place s s here in
    let found : position_or_len (has s.number) sessions ≡ place = position_or_len_is (has s.number) sessions place s (omega (arith, within)) others (λ h. eq-eqb (get_or sessions place s).number s.number (ap (λ (x : Session). x.number) there)) in
    let yes : nat_lt place (length sessions) ≡ true = lt-ltb place (length sessions) within in
    ap (λ (n : ℕ). cond (nat_lt n (length sessions)) (Some n) None) found ∙ ap (λ (b : Bool). cond b (Some place) None) yes
  where
    others : (k : ℕ) → k < place → has s.number (get_or sessions k s) ≡ false
    others k less =
        let within : place < length sessions = slice_get_within sessions place s here in
        let there : get_or sessions place s ≡ s = get_or_from_slice_get sessions place s s here in
        let n = earlier low sessions next k place s rise less within in
        let same : (get_or sessions place s).number ≡ s.number = ap (λ (x : Session). x.number) there in
        ne_eqb (get_or sessions k s).number s.number (λ e. let f : (get_or sessions k s).number ≡ s.number = e in absurd (omega (arith, n, same, f)))
