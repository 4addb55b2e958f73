-- The rows that clap finds, with one more row at the end, and what they give.
use Rattle.std.proofs.Common.{◌≡◌, ◌++◌, ◌∙◌, ◌||◌, ℕ, List, [], ◌∷◌, Bool, true, false, Option, Some, None, is_some, if◌then◌else◌, map, option_map, refl, sym, ap, cond, arith}
use Rattle.std.specs.List.{list_any, find, slice_get}
use Rattle.std.specs.Option.{option_and_then}
use Rattle.std.specs.Str.{bytes_eq}
use Rattle.std.proofs.lemmas.List.{append_assoc, append-nil}
use Rattle.std.proofs.lemmas.Bool.Decides.{nat_tests}
use Rattle.std.proofs.lemmas.Grind.{common_steps}
use Rattle.std.proofs.lemmas.Slice.Eq.{bytes_eq-Decides}
use Rattle.clap.specs.Values.{reading_of}
use Rattle.clap.specs.Walk.{Row, first_of, has_row, with_values, without}
use Rattle.clap.specs.declared.parser.matches.ValueSource.TheVariants.{CommandLine}
use Rattle.clap.specs.declared.builder.ValueParser.TheVariants.{NonEmptyString}
use Rattle.command_line.specs.Given.{value_in, value_of}
use Rattle.command_line.specs.Words.{is_empty}
use Rattle.command_line.specs.Command.{given_in, value_with, values_at, values_in}
use Rattle.command_line.proofs.Lists.{list_any-map}

-- the row of one value
abbrev pub row : List ℕ → List ℕ → Row
row id value = record { id = id; values = value ∷ []; count = None; source = Some CommandLine; reading = reading_of NonEmptyString }

-- ---- one more row

pub no_row_out : (id : List ℕ) (rows : List Row) → has_row id rows ≡ false → without id rows ≡ rows
no_row_out id [] e = refl
no_row_out id (r ∷ rows) e = go (bytes_eq r.id id) e (no_row_out id rows)
  where
    go : (b : Bool) → (b || has_row id rows) ≡ false → (has_row id rows ≡ false → without id rows ≡ rows) → (if b then ([] ++ rows) else r ∷ without id rows) ≡ r ∷ rows
    go true h further = absurd (cc (h))
    go false h further = ap (λ (rest : List Row). r ∷ rest) (further h)

pub row_at_end : (id value : List ℕ) (rows : List Row) → has_row id rows ≡ false
    → with_values id (reading_of NonEmptyString) CommandLine (value ∷ []) rows ≡ rows ++ row id value ∷ []
row_at_end id value [] e = refl
row_at_end id value (r ∷ rows) e = go (bytes_eq r.id id) _ e (row_at_end id value rows)
  where
    go : (b : Bool) (changed : List Row) → (b || has_row id rows) ≡ false
        → (has_row id rows ≡ false → with_values id (reading_of NonEmptyString) CommandLine (value ∷ []) rows ≡ rows ++ row id value ∷ [])
        → (if b then changed else r ∷ with_values id (reading_of NonEmptyString) CommandLine (value ∷ []) rows) ≡ r ∷ (rows ++ row id value ∷ [])
    go true changed h further = absurd (cc (h))
    go false changed h further = ap (λ (rest : List Row). r ∷ rest) (further h)

pub has_row-append : (id : List ℕ) (rows : List Row) (more : Row) → has_row id (rows ++ more ∷ []) ≡ (has_row id rows || bytes_eq more.id id)
has_row-append id [] more = go (bytes_eq more.id id)
  where
    go : (b : Bool) → (b || false) ≡ (false || b)
    go true = refl
    go false = refl
has_row-append id (r ∷ rows) more = go (bytes_eq r.id id) (has_row-append id rows more)
  where
    go : (b : Bool) → has_row id (rows ++ more ∷ []) ≡ (has_row id rows || bytes_eq more.id id)
        → (b || has_row id (rows ++ more ∷ [])) ≡ ((b || has_row id rows) || bytes_eq more.id id)
    go true e = refl
    go false e = e

abbrev first_in : Option Row → Option (List ℕ)
first_in = option_and_then (λ r. slice_get r.values 0)

pub first-old : (id : List ℕ) (rows : List Row) (more : Row) → has_row id rows ≡ true → first_of id (rows ++ more ∷ []) ≡ first_of id rows
first-old id [] more e = absurd (cc (e))
first-old id (r ∷ rows) more e = go (bytes_eq r.id id) e (first-old id rows more)
  where
    go : (b : Bool) → (b || has_row id rows) ≡ true → (has_row id rows ≡ true → first_of id (rows ++ more ∷ []) ≡ first_of id rows)
        → first_in (cond b (Some r) (find (λ s. bytes_eq s.id id) (rows ++ more ∷ []))) ≡ first_in (cond b (Some r) (find (λ s. bytes_eq s.id id) rows))
    go true h further = refl
    go false h further = further h

pub first-new : (id : List ℕ) (rows : List Row) (more : Row) → has_row id rows ≡ false
    → first_of id (rows ++ more ∷ []) ≡ first_in (cond (bytes_eq more.id id) (Some more) None)
first-new id [] more e = refl
first-new id (r ∷ rows) more e = go (bytes_eq r.id id) e (first-new id rows more)
  where
    go : (b : Bool) → (b || has_row id rows) ≡ false → (has_row id rows ≡ false → first_of id (rows ++ more ∷ []) ≡ first_in (cond (bytes_eq more.id id) (Some more) None))
        → first_in (cond b (Some r) (find (λ s. bytes_eq s.id id) (rows ++ more ∷ []))) ≡ first_in (cond (bytes_eq more.id id) (Some more) None)
    go true h further = absurd (cc (h))
    go false h further = further h

pub first-none : (id : List ℕ) (rows : List Row) → has_row id rows ≡ false → first_of id rows ≡ None
first-none id [] e = refl
first-none id (r ∷ rows) e = go (bytes_eq r.id id) e (first-none id rows)
  where
    go : (b : Bool) → (b || has_row id rows) ≡ false → (has_row id rows ≡ false → first_of id rows ≡ None)
        → first_in (cond b (Some r) (find (λ s. bytes_eq s.id id) rows)) ≡ None
    go true h further = absurd (cc (h))
    go false h further = further h

-- ---- each row has a value

abbrev pub HaveValues : List Row → Type 0
HaveValues rows = (id : List ℕ) → is_some (first_of id rows) ≡ has_row id rows

pub one_more : (id value : List ℕ) (rows : List Row) → HaveValues rows → HaveValues (rows ++ row id value ∷ [])
one_more id value rows h other = go (has_row other rows) refl (bytes_eq id other) refl
  where
    go : (b : Bool) → has_row other rows ≡ b → (c : Bool) → bytes_eq id other ≡ c → is_some (first_of other (rows ++ row id value ∷ [])) ≡ has_row other (rows ++ row id value ∷ [])
    go true e c f = rw (first-old other rows (row id value) e, h other, has_row-append other rows (row id value), e) refl
    go false e true f = rw (first-new other rows (row id value) e, has_row-append other rows (row id value), e, f) refl
    go false e false f = rw (first-new other rows (row id value) e, has_row-append other rows (row id value), e, f) refl

-- ---- what the rows give

abbrev ids : List Row → List (List ℕ)
ids = map (λ r. r.id)

abbrev Have : List Row → List (List ℕ) → Type 0
Have rows [] = Unit {0}
Have rows (id ∷ more) = (has_row id rows ≡ true) × Have rows more

same : (id : List ℕ) → bytes_eq id id ≡ true
same id = (bytes_eq-Decides id id).1 refl

or_true : (b : Bool) → (b || true) ≡ true
or_true true = refl
or_true false = refl

have_more : (rows : List Row) (more : Row) (xs : List (List ℕ)) → Have rows xs → Have (more ∷ rows) xs
have_more rows more [] h = tt
have_more rows more (id ∷ xs) h = (rw (h.0) (or_true (bytes_eq more.id id)), have_more rows more xs h.1)

have_ids : (rows : List Row) → Have rows (ids rows)
have_ids [] = tt
have_ids (r ∷ rows) = (rw (same r.id) refl, have_more rows r (ids rows) (have_ids rows))

ids-append : (rows : List Row) (more : Row) → ids (rows ++ more ∷ []) ≡ ids rows ++ more.id ∷ []
ids-append [] more = refl
ids-append (r ∷ rows) more = ap (λ (rest : List (List ℕ)). r.id ∷ rest) (ids-append rows more)

values-old : (rows : List Row) (more : Row) (xs last : List (List ℕ)) → Have rows xs
    → values_at (rows ++ more ∷ []) (xs ++ last) ≡ values_at rows xs ++ values_at (rows ++ more ∷ []) last
values-old rows more [] last h = refl
values-old rows more (id ∷ xs) last h =
    rw (first-old id rows more h.0, values-old rows more xs last h.1) (sym (append_assoc (value_with id (first_of id rows)) (values_at rows xs) (values_at (rows ++ more ∷ []) last)))

values-new : (id value : List ℕ) (rows : List Row) → has_row id rows ≡ false → values_at (rows ++ row id value ∷ []) (id ∷ []) ≡ value_with id (Some value)
values-new id value rows e = rw (first-new id rows (row id value) e, same id) (append-nil (value_with id (Some value)))

pub values-append : (id value : List ℕ) (rows : List Row) → has_row id rows ≡ false → values_in (rows ++ row id value ∷ []) ≡ values_in rows ++ value_with id (Some value)
values-append id value rows e =
    ap (values_at (rows ++ row id value ∷ [])) (ids-append rows (row id value))
    ∙ values-old rows (row id value) (ids rows) (id ∷ []) (have_ids rows)
    ∙ ap (λ (last : List (List ℕ × List ℕ)). values_in rows ++ last) (values-new id value rows e)

-- ---- whether an option has a value

pub filled : (x : ℕ) (xs : List ℕ) → is_empty (x ∷ xs) ≡ false
filled x xs = grind (arith, nat_tests, common_steps)

value_at_one : (name id : List ℕ) (o : Option (List ℕ)) (rest : List (List ℕ × List ℕ)) → is_some o ≡ true → is_empty name ≡ false
    → is_some (value_in name (value_with id o ++ rest)) ≡ (bytes_eq id name || is_some (value_in name rest))
value_at_one name id None rest e f = absurd (cc (e))
value_at_one [] id (Some v) rest e f = absurd (cc (f))
value_at_one (x ∷ name) [] (Some v) rest e f = refl
value_at_one (x ∷ name) (y ∷ id) (Some v) rest e f = rw (filled y id) (go (bytes_eq (y ∷ id) (x ∷ name)))
  where
    go : (b : Bool) → is_some (option_map (λ (p : List ℕ × List ℕ). p.1) (cond b (Some (y ∷ id, v)) (find (λ p. bytes_eq p.0 (x ∷ name)) rest))) ≡ (b || is_some (value_in (x ∷ name) rest))
    go true = refl
    go false = refl

has_value_at : (name : List ℕ) (rows : List Row) → HaveValues rows → is_empty name ≡ false → (xs : List (List ℕ)) → Have rows xs
    → is_some (value_in name (values_at rows xs)) ≡ list_any (λ id. bytes_eq id name) xs
has_value_at name rows h f [] k = refl
has_value_at name rows h f (id ∷ xs) k =
    value_at_one name id (first_of id rows) (values_at rows xs) (h id ∙ k.0) f
    ∙ ap (λ (b : Bool). bytes_eq id name || b) (has_value_at name rows h f xs k.1)

pub has_value : (name : List ℕ) (rows : List Row) → HaveValues rows → is_empty name ≡ false → is_some (value_of name (given_in rows)) ≡ has_row name rows
has_value name rows h f = has_value_at name rows h f (ids rows) (have_ids rows) ∙ list_any-map (λ (r : Row). r.id) (λ id. bytes_eq id name) rows
