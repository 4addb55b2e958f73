-- What is printed of a simple reads as it, before a text that goes on with no name.
use Rattle.std.proofs.Common.{◌≡◌, ◌∙◌, subst, ℕ, Bool, true, false, not, List, [], ◌∷◌, ◌++◌, append_assoc, append-nil, refl, sym, ap}
use Rattle.std.specs.Prelude.{ℤ, ◌&&◌, codes}
use Rattle.std.specs.List.{list_all, list_any, flat_map}
use Rattle.std.specs.Str.{str_to_ascii_lowercase}
use Rattle.std.proofs.lemmas.Bool.{true≢false, false≢true, and_parts, or_parts, and_from, or_from, not-true}
use Rattle.selectors.specs.Characters.{begins, is_name_character}
use Rattle.selectors.specs.Names.{begins_name}
use Rattle.selectors.specs.Grammar.{WhiteIs, RowIs, none, more, string, test_text, WordIs, first_child, last_child, empty, root, checked, enabled, disabled, FirstIs, tag, any, PlainIs, id, class, has, attribute, alone, nth, is_mark, CompoundIs, typed, untyped, SimpleIs, plain, negated}
use Rattle.selectors.specs.Printing.{printed_identifier, printed_string, printed_step}
use Rattle.selectors.specs.PrintingSelectors.{plain_text, printed_plain, simple_text, printed_simple, printed_compound}
use Rattle.selectors.specs.Texted.{is_text, is_name, is_small}
use Rattle.selectors.specs.WellFormed.{plain_of, is_plain, first_only_of, is_first_only, is_compound_of, simple_of, is_simple, is_compound}
use Rattle.selectors.specs.declared.selector.Simple.{Simple, out-Simple, roll-Simple, roll-out-Simple}
use Rattle.selectors.specs.declared.selector.Simple.TheOpen.{Simple-F}
use Rattle.selectors.specs.declared.selector.Simple.TheVariants.{Has, Attr, Not, FirstChild, LastChild, Nth, Empty, Root, Checked, Enabled, Disabled}
use Rattle.selectors.specs.declared.selector.Test.{Test}
use Rattle.selectors.specs.declared.selector.Test.TheVariants.{Equal, Word, Dash, Starts, Ends, Holds}
use denote.Hole.Carrier.{roll}
use Rattle.selectors.proofs.PrintedNames.{identifier_reads, string_reads}
use Rattle.selectors.proofs.PrintedSteps.{step_reads}

pub no_white : (text : List ℕ) → WhiteIs text text
no_white text = record { white = []; each = refl; text_is = refl }

test_ends : (test : Test) (rest : List ℕ) → begins_name (test_text test ++ rest) ≡ false
test_ends Equal rest = refl
test_ends Word rest = refl
test_ends Dash rest = refl
test_ends Starts rest = refl
test_ends Ends rest = refl
test_ends Holds rest = refl

-- behind a text that isn't a name
name_ends : (rest : List ℕ) → begins_name rest ≡ false → begins is_name_character rest ≡ false
name_ends [] e = refl
name_ends (c ∷ rest) e = (or_parts (is_name_character c) _ e).0

has_reads : (name rest : List ℕ) → is_name name ≡ true → PlainIs ((91 ∷ printed_identifier name ++ codes "]") ++ rest) (Has name) rest
has_reads name rest h = has (printed_identifier name ++ 93 ∷ rest) (printed_identifier name ++ 93 ∷ rest) name (93 ∷ rest) (ap (λ t. 91 ∷ t) (append_assoc (printed_identifier name) (codes "]") rest)) (no_white _) (identifier_reads name (93 ∷ rest) h refl) (no_white _) refl

attribute_reads : (name : List ℕ) (test : Test) (text rest : List ℕ) → is_name name ≡ true → is_text text ≡ true → PlainIs ((91 ∷ printed_identifier name ++ test_text test ++ printed_string text ++ codes "]") ++ rest) (Attr name test text) rest
attribute_reads name test text rest h k =
    let tail = printed_string text ++ 93 ∷ rest in
    let whole = printed_identifier name ++ (test_text test ++ tail) in
    attribute name test text (record {
      inside = whole;
      start = whole;
      end = test_text test ++ tail;
      between = tail;
      other = tail;
      last = 93 ∷ rest;
      text_is = ap (λ t. 91 ∷ t) (append_assoc ((printed_identifier name ++ test_text test) ++ printed_string text) (codes "]") rest ∙ append_assoc (printed_identifier name ++ test_text test) (printed_string text) (93 ∷ rest) ∙ append_assoc (printed_identifier name) (test_text test) tail);
      before = no_white whole;
      name_is = identifier_reads name (test_text test ++ tail) h (test_ends test tail);
      after = no_white _;
      behind = no_white tail;
      value_is = string (string_reads text (93 ∷ rest) k);
      ends = no_white _;
    }) refl

-- a word that stands alone
word_reads : (word rest : List ℕ) (simple : Simple) → WordIs word simple → str_to_ascii_lowercase word ≡ word → begins_name rest ≡ false → PlainIs ((58 ∷ word) ++ rest) simple rest
word_reads word rest simple w e k = alone word (record { written = word; text_is = refl; word_is = e; whole = name_ends rest k }) w

nth_reads : (a b : ℤ) (rest : List ℕ) → is_small a ≡ true → is_small b ≡ true → PlainIs ((codes ":nth-child(" ++ printed_step a b ++ codes ")") ++ rest) (Nth a b) rest
nth_reads a b rest h k =
    let inside = printed_step a b ++ 41 ∷ rest in
    nth inside a b (record { written = codes "nth-child"; text_is = append_assoc (codes ":nth-child(" ++ printed_step a b) (codes ")") rest ∙ append_assoc (codes ":nth-child(") (printed_step a b) (41 ∷ rest); word_is = refl; whole = refl })
    (record { before = []; step = printed_step a b; after = []; white_before = refl; is = step_reads a b h k; white_after = refl; text_is = ap (λ t. t ++ 41 ∷ rest) (sym (append-nil (printed_step a b))) }) refl

-- ---- a simple of one step

plain_step : (step : Simple-F Simple) (rest : List ℕ) → plain_of step ≡ true → first_only_of step ≡ false → begins_name rest ≡ false → PlainIs (plain_text step ++ rest) (roll-Simple step) rest
unfolding roll-Simple roll
plain_step (Simple-F.Tag text) rest h f k = absurd (true≢false f)
plain_step Simple-F.Any rest h f k = absurd (true≢false f)
plain_step (Simple-F.Id text) rest h f k = id _ text refl (identifier_reads text rest h k) refl
plain_step (Simple-F.Class text) rest h f k = class _ text refl (identifier_reads text rest h k) refl
plain_step (Simple-F.Has name) rest h f k = has_reads name rest h
plain_step (Simple-F.Attr name test text) rest h f k = let p = and_parts _ _ h in attribute_reads name test text rest p.0 p.1
plain_step (Simple-F.Not simples) rest h f k = absurd (false≢true h)
plain_step Simple-F.FirstChild rest h f k = word_reads (codes "first-child") rest FirstChild first_child refl k
plain_step Simple-F.LastChild rest h f k = word_reads (codes "last-child") rest LastChild last_child refl k
plain_step (Simple-F.Nth a b) rest h f k = let p = and_parts _ _ h in nth_reads a b rest p.0 p.1
plain_step Simple-F.Empty rest h f k = word_reads (codes "empty") rest Empty empty refl k
plain_step Simple-F.Root rest h f k = word_reads (codes "root") rest Root root refl k
plain_step Simple-F.Checked rest h f k = word_reads (codes "checked") rest Checked checked refl k
plain_step Simple-F.Enabled rest h f k = word_reads (codes "enabled") rest Enabled enabled refl k
plain_step Simple-F.Disabled rest h f k = word_reads (codes "disabled") rest Disabled disabled refl k

-- what stands first only
first_step : (step : Simple-F Simple) (rest : List ℕ) → plain_of step ≡ true → first_only_of step ≡ true → begins_name rest ≡ false → FirstIs (plain_text step ++ rest) (roll-Simple step) rest
unfolding roll-Simple roll
first_step (Simple-F.Tag text) rest h f k = tag text (identifier_reads text rest h k) refl
first_step Simple-F.Any rest h f k = any refl refl
first_step other rest h f k = absurd (false≢true f)

-- what may stand anywhere begins with a mark
step_ends : (step : Simple-F Simple) (rest : List ℕ) → simple_of step ≡ true → first_only_of step ≡ false → begins_name (simple_text step ++ rest) ≡ false
step_ends (Simple-F.Tag text) rest h f = absurd (true≢false f)
step_ends Simple-F.Any rest h f = absurd (true≢false f)
step_ends other rest h f = refl

plain_ends : (step : Simple-F Simple) (rest : List ℕ) → plain_of step ≡ true → first_only_of step ≡ false → begins_name (plain_text step ++ rest) ≡ false
plain_ends (Simple-F.Tag text) rest h f = absurd (true≢false f)
plain_ends Simple-F.Any rest h f = absurd (true≢false f)
plain_ends (Simple-F.Not simples) rest h f = absurd (false≢true h)
plain_ends other rest h f = refl

-- ---- a compound

module _ (Is : List ℕ → Simple → List ℕ → Type 0) (printed : Simple → List ℕ) (good : Simple → Bool)
    (reads : (simple : Simple) (rest : List ℕ) → good simple ≡ true → is_first_only simple ≡ false → begins_name rest ≡ false → Is (printed simple ++ rest) simple rest)
    (ends : (simple : Simple) (rest : List ℕ) → good simple ≡ true → is_first_only simple ≡ false → begins_name (printed simple ++ rest) ≡ false)
    (firsts : (simple : Simple) (rest : List ℕ) → good simple ≡ true → is_first_only simple ≡ true → begins_name rest ≡ false → FirstIs (printed simple ++ rest) simple rest) where
  row_ends : (simples : List Simple) (rest : List ℕ) → list_all good simples ≡ true → list_any is_first_only simples ≡ false → begins_name rest ≡ false → begins_name (flat_map printed simples ++ rest) ≡ false
  row_ends [] rest h f k = k
  row_ends (simple ∷ simples) rest h f k =
      let p = and_parts (good simple) _ h in
      let q = or_parts (is_first_only simple) _ f in
      ap begins_name (append_assoc (printed simple) (flat_map printed simples) rest) ∙ ends simple (flat_map printed simples ++ rest) p.0 q.0

  row_reads : (simples : List Simple) (rest : List ℕ) → list_all good simples ≡ true → list_any is_first_only simples ≡ false → begins_name rest ≡ false → RowIs Simple Is (flat_map printed simples ++ rest) simples rest
  row_reads [] rest h f k = none rest
  row_reads (simple ∷ simples) rest h f k =
      let p = and_parts (good simple) (list_all good simples) h in
      let q = or_parts (is_first_only simple) (list_any is_first_only simples) f in
      let tail = flat_map printed simples ++ rest in
      subst (λ t. RowIs Simple Is t (simple ∷ simples) rest) (sym (append_assoc (printed simple) (flat_map printed simples) rest))
      (more (printed simple ++ tail) simple tail simples rest (reads simple tail p.0 q.0 (row_ends simples rest p.1 q.1 k)) (row_reads simples rest p.1 q.1 k))

  pub compound_reads : (simples : List Simple) (rest : List ℕ) → is_compound_of good simples ≡ true → begins_name rest ≡ false → begins is_mark rest ≡ false → CompoundIs Is (flat_map printed simples ++ rest) simples rest
  compound_reads [] rest h k m = absurd (false≢true h)
  compound_reads (simple ∷ simples) rest h k m = go (is_first_only simple) refl
    where
      p : (good simple ≡ true) × (list_all good simples ≡ true)
      p = and_parts (good simple) (list_all good simples) (and_parts (good simple && list_all good simples) (not (list_any is_first_only simples)) h).0

      q : list_any is_first_only simples ≡ false
      q = not-true (list_any is_first_only simples) (and_parts (good simple && list_all good simples) (not (list_any is_first_only simples)) h).1

      go : (b : Bool) → is_first_only simple ≡ b → CompoundIs Is (flat_map printed (simple ∷ simples) ++ rest) (simple ∷ simples) rest
      go true e =
          let tail = flat_map printed simples ++ rest in
          subst (λ t. CompoundIs Is t (simple ∷ simples) rest) (sym (append_assoc (printed simple) (flat_map printed simples) rest))
          (typed simple tail simples (firsts simple tail p.0 e (row_ends simples rest p.1 q k)) (row_reads simples rest p.1 q k) m refl)
      go false e = untyped simple simples (row_reads (simple ∷ simples) rest (and_from _ _ p.0 p.1) (or_from _ _ e q) k) m refl

plain_reads : (simple : Simple) (rest : List ℕ) → is_plain simple ≡ true → is_first_only simple ≡ false → begins_name rest ≡ false → PlainIs (printed_plain simple ++ rest) simple rest
plain_reads simple rest h f k = subst (λ s. PlainIs (printed_plain simple ++ rest) s rest) (roll-out-Simple simple) (plain_step (out-Simple simple) rest h f k)

plain_firsts : (simple : Simple) (rest : List ℕ) → is_plain simple ≡ true → is_first_only simple ≡ true → begins_name rest ≡ false → FirstIs (printed_plain simple ++ rest) simple rest
plain_firsts simple rest h f k = subst (λ s. FirstIs (printed_plain simple ++ rest) s rest) (roll-out-Simple simple) (first_step (out-Simple simple) rest h f k)

-- ---- a simple

not_reads : (simples : List Simple) (rest : List ℕ) → is_compound_of is_plain simples ≡ true → SimpleIs ((codes ":not(" ++ flat_map printed_plain simples ++ codes ")") ++ rest) (Not simples) rest
not_reads simples rest h =
    let inside = flat_map printed_plain simples ++ 41 ∷ rest in
    negated inside inside simples (41 ∷ rest)
    (record { written = codes "not"; text_is = append_assoc (codes ":not(" ++ flat_map printed_plain simples) (codes ")") rest ∙ append_assoc (codes ":not(") (flat_map printed_plain simples) (41 ∷ rest); word_is = refl; whole = refl })
    (no_white inside) (compound_reads PlainIs printed_plain is_plain plain_reads (λ simple rest h f. plain_ends (out-Simple simple) rest h f) plain_firsts simples (41 ∷ rest) h refl refl) (no_white (41 ∷ rest)) refl

simple_step : (step : Simple-F Simple) (rest : List ℕ) → simple_of step ≡ true → first_only_of step ≡ false → begins_name rest ≡ false → SimpleIs (simple_text step ++ rest) (roll-Simple step) rest
unfolding roll-Simple roll
simple_step (Simple-F.Not simples) rest h f k = not_reads simples rest h
simple_step other rest h f k = plain (plain_step other rest h f k)

simple_first : (step : Simple-F Simple) (rest : List ℕ) → simple_of step ≡ true → first_only_of step ≡ true → begins_name rest ≡ false → FirstIs (simple_text step ++ rest) (roll-Simple step) rest
simple_first (Simple-F.Not simples) rest h f k = absurd (false≢true f)
simple_first other rest h f k = first_step other rest h f k

simple_reads : (simple : Simple) (rest : List ℕ) → is_simple simple ≡ true → is_first_only simple ≡ false → begins_name rest ≡ false → SimpleIs (printed_simple simple ++ rest) simple rest
simple_reads simple rest h f k = subst (λ s. SimpleIs (printed_simple simple ++ rest) s rest) (roll-out-Simple simple) (simple_step (out-Simple simple) rest h f k)

simple_firsts : (simple : Simple) (rest : List ℕ) → is_simple simple ≡ true → is_first_only simple ≡ true → begins_name rest ≡ false → FirstIs (printed_simple simple ++ rest) simple rest
simple_firsts simple rest h f k = subst (λ s. FirstIs (printed_simple simple ++ rest) s rest) (roll-out-Simple simple) (simple_first (out-Simple simple) rest h f k)

pub printed_compound_reads : (simples : List Simple) (rest : List ℕ) → is_compound simples ≡ true → begins_name rest ≡ false → begins is_mark rest ≡ false → CompoundIs SimpleIs (printed_compound simples ++ rest) simples rest
printed_compound_reads = compound_reads SimpleIs printed_simple is_simple simple_reads (λ simple rest h f. step_ends (out-Simple simple) rest h f) simple_firsts
