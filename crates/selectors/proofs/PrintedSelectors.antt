-- What is printed of a selector reads as it.
use Rattle.std.proofs.Common.{◌≡◌, ◌∙◌, subst, ℕ, true, false, List, [], ◌∷◌, ◌++◌, append_assoc, refl, sym}
use Rattle.std.specs.Prelude.{codes}
use Rattle.std.specs.List.{list_all, flat_map}
use Rattle.std.proofs.lemmas.Bool.{false≢true, and_parts, eqb-true}
use Rattle.selectors.specs.Characters.{begins}
use Rattle.selectors.specs.Names.{begins_name}
use Rattle.selectors.specs.Grammar.{WhiteIs, RowIs, none, more, is_mark, CompoundIs, SimpleIs, child, next, later, CombinatorIs, blank, sign, JoinIs, ComplexIs, is_end, AlternativeIs, FurtherIs, GrammarIs}
use Rattle.selectors.specs.PrintingSelectors.{printed_compound, combinator_text, printed_join, printed_complex, printed_next, printed_selector}
use Rattle.selectors.specs.WellFormed.{is_compound, is_joined, is_complex, is_selector}
use Rattle.selectors.specs.declared.selector.Simple.{Simple}
use Rattle.selectors.specs.declared.selector.Combinator.{Combinator}
use Rattle.selectors.specs.declared.selector.Combinator.TheVariants.{Descendant, Child, Next, Later}
use Rattle.selectors.specs.declared.selector.Complex.{Complex}
use Rattle.selectors.proofs.PrintedSimples.{no_white, printed_compound_reads}
use Rattle.selectors.proofs.PrintedZero.{selector_clean}

abbrev Join : Type 0
Join = Combinator × List Simple

one_white : (text : List ℕ) → WhiteIs (32 ∷ text) text
one_white text = record { white = 32 ∷ []; each = refl; text_is = refl }

combinator_reads : (combinator : Combinator) (start : List ℕ) → CombinatorIs (combinator_text combinator ++ start) combinator start
combinator_reads Descendant start = blank 32 start refl refl (no_white start) refl
combinator_reads Child start = sign 62 (32 ∷ start) (one_white (62 ∷ 32 ∷ start)) child (one_white start)
combinator_reads Next start = sign 43 (32 ∷ start) (one_white (43 ∷ 32 ∷ start)) next (one_white start)
combinator_reads Later start = sign 126 (32 ∷ start) (one_white (126 ∷ 32 ∷ start)) later (one_white start)

-- behind which a compound has ended
record Apart (rest : List ℕ) : Type 0 where
  no_name : begins_name rest ≡ false
  no_mark : begins is_mark rest ≡ false

combinator_apart : (combinator : Combinator) (text : List ℕ) → Apart (combinator_text combinator ++ text)
combinator_apart Descendant text = record { no_name = refl; no_mark = refl }
combinator_apart Child text = record { no_name = refl; no_mark = refl }
combinator_apart Next text = record { no_name = refl; no_mark = refl }
combinator_apart Later text = record { no_name = refl; no_mark = refl }

end_apart : (rest : List ℕ) → is_end rest ≡ true → Apart rest
end_apart [] e = record { no_name = refl; no_mark = refl }
end_apart (c ∷ rest) e = subst (λ d. Apart (d ∷ rest)) (sym (eqb-true c 44 e)) (record { no_name = refl; no_mark = refl })

joins_apart : (joins : List Join) (rest : List ℕ) → is_end rest ≡ true → Apart (flat_map printed_join joins ++ rest)
joins_apart [] rest e = end_apart rest e
joins_apart (join ∷ joins) rest e =
    subst Apart (sym (append_assoc (printed_join join) (flat_map printed_join joins) rest ∙ append_assoc (combinator_text join.0) (printed_compound join.1) (flat_map printed_join joins ++ rest))) (combinator_apart join.0 _)

join_reads : (join : Join) (rest : List ℕ) → is_joined join ≡ true → Apart rest → JoinIs (printed_join join ++ rest) join rest
join_reads join rest h a =
    let start = printed_compound join.1 ++ rest in
    record { start = start; combinator = subst (λ t. CombinatorIs t join.0 start) (sym (append_assoc (combinator_text join.0) (printed_compound join.1) rest)) (combinator_reads join.0 start); compound = printed_compound_reads join.1 rest h a.no_name a.no_mark }

joins_read : (joins : List Join) (rest : List ℕ) → list_all is_joined joins ≡ true → is_end rest ≡ true → RowIs Join JoinIs (flat_map printed_join joins ++ rest) joins rest
joins_read [] rest h e = none rest
joins_read (join ∷ joins) rest h e =
    let p = and_parts (is_joined join) (list_all is_joined joins) h in
    let tail = flat_map printed_join joins ++ rest in
    subst (λ t. RowIs Join JoinIs t (join ∷ joins) rest) (sym (append_assoc (printed_join join) (flat_map printed_join joins) rest))
    (more (printed_join join ++ tail) join tail joins rest (join_reads join tail p.0 (joins_apart joins rest e)) (joins_read joins rest p.1 e))

complex_reads : (complex : Complex) (rest : List ℕ) → is_complex complex ≡ true → is_end rest ≡ true → ComplexIs (printed_complex complex ++ rest) complex rest
complex_reads complex rest h e =
    let p = and_parts (is_compound complex.first) (list_all is_joined complex.rest) h in
    let middle = flat_map printed_join complex.rest ++ rest in
    let a = joins_apart complex.rest rest e in
    record { middle = middle; first = subst (λ t. CompoundIs SimpleIs t complex.first middle) (sym (append_assoc (printed_compound complex.first) (flat_map printed_join complex.rest) rest)) (printed_compound_reads complex.first middle p.0 a.no_name a.no_mark); joins = joins_read complex.rest rest p.1 e }

next_end : (selector : List Complex) → is_end (flat_map printed_next selector) ≡ true
next_end [] = refl
next_end (complex ∷ selector) = refl

alternative_reads : (before : List ℕ) (complex : Complex) (rest : List ℕ) → WhiteIs before (printed_complex complex ++ rest) → is_complex complex ≡ true → is_end rest ≡ true → AlternativeIs before complex rest
alternative_reads before complex rest w h e = record { start = printed_complex complex ++ rest; end = rest; before = w; complex_is = complex_reads complex rest h e; after = no_white rest; ends = e }

further_reads : (selector : List Complex) → list_all is_complex selector ≡ true → RowIs Complex FurtherIs (flat_map printed_next selector) selector []
further_reads [] h = none []
further_reads (complex ∷ selector) h =
    let p = and_parts (is_complex complex) (list_all is_complex selector) h in
    let tail = flat_map printed_next selector in
    let text = printed_complex complex ++ tail in
    more (printed_next complex ++ tail) complex tail selector [] (record { middle = 32 ∷ text; text_is = append_assoc (codes ", ") (printed_complex complex) tail; alternative = alternative_reads (32 ∷ text) complex tail (one_white text) p.0 (next_end selector) }) (further_reads selector p.1)

pub selector_reads : (selector : List Complex) → is_selector selector ≡ true → GrammarIs (printed_selector selector) selector
selector_reads [] h = absurd (false≢true h)
selector_reads (complex ∷ selector) h =
    let p = and_parts (is_complex complex) (list_all is_complex selector) h in
    let tail = flat_map printed_next selector in
    record { first = complex; others = selector; middle = tail; no_zero = selector_clean complex selector p.0 p.1; first_is = alternative_reads (printed_complex complex ++ tail) complex tail (no_white _) p.0 (next_end selector); others_are = further_reads selector p.1; selector_is = refl }

pub reads_from : (text : List ℕ) (selector : List Complex) → text ≡ printed_selector selector → is_selector selector ≡ true → GrammarIs text selector
reads_from text selector e h = subst (λ t. GrammarIs t selector) (sym e) (selector_reads selector h)
