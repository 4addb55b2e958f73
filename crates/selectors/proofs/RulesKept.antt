-- Each selector that the grammar relates to a text keeps the rules.
use Rattle.std.proofs.Common.{◌≡◌, ◌∙◌, subst, ℕ, Bool, true, false, not, List, [], ◌∷◌, ◌++◌, refl, sym, ap, rules}
use Rattle.std.specs.Prelude.{ℤ, ◌&&◌, codes}
use Rattle.std.specs.List.{list_all, list_any}
use Rattle.std.proofs.lemmas.Bool.{false≢true, and_parts, and_from, or_parts, or_from}
use Rattle.selectors.specs.Grammar.{WhiteIs, RowIs, none, more, TextIs, identifier, string, test_text, AttributeIs, PseudoIs, WordIs, first_child, last_child, empty, root, checked, enabled, disabled, FirstIs, tag, any, PlainIs, id, class, has, attribute, alone, nth, CompoundIs, typed, untyped, SimpleIs, plain, negated, CombinatorIs, blank, sign, JoinIs, AlternativeIs, FurtherIs, GrammarIs}
use Rattle.selectors.specs.Texted.{is_text, is_name, is_small}
use Rattle.selectors.specs.WellFormed.{plain_of, is_plain, is_first_only, is_compound_of, simple_of, is_simple, is_compound, is_joined, is_complex, is_selector}
use Rattle.selectors.specs.declared.selector.Simple.{Simple, out-Simple, the_lemmas}
use Rattle.selectors.specs.declared.selector.Simple.TheOpen.{Simple-F}
use Rattle.selectors.specs.declared.selector.Simple.TheVariants.{Tag, Any, Id, Class, Has, Attr, Not, Nth}
use Rattle.selectors.specs.declared.selector.Combinator.{Combinator}
use Rattle.selectors.specs.declared.selector.Complex.{Complex}
use Rattle.selectors.specs.declared.selector.Test.{Test}
use Rattle.selectors.proofs.PrintedZero.{zero_in}
use Rattle.selectors.proofs.Rules.{rest_clean, identifier_rules, string_rules, argument_rules}

white_clean : (text rest : List ℕ) → WhiteIs text rest → zero_in text ≡ false → zero_in rest ≡ false
white_clean text rest w h = rest_clean text w.white rest w.text_is h

tail_clean : (c : ℕ) (text rest : List ℕ) → text ≡ c ∷ rest → zero_in text ≡ false → zero_in rest ≡ false
tail_clean c text rest e h = rest_clean text (c ∷ []) rest e h

pseudo_clean : (text word rest : List ℕ) → PseudoIs text word rest → zero_in text ≡ false → zero_in rest ≡ false
pseudo_clean text word rest p h = rest_clean text (58 ∷ p.written) rest p.text_is h

text_rules : (text value rest : List ℕ) → TextIs text value rest → zero_in text ≡ false → (is_text value ≡ true) × (zero_in rest ≡ false)
text_rules text value rest (identifier i) h = let r = identifier_rules text value rest i h in ((and_parts _ (is_text value) r.0).1, r.1)
text_rules text value rest (string s) h = string_rules text value rest s h

-- a good simple that may stand anywhere
pub record Rule (good : Simple → Bool) (simple : Simple) (rest : List ℕ) : Type 0 where
  pub good_is : good simple ≡ true
  pub anywhere : is_first_only simple ≡ false
  pub clean : zero_in rest ≡ false

id_rule : (value rest : List ℕ) → is_name value ≡ true → zero_in rest ≡ false → Rule is_plain (Id value) rest
id_rule value rest h z = record { good_is = (let e : is_plain (Id value) ≡ is_name value = search (rules, the_lemmas) in e ∙ h); anywhere = search (rules, the_lemmas); clean = z }

class_rule : (value rest : List ℕ) → is_name value ≡ true → zero_in rest ≡ false → Rule is_plain (Class value) rest
class_rule value rest h z = record { good_is = (let e : is_plain (Class value) ≡ is_name value = search (rules, the_lemmas) in e ∙ h); anywhere = search (rules, the_lemmas); clean = z }

has_rule : (value rest : List ℕ) → is_name value ≡ true → zero_in rest ≡ false → Rule is_plain (Has value) rest
has_rule value rest h z = record { good_is = (let e : is_plain (Has value) ≡ is_name value = search (rules, the_lemmas) in e ∙ h); anywhere = search (rules, the_lemmas); clean = z }

attr_rule : (name : List ℕ) (test : Test) (value rest : List ℕ) → is_name name ≡ true → is_text value ≡ true → zero_in rest ≡ false → Rule is_plain (Attr name test value) rest
attr_rule name test value rest h k z = record { good_is = (let e : is_plain (Attr name test value) ≡ (is_name name && is_text value) = search (rules, the_lemmas) in e ∙ and_from _ _ h k); anywhere = search (rules, the_lemmas); clean = z }

nth_rule : (a b : ℤ) (rest : List ℕ) → is_small a ≡ true → is_small b ≡ true → zero_in rest ≡ false → Rule is_plain (Nth a b) rest
nth_rule a b rest h k z = record { good_is = (let e : is_plain (Nth a b) ≡ (is_small a && is_small b) = search (rules, the_lemmas) in e ∙ and_from _ _ h k); anywhere = search (rules, the_lemmas); clean = z }

word_rule : (word : List ℕ) (simple : Simple) (rest : List ℕ) → WordIs word simple → zero_in rest ≡ false → Rule is_plain simple rest
word_rule _ _ rest first_child z = record { good_is = search (rules, the_lemmas); anywhere = search (rules, the_lemmas); clean = z }
word_rule _ _ rest last_child z = record { good_is = search (rules, the_lemmas); anywhere = search (rules, the_lemmas); clean = z }
word_rule _ _ rest empty z = record { good_is = search (rules, the_lemmas); anywhere = search (rules, the_lemmas); clean = z }
word_rule _ _ rest root z = record { good_is = search (rules, the_lemmas); anywhere = search (rules, the_lemmas); clean = z }
word_rule _ _ rest checked z = record { good_is = search (rules, the_lemmas); anywhere = search (rules, the_lemmas); clean = z }
word_rule _ _ rest enabled z = record { good_is = search (rules, the_lemmas); anywhere = search (rules, the_lemmas); clean = z }
word_rule _ _ rest disabled z = record { good_is = search (rules, the_lemmas); anywhere = search (rules, the_lemmas); clean = z }

attribute_rule : (text name : List ℕ) (test : Test) (value rest : List ℕ) → AttributeIs text name test value rest → zero_in text ≡ false → Rule is_plain (Attr name test value) rest
attribute_rule text name test value rest h z =
    let n = identifier_rules h.start name h.end h.name_is (white_clean h.inside h.start h.before (tail_clean 91 text h.inside h.text_is z)) in
    let b = rest_clean (test_text test ++ h.between) (test_text test) h.between refl (white_clean h.end (test_text test ++ h.between) h.after n.1) in
    let v = text_rules h.other value h.last h.value_is (white_clean h.between h.other h.behind b) in
    attr_rule name test value rest n.0 v.0 (tail_clean 93 (93 ∷ rest) rest refl (white_clean h.last (93 ∷ rest) h.ends v.1))

same_rule : (good : Simple → Bool) (simple other : Simple) (rest : List ℕ) → simple ≡ other → Rule good other rest → Rule good simple rest
same_rule good simple other rest e r = subst (λ s. Rule good s rest) (sym e) r

plain_rule : (text : List ℕ) (simple : Simple) (rest : List ℕ) → PlainIs text simple rest → zero_in text ≡ false → Rule is_plain simple rest
plain_rule text simple rest (id start value e i s) z = let r = identifier_rules start value rest i (tail_clean 35 text start e z) in same_rule is_plain simple (Id value) rest s (id_rule value rest r.0 r.1)
plain_rule text simple rest (class start value e i s) z = let r = identifier_rules start value rest i (tail_clean 46 text start e z) in same_rule is_plain simple (Class value) rest s (class_rule value rest r.0 r.1)
plain_rule text simple rest (has inside start name end e w i v s) z =
    let r = identifier_rules start name end i (white_clean inside start w (tail_clean 91 text inside e z)) in
    same_rule is_plain simple (Has name) rest s (has_rule name rest r.0 (tail_clean 93 (93 ∷ rest) rest refl (white_clean end (93 ∷ rest) v r.1)))
plain_rule text simple rest (attribute name test value h s) z = same_rule is_plain simple (Attr name test value) rest s (attribute_rule text name test value rest h z)
plain_rule text simple rest (alone word p w) z = word_rule word simple rest w (pseudo_clean text word rest p z)
plain_rule text simple rest (nth inside a b p h s) z =
    let r = argument_rules inside a b rest h (tail_clean 40 (40 ∷ inside) inside refl (pseudo_clean text (codes "nth-child") (40 ∷ inside) p z)) in
    same_rule is_plain simple (Nth a b) rest s (nth_rule a b rest r.0 r.1 r.2)

-- ---- compounds

module _ (Is : List ℕ → Simple → List ℕ → Type 0) (good : Simple → Bool) (rule : (text : List ℕ) (simple : Simple) (rest : List ℕ) → Is text simple rest → zero_in text ≡ false → Rule good simple rest)
    (tag_good : (value : List ℕ) → is_name value ≡ true → good (Tag value) ≡ true) (any_good : good Any ≡ true) where
  row_rules : (text : List ℕ) (simples : List Simple) (rest : List ℕ) → RowIs Simple Is text simples rest → zero_in text ≡ false → (list_all good simples ≡ true) × (list_any is_first_only simples ≡ false) × (zero_in rest ≡ false)
  row_rules _ _ _ (none rest) z = (refl, refl, z)
  row_rules _ _ _ (more text simple middle simples rest h r) z =
      let one = rule text simple middle h z in
      let others = row_rules middle simples rest r one.clean in
      (and_from (good simple) (list_all good simples) one.good_is others.0, or_from (is_first_only simple) (list_any is_first_only simples) one.anywhere others.1, others.2)

  first_rule : (text : List ℕ) (first : Simple) (middle : List ℕ) → FirstIs text first middle → zero_in text ≡ false → (good first ≡ true) × (zero_in middle ≡ false)
  first_rule text first middle (tag value i e) z = let r = identifier_rules text value middle i z in (ap good e ∙ tag_good value r.0, r.1)
  first_rule text first middle (any t e) z = (ap good e ∙ any_good, tail_clean 42 text middle t z)

  compound_rules : (text : List ℕ) (simples : List Simple) (rest : List ℕ) → CompoundIs Is text simples rest → zero_in text ≡ false → (is_compound_of good simples ≡ true) × (zero_in rest ≡ false)
  compound_rules text simples rest (typed first middle others f r k s) z =
      let one = first_rule text first middle f z in
      let more = row_rules middle others rest r one.1 in
      (ap (is_compound_of good) s ∙ and_from _ _ (and_from _ _ one.0 more.0) (ap not more.1), more.2)
  compound_rules text simples rest (untyped first others r k s) z =
      let all = row_rules text (first ∷ others) rest r z in
      (ap (is_compound_of good) s ∙ and_from _ _ all.0 (ap not (or_parts (is_first_only first) (list_any is_first_only others) all.1).1), all.2)

tag_plain : (value : List ℕ) → is_name value ≡ true → is_plain (Tag value) ≡ true
tag_plain value h = let e : is_plain (Tag value) ≡ is_name value = search (rules, the_lemmas) in e ∙ h

any_plain : is_plain Any ≡ true
any_plain = search (rules, the_lemmas)

tag_simple : (value : List ℕ) → is_name value ≡ true → is_simple (Tag value) ≡ true
tag_simple value h = let e : is_simple (Tag value) ≡ is_name value = search (rules, the_lemmas) in e ∙ h

any_simple : is_simple Any ≡ true
any_simple = search (rules, the_lemmas)

plain_simple : (step : Simple-F Simple) → plain_of step ≡ true → simple_of step ≡ true
plain_simple (Simple-F.Not simples) h = absurd (false≢true h)
plain_simple other h = h

simple_rule : (text : List ℕ) (simple : Simple) (rest : List ℕ) → SimpleIs text simple rest → zero_in text ≡ false → Rule is_simple simple rest
simple_rule text simple rest (plain h) z = let r = plain_rule text simple rest h z in record { good_is = plain_simple (out-Simple simple) r.good_is; anywhere = r.anywhere; clean = r.clean }
simple_rule text simple rest (negated inside start simples end p w h v s) z =
    let k = white_clean inside start w (tail_clean 40 (40 ∷ inside) inside refl (pseudo_clean text (codes "not") (40 ∷ inside) p z)) in
    let r = compound_rules PlainIs is_plain plain_rule tag_plain any_plain start simples end h k in
    let e : is_simple (Not simples) ≡ is_compound_of is_plain simples = search (rules, the_lemmas) in
    same_rule is_simple simple (Not simples) rest s (record { good_is = e ∙ r.0; anywhere = search (rules, the_lemmas); clean = tail_clean 41 (41 ∷ rest) rest refl (white_clean end (41 ∷ rest) v r.1) })

whole_rules : (text : List ℕ) (simples : List Simple) (rest : List ℕ) → CompoundIs SimpleIs text simples rest → zero_in text ≡ false → (is_compound simples ≡ true) × (zero_in rest ≡ false)
whole_rules = compound_rules SimpleIs is_simple simple_rule tag_simple any_simple

-- ---- joins and alternatives

abbrev Join : Type 0
Join = Combinator × List Simple

combinator_clean : (text : List ℕ) (combinator : Combinator) (rest : List ℕ) → CombinatorIs text combinator rest → zero_in text ≡ false → zero_in rest ≡ false
combinator_clean text combinator rest (blank c middle e k w s) z = white_clean middle rest w (tail_clean c text middle e z)
combinator_clean text combinator rest (sign c middle w s v) z = white_clean middle rest v (tail_clean c (c ∷ middle) middle refl (white_clean text (c ∷ middle) w z))

joins_rules : (text : List ℕ) (joins : List Join) (rest : List ℕ) → RowIs Join JoinIs text joins rest → zero_in text ≡ false → (list_all is_joined joins ≡ true) × (zero_in rest ≡ false)
joins_rules _ _ _ (none rest) z = (refl, z)
joins_rules _ _ _ (more text join middle joins rest h r) z =
    let one = whole_rules h.start join.1 middle h.compound (combinator_clean text join.0 h.start h.combinator z) in
    let others = joins_rules middle joins rest r one.1 in
    (and_from (is_joined join) (list_all is_joined joins) one.0 others.0, others.1)

alternative_rules : (text : List ℕ) (complex : Complex) (rest : List ℕ) → AlternativeIs text complex rest → zero_in text ≡ false → (is_complex complex ≡ true) × (zero_in rest ≡ false)
alternative_rules text complex rest h z =
    let x = h.complex_is in
    let one = whole_rules h.start complex.first x.middle x.first (white_clean text h.start h.before z) in
    let others = joins_rules x.middle complex.rest h.end x.joins one.1 in
    (and_from _ _ one.0 others.0, white_clean h.end rest h.after others.1)

others_rules : (text : List ℕ) (selector : List Complex) (rest : List ℕ) → RowIs Complex FurtherIs text selector rest → zero_in text ≡ false → list_all is_complex selector ≡ true
others_rules _ _ _ (none rest) z = refl
others_rules _ _ _ (more text complex middle selector rest h r) z =
    let one = alternative_rules h.middle complex middle h.alternative (tail_clean 44 text h.middle h.text_is z) in
    and_from (is_complex complex) (list_all is_complex selector) one.0 (others_rules middle selector rest r one.1)

pub selector_rules : (text : List ℕ) (selector : List Complex) → GrammarIs text selector → is_selector selector ≡ true
selector_rules text selector h =
    let one = alternative_rules text h.first h.middle h.first_is h.no_zero in
    ap is_selector h.selector_is ∙ and_from _ _ one.0 (others_rules h.middle h.others [] h.others_are one.1)
