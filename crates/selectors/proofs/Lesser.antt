-- What is left of a text is shorter than it.
use Rattle.std.proofs.Common.{ℕ, ◌<◌, List, length, length-append, ap, arith}
use Rattle.selectors.specs.Grammar.{TextIs, identifier, string, test_text, AttributeIs, PseudoIs, PlainIs, id, class, has, attribute, alone, nth}
use Rattle.selectors.specs.declared.selector.Simple.{Simple}
use Rattle.selectors.specs.declared.selector.Test.{Test}
use Rattle.selectors.proofs.NameStarts.{argument_shrinks, identifier_shrinks, string_shrinks}
use Rattle.selectors.proofs.Whites.{white_shrinks}

pub pseudo_shrinks : (text word rest : List ℕ) → PseudoIs text word rest → length rest < length text
pseudo_shrinks text word rest p = omega (arith, ap length p.text_is, length-append p.written rest)

text_shrinks : (text value rest : List ℕ) → TextIs text value rest → length rest < length text
text_shrinks text value rest (identifier i) = identifier_shrinks text value rest i
text_shrinks text value rest (string s) = string_shrinks text value rest s

attribute_shrinks : (text name : List ℕ) (test : Test) (value rest : List ℕ) → AttributeIs text name test value rest → length rest < length text
attribute_shrinks text name test value rest h =
    omega (arith, ap length h.text_is, white_shrinks _ _ h.before, identifier_shrinks _ _ _ h.name_is, white_shrinks _ _ h.after, length-append (test_text test) h.between, white_shrinks _ _ h.behind, text_shrinks _ _ _ h.value_is, white_shrinks _ _ h.ends)

pub plain_shrinks : (text : List ℕ) (simple : Simple) (rest : List ℕ) → PlainIs text simple rest → length rest < length text
plain_shrinks text simple rest (id start value e i s) = omega (arith, ap length e, identifier_shrinks _ _ _ i)
plain_shrinks text simple rest (class start value e i s) = omega (arith, ap length e, identifier_shrinks _ _ _ i)
plain_shrinks text simple rest (has inside start name end e w i v s) = omega (arith, ap length e, white_shrinks _ _ w, identifier_shrinks _ _ _ i, white_shrinks _ _ v)
plain_shrinks text simple rest (attribute name test value h s) = attribute_shrinks text name test value rest h
plain_shrinks text simple rest (alone name p w) = pseudo_shrinks text name rest p
plain_shrinks text simple rest (nth inside a b p h s) = omega (arith, pseudo_shrinks _ _ _ p, argument_shrinks _ _ _ _ h)
