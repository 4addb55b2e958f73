-- What is read is what the words spell, both ways.
use Rattle.std.proofs.Common.{◌≡◌, ◌∙◌, Option, Some, None, sym, ap, subst, arith}
use Rattle.std.specs.Option.{IfSome, option_map}
use Rattle.command_line.specs.declared.matches.Matches.{Matches}
use Rattle.command_line.specs.Given.{Given, given, given_of, nothing_given}
use Rattle.command_line.specs.Words.{Spells, SpellOne, StandOnce, words_behind}
use Rattle.command_line.specs.Reading.{Any, given_by, read_from, state}
use Rattle.command_line.proofs.GivingLemmas.{all_can, all_give}
use Rattle.command_line.proofs.OnceLemmas.{Values}
use Rattle.command_line.proofs.ReadLemmas.{Words, read_pieces}
use Rattle.command_line.proofs.PiecesRead.{words_read}

pub spelled_is_given : (options words : Words) (g : Given) → Spells options words g → given_by options words ≡ Some g
unfolding given_by
spelled_is_given options words g s =
    ap (λ (ws : Words). read_from options ws (state Any nothing_given)) s.words_are
    ∙ read_pieces options s.pieces s.of_rule s.behind s.behind_of_rule nothing_given
    ∙ all_can s.pieces (words_behind s.behind) nothing_given g.positional (subst StandOnce s.values_are s.stand_once) s.positional_is
    ∙ ap (λ (vs : Values). Some (given vs g.positional)) (sym s.values_are)

pub given_is_spelled : (options words : Words) (g : Given) → given_by options words ≡ Some g → Spells options words g
unfolding given_by
given_is_spelled options words g e =
    let line = (words_read options words).any nothing_given g e in
    let gives = all_give line.pieces (words_behind line.behind) nothing_given g line.gives tt in
    record {
      pieces = line.pieces;
      behind = line.behind;
      words_are = line.words_are;
      of_rule = line.of_rule;
      behind_of_rule = line.behind_of_rule;
      values_are = gives.values_are;
      stand_once = gives.once;
      positional_is = gives.positional_is;
    }

pub spell_one : SpellOne
spell_one options words g h s t =
    let both : Some g ≡ Some h = sym (spelled_is_given options words g s) ∙ spelled_is_given options words h t in
    grind (arith, both)

-- ---- of what is answered

pub some_spelled : (options words : Words) (r : Option Matches) → option_map given_of r ≡ given_by options words → IfSome r (λ m. Spells options words (given_of m))
some_spelled options words None e = tt
some_spelled options words (Some m) e = given_is_spelled options words (given_of m) (sym e)

pub none_spelled : (options words : Words) (r : Option Matches) → option_map given_of r ≡ given_by options words
    → r ≡ None → (g : Given) → Spells options words g → ⊥
none_spelled options words r e is g s =
    let bad : None ≡ Some g = sym (ap (option_map given_of) is) ∙ e ∙ spelled_is_given options words g s in
    grind (arith, bad)
