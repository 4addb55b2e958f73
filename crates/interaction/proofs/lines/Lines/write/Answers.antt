use Rattle.std.proofs.Common.{◌≡◌, ℕ, List, Some, refl, sym, ap, subst, ◌∙◌, rules}
use Rattle.std.specs.Prelude.{map}
use Rattle.std.specs.Str.{chars}
use Rattle.std.specs.Str.Iter.{chars_rest}
use Rattle.std.proofs.StrCases.{chars_of_empty}
use Rattle.std.proofs.lemmas.Str.{IsUtf8-past_char, chars_past_char}
use Rattle.interaction.specs.Writing.{written}
use Rattle.interaction.specs.declared.lines.Lines.{Lines}
use Rattle.interaction.proofs.WriteLemmas.{written-none, written-more}
use Rattle.interaction.proofs.lines.Lines.write.Goals as goal

pub loop-character-init : goal.loop-character-init
loop-character-init c =
    let start : chars_rest c.into_iter-character-iterator.result ≡ c.args.text.now = search rules in
    record { utf8 = rw start c.utf8.text; same = rw start refl }

pub loop-character-preserved : goal.loop-character-preserved
loop-character-preserved c =
    let held = c.loop-character.invariant in
    let parts = c.in-Some.ensures.steps.0 in
    let left = chars (chars_rest c.next.new.self) in
    let P : List ℕ → Type 0 = λ rest. written c.args.self.now (map Some (chars c.args.text.now)) ≡ written c.loop-character.self (map Some rest) in
    record {
      utf8 = IsUtf8-past_char _ _ c.in-Some.character held.utf8 parts;
      same = subst P (chars_past_char _ _ c.in-Some.character held.utf8 parts) held.same
          ∙ written-more c.loop-character.self (Some c.in-Some.character) (map Some left)
          ∙ ap (λ (l : Lines). written l (map Some left)) (sym c.in_ok-push.ensures);
    }

pub returns : goal.returns
returns c =
    let held = c.loop-character.invariant in
    let P : List ℕ → Type 0 = λ rest. written c.args.self.now (map Some (chars c.args.text.now)) ≡ written c.loop-character.self (map Some rest) in
    sym (subst P (chars_of_empty _ c.in-None.ensures.steps.0.0) held.same ∙ written-none c.loop-character.self)
