-- For private clauses: lines as they are written, one mark after another.
use Rattle.std.specs.Prelude.{ℕ, List, [], ◌∷◌, ◌++◌, Some, None, if◌then◌else◌}
use Rattle.std.specs.List.{fold}
use Rattle.interaction.specs.RenderedText.{Mark, is_blank}
use Rattle.interaction.specs.declared.lines.Lines.{Lines}
use Rattle.interaction.specs.declared.lines.Gap.{Gap}
use Rattle.interaction.specs.declared.lines.Gap.TheVariants.{Start, Tight, Space, Break}

-- after a line break; at the start there is nothing to part
abbrev pub broken : Gap → Gap
broken Start = Start
broken Tight = Break
broken Space = Break
broken Break = Break

-- after white space
abbrev pub spaced : Gap → Gap
spaced Start = Start
spaced Tight = Space
spaced Space = Space
spaced Break = Break

-- what stands before the next character
abbrev pub lead : Gap → List ℕ
lead Start = []
lead Tight = []
lead Space = 32 ∷ []
lead Break = 10 ∷ []

abbrev pub with_character : Lines → ℕ → Lines
with_character lines c = if is_blank c then record lines { gap = spaced lines.gap } else record { text = lines.text ++ (lead lines.gap ++ c ∷ []); gap = Tight }

abbrev pub with_mark : Lines → Mark → Lines
with_mark lines None = record lines { gap = broken lines.gap }
with_mark lines (Some c) = with_character lines c

unfoldable pub written : Lines → List Mark → Lines
written lines marks = fold with_mark lines marks
