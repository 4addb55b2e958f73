-- Which effects a JSON value spells: the table of effects, one row a word.
use Rattle.std.specs.Prelude.{ℕ, List, [], ◌∷◌, Option, None}
use Rattle.std.specs.Option.{option_map, option_and_then}
use Rattle.page_engine.specs.declared.effect.Effect.{Effect}
use Rattle.page_engine.specs.declared.effect.Effect.TheVariants as effect
use Rattle.page_engine.specs.declared.effect.PromptKind.{PromptKind}
use Rattle.page_file.specs.Members.{each_of}
use Rattle.page_file.specs.Values.{text_of, optional_text_of, bool_of, list_of, number_of, wait_of, within_of, optional_box_of}
use Rattle.page_file.specs.Words.{row_of, kind_of}
use Rattle.page_file.specs.declared.word.Word.{Word}
use Rattle.page_file.specs.declared.word.Word.TheVariants as word
use Rattle.wd_json.specs.declared.value.Json.{Json}

-- ---- the forms of rows

-- `n`
abbrev pub one_node : List Json → Option ℕ
one_node (n ∷ []) = number_of n
one_node values = None

-- `n` and one value more
abbrev pub node_and : List Json → Option (ℕ × Json)
node_and (n ∷ v ∷ []) = option_map (λ n. (n, v)) (number_of n)
node_and values = None

-- one text
abbrev pub one_text : List Json → Option (List ℕ)
one_text (t ∷ []) = text_of t
one_text values = None

abbrev pub insert_row : List Json → Option Effect
insert_row (n ∷ p ∷ k ∷ []) =
    option_and_then (λ n. option_and_then (λ p. option_map (effect.Insert n p) (number_of k)) (number_of p)) (number_of n)
insert_row values = None

abbrev pub attr_row : List Json → Option Effect
attr_row (n ∷ name ∷ value ∷ []) =
    option_and_then (λ n. option_and_then (λ name. option_map (effect.Attr n name) (optional_text_of value)) (text_of name)) (number_of n)
attr_row values = None

-- what is set at a node
abbrev pub set_at : Word → ℕ → Json → Option Effect
set_at word.Text n v = option_map (effect.Text n) (text_of v)
set_at word.Pixels n v = option_map (effect.Pixels n) (optional_box_of v)
set_at word.Layer n v = option_map (effect.Layer n) (within_of 1000 v)
set_at word.Hidden n v = option_map (effect.Hidden n) (bool_of v)
set_at word.Value n v = option_map (effect.Value n) (text_of v)
set_at word.Checked n v = option_map (effect.Checked n) (bool_of v)
set_at w n v = None

abbrev set_row : Word → List Json → Option Effect
set_row w values = option_and_then (λ p. set_at w p.0 p.1) (node_and values)

abbrev pub all_in : (Json → Option Effect) → Json → Option (List Effect)
all_in read v = option_and_then (each_of read) (list_of v)

abbrev of_row : (Word → List Json → Option Effect) → Json → Option Effect
of_row read v = option_and_then (λ row. read row.0 row.1) (row_of v)

-- ---- in the lists of a prompt

abbrev pub plain_row : Word → List Json → Option Effect
plain_row word.Remove values = option_map effect.Remove (one_node values)
plain_row word.Insert values = insert_row values
plain_row word.Attr values = attr_row values
plain_row word.Text values = set_row word.Text values
plain_row word.Pixels values = set_row word.Pixels values
plain_row word.Layer values = set_row word.Layer values
plain_row word.Hidden values = set_row word.Hidden values
plain_row word.Value values = set_row word.Value values
plain_row word.Checked values = set_row word.Checked values
plain_row word.Focus values = option_map effect.Focus (one_node values)
plain_row word.Go values = option_map effect.Go (one_text values)
plain_row word.Open values = option_map effect.Open (one_text values)
plain_row word.Prompt values = None
plain_row word.After values = None

abbrev pub answer_effect : Json → Option Effect
answer_effect = of_row plain_row

-- ---- in a timer and in an `after`: prompts too

-- the kind, the text, the default answer, and what accepting and dismissing do
abbrev pub Asked : Type 0
Asked = PromptKind × List ℕ × List ℕ × Json × Json

abbrev pub asked_in : List Json → Option Asked
asked_in (kind ∷ text ∷ answer ∷ accepted ∷ dismissed ∷ []) =
    option_and_then (λ kind. option_and_then (λ text. option_map (λ answer.
    (kind, text, answer, accepted, dismissed))
    (text_of answer))
    (text_of text))
    (kind_of kind)
asked_in values = None

abbrev pub prompt_of : Asked → Option Effect
prompt_of p =
    option_and_then (λ accepted. option_map (λ dismissed.
    effect.Prompt p.0 p.1 p.2 accepted dismissed)
    (all_in answer_effect p.4))
    (all_in answer_effect p.3)

abbrev pub prompt_row : List Json → Option Effect
prompt_row values = option_and_then prompt_of (asked_in values)

abbrev pub timed_row : Word → List Json → Option Effect
timed_row word.Prompt values = prompt_row values
timed_row w values = plain_row w values

abbrev pub timed_effect : Json → Option Effect
timed_effect = of_row timed_row

-- ---- in a handler and in a script: `after` too

abbrev pub after_row : List Json → Option Effect
after_row (ms ∷ effects ∷ []) = option_and_then (λ ms. option_map (effect.After ms) (all_in timed_effect effects)) (wait_of ms)
after_row values = None

abbrev pub effect_row : Word → List Json → Option Effect
effect_row word.After values = after_row values
effect_row w values = timed_row w values

abbrev pub effect_of : Json → Option Effect
effect_of = of_row effect_row

-- the list of effects that a value spells, if it spells one
unfoldable pub effects_in : Json → Option (List Effect)
effects_in = all_in effect_of
