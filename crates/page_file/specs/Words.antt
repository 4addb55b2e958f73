-- The words with which effects begin, and the kinds of prompts, by their texts.
use Rattle.std.specs.Prelude.{ℕ, List, [], ◌∷◌, Option, None, codes}
use Rattle.std.specs.List.{find}
use Rattle.std.specs.Str.{encode_utf8_all, bytes_eq}
use Rattle.std.specs.Option.{option_map, option_and_then}
use Rattle.page_engine.specs.declared.effect.PromptKind.{PromptKind}
use Rattle.page_engine.specs.declared.effect.PromptKind.TheVariants as kind
use Rattle.page_file.specs.Values.{text_of, list_of}
use Rattle.page_file.specs.declared.word.Word.{Word}
use Rattle.page_file.specs.declared.word.Word.TheVariants.{Remove, Insert, Attr, Text, Pixels, Layer, Hidden, Value, Checked, Focus, Prompt, Go, Open, After}
use Rattle.wd_json.specs.declared.value.Json.{Json}

abbrev pub word_text : Word → List ℕ
word_text Remove = codes "remove"
word_text Insert = codes "insert"
word_text Attr = codes "attr"
word_text Text = codes "text"
word_text Pixels = codes "box"
word_text Layer = codes "layer"
word_text Hidden = codes "hidden"
word_text Value = codes "value"
word_text Checked = codes "checked"
word_text Focus = codes "focus"
word_text Prompt = codes "prompt"
word_text Go = codes "go"
word_text Open = codes "open"
word_text After = codes "after"

abbrev pub all_words : List Word
all_words = Remove ∷ Insert ∷ Attr ∷ Text ∷ Pixels ∷ Layer ∷ Hidden ∷ Value ∷ Checked ∷ Focus ∷ Prompt ∷ Go ∷ Open ∷ After ∷ []

unfoldable pub word_with : List ℕ → Option Word
word_with bytes = find (λ w. bytes_eq (word_text w) bytes) all_words

abbrev pub word_of : Json → Option Word
word_of v = option_and_then (λ t. word_with (encode_utf8_all t)) (text_of v)

abbrev pub kind_text : PromptKind → List ℕ
kind_text kind.Alert = codes "alert"
kind_text kind.Confirm = codes "confirm"
kind_text kind.Prompt = codes "prompt"

unfoldable pub kind_with : List ℕ → Option PromptKind
kind_with bytes = find (λ k. bytes_eq (kind_text k) bytes) (kind.Alert ∷ kind.Confirm ∷ kind.Prompt ∷ [])

abbrev pub kind_of : Json → Option PromptKind
kind_of v = option_and_then (λ t. kind_with (encode_utf8_all t)) (text_of v)

-- a word, and the values after it
abbrev pub Row : Type 0
Row = Word × List Json

abbrev row_in : List Json → Option Row
row_in [] = None
row_in (head ∷ rest) = option_map (λ w. (w, rest)) (word_of head)

-- the list that begins with a word
abbrev pub row_of : Json → Option Row
row_of v = option_and_then row_in (list_of v)
