-- Each word, and each kind of prompts, is found by its own text.
use Rattle.std.proofs.Common.{◌≡◌, ℕ, List, Some, refl, rules}
use Rattle.std.specs.Str.{encode_utf8_all}
use Rattle.wd_json.specs.declared.value.Json.{the_lemmas}
use Rattle.wd_json.specs.declared.value.Json.TheVariants as json
use Rattle.page_engine.specs.declared.effect.PromptKind.{PromptKind}
use Rattle.page_engine.specs.declared.effect.PromptKind.TheVariants as kind
use Rattle.page_file.specs.Words.{word_text, word_with, word_of, kind_text, kind_with, kind_of}
use Rattle.page_file.specs.declared.word.Word.{Word}
use Rattle.page_file.specs.declared.word.Word.TheVariants.{Remove, Insert, Attr, Text, Pixels, Layer, Hidden, Value, Checked, Focus, Prompt, Go, Open, After}

pub with_text : (w : Word) → word_with (word_text w) ≡ Some w
unfolding word_with
with_text Remove = refl
with_text Insert = refl
with_text Attr = refl
with_text Text = refl
with_text Pixels = refl
with_text Layer = refl
with_text Hidden = refl
with_text Value = refl
with_text Checked = refl
with_text Focus = refl
with_text Prompt = refl
with_text Go = refl
with_text Open = refl
with_text After = refl

pub with_kind_text : (k : PromptKind) → kind_with (kind_text k) ≡ Some k
unfolding kind_with
with_kind_text kind.Alert = refl
with_kind_text kind.Confirm = refl
with_kind_text kind.Prompt = refl

pub word_of_text : (t : List ℕ) → word_of (json.Text t) ≡ word_with (encode_utf8_all t)
word_of_text t = search (rules, the_lemmas)

pub kind_of_text : (t : List ℕ) → kind_of (json.Text t) ≡ kind_with (encode_utf8_all t)
kind_of_text t = search (rules, the_lemmas)
