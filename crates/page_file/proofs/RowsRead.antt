-- What the rows of a box, of a prompt and of an `after` spell, from what each of their values does.
use Rattle.std.proofs.Common.{◌≡◌, ℕ, ℤ, List, [], ◌∷◌, Option, Some, ap, ◌∙◌, rules}
use Rattle.std.specs.Option.{option_map, option_and_then}
use Rattle.page_engine.specs.declared.effect.Effect.{Effect}
use Rattle.page_engine.specs.declared.effect.Effect.TheVariants as effect
use Rattle.page_engine.specs.declared.effect.PromptKind.{PromptKind}
use Rattle.page_file.specs.Spelled.{all_in, answer_effect, timed_effect, effect_of, timed_row, effect_row, prompt_of, prompt_row}
use Rattle.page_file.specs.Values.{text_of, wait_of, within_of, up_to_of, corner_and_size, optional_box_of}
use Rattle.page_file.specs.Words.{row_of, kind_of}
use Rattle.page_file.specs.declared.word.Word.TheVariants as word
use Rattle.page_tree.specs.declared.geometry.PixelBox.{PixelBox}
use Rattle.wd_json.specs.declared.value.Json.{Json, the_lemmas}
use Rattle.wd_json.specs.declared.value.Json.TheVariants as json

-- ---- boxes

abbrev pixel_box : ℤ → ℤ → ℤ → ℤ → PixelBox
pixel_box x y w h = record { x = x; y = y; w = w; h = h }

four_numbers : (a b c d : Json) (x y w h : ℤ)
    → within_of 1000000 a ≡ Some x → within_of 1000000 b ≡ Some y → up_to_of 1000000 c ≡ Some w → up_to_of 1000000 d ≡ Some h
    → corner_and_size (a ∷ b ∷ c ∷ d ∷ []) ≡ Some (pixel_box x y w h)
four_numbers a b c d x y w h e f g i =
    ap (option_and_then (λ (x : ℤ). option_and_then (λ (y : ℤ). option_and_then (λ (w : ℤ). option_map (pixel_box x y w) (up_to_of 1000000 d)) (up_to_of 1000000 c)) (within_of 1000000 b))) e
    ∙ ap (option_and_then (λ (y : ℤ). option_and_then (λ (w : ℤ). option_map (pixel_box x y w) (up_to_of 1000000 d)) (up_to_of 1000000 c))) f
    ∙ ap (option_and_then (λ (w : ℤ). option_map (pixel_box x y w) (up_to_of 1000000 d))) g
    ∙ ap (option_map (pixel_box x y w)) i

box_of_list : (vs : List Json) → optional_box_of (json.List vs) ≡ option_map Some (corner_and_size vs)
box_of_list vs = search (rules, the_lemmas)

pub box_read : (a b c d : Json) (pixels : PixelBox)
    → within_of 1000000 a ≡ Some pixels.x → within_of 1000000 b ≡ Some pixels.y → up_to_of 1000000 c ≡ Some pixels.w → up_to_of 1000000 d ≡ Some pixels.h
    → optional_box_of (json.List (a ∷ b ∷ c ∷ d ∷ [])) ≡ Some (Some pixels)
box_read a b c d pixels e f g i =
    box_of_list (a ∷ b ∷ c ∷ d ∷ []) ∙ ap (option_map Some) (four_numbers a b c d pixels.x pixels.y pixels.w pixels.h e f g i)

-- ---- prompts

prompt_values : (k t a m n : Json) (kind : PromptKind) (text answer : List ℕ) (accepted dismissed : List Effect)
    → kind_of k ≡ Some kind → text_of t ≡ Some text → text_of a ≡ Some answer
    → all_in answer_effect m ≡ Some accepted → all_in answer_effect n ≡ Some dismissed
    → prompt_row (k ∷ t ∷ a ∷ m ∷ n ∷ []) ≡ Some (effect.Prompt kind text answer accepted dismissed)
prompt_values k t a m n kind text answer accepted dismissed e f g h i =
    ap (λ (o : Option PromptKind). option_and_then prompt_of (option_and_then (λ (kind : PromptKind). option_and_then (λ (text : List ℕ). option_map (λ (answer : List ℕ). (kind, text, answer, m, n)) (text_of a)) (text_of t)) o)) e
    ∙ ap (λ (o : Option (List ℕ)). option_and_then prompt_of (option_and_then (λ (text : List ℕ). option_map (λ (answer : List ℕ). (kind, text, answer, m, n)) (text_of a)) o)) f
    ∙ ap (λ (o : Option (List ℕ)). option_and_then prompt_of (option_map (λ (answer : List ℕ). (kind, text, answer, m, n)) o)) g
    ∙ ap (option_and_then (λ (accepted : List Effect). option_map (effect.Prompt kind text answer accepted) (all_in answer_effect n))) h
    ∙ ap (option_map (effect.Prompt kind text answer accepted)) i

pub timed_prompt : (v k t a m n : Json) (kind : PromptKind) (text answer : List ℕ) (accepted dismissed : List Effect)
    → row_of v ≡ Some (word.Prompt, k ∷ t ∷ a ∷ m ∷ n ∷ []) → kind_of k ≡ Some kind → text_of t ≡ Some text → text_of a ≡ Some answer
    → all_in answer_effect m ≡ Some accepted → all_in answer_effect n ≡ Some dismissed
    → timed_effect v ≡ Some (effect.Prompt kind text answer accepted dismissed)
timed_prompt v k t a m n kind text answer accepted dismissed r e f g h i =
    ap (option_and_then (λ row. timed_row row.0 row.1)) r ∙ prompt_values k t a m n kind text answer accepted dismissed e f g h i

pub handled_prompt : (v k t a m n : Json) (kind : PromptKind) (text answer : List ℕ) (accepted dismissed : List Effect)
    → row_of v ≡ Some (word.Prompt, k ∷ t ∷ a ∷ m ∷ n ∷ []) → kind_of k ≡ Some kind → text_of t ≡ Some text → text_of a ≡ Some answer
    → all_in answer_effect m ≡ Some accepted → all_in answer_effect n ≡ Some dismissed
    → effect_of v ≡ Some (effect.Prompt kind text answer accepted dismissed)
handled_prompt v k t a m n kind text answer accepted dismissed r e f g h i =
    ap (option_and_then (λ row. effect_row row.0 row.1)) r ∙ prompt_values k t a m n kind text answer accepted dismissed e f g h i

pub ruleset prompts_read = (timed_prompt, handled_prompt)

-- ---- `after`

pub after_read : (v m n : Json) (ms : ℕ) (effects : List Effect)
    → row_of v ≡ Some (word.After, m ∷ n ∷ []) → wait_of m ≡ Some ms → all_in timed_effect n ≡ Some effects
    → effect_of v ≡ Some (effect.After ms effects)
after_read v m n ms effects r e f =
    ap (option_and_then (λ row. effect_row row.0 row.1)) r
    ∙ ap (option_and_then (λ (ms : ℕ). option_map (effect.After ms) (all_in timed_effect n))) e
    ∙ ap (option_map (effect.After ms)) f
