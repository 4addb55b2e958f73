-- Files at whose end one is added.
use Rattle.std.proofs.Common.{◌≡◌, ◌++◌, ◌∙◌, List, [], ◌∷◌, ℕ, Bool, true, false, Some, ap, sym, refl, cond}
use Rattle.std.specs.Map.{lookup}
use Rattle.std.specs.Str.{encode_utf8_all}
use Rattle.std.proofs.lemmas.List.{reverse-append}
use Rattle.std.proofs.lemmas.Slice.Eq.{bytes_eq-Decides}
use Rattle.wd_http.specs.Files.{is_name, file_at, Sets}

pub file_at-push : (name : List ℕ) (files : List (List ℕ × List ℕ)) (file : List ℕ × List ℕ) → file_at name (files ++ file ∷ []) ≡ cond (is_name name file.0) (Some file.1) (file_at name files)
file_at-push name files file = ap (lookup (is_name name)) (reverse-append files (file ∷ []))

not_true : (b : Bool) → (b ≡ true → ⊥) → b ≡ false
not_true true h = absurd (h refl)
not_true false h = refl

-- the added one counts
pub sets_added : (files : List (List ℕ × List ℕ)) (name characters bytes : List ℕ) → encode_utf8_all characters ≡ name → Sets files (files ++ (characters, bytes) ∷ []) name bytes
sets_added files name characters bytes is = record {
  here = file_at-push name files (characters, bytes) ∙ ap (λ (b : Bool). cond b (Some bytes) (file_at name files)) ((bytes_eq-Decides (encode_utf8_all characters) name).1 is);
  others = λ other differs. file_at-push other files (characters, bytes) ∙ ap (λ (b : Bool). cond b (Some bytes) (file_at other files)) (not_true _ (λ e. differs (sym ((bytes_eq-Decides (encode_utf8_all characters) other).0 e) ∙ is)));
}
