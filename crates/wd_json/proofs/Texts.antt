-- Texts are the same exactly if their characters are, and a text whose bytes are all ASCII is one.
use Rattle.std.proofs.Common.{◌≡◌, ◌<◌, ℕ, List, true, sym, ap, ◌∙◌}
use Rattle.std.proofs.lemmas.Bool.Decides.{same_from_decides, Decides-like}
use Rattle.std.proofs.lemmas.Bool.{ltb-true}
use Rattle.std.proofs.lemmas.List.Elements.{All-weaker}
use Rattle.std.proofs.lemmas.List.Sums.{AllPass-from_list_all}
use Rattle.std.proofs.lemmas.Slice.Eq.{bytes_eq-Decides}
use Rattle.std.proofs.lemmas.Str.Ascii.{IsAscii-from_all}
use Rattle.std.specs.List.{list_all}
use Rattle.std.specs.Prelude.{Bool, nat_lt}
use Rattle.std.specs.Str.{IsAscii, chars, bytes_eq, encode_utf8_all}

pub same_texts : (a b : List ℕ) → encode_utf8_all (chars a) ≡ a → encode_utf8_all (chars b) ≡ b → bytes_eq a b ≡ bytes_eq (chars a) (chars b)
same_texts a b left right =
    same_from_decides (bytes_eq a b) (bytes_eq (chars a) (chars b)) (bytes_eq-Decides a b)
    (Decides-like (bytes_eq (chars a) (chars b)) (λ e. sym left ∙ ap encode_utf8_all e ∙ right) (λ e. ap chars e) (bytes_eq-Decides (chars a) (chars b)))

abbrev pub is_ascii : ℕ → Bool
is_ascii b = nat_lt b 128

pub ascii_text : (text : List ℕ) → list_all is_ascii text ≡ true → IsAscii text
ascii_text text h =
    IsAscii-from_all text (All-weaker (λ b. is_ascii b ≡ true) (λ b. b < 128) (λ b t. ltb-true b 128 t) text (AllPass-from_list_all is_ascii text h))
