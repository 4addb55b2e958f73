-- What is kept from turn to turn where the words, and what was found, are gone over.
use Rattle.std.proofs.Common.{◌≡◌, ◌++◌, ◌∙◌, ◌&&◌, ◌+◌, ◌<◌, ℕ, List, [], ◌∷◌, Bool, true, length, take, get_or, map, refl, sym, ap, ap₂}
use Rattle.std.specs.Borrow.{Bor}
use Rattle.std.specs.List.{list_all}
use Rattle.std.specs.Str.{all_scalars, encode_utf8_all}
use Rattle.std.proofs.lemmas.List.{append-nil, map-append, take_more}
use Rattle.std.proofs.lemmas.List.Folds.{list_all-append}
use Rattle.std.proofs.lemmas.Grind.{flat_map-append}
use Rattle.clap.specs.Facts.{Entry}
use Rattle.clap.specs.Walk.{Row, first_of, row_of}
use Rattle.command_line.specs.Command.{value_with, values_at}
use Rattle.command_line.proofs.AppLemmas.{Texts}

-- ---- words, as texts

take_one : (words : Texts) (i : ℕ) (word : List ℕ) → i < length words → word ≡ get_or words i word → take (i + 1) words ≡ take i words ++ word ∷ []
take_one words i word lt is = take_more words i word lt ∙ ap (λ (w : List ℕ). take i words ++ w ∷ []) (sym is)

pub same_more : (words : Texts) (i : ℕ) (word : List ℕ) (texts : List (Bor (List ℕ))) (text : Bor (List ℕ)) → i < length words → word ≡ get_or words i word
    → text.now ≡ encode_utf8_all word → map (λ t. t.now) texts ≡ map encode_utf8_all (take i words)
    → map (λ t. t.now) (texts ++ text ∷ []) ≡ map encode_utf8_all (take (i + 1) words)
same_more words i word texts text lt is reads e =
    map-append (λ (t : Bor (List ℕ)). t.now) texts (text ∷ [])
    ∙ ap₂ (λ (a : Texts) (b : List ℕ). a ++ b ∷ []) e reads
    ∙ sym (ap (map encode_utf8_all) (take_one words i word lt is) ∙ map-append encode_utf8_all (take i words) (word ∷ []))

pub texts_more : (words : Texts) (i : ℕ) (word : List ℕ) → i < length words → word ≡ get_or words i word → all_scalars word ≡ true
    → list_all all_scalars (take i words) ≡ true → list_all all_scalars (take (i + 1) words) ≡ true
texts_more words i word lt is e f =
    ap (list_all all_scalars) (take_one words i word lt is) ∙ list_all-append all_scalars (take i words) (word ∷ [])
    ∙ ap₂ (λ (a b : Bool). a && (b && true)) f e

-- ---- what was found

pub ids_are : (entries : List Entry) → map (λ (e : Entry). e.0.now) entries ≡ map (λ (r : Row). r.id) (map row_of entries)
ids_are [] = refl
ids_are (e ∷ entries) = ap (λ (ids : Texts). e.0.now ∷ ids) (ids_are entries)

pub values_more : (rows : List Row) (ids : List (Bor (List ℕ))) (id : Bor (List ℕ))
    → values_at rows (map (λ i. i.now) (ids ++ id ∷ [])) ≡ values_at rows (map (λ i. i.now) ids) ++ value_with id.now (first_of id.now rows)
values_more rows ids id =
    ap (values_at rows) (map-append (λ (i : Bor (List ℕ)). i.now) ids (id ∷ []))
    ∙ flat_map-append (λ (i : List ℕ). value_with i (first_of i rows)) (map (λ i. i.now) ids) (id.now ∷ [])
    ∙ ap (λ (l : List (List ℕ × List ℕ)). values_at rows (map (λ i. i.now) ids) ++ l) (append-nil (value_with id.now (first_of id.now rows)))
