-- A name that begins with a lower-case letter and has only its characters.
use Rattle.std.proofs.Common.{◌≡◌, ℕ, Bool, true, false, ◌&&◌, ◌||◌, List, [], ◌∷◌, refl, sym, ap}
use Rattle.std.specs.List.{list_all}
use Rattle.page_engine.specs.Names.{is_lower, is_tag_character, is_name_character, starts_lower, is_tag, is_attribute_name}
use Rattle.page_file.specs.NodeValues.{begins_lower}

again : (a b c : Bool) → (a ≡ true → b ≡ true) → (a && c) ≡ (a && (b && c))
again true b c h = sym (ap (λ x. x && c) (h refl))
again false b c h = refl

left : (a b : Bool) → a ≡ true → (a || b) ≡ true
left a b h = ap (λ x. x || b) h

starts_all : (test : ℕ → Bool) → ((c : ℕ) → is_lower c ≡ true → test c ≡ true) → (text : List ℕ) → starts_lower test text ≡ (begins_lower text && list_all test text)
starts_all test h [] = refl
starts_all test h (c ∷ cs) = again (is_lower c) (test c) (list_all test cs) (h c)

pub tag_is : (text : List ℕ) → is_tag text ≡ (begins_lower text && list_all is_tag_character text)
tag_is text = starts_all is_tag_character (λ c h. left (is_lower c) _ h) text

pub name_is : (text : List ℕ) → is_attribute_name text ≡ (begins_lower text && list_all is_name_character text)
name_is text = starts_all is_name_character (λ c h. left (is_tag_character c) _ (left (is_lower c) _ h)) text
