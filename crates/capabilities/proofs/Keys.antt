-- The names of the objects that are answered rise, and are their own characters.
use Rattle.std.proofs.Common.{◌≡◌, ℕ, ◌+◌, ◌<◌, ◌≤◌, List, [], ◌∷◌, ◌++◌, map, length, take, get_or, codes, refl, ap, ap₂, sym, ◌∙◌}
use Rattle.std.proofs.lemmas.List.{map_more, take_all}
use lib.Utf8.{encode}
use Rattle.std.specs.List.Sorted.{IsStrictlySortedBy}
use Rattle.std.specs.Str.{chars}
use Rattle.wd_json.specs.Keys.{KeysRise}
use Rattle.wd_json.specs.declared.value.Json.{Json}
use Rattle.capabilities.specs.Values.{Member, Members}
use Rattle.capabilities.specs.Table.{row_of}
use Rattle.capabilities.specs.Echo.{echoed, echoed_at}
use Rattle.capabilities.specs.declared.capability.Capability.{Capability}
use Rattle.capabilities.specs.declared.capability.Capability.TheVariants.{AcceptInsecureCerts, BrowserName, BrowserVersion, PageLoadStrategy, PlatformName, Proxy, SetWindowRect, StrictFileInteractability, Timeouts, UnhandledPromptBehavior}
use Rattle.capabilities.specs.declared.matched.Matched.{Matched}

pub echoed-rise : (offered : List ℕ) (m : Matched) → KeysRise (echoed offered m)
unfolding IsStrictlySortedBy encode
echoed-rise offered m = ((refl, (refl, (refl, (refl, (refl, (refl, (refl, (refl, (refl, tt))))))))), ((refl, (refl, (refl, (refl, (refl, (refl, (refl, (refl, tt)))))))), ((refl, (refl, (refl, (refl, (refl, (refl, (refl, tt))))))), ((refl, (refl, (refl, (refl, (refl, (refl, tt)))))), ((refl, (refl, (refl, (refl, (refl, tt))))), ((refl, (refl, (refl, (refl, tt)))), ((refl, (refl, (refl, tt))), ((refl, (refl, tt)), ((refl, tt), (tt, tt))))))))))

pub three-rise : (i p s : Json) → KeysRise ((codes "implicit", i) ∷ (codes "pageLoad", p) ∷ (codes "script", s) ∷ [])
unfolding IsStrictlySortedBy encode
three-rise i p s = ((refl, (refl, tt)), ((refl, tt), (tt, tt)))

-- three members, one after another
pub three-pushed : (w x y z : Members) (a b c k l n : Member) → w ≡ [] → x ≡ w ++ a ∷ [] → y ≡ x ++ b ∷ [] → z ≡ y ++ c ∷ [] → a ≡ k → b ≡ l → c ≡ n → z ≡ k ∷ l ∷ n ∷ []
three-pushed w x y z a b c k l n e f g h i j m =
    h ∙ ap₂ (λ (v : Members) (o : Member). v ++ o ∷ []) (g ∙ ap₂ (λ (v : Members) (o : Member). v ++ o ∷ []) (f ∙ ap₂ (λ (v : Members) (o : Member). v ++ o ∷ []) e i) j) m

pub chars-name : (c : Capability) → chars (row_of c).name ≡ (row_of c).name
unfolding chars
chars-name c = elim c as (λ c. chars (row_of c).name ≡ (row_of c).name) [
  | AcceptInsecureCerts ↦ refl
  | BrowserName ↦ refl
  | BrowserVersion ↦ refl
  | PageLoadStrategy ↦ refl
  | PlatformName ↦ refl
  | Proxy ↦ refl
  | SetWindowRect ↦ refl
  | StrictFileInteractability ↦ refl
  | Timeouts ↦ refl
  | UnhandledPromptBehavior ↦ refl
]

-- a row of the answer, with its name read from characters
pub row-made : (offered : List ℕ) (m : Matched) (c : Capability) (name key : List ℕ) (value : Json) → key ≡ chars name → name ≡ (row_of c).name → value ≡ (row_of c).echoed offered m
    → (key, value) ≡ echoed_at offered m c
row-made offered m c name key value e f g = ap₂ (λ (k : List ℕ) (v : Json). (k, v)) (e ∙ ap chars f ∙ chars-name c) g

-- one row more
pub row-added : (f : Capability → Member) (xs : List Capability) (i : ℕ) (d : Capability) (before after : Members) (m : Member)
    → i < length xs → before ≡ map f (take i xs) → after ≡ before ++ m ∷ [] → m ≡ f (get_or xs i d) → after ≡ map f (take (i + 1) xs)
row-added f xs i d before after m within so_far added same =
    added ∙ ap₂ (λ (v : Members) (o : Member). v ++ o ∷ []) so_far same ∙ sym (map_more f xs i d within)

-- all rows
pub rows-made : (f : Capability → Member) (xs : List Capability) (i : ℕ) (ms : Members) → ms ≡ map f (take i xs) → length xs ≤ i → ms ≡ map f xs
rows-made f xs i ms e whole = e ∙ ap (map f) (take_all i xs whole)
