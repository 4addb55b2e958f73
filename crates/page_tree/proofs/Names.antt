-- The attribute names of each node differ, under each change of the contents.
use Rattle.std.proofs.Common.{◌≡◌, ℕ, zero, suc, Bool, true, false, cond, List, [], ◌∷◌, ◌++◌, Option, Some, None, refl}
use Rattle.std.specs.Prelude.{not, slice_get}
use Rattle.std.specs.List.{AllByRecursion, IsDistinct}
use Rattle.std.specs.Map.{keys_of}
use Rattle.std.specs.Str.{bytes_eq}
use Rattle.std.proofs.lemmas.Map.Made.{IsDistinct-keys_filter}
use Rattle.page_tree.specs.Attributes.{Attributes, DifferInName, has_name, with_value, changed_to}
use Rattle.page_tree.specs.Rows.{or_shadow_root, change_at}
use Rattle.page_tree.specs.declared.content.Content.{Content}

pub none_differ : DifferInName []
unfolding IsDistinct
none_differ = tt

-- ---- one attribute set, or taken away
all_with_value : (P : List ℕ → Type 0) (name value : List ℕ) (es : Attributes) → P name → AllByRecursion P (keys_of es) → AllByRecursion P (keys_of (with_value name value es))
all_with_value P name value [] new all = (new, tt)
all_with_value P name value (e ∷ es) new all = at (has_name name e) (all_with_value P name value es new all.1)
  where
    at : (b : Bool) → AllByRecursion P (keys_of (with_value name value es)) → AllByRecursion P (keys_of (cond b ((e.0, value) ∷ es) (e ∷ with_value name value es)))
    at true rest = all
    at false rest = (all.0, rest)

pub differ_with_value : (name value : List ℕ) (es : Attributes) → DifferInName es → DifferInName (with_value name value es)
unfolding IsDistinct
differ_with_value name value [] apart = (tt, tt)
differ_with_value name value (e ∷ es) apart = at (has_name name e) refl (differ_with_value name value es apart.1)
  where
    at : (b : Bool) → has_name name e ≡ b → DifferInName (with_value name value es) → DifferInName (cond b ((e.0, value) ∷ es) (e ∷ with_value name value es))
    at true is rest = apart
    at false is rest = (all_with_value (λ other. bytes_eq e.0 other ≡ false) name value es is apart.0, rest)

pub differ_changed : (name : List ℕ) (value : Option (List ℕ)) (es : Attributes) → DifferInName es → DifferInName (changed_to name value es)
differ_changed name None es apart = IsDistinct-keys_filter bytes_eq (λ attribute. not (has_name name attribute)) es apart
differ_changed name (Some value) es apart = differ_with_value name value es apart

-- ---- of each node
abbrev pub NamesDiffer : List Content → ℕ → Type 0
NamesDiffer contents n = DifferInName (or_shadow_root (slice_get contents n)).attributes

pub names_pushed : (contents : List Content) (content : Content) → DifferInName content.attributes → ((n : ℕ) → NamesDiffer contents n) → (n : ℕ) → NamesDiffer (contents ++ content ∷ []) n
names_pushed [] content new before zero = new
names_pushed [] content new before (suc n) = none_differ
names_pushed (c ∷ contents) content new before zero = before 0
names_pushed (c ∷ contents) content new before (suc n) = names_pushed contents content new (λ k. before (suc k)) n

pub names_changed : (f : Content → Content) → ((content : Content) → DifferInName content.attributes → DifferInName (f content).attributes) → (at : ℕ) (contents : List Content) → ((n : ℕ) → NamesDiffer contents n) → (n : ℕ) → NamesDiffer (change_at at f contents) n
names_changed f keeps at [] before n = before n
names_changed f keeps zero (c ∷ contents) before zero = keeps c (before 0)
names_changed f keeps zero (c ∷ contents) before (suc n) = before (suc n)
names_changed f keeps (suc at) (c ∷ contents) before zero = before 0
names_changed f keeps (suc at) (c ∷ contents) before (suc n) = names_changed f keeps at contents (λ k. before (suc k)) n
