-- What kind a node has, under each change of the contents.
use Rattle.std.proofs.Common.{◌≡◌, ◌≢◌, ℕ, zero, suc, true, false, List, [], ◌∷◌, ◌++◌, Option, Some, None, length, refl, sym, ap, arith}
use Rattle.std.specs.Prelude.{IfSome}
use Rattle.page_tree.specs.Rows.{kind_at, is_shadow_kind, is_element_kind, is_text_kind, change_at}
use Rattle.page_tree.specs.declared.content.Content.{Content}
use Rattle.page_tree.specs.declared.content.Kind.{Kind}
use Rattle.page_tree.specs.declared.content.Kind.TheVariants.{Element, Text, Shadow}

pub shadow_kind_pushed : (contents : List Content) (content : Content) (n : ℕ) → is_shadow_kind (Some content.kind) ≡ false → is_shadow_kind (kind_at (contents ++ content ∷ []) n) ≡ is_shadow_kind (kind_at contents n)
shadow_kind_pushed [] content zero plain = plain
shadow_kind_pushed [] content (suc n) plain = refl
shadow_kind_pushed (c ∷ contents) content zero plain = refl
shadow_kind_pushed (c ∷ contents) content (suc n) plain = shadow_kind_pushed contents content n plain

pub kind_pushed_here : (contents : List Content) (content : Content) (n : ℕ) → n ≡ length contents → kind_at (contents ++ content ∷ []) n ≡ Some content.kind
kind_pushed_here [] content zero at = refl
kind_pushed_here [] content (suc n) at = absurd (omega arith)
kind_pushed_here (c ∷ contents) content zero at = absurd (omega arith)
kind_pushed_here (c ∷ contents) content (suc n) at = kind_pushed_here contents content n (omega arith)

pub kind_pushed_other : (contents : List Content) (content : Content) (n : ℕ) → n ≢ length contents → kind_at (contents ++ content ∷ []) n ≡ kind_at contents n
kind_pushed_other [] content zero apart = absurd (apart refl)
kind_pushed_other [] content (suc n) apart = refl
kind_pushed_other (c ∷ contents) content zero apart = refl
kind_pushed_other (c ∷ contents) content (suc n) apart = kind_pushed_other contents content n (λ e. apart (ap suc e))

-- a change that keeps the kind
pub kind_changed : (f : Content → Content) → ((content : Content) → (f content).kind ≡ content.kind) → (at : ℕ) (contents : List Content) (n : ℕ) → kind_at (change_at at f contents) n ≡ kind_at contents n
kind_changed f keeps at [] n = refl
kind_changed f keeps zero (c ∷ contents) zero = ap Some (keeps c)
kind_changed f keeps zero (c ∷ contents) (suc n) = refl
kind_changed f keeps (suc at) (c ∷ contents) zero = refl
kind_changed f keeps (suc at) (c ∷ contents) (suc n) = kind_changed f keeps at contents n

pub length-change_at : (f : Content → Content) (i : ℕ) (xs : List Content) → length (change_at i f xs) ≡ length xs
length-change_at f i [] = refl
length-change_at f zero (x ∷ xs) = refl
length-change_at f (suc i) (x ∷ xs) = omega (arith, length-change_at f i xs)

-- the characters of a text, changed
abbrev pub texted : List ℕ → Content → Content
texted text content = record content { kind = Text text }

text_is_plain : (kind : Kind) → is_text_kind (Some kind) ≡ true → is_shadow_kind (Some kind) ≡ false
text_is_plain (Element tag) h = absurd (let e : false ≡ true = h in cc)
text_is_plain (Text text) h = refl
text_is_plain Shadow h = absurd (let e : false ≡ true = h in cc)

text_is_no_element : (kind : Kind) → is_text_kind (Some kind) ≡ true → is_element_kind (Some kind) ≡ false
text_is_no_element (Element tag) h = absurd (let e : false ≡ true = h in cc)
text_is_no_element (Text text) h = refl
text_is_no_element Shadow h = absurd (let e : false ≡ true = h in cc)

pub shadow_kind_texted : (text : List ℕ) (at : ℕ) (contents : List Content) → is_text_kind (kind_at contents at) ≡ true → (n : ℕ) → is_shadow_kind (kind_at (change_at at (texted text) contents) n) ≡ is_shadow_kind (kind_at contents n)
shadow_kind_texted text at [] h n = refl
shadow_kind_texted text zero (c ∷ contents) h zero = sym (text_is_plain c.kind h)
shadow_kind_texted text zero (c ∷ contents) h (suc n) = refl
shadow_kind_texted text (suc at) (c ∷ contents) h zero = refl
shadow_kind_texted text (suc at) (c ∷ contents) h (suc n) = shadow_kind_texted text at contents h n

pub text_kind_texted : (text : List ℕ) (at : ℕ) (contents : List Content) → is_text_kind (kind_at contents at) ≡ true → (n : ℕ) → is_text_kind (kind_at (change_at at (texted text) contents) n) ≡ is_text_kind (kind_at contents n)
text_kind_texted text at [] h n = refl
text_kind_texted text zero (c ∷ contents) h zero = sym h
text_kind_texted text zero (c ∷ contents) h (suc n) = refl
text_kind_texted text (suc at) (c ∷ contents) h zero = refl
text_kind_texted text (suc at) (c ∷ contents) h (suc n) = text_kind_texted text at contents h n

pub element_kind_texted : (text : List ℕ) (at : ℕ) (contents : List Content) → is_text_kind (kind_at contents at) ≡ true → (n : ℕ) → is_element_kind (kind_at (change_at at (texted text) contents) n) ≡ is_element_kind (kind_at contents n)
element_kind_texted text at [] h n = refl
element_kind_texted text zero (c ∷ contents) h zero = sym (text_is_no_element c.kind h)
element_kind_texted text zero (c ∷ contents) h (suc n) = refl
element_kind_texted text (suc at) (c ∷ contents) h zero = refl
element_kind_texted text (suc at) (c ∷ contents) h (suc n) = element_kind_texted text at contents h n

-- ---- what has the focus stays an element
pub element_pushed : (contents : List Content) (content : Content) (n : ℕ) → is_element_kind (kind_at contents n) ≡ true → is_element_kind (kind_at (contents ++ content ∷ []) n) ≡ true
element_pushed [] content zero h = absurd (let e : false ≡ true = h in cc)
element_pushed [] content (suc n) h = absurd (let e : false ≡ true = h in cc)
element_pushed (c ∷ contents) content zero h = h
element_pushed (c ∷ contents) content (suc n) h = element_pushed contents content n h

pub focus_kept : (focus : Option ℕ) (before after : List Content) → ((n : ℕ) → is_element_kind (kind_at before n) ≡ true → is_element_kind (kind_at after n) ≡ true)
    → IfSome focus (λ n. is_element_kind (kind_at before n) ≡ true) → IfSome focus (λ n. is_element_kind (kind_at after n) ≡ true)
focus_kept None before after keeps h = tt
focus_kept (Some n) before after keeps h = keeps n h
