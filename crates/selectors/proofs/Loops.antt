-- The loops over simples, joins and alternatives: a step, a failure and the end.
use Rattle.std.proofs.Common.{◌≡◌, ℕ, ◌<◌, true, false, Some, None, List, [], ◌∷◌, ◌++◌, length, refl}
use Rattle.selectors.specs.ReadingSimples.{row_at, in_front, marks, plain_at, simple_at}
use Rattle.selectors.specs.ReadingSelectors.{join_at, goes_on, next_at, has_more}
use Rattle.selectors.specs.declared.selector.Combinator.{Combinator}
use Rattle.selectors.specs.declared.selector.Complex.{Complex}
use Rattle.selectors.specs.declared.selector.Simple.{Simple}
use Rattle.selectors.proofs.Alternatives.{joins_shrink, next_shrinks}
use Rattle.selectors.proofs.Lesser.{plain_shrinks}
use Rattle.selectors.proofs.Plains.{plain_sound}
use Rattle.selectors.proofs.Rowed.{front_goes, front_fails, front_ends}
use Rattle.selectors.proofs.SimpleReading.{simple_sound, simple_shrinks}

pub plain_less : (text : List ℕ) (simple : Simple) (rest : List ℕ) → plain_at text ≡ Some (simple, rest) → length rest < length text
plain_less text simple rest e = plain_shrinks text simple rest (plain_sound text simple rest e)

pub plain_goes : (front : List Simple) (text : List ℕ) (item : Simple) (rest : List ℕ) → marks text ≡ true → plain_at text ≡ Some (item, rest) → in_front (front ++ item ∷ []) (row_at marks plain_at rest) ≡ in_front front (row_at marks plain_at text)
plain_goes = front_goes Simple marks plain_at refl plain_less

pub plain_fails : (front : List Simple) (text : List ℕ) → marks text ≡ true → plain_at text ≡ None → in_front front (row_at marks plain_at text) ≡ None
plain_fails = front_fails Simple marks plain_at refl plain_less

pub plain_ends : (front : List Simple) (text : List ℕ) → marks text ≡ false → in_front front (row_at marks plain_at text) ≡ Some (front, text)
plain_ends = front_ends Simple marks plain_at refl plain_less

pub simple_less : (text : List ℕ) (simple : Simple) (rest : List ℕ) → simple_at text ≡ Some (simple, rest) → length rest < length text
simple_less text simple rest e = simple_shrinks text simple rest (simple_sound text simple rest e)

pub simple_goes : (front : List Simple) (text : List ℕ) (item : Simple) (rest : List ℕ) → marks text ≡ true → simple_at text ≡ Some (item, rest) → in_front (front ++ item ∷ []) (row_at marks simple_at rest) ≡ in_front front (row_at marks simple_at text)
simple_goes = front_goes Simple marks simple_at refl simple_less

pub simple_fails : (front : List Simple) (text : List ℕ) → marks text ≡ true → simple_at text ≡ None → in_front front (row_at marks simple_at text) ≡ None
simple_fails = front_fails Simple marks simple_at refl simple_less

pub simple_ends : (front : List Simple) (text : List ℕ) → marks text ≡ false → in_front front (row_at marks simple_at text) ≡ Some (front, text)
simple_ends = front_ends Simple marks simple_at refl simple_less

pub join_goes : (front : List (Combinator × List Simple)) (text : List ℕ) (item : Combinator × List Simple) (rest : List ℕ) → goes_on text ≡ true → join_at text ≡ Some (item, rest) → in_front (front ++ item ∷ []) (row_at goes_on join_at rest) ≡ in_front front (row_at goes_on join_at text)
join_goes = front_goes (Combinator × List Simple) goes_on join_at refl joins_shrink

pub join_fails : (front : List (Combinator × List Simple)) (text : List ℕ) → goes_on text ≡ true → join_at text ≡ None → in_front front (row_at goes_on join_at text) ≡ None
join_fails = front_fails (Combinator × List Simple) goes_on join_at refl joins_shrink

pub join_ends : (front : List (Combinator × List Simple)) (text : List ℕ) → goes_on text ≡ false → in_front front (row_at goes_on join_at text) ≡ Some (front, text)
join_ends = front_ends (Combinator × List Simple) goes_on join_at refl joins_shrink

pub next_goes : (front : List Complex) (text : List ℕ) (item : Complex) (rest : List ℕ) → has_more text ≡ true → next_at text ≡ Some (item, rest) → in_front (front ++ item ∷ []) (row_at has_more next_at rest) ≡ in_front front (row_at has_more next_at text)
next_goes = front_goes Complex has_more next_at refl next_shrinks

pub next_fails : (front : List Complex) (text : List ℕ) → has_more text ≡ true → next_at text ≡ None → in_front front (row_at has_more next_at text) ≡ None
next_fails = front_fails Complex has_more next_at refl next_shrinks

pub next_ends : (front : List Complex) (text : List ℕ) → has_more text ≡ false → in_front front (row_at has_more next_at text) ≡ Some (front, text)
next_ends = front_ends Complex has_more next_at refl next_shrinks
