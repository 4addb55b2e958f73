use Rattle.std.proofs.Common.{◌≡◌, ℤ, true, to_z, of_z, w32, arith, [], ◌∷◌, Some, refl, ap, ◌∙◌}
use Rattle.std.proofs.lemmas.Int.{ints}
use Rattle.page_engine.specs.Fitting.{is_within, is_up_to}
use Rattle.page_file.specs.Values.{within_of, up_to_of, optional_box_of}
use Rattle.page_file.proofs.EachRead.{box_parts}
use Rattle.page_file.proofs.RowsRead.{box_read}
use Rattle.page_file.proofs.spelling.box_list.Goals as goal
use Rattle.wd_json.specs.declared.value.Json.{Json}
use Rattle.wd_json.specs.declared.value.Json.TheVariants as json

corner_at : (v : Json) (y z : ℤ) → y ≡ z → (is_within 1000000 y ≡ true → within_of 1000000 v ≡ Some y) → is_within 1000000 z ≡ true → within_of 1000000 v ≡ Some z
corner_at v y z e k h = k (ap (is_within 1000000) e ∙ h) ∙ ap Some e

size_at : (v : Json) (y z : ℤ) → y ≡ z → (is_up_to 1000000 y ≡ true → up_to_of 1000000 v ≡ Some y) → is_up_to 1000000 z ≡ true → up_to_of 1000000 v ≡ Some z
size_at v y z e k h = k (ap (is_up_to 1000000) e ∙ h) ∙ ap Some e

pub returns-clause-same : goal.returns-clause-same
returns-clause-same c h =
    let p = c.args.pixels.now in
    let parts = box_parts p h in
    let x : to_z w32 (of_z w32 p.x) ≡ p.x = omega (arith, ints) in
    let y : to_z w32 (of_z w32 p.y) ≡ p.y = omega (arith, ints) in
    let w : to_z w32 (of_z w32 p.w) ≡ p.w = omega (arith, ints) in
    let z : to_z w32 (of_z w32 p.h) ≡ p.h = omega (arith, ints) in
    let values : c.from_vec.result ≡ c.corner.result ∷ c.corner-2.result ∷ c.size.result ∷ c.size-2.result ∷ [] =
    rw (c.from_vec.ensures, c.in_ok-push-4.ensures.items, c.in_ok-push-3.ensures.items, c.in_ok-push-2.ensures.items, c.in_ok-push.ensures.items, c.in_ok-values.ensures.items) refl in
    ap (λ vs. optional_box_of (json.List vs)) values
    ∙ box_read c.corner.result c.corner-2.result c.size.result c.size-2.result p
    (corner_at c.corner.result _ p.x x c.corner.ensures.same parts.0) (corner_at c.corner-2.result _ p.y y c.corner-2.ensures.same parts.1)
    (size_at c.size.result _ p.w w c.size.ensures.same parts.2) (size_at c.size-2.result _ p.h z c.size-2.ensures.same parts.3)
