-- The loads of the pages, one page after another.
use Rattle.std.proofs.Common.{◌≡◌, inl, inr, ℕ, ◌+◌, ◌<◌, false, not, List, [], ◌∷◌, ◌++◌, Some, length, take, get_or, refl, sym, ap, subst, ◌∙◌, arith}
use Rattle.std.specs.List.{position, position_or_len}
use Rattle.std.proofs.lemmas.Bool.{cases_lt}
use Rattle.std.proofs.lemmas.List.{length_push, take_more}
use Rattle.std.proofs.lemmas.List.Sums.{position_or_len_is}
use Rattle.std.proofs.lemmas.Option.{slice_get-get_or, get_or_from_slice_get}
use Rattle.page_engine.specs.declared.page_def.PageDef.{PageDef}
use Rattle.page_engine.specs.Links.{is_linked}
use Rattle.page_file.specs.Weighing.{IsLoadOf, AreLoadsFrom, is_unlinked}
use Rattle.page_file.specs.declared.load.Load.{Load}

pub record AreLoadsSoFar (pages : List PageDef) (i : ℕ) (loads : List Load) : Type 0 where
  pub weighed : AreLoadsFrom pages (take i pages) loads
  pub linked : (k : ℕ) (d : PageDef) → k < i → is_unlinked pages (get_or pages k d) ≡ false
  pub count : length loads ≡ i

one_more : (pages later : List PageDef) (loads : List Load) (page : PageDef) (load : Load) → AreLoadsFrom pages later loads → IsLoadOf pages page load → AreLoadsFrom pages (later ++ page ∷ []) (loads ++ load ∷ [])
one_more pages [] [] page load are is = (is, tt)
one_more pages [] (l ∷ loads) page load are is = absurd are
one_more pages (p ∷ later) [] page load are is = absurd are
one_more pages (p ∷ later) (l ∷ loads) page load are is = (are.0, one_more pages later loads page load are.1 is)

pub loads_start : (pages : List PageDef) → AreLoadsSoFar pages 0 []
loads_start pages = record { weighed = tt; linked = λ k d below. absurd (omega (arith, below)); count = refl }

module _ (pages : List PageDef) (i : ℕ) (page : PageDef) (within : i < length pages) (here : page ≡ get_or pages i page) where
  pub loads_more : (loads : List Load) (load : Load) → AreLoadsSoFar pages i loads → IsLoadOf pages page load → AreLoadsSoFar pages (i + 1) (loads ++ load ∷ [])
  loads_more loads load old is = record {
    weighed = subst (λ ps. AreLoadsFrom pages ps (loads ++ load ∷ [])) (sym (take_more pages i page within ∙ ap (λ p. take i pages ++ p ∷ []) (sym here))) (one_more pages (take i pages) loads page load old.weighed is);
    linked = λ k d below. at k d below;
    count = length_push loads load ∙ ap (λ n. n + 1) old.count;
  }
    where
      at : (k : ℕ) (d : PageDef) → k < i + 1 → is_unlinked pages (get_or pages k d) ≡ false
      at k d below = elim (cases_lt k i) [
        | inl before ↦ old.linked k d before
        | inr past ↦ (let same : k ≡ i = omega arith in
            ap (λ n. is_unlinked pages (get_or pages n d)) same ∙ ap (is_unlinked pages) (get_or_from_slice_get pages i (get_or pages i page) d (slice_get-get_or pages i page within) ∙ sym here) ∙ ap not is.frames.linked)
      ]

  -- the first page that leads to no page
  pub first_unlinked : (loads : List Load) → AreLoadsSoFar pages i loads → is_linked pages page ≡ false → position (is_unlinked pages) pages ≡ Some (length loads)
  first_unlinked loads old lost =
      let first : position_or_len (is_unlinked pages) pages ≡ i =
      position_or_len_is (is_unlinked pages) pages i page (omega (arith, within)) (λ k below. old.linked k page below) (λ _. ap (is_unlinked pages) (sym here) ∙ ap not lost) in
      let long : length loads ≡ i = old.count in
      grind (arith, first, within, long)
