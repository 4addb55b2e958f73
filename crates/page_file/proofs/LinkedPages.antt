-- Pages all of which are linked and light, or the first that isn't.
use Rattle.std.proofs.Common.{◌≡◌, ℕ, Bool, true, false, List, [], ◌∷◌, Option, Some, None, refl, sym, ap, ◌∙◌}
use Rattle.std.specs.Prelude.{not, ◌&&◌, ◌||◌, slice_get}
use Rattle.std.specs.List.{list_all, list_any, position}
use Rattle.std.specs.Option.{option_map, option_and_then}
use Rattle.page_engine.specs.Links.{AreLinked, is_linked, is_light}
use Rattle.page_engine.specs.declared.page_def.PageDef.{PageDef}
use Rattle.page_file.proofs.EntrySteps.{no_entry}
use Rattle.page_file.specs.SiteFiles.{first_file}
use Rattle.page_file.specs.Weighing.{AreLoadsFrom, AreLoadsOf, is_heavy}
use Rattle.page_file.specs.declared.listing.Entry.{Entry}
use Rattle.page_file.specs.declared.load.Load.{Load}

none_fails : {X : Type 0} (p : X → Bool) (xs : List X) → list_any (λ x. not (p x)) xs ≡ false → list_all p xs ≡ true
none_fails p [] none = refl
none_fails p (x ∷ xs) none = at (p x) refl (none_fails p xs) none
  where
    at : (b : Bool) → p x ≡ b → (list_any (λ y. not (p y)) xs ≡ false → list_all p xs ≡ true) → (not b || list_any (λ y. not (p y)) xs) ≡ false → list_all p (x ∷ xs) ≡ true
    at true is rest h = ap (λ (c : Bool). c && list_all p xs) is ∙ rest h
    at false is rest h = cc

-- the loads of all pages show that all are linked
pub all_linked : (pages later : List PageDef) (loads : List Load) → AreLoadsFrom pages later loads → list_all (is_linked pages) later ≡ true
all_linked pages [] [] are = refl
all_linked pages [] (load ∷ loads) are = absurd are
all_linked pages (page ∷ later) [] are = absurd are
all_linked pages (page ∷ later) (load ∷ loads) are = ap (λ (c : Bool). c && list_all (is_linked pages) later) are.0.frames.linked ∙ all_linked pages later loads are.1

-- where none is heavy, all are linked and light
pub are_linked : (pages : List PageDef) (loads : List Load) → AreLoadsOf pages loads → None ≡ position (is_heavy pages) pages → AreLinked pages
are_linked pages loads are none = record {
  linked = all_linked pages pages loads are;
  light = none_fails (is_light pages) pages (no_entry (is_heavy pages) pages (sym none));
}

-- the file of the first page of which the test holds
pub file_is : (entries : List Entry) (pages : List PageDef) (test : PageDef → Bool) (place : ℕ) (file : List ℕ) → position test pages ≡ Some place
    → option_map (λ (entry : Entry). entry.file) (slice_get entries place) ≡ Some file → first_file entries pages test ≡ Some file
file_is entries pages test place file found is = ap (λ (o : Option ℕ). option_map (λ (entry : Entry). entry.file) (option_and_then (slice_get entries) o)) found ∙ is
