-- For private clauses: a set of the texts that were seen as keys.
use Rattle.std.specs.Prelude.{◌≡◌, ℕ, List, Some, slice_get, String}
use Rattle.std.specs.BTreeSet.{BTreeSet, contains_text}
use Rattle.std.specs.List.{list_any}
use Rattle.std.specs.Str.{bytes_eq, chars, encode_utf8_all}

-- the set has the bytes of the keys
pub record HasKeys {X Y : Type 0} (key : X → List ℕ) (set : BTreeSet (String Y)) (xs : List X) : Type 0 where
  pub bytes : (cs : List ℕ) → contains_text set cs ≡ list_any (λ x. bytes_eq (encode_utf8_all (key x)) cs) xs
  pub texts : (n : ℕ) (x : X) → slice_get xs n ≡ Some x → chars (encode_utf8_all (key x)) ≡ key x
