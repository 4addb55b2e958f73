use Rattle.std.proofs.Common.{◌≡◌, ◌++◌, ◌<◌, ◌∙◌, List, [], ℕ, map, length, ap, sym, slice_index_or, slice_set}
use Rattle.std.proofs.Math.Seq.{map-set_same}
use Rattle.std.proofs.lemmas.List.{map-set, get_or-map, length-map}
use Rattle.wd_http.specs.HeldConnection.{HeldConnection, comes_on}

-- where more bytes come on the connection at i, the list of what comes grows at i
pub comes_on-set : (entries : List HeldConnection) (i : ℕ) (old new : HeldConnection) (more : List ℕ) → i < length (map comes_on entries) → old ≡ slice_index_or entries i old → comes_on new ≡ comes_on old ++ more
    → map comes_on (slice_set entries i new) ≡ slice_set (map comes_on entries) i (slice_index_or (map comes_on entries) i [] ++ more)
comes_on-set entries i old new more h is grows =
    let within : i < length entries = simp length-map at h in
    map-set comes_on entries i new ∙ ap (slice_set (map comes_on entries) i) (grows ∙ ap (λ b. b ++ more) (ap comes_on is ∙ sym (get_or-map comes_on entries i old [] within)))

-- where the same bytes come on it, it stays
pub comes_on-same : (entries : List HeldConnection) (i : ℕ) (old new : HeldConnection) → old ≡ slice_index_or entries i old → comes_on new ≡ comes_on old
    → map comes_on (slice_set entries i new) ≡ map comes_on entries
comes_on-same entries i old new is same = map-set_same comes_on entries i new old (same ∙ ap comes_on is)
