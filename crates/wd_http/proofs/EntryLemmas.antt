use Rattle.std.proofs.Common.{◌≡◌, ◌++◌, ◌+◌, List, ℕ, take, drop, length, ◌∙◌}
use Rattle.std.proofs.lemmas.List.{take_at}
use Rattle.std.proofs.lemmas.Simd.{chunk-drop}
use Rattle.std.proofs.Math.Seq.{take-add}

-- where a piece is the next n bytes, moving on by n leaves what is behind it
pub piece_left : (bytes piece rest : List ℕ) (at n : ℕ) → length piece ≡ n → piece ≡ take n (drop at bytes)
    → drop at bytes ≡ take n (piece ++ rest) ++ drop (at + n) bytes
piece_left bytes piece rest at n len is =
    let e : take n (piece ++ rest) ≡ take n (drop at bytes) = take_at piece rest n len ∙ is in
    rw e (chunk-drop at n bytes)

-- and takes the piece
pub piece_took : (bytes piece rest : List ℕ) (at n : ℕ) → length piece ≡ n → piece ≡ take n (drop at bytes)
    → take (at + n) bytes ≡ take at bytes ++ take n (piece ++ rest)
piece_took bytes piece rest at n len is =
    let e : take n (piece ++ rest) ≡ take n (drop at bytes) = take_at piece rest n len ∙ is in
    rw e (take-add at n bytes)
