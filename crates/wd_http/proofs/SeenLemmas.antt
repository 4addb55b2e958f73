-- Looking on from where a look ended.
use Rattle.std.proofs.Common.{◌≡◌, ◌≤◌, ◌+◌, ◌-◌, ◌++◌, List, ℕ, Some, None, take, drop, length, min, sym, subst, ap, ◌∙◌, arith, length-take}
use Rattle.std.proofs.lemmas.List.{take_min}
use Rattle.std.proofs.Math.Seq.{take-add}
use Rattle.wd_http.specs.Frames.{head_limit}
use Rattle.wd_http.specs.Marks.{block_end, mark_after}
use Rattle.wd_http.specs.SearchedHead.{IsSeen}
use Rattle.wd_http.specs.declared.mark.Mark.{Mark}
use Rattle.wd_http.specs.declared.mark.Mark.TheVariants.{Blank}
use Rattle.wd_http.proofs.BlockLemmas.{add_to, block_append, is_block}

module _ (unread : List ℕ) (seen limit : ℕ) (mark : Mark) (s : IsSeen unread seen mark) (is : limit ≡ min (length unread) head_limit) where
  piece : List ℕ
  piece = take (limit - seen) (drop seen unread)

  most : take limit unread ≡ take head_limit unread
  most =
      let e : limit ≡ min head_limit (length unread) = omega (arith, s.within) in
      ap (λ n. take n unread) e ∙ take_min head_limit unread

  cut : take limit unread ≡ take seen unread ++ piece
  unfolding piece
  cut =
      let w = s.within in
      let m = s.most in
      let e : limit ≡ seen + (limit - seen) = omega (arith, w, m) in
      ap (λ n. take n unread) e ∙ take-add seen (limit - seen) unread

  ends : (block_end (take head_limit unread) Blank ≡ add_to seen (block_end piece mark)) × (mark_after (take limit unread) Blank ≡ mark_after piece mark)
  ends =
      let w = s.within in
      let g = block_append (take seen unread) piece Blank s.none in
      let k : length (take seen unread) ≡ seen = omega (arith, length-take seen unread, w) in
      let P : Mark → Type 0 = λ m. block_end (take seen unread ++ piece) Blank ≡ add_to (length (take seen unread)) (block_end piece m) in
      let Q : Mark → Type 0 = λ m. mark_after (take seen unread ++ piece) Blank ≡ mark_after piece m in (
        ap (λ u. block_end u Blank) (sym most ∙ cut) ∙ (subst P s.mark_is g.0 ∙ ap (λ n. add_to n (block_end piece mark)) k),
        ap (λ u. mark_after u Blank) cut ∙ subst Q s.mark_is g.1,
      )

  pub found : (n : ℕ) → block_end (take (limit - seen) (drop seen unread)) mark ≡ Some n → block_end (take head_limit unread) Blank ≡ Some (seen + n)
  unfolding piece
  found n e = ends.0 ∙ ap (add_to seen) e

  pub not_found : (m : Mark) → block_end (take (limit - seen) (drop seen unread)) mark ≡ None → mark_after (take (limit - seen) (drop seen unread)) mark ≡ m
      → (block_end (take head_limit unread) Blank ≡ None) × IsSeen unread limit m
  unfolding piece
  not_found m e f =
      let none : block_end (take head_limit unread) Blank ≡ None = ends.0 ∙ ap (add_to seen) e in (
        none,
        record {
          within = omega (arith, is);
          most = omega (arith, is);
          none = ap (λ u. block_end u Blank) most ∙ none;
          mark_is = ends.1 ∙ f;
        },
      )

-- a block that was found lies within
pub found_within : (unread : List ℕ) (n : ℕ) → block_end (take head_limit unread) Blank ≡ Some n → n ≤ length unread
found_within unread n e = let w = (is_block (take head_limit unread) n e).0 in omega (arith, length-take head_limit unread, w)

pub found_short : (unread : List ℕ) (n : ℕ) → block_end (take head_limit unread) Blank ≡ Some n → n ≤ head_limit
found_short unread n e = let w = (is_block (take head_limit unread) n e).0 in omega (arith, length-take head_limit unread, w)
