use Rattle.std.proofs.Common.{arith, ◌≡◌, ◌++◌, ◌∙◌, drop, sym, subst, List, ℕ, ap, length, ◌≤◌}
use Rattle.std.proofs.lemmas.List.{drop-append-le}
use Rattle.wd_http.specs.SearchedHead.{IsSeen}
use Rattle.wd_http.specs.Stream.{BadIs}
use Rattle.wd_http.specs.Known.{HeadIsKnown}
use Rattle.wd_http.proofs.BodyLemmas.{known_more, seen_more, bad_more}
use Rattle.wd_http.proofs.framer.Framer.add.Goals as goal

pub invariant_of-self : goal.invariant_of-self
invariant_of-self c =
    let within : c.self-then-is_none.inside.start ≤ length c.self-then-is_none.inside.buffer.items = omega (arith, c.self-then-is_none.invariant.0, c.self-then-is_none.inside.buffer.ok.0) in
    let split : drop c.self-then-is_none.inside.start c.self-then-is_none.inside.buffer.items ++ c.args.piece.now ≡ drop c.self-then-is_none.inside.start c.extend_from_slice.new.self.items =
    sym (ap (drop c.self-then-is_none.inside.start) c.in_ok-extend_from_slice.ensures.items ∙ drop-append-le c.self-then-is_none.inside.start c.self-then-is_none.inside.buffer.items c.args.piece.now within) in
    let P : List ℕ → Type 0 = λ u. IsSeen u c.self-then-is_none.inside.seen c.self-then-is_none.inside.mark in
    let Q : List ℕ → Type 0 = λ u. HeadIsKnown u c.self-then-is_none.inside.head in (
      omega (arith, c.self-then-is_none.invariant.0, c.in_ok-extend_from_slice.ensures.len),
      subst (λ u. BadIs u c.self-then-is_none.inside.bad) split (bad_more _ _ _ c.self-then-is_none.invariant.1),
      subst P split (seen_more _ _ _ _ c.self-then-is_none.invariant.2),
      subst Q split (known_more _ _ _ c.self-then-is_none.invariant.3),
    )
