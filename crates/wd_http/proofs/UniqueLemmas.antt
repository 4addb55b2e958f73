-- Bytes are read in one way.
use Rattle.std.proofs.Common.{◌≡◌, ◌≤◌, ◌-◌, ◌+◌, ◌++◌, List, [], ℕ, Some, Result, Ok, Err, take, drop, length, ap, refl, sym, subst, ◌∙◌, inl, inr, append_assoc, arith}
use Rattle.std.proofs.Math.Seq.{take-append_seam, drop-append_seam, take-add}
use Rattle.httparse.specs.Grammar.{RequestHead, ReadsRequest}
use Rattle.httparse.proofs.GrammarLemmas.{request_unique}
use Rattle.wd_http.specs.Frames.{head_limit, Spelling, IsTooLong, BadFront}
use Rattle.wd_http.specs.Blocks.{IsBlock}
use Rattle.wd_http.specs.Heads.{IsHead, headers_of, HeadFault, request_with}
use Rattle.wd_http.specs.Headers.{body_length}
use Rattle.wd_http.specs.Marks.{block_end}
use Rattle.wd_http.specs.declared.mark.Mark.TheVariants.{Blank}
use Rattle.wd_http.specs.declared.request.Request.{Request}
use Rattle.wd_http.specs.declared.request.BadHead.{BadHead}
use Rattle.wd_http.proofs.BlockLemmas.{block_ends}

same_front : (a b x y : List ℕ) → a ++ x ≡ b ++ y → length a ≡ length b → (a ≡ b) × (x ≡ y)
same_front a b x y e n = (
  sym (take-append_seam a x) ∙ (ap (take (length a)) e ∙ (ap (λ k. take k (b ++ y)) n ∙ take-append_seam b y)),
  sym (drop-append_seam a x) ∙ (ap (drop (length a)) e ∙ (ap (λ k. drop k (b ++ y)) n ∙ drop-append_seam b y)),
)

same_some : (m n : ℕ) → Some m ≡ Some n → m ≡ n
same_some m n e = cc

pub same_ok : (m n : ℕ) → ◌≡◌ {A = Result ℕ BadHead} (Ok m) (Ok n) → m ≡ n
same_ok m n e = cc

same_err : (j k : BadHead) → ◌≡◌ {A = Result ℕ BadHead} (Err j) (Err k) → j ≡ k
same_err j k e = cc

not_both : (n : ℕ) (k : BadHead) → ◌≡◌ {A = Result ℕ BadHead} (Ok n) (Err k) → ⊥
not_both n k e = absurd (cc (e))

-- one block stands in front
pub block_unique : (a b x y : List ℕ) → IsBlock a → IsBlock b → a ++ x ≡ b ++ y → (a ≡ b) × (x ≡ y)
block_unique a b x y p q e =
    same_front a b x y e (same_some _ _ (sym (block_ends a x p) ∙ (ap (λ u. block_end u Blank) e ∙ block_ends b y q)))

-- one head is a block
pub head_unique : (a b : List ℕ) (h k : RequestHead) → a ≡ b → IsHead a h → IsHead b k → h ≡ k
head_unique a b h k e p q =
    let P : List ℕ → Type 0 = λ u. ReadsRequest u h [] in
    (request_unique b h k [] [] (subst P e p.0) q.0).0

-- one request stands in front
pub spelling_unique : (s t x y : List ℕ) (r q : Request) → s ++ x ≡ t ++ y → Spelling s r → Spelling t q → (s ≡ t) × (x ≡ y) × (r ≡ q)
spelling_unique s t x y r q e p w =
    let split : p.block ++ (p.body ++ x) ≡ w.block ++ (w.body ++ y) =
    sym (append_assoc p.block p.body x) ∙ (ap (λ u. u ++ x) (sym p.whole) ∙ (e ∙ (ap (λ u. u ++ y) w.whole ∙ append_assoc w.block w.body y))) in
    let blocks = block_unique p.block w.block (p.body ++ x) (w.body ++ y) p.is_block w.is_block split in
    let heads = head_unique p.block w.block p.head w.head blocks.0 p.is_head w.is_head in
    let lengths : length p.body ≡ length w.body = same_ok _ _ (sym p.announces ∙ (ap (λ h. body_length (headers_of h)) heads ∙ w.announces)) in
    let bodies = same_front p.body w.body x y blocks.1 lengths in (
      p.whole ∙ (ap (λ u. u ++ p.body) blocks.0 ∙ (ap (λ u. w.block ++ u) bodies.0 ∙ sym w.whole)),
      bodies.1,
      p.request ∙ (ap (λ h. request_with h p.body) heads ∙ (ap (λ u. request_with w.head u) bodies.0 ∙ sym w.request)),
    )

-- a block of the allowed length shows in the first bytes
in_first : (b block rest : List ℕ) → b ≡ block ++ rest → length block ≤ head_limit → take head_limit b ≡ block ++ take (head_limit - length block) rest
in_first b block rest e short =
    let k : head_limit ≡ length block + (head_limit - length block) = omega arith in
    ap (take head_limit) e ∙ (ap (λ n. take n (block ++ rest)) k ∙ (take-add (length block) (head_limit - length block) (block ++ rest) ∙ rw (take-append_seam, drop-append_seam) refl))

not_long : (b block rest : List ℕ) → b ≡ block ++ rest → IsBlock block → length block ≤ head_limit → IsTooLong b → ⊥
not_long b block rest e is short long = long.none block (take (head_limit - length block) rest) (in_first b block rest e short) is

-- no request stands where a bad head does
pub not_bad : (b s x : List ℕ) (r : Request) (kind : BadHead) → b ≡ s ++ x → Spelling s r → BadFront b kind → ⊥
unfolding BadFront
not_bad b s x r kind e p (inl long) =
    not_long b p.block (p.body ++ x) (e ∙ (ap (λ u. u ++ x) p.whole ∙ append_assoc p.block p.body x)) p.is_block p.short long.0
not_bad b s x r kind e p (inr bad) =
    let split : p.block ++ (p.body ++ x) ≡ bad.block ++ bad.rest = sym (append_assoc p.block p.body x) ∙ (ap (λ u. u ++ x) (sym p.whole) ∙ (sym e ∙ bad.whole)) in
    let blocks = block_unique p.block bad.block (p.body ++ x) bad.rest p.is_block bad.is_block split in
    let P : List ℕ → Type 0 = λ u. IsHead u p.head in
    elim bad.fault [
      | inl none ↦ none.0 p.head (subst P blocks.0 p.is_head)
      | inr f ↦ not_both _ _ (sym p.announces ∙ (ap (λ h. body_length (headers_of h)) (head_unique p.block bad.block p.head f.0 blocks.0 p.is_head f.1) ∙ f.2))
    ]

fault_unique : (a b : List ℕ) (j k : BadHead) → a ≡ b → HeadFault a j → HeadFault b k → j ≡ k
fault_unique a b j k e (inl p) (inl q) = p.1 ∙ sym q.1
fault_unique a b j k e (inl p) (inr q) = let P : List ℕ → Type 0 = λ u. IsHead u q.0 in absurd (p.0 q.0 (subst P (sym e) q.1))
fault_unique a b j k e (inr p) (inl q) = let P : List ℕ → Type 0 = λ u. IsHead u p.0 in absurd (q.0 p.0 (subst P e p.1))
fault_unique a b j k e (inr p) (inr q) = same_err j k (sym p.2 ∙ (ap (λ h. body_length (headers_of h)) (head_unique a b p.0 q.0 e p.1 q.1) ∙ q.2))

-- a bad head has one reason
pub bad_unique : (b : List ℕ) (j k : BadHead) → BadFront b j → BadFront b k → j ≡ k
unfolding BadFront
bad_unique b j k (inl p) (inl q) = p.1 ∙ sym q.1
bad_unique b j k (inl p) (inr q) = absurd (not_long b q.block q.rest q.whole q.is_block q.short p.0)
bad_unique b j k (inr p) (inl q) = absurd (not_long b p.block p.rest p.whole p.is_block p.short q.0)
bad_unique b j k (inr p) (inr q) =
    fault_unique p.block q.block j k (block_unique p.block q.block p.rest q.rest p.is_block q.is_block (sym p.whole ∙ q.whole)).0 p.fault q.fault

-- no bad head stands where a head does
pub head_not_bad : (b block x : List ℕ) (h : RequestHead) (n : ℕ) (kind : BadHead) → b ≡ block ++ x → IsBlock block → length block ≤ head_limit → IsHead block h → body_length (headers_of h) ≡ Ok n → BadFront b kind → ⊥
unfolding BadFront
head_not_bad b block x h n kind e is short head ok (inl long) = not_long b block x e is short long.0
head_not_bad b block x h n kind e is short head ok (inr bad) =
    let blocks = block_unique block bad.block x bad.rest is bad.is_block (sym e ∙ bad.whole) in
    let P : List ℕ → Type 0 = λ u. IsHead u h in
    elim bad.fault [
      | inl none ↦ none.0 h (subst P blocks.0 head)
      | inr f ↦ not_both _ _ (sym ok ∙ (ap (λ k. body_length (headers_of k)) (head_unique block bad.block h f.0 blocks.0 head f.1) ∙ f.2))
    ]
