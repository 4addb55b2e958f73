-- What stands in front of bytes.
use Rattle.std.proofs.Common.{◌≡◌, ◌≤◌, ◌<◌, ◌++◌, ◌∷◌, List, [], ℕ, Some, None, zero, suc, Result, Ok, Err, Bool, true, false, take, drop, length, ap, refl, sym, subst, ◌∙◌, inl, inr, append_assoc, arith, length-take, length-append, min}
use Rattle.std.proofs.lemmas.List.{take-append-drop, take-append-le, take_all}
use Rattle.std.specs.Prelude.{if◌then◌else◌, nat_lt}
use Rattle.std.specs.Str.Parse.{digits_value}
use Rattle.std.proofs.lemmas.Bool.Decides.{nat_tests}
use Rattle.wd_http.specs.Frames.{head_limit, most_unread, BadFront, IsOpen}
use Rattle.wd_http.specs.Blocks.{IsBlock}
use Rattle.wd_http.specs.Heads.{HeadFault}
use Rattle.wd_http.specs.Headers.{Header, body_length, body_limit, length_by, length_of}
use Rattle.wd_http.specs.HeadIs.{HeadIs}
use Rattle.wd_http.specs.declared.head.Head.{Head as HeadRead}
use Rattle.wd_http.specs.declared.head.Head.TheVariants.{Bad as BadRead}
use Rattle.wd_http.specs.Marks.{block_end}
use Rattle.wd_http.specs.declared.mark.Mark.TheVariants.{Blank}
use Rattle.wd_http.specs.declared.request.BadHead.{BadHead}
use Rattle.wd_http.specs.declared.request.BadHead.TheVariants.{HeadLong, Length, BodyLong}
use Rattle.wd_http.proofs.BlockLemmas.{block_ends, is_block}

no_block : (b block rest : List ℕ) → b ≡ block ++ rest → IsBlock block → block_end b Blank ≡ None → ⊥
no_block b block rest e block_is none =
    let f : block_end b Blank ≡ Some (length block) = ap (λ u. block_end u Blank) e ∙ block_ends block rest block_is in
    absurd (cc)

not_bad : (b : List ℕ) → length b < head_limit → block_end b Blank ≡ None → (kind : BadHead) → BadFront b kind → ⊥
unfolding BadFront
not_bad b short none kind (inl long) = let m = long.0.many in omega arith
not_bad b short none kind (inr bad) = no_block b bad.block bad.rest bad.whole bad.is_block none

-- Where fewer bytes hold no block, a request or a bad head may still come.
pub is_open : (b : List ℕ) → length b < head_limit → block_end b Blank ≡ None → IsOpen b
is_open b short none = record {
  no_request = λ s rest r e spells.
      no_block b spells.block (spells.body ++ rest) (e ∙ rw spells.whole (append_assoc spells.block spells.body rest)) spells.is_block none;
  no_bad = not_bad b short none;
}

-- Where as many bytes as a block may have hold none, the head is too long.
pub is_long : (b : List ℕ) → head_limit ≤ length b → block_end (take head_limit b) Blank ≡ None → BadFront b HeadLong
unfolding BadFront
is_long b many none = inl (record { many = many; none = λ s rest e block. no_block (take head_limit b) s rest e block none }, refl)

take_take : (n m : ℕ) (xs : List ℕ) → n ≤ m → take n (take m xs) ≡ take n xs
take_take zero m xs h = refl
take_take (suc n) zero xs h = absurd (omega arith)
take_take (suc n) (suc m) [] h = refl
take_take (suc n) (suc m) (x ∷ xs) h = ap (λ u. x ∷ u) (take_take n m xs (omega arith))

-- the block that was found
pub block_found : (b : List ℕ) (len : ℕ) → block_end (take head_limit b) Blank ≡ Some len → (len ≤ length b) × (len ≤ head_limit) × IsBlock (take len b)
block_found b len e =
    let f = is_block (take head_limit b) len e in
    let short : len ≤ head_limit = omega (arith, length-take head_limit b, f.0) in
    let P : List ℕ → Type 0 = IsBlock in
    (omega (arith, length-take head_limit b, f.0), short, subst P (take_take len head_limit b short) f.1)

pub bad_block : (b : List ℕ) (len : ℕ) (kind : BadHead) → block_end (take head_limit b) Blank ≡ Some len → HeadFault (take len b) kind → BadFront b kind
unfolding BadFront
bad_block b len kind e fault =
    let f = block_found b len e in
    inr (record {
      block = take len b;
      rest = drop len b;
      whole = sym (take-append-drop len b);
      is_block = f.2;
      short = omega (arith, length-take len b, f.1);
      fault = fault;
    })

fits : (length : ℕ) (c d : Bool) (n : ℕ) → nat_lt body_limit length ≡ d → ◌≡◌ {A = Result ℕ BadHead} (if c then Err Length else if d then Err BodyLong else Ok length) (Ok n) → n ≤ body_limit
fits length true d n f e = absurd (cc (e))
fits length false true n f e = absurd (cc (e))
fits length false false n f e = let g : length ≡ n = cc in grind (arith, nat_tests)

length_fits : (codings lengths : List (List ℕ)) (n : ℕ) → length_by codings lengths ≡ Ok n → n ≤ body_limit
unfolding length_of
length_fits (_ ∷ _) lengths n e = absurd (cc (e))
length_fits [] [] n e = let g : 0 ≡ n = cc in omega arith
length_fits [] (value ∷ []) n e = fits (digits_value 10 value) _ _ n refl e
length_fits [] (_ ∷ _ ∷ _) n e = absurd (cc (e))

-- the body that headers announce is no longer than one may be
pub body_fits : (headers : List Header) (n : ℕ) → body_length headers ≡ Ok n → n ≤ body_limit
unfolding body_length
body_fits headers n e = length_fits _ _ n e

-- a bad head stays one, whatever follows
pub BadFront-append : (b more : List ℕ) (kind : BadHead) → BadFront b kind → BadFront (b ++ more) kind
unfolding BadFront
BadFront-append b more kind (inl long) = inl (
  record {
    many = omega (arith, long.0.many, length-append b more);
    none = λ s rest e block. long.0.none s rest (sym (take-append-le head_limit b more long.0.many) ∙ e) block;
  },
  long.1,
)
BadFront-append b more kind (inr bad) = inr (record {
  block = bad.block;
  rest = bad.rest ++ more;
  whole = ap (λ u. u ++ more) bad.whole ∙ append_assoc bad.block bad.rest more;
  is_block = bad.is_block;
  short = bad.short;
  fault = bad.fault;
})

-- what is answered where no block was found, by how far it was looked for
pub long_front : (b : List ℕ) (limit : ℕ) → limit ≡ min (length b) head_limit → limit ≡ head_limit → block_end (take head_limit b) Blank ≡ None → BadFront b HeadLong
long_front b limit is all none = is_long b (omega (arith, is, all)) none

pub short_front : (b : List ℕ) (limit : ℕ) → limit ≡ min (length b) head_limit → (limit ≡ head_limit → ⊥) → block_end (take head_limit b) Blank ≡ None → IsOpen b × (length b < most_unread)
short_front b limit is ne none =
    let few : length b < head_limit = omega (arith, is, ne) in
    let same : take head_limit b ≡ b = take_all head_limit b (omega arith) in
    (is_open b few (sym (ap (λ u. block_end u Blank) same) ∙ none), omega arith)

pub head_as : (block : List ℕ) (h k : HeadRead) → h ≡ k → HeadIs block h → HeadIs block k
head_as block h k e p = let P : HeadRead → Type 0 = λ x. HeadIs block x in subst P e p

pub bad_front : (b : List ℕ) (len : ℕ) (h : HeadRead) (kind : BadHead) → block_end (take head_limit b) Blank ≡ Some len → HeadIs (take len b) h → h ≡ BadRead kind → BadFront b kind
bad_front b len h kind e is bad = bad_block b len kind e (head_as (take len b) h (BadRead kind) bad is)
