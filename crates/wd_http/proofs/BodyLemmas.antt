-- A head whose body is still to come.
use Rattle.std.proofs.Common.{◌≡◌, ◌≤◌, ◌<◌, ◌+◌, ◌++◌, List, ℕ, Option, Some, None, Ok, take, drop, length, ap, sym, subst, ◌∙◌, append_assoc, arith, length-take, length-append, length-drop}
use Rattle.std.proofs.lemmas.List.{take-append-drop, take-append-le}
use Rattle.std.proofs.Math.Seq.{take-add}
use Rattle.wd_http.specs.Frames.{head_limit, Spelling, IsOpen}
use Rattle.wd_http.specs.Blocks.{IsBlock}
use Rattle.wd_http.specs.Heads.{IsHead, headers_of}
use Rattle.wd_http.specs.Headers.{body_length}
use Rattle.wd_http.specs.HeadIs.{HeadIs}
use Rattle.wd_http.specs.Known.{IsKnown, HeadIsKnown}
use Rattle.wd_http.specs.SearchedHead.{IsSeen}
use Rattle.wd_http.specs.Stream.{BadIs}
use Rattle.wd_http.specs.Marks.{block_end}
use Rattle.wd_http.specs.declared.mark.Mark.{Mark}
use Rattle.wd_http.specs.declared.mark.Mark.TheVariants.{Blank}
use Rattle.wd_http.specs.declared.head.Head.{Head as HeadRead}
use Rattle.wd_http.specs.declared.head.Head.TheVariants.{Good}
use Rattle.wd_http.specs.declared.front.Waiting.{Waiting}
use Rattle.wd_http.specs.declared.request.Request.{Request}
use Rattle.wd_http.specs.declared.request.BadHead.{BadHead}
use Rattle.wd_http.proofs.FrameLemmas.{BadFront-append, block_found, head_as, body_fits}
use Rattle.wd_http.proofs.UniqueLemmas.{block_unique, head_unique, same_ok, head_not_bad}

-- the head that was found
pub known_head : (b : List ℕ) (len n : ℕ) (h : HeadRead) (r : Request) → block_end (take head_limit b) Blank ≡ Some len → HeadIs (take len b) h → h ≡ Good r n
    → IsKnown b (record { request = r; block = len; body = n })
known_head b len n h r e is good =
    let f = block_found b len e in
    let g = head_as (take len b) h (Good r n) good is in
    record {
      head = g.0;
      within = f.0;
      short = f.1;
      is_block = f.2;
      is_head = g.1;
      announces = g.2;
      most = body_fits _ n g.2;
      request = g.3;
    }

-- Until its body is whole, neither a request nor a bad head stands in front.
pub waiting_open : (b : List ℕ) (w : Waiting) → IsKnown b w → length b < w.block + w.body → IsOpen b
waiting_open b w k few = record {
  no_request = λ s rest r e p.
      let split : take w.block b ++ drop w.block b ≡ p.block ++ (p.body ++ rest) =
      take-append-drop w.block b ∙ (e ∙ (ap (λ u. u ++ rest) p.whole ∙ append_assoc p.block p.body rest)) in
      let blocks = block_unique (take w.block b) p.block (drop w.block b) (p.body ++ rest) k.is_block p.is_block split in
      let heads = head_unique (take w.block b) p.block k.head p.head blocks.0 k.is_head p.is_head in
      let lengths : w.body ≡ length p.body = same_ok _ _ (sym k.announces ∙ (ap (λ h. body_length (headers_of h)) heads ∙ p.announces)) in
      absurd (omega (arith, k.within, ap length blocks.1, length-drop w.block b, length-append p.body rest));
  no_bad = λ kind bad. head_not_bad b (take w.block b) (drop w.block b) k.head w.body kind (sym (take-append-drop w.block b)) k.is_block (omega (arith, length-take w.block b, k.short)) k.is_head k.announces bad;
}

-- With its body it is a request.
pub with_body : (b body : List ℕ) (w : Waiting) → IsKnown b w → w.block + w.body ≤ length b → body ≡ take w.body (drop w.block b)
    → Spelling (take (w.block + w.body) b) (record { method = w.request.method; target = w.request.target; close = w.request.close; body = body })
with_body b body w k all is = record {
  block = take w.block b;
  body = body;
  head = k.head;
  whole = take-add w.block w.body b ∙ ap (λ u. take w.block b ++ u) (sym is);
  is_block = k.is_block;
  short = omega (arith, length-take w.block b, k.short);
  is_head = k.is_head;
  announces =
      let n : w.body ≡ length body = omega (arith, ap length is, length-take w.body (drop w.block b), length-drop w.block b) in
      k.announces ∙ ap Ok n;
  request = ap (λ (r : Request). record { method = r.method; target = r.target; close = r.close; body = body }) k.request;
}

-- More bytes leave it as it is.
pub known_more : (b more : List ℕ) (o : Option Waiting) → HeadIsKnown b o → HeadIsKnown (b ++ more) o
known_more b more None k = tt
known_more b more (Some w) k =
    let same : take w.block b ≡ take w.block (b ++ more) = sym (take-append-le w.block b more k.within) in
    let P : List ℕ → Type 0 = IsBlock in
    let Q : List ℕ → Type 0 = λ u. IsHead u k.head in
    record {
      head = k.head;
      within = omega (arith, k.within, length-append b more);
      short = k.short;
      is_block = subst P same k.is_block;
      is_head = subst Q same k.is_head;
      announces = k.announces;
      most = k.most;
      request = k.request;
    }

pub seen_more : (b more : List ℕ) (seen : ℕ) (mark : Mark) → IsSeen b seen mark → IsSeen (b ++ more) seen mark
seen_more b more seen mark k =
    let same : take seen (b ++ more) ≡ take seen b = take-append-le seen b more k.within in
    record {
      within = omega (arith, k.within, length-append b more);
      most = k.most;
      none = rw same k.none;
      mark_is = rw same k.mark_is;
    }

pub bad_more : (b more : List ℕ) (o : Option BadHead) → BadIs b o → BadIs (b ++ more) o
bad_more b more None k = tt
bad_more b more (Some kind) k = BadFront-append b more kind k
