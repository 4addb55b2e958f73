-- A framer's step, over the list of unread bytes.
use Rattle.std.proofs.Common.{◌≡◌, Bool, false, ◌+◌, List, ℕ, Option, None, Some, take, drop, refl, subst}
use Rattle.std.proofs.lemmas.Simd.{chunk-drop}
use Rattle.wd_http.specs.Stream.{Takes}
use Rattle.wd_http.specs.Front.{FrontIs}
use Rattle.wd_http.specs.declared.request.Request.{Request}
use Rattle.wd_http.specs.declared.request.BadHead.{BadHead}
use Rattle.wd_http.specs.declared.front.Front.{Front}
use Rattle.wd_http.specs.declared.front.Front.TheVariants.{Whole}

no_some : {A : Type 0} (o : Option A) → ((x : A) → o ≡ Some x → ⊥) → o ≡ None
no_some None h = refl
no_some (Some x) h = absurd (h x refl)

-- the request in front is taken by moving the offset behind it
pub takes_front : (items unread : List ℕ) (start len : ℕ) (bad : Option BadHead) (spent : Bool) (front : Front) (r : Request)
    → spent ≡ false → unread ≡ drop start items → FrontIs unread front → front ≡ Whole r len → ((x : BadHead) → bad ≡ Some x → ⊥)
    → Takes (record { unread = drop start items; bad = bad; spent = spent }) (record { unread = drop (start + len) items; bad = bad; spent = spent }) r
takes_front items unread start len bad spent front r k u h w n =
    let P : List ℕ → Type 0 = λ b. FrontIs b front in
    let Q : Front → Type 0 = λ f. FrontIs (drop start items) f in
    let found = subst Q w (subst P u h) in
    record {
      spelling = take len (drop start items);
      spells = found.1;
      split = chunk-drop start len items;
      good = no_some bad n;
      whole = k;
    }
