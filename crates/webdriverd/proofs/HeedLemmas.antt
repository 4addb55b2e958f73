-- How a connection that tells goes on, call by call.
use Rattle.std.proofs.Common.{◌≡◌, ◌++◌, ◌∷◌, ◌+◌, ◌<◌, ◌⊎◌, ◌||◌, List, [], ℕ, Bool, true, false, Option, Some, None, take, length, map, refl, sym, ap, subst, ◌∙◌, append_assoc, append-nil, arith, length-append, inl, inr, ◌==◌}
use Rattle.std.proofs.lemmas.List.{map-append, length-map}
use Rattle.std.proofs.lemmas.List.Elements.{All-append, All-from_recursion}
use Rattle.std.proofs.lemmas.Bool.{or_parts, eqb-true, eqb-false}
use Rattle.wd_http.specs.declared.request.Request.{Request}
use Rattle.wd_http.specs.declared.request.BadHead.{BadHead}
use Rattle.wd_http.specs.declared.call.Call.{Call}
use Rattle.wd_http.specs.declared.call.Call.TheVariants.{Read, Write}
use Rattle.wd_http.specs.Talk.{Connection, came, fresh, Took, Sends, Fails}
use Rattle.wd_http.specs.Frames.{Spelling, BadFront, IsOpen, Spells, Heard, StayOpen, LastCloses, Rest, Bad, Closed, request_limit, closes}
use Rattle.wd_http.proofs.FrameLemmas.{BadFront-append}
use Rattle.remote_end.specs.Machine.{Exchange, request_of}
use Rattle.remote_end.specs.Replies.{bad_reply}
use Rattle.webdriverd.specs.Sent.{response_to, responses}
use Rattle.webdriverd.specs.Service.{BreaksOff, Heeds, Over}

-- one more spelling
spells_on : (text s : List ℕ) (rs : List Request) (r : Request) → Spells text rs → Spelling s r → Spells (text ++ s) (rs ++ r ∷ [])
spells_on text s [] r e spell = (s, [], rw e (sym (append-nil s)), spell, refl)
spells_on text s (q ∷ rs) r (t, rest, split, first, later) spell = (t, rest ++ s, rw split (append_assoc t rest s), first, spells_on rest s rs r later spell)

-- one more response
responses_on : (n : ℕ) (es : List Exchange) (e : Exchange) → responses n (es ++ e ∷ []) ≡ responses n es ++ response_to e.reply (closes (n + length es + 1) e.request)
responses_on n [] e =
    let k : n + 0 + 1 ≡ n + 1 = omega arith in
    rw (append-nil, k) refl
responses_on n (f ∷ es) e =
    let k : n + length (f ∷ es) + 1 ≡ n + 1 + length es + 1 = omega arith in
    rw (responses_on (n + 1) es e, k) (sym (append_assoc (response_to f.reply (closes (n + 1) f.request)) (responses (n + 1) es) (response_to e.reply (closes (n + 1 + length es + 1) e.request))))

last_response : (es : List Exchange) (e : Exchange) (count : ℕ) → count ≡ length es
    → responses 0 (es ++ e ∷ []) ≡ responses 0 es ++ response_to e.reply (closes (count + 1) e.request)
last_response es e count h =
    let k : 0 + length es + 1 ≡ count + 1 = omega arith in
    responses_on 0 es e ∙ rw k refl

pub one_more : (es : List Exchange) (e : Exchange) (count : ℕ) → count ≡ length es → count + 1 ≡ length (es ++ e ∷ [])
one_more es e count h = omega (arith, length-append es (e ∷ []))

-- the request doesn't close, so there may be a further one
stays_on : (rs : List Request) (r : Request) (count : ℕ) → count ≡ length rs → StayOpen rs → closes (count + 1) r ≡ false → StayOpen (rs ++ r ∷ [])
stays_on rs r count n opened h =
    let p = or_parts r.close _ h in
    let ne : count + 1 ≡ request_limit → ⊥ = eqb-false (count + 1) request_limit p.1 in
    let lt : length rs < request_limit = opened.further in
    record {
      none_closes = All-append (λ q. q.close ≡ false) rs (r ∷ []) opened.none_closes (All-from_recursion (λ q. q.close ≡ false) (r ∷ []) (p.0, tt));
      further = omega (arith, length-append rs (r ∷ []));
    }

closes_by : (a : Bool) (n : ℕ) → (a || (n == request_limit)) ≡ true → (a ≡ true) ⊎ (n ≡ request_limit)
closes_by true n h = inl refl
closes_by false n h = inr (eqb-true n request_limit h)

-- the request closes, and is the last
closes_on : (rs : List Request) (r : Request) (count : ℕ) → count ≡ length rs → StayOpen rs → closes (count + 1) r ≡ true → LastCloses (rs ++ r ∷ [])
closes_on rs r count n opened h = record {
  front = rs;
  last = r;
  whole = refl;
  earlier = opened;
  closes = elim (closes_by r.close (count + 1) h) [
    | inl c ↦ inl c
    | inr c ↦ inr (omega (arith, length-append rs (r ∷ [])))
  ];
}

over_at : (o : Option Call) (c : Connection) (es : List Exchange) → c.failed ≡ o → Over o c es → Over c.failed c es
over_at o c es e h = let P : Option Call → Type 0 = λ f. Over f c es in subst P (sym e) h

-- before the first call
pub heeds_first : (first : Connection) (bytes : List ℕ) → first ≡ fresh bytes → Heeds first [] []
heeds_first first bytes h = record {
  text = [];
  spells = refl;
  took = ap (λ (c : Connection). c.took) h;
  sent = ap (λ (c : Connection). c.sent) h;
  fine = ap (λ (c : Connection). c.failed) h;
  stays = record { none_closes = All-from_recursion (λ q. q.close ≡ false) [] tt; further = omega arith };
}

module _ (here : Connection) (unread : List ℕ) (es : List Exchange) (u : Heeds here unread es) where
  -- a piece was read
  pub heeds_piece : (next : Connection) (piece : List ℕ) → Took here next piece → Heeds next (unread ++ piece) es
  heeds_piece next piece t = record {
    text = u.text;
    spells = u.spells;
    took = t.took ∙ rw u.took (append_assoc u.text unread piece);
    sent = t.sent ∙ u.sent;
    fine = t.failed ∙ u.fine;
    stays = u.stays;
  }

  -- the end of the bytes was read
  pub over_at_rest : (next : Connection) → IsOpen unread → Took here next [] → here.left ≡ [] → Over next.failed next es
  over_at_rest next opened t none = over_at None next es (t.failed ∙ u.fine) (
    Rest,
    record {
      text = u.text;
      rest = unread;
      whole = rw (t.took, append-nil here.took, ← t.left, none, append-nil) u.took;
      spells = u.spells;
      ends = (opened, u.stays);
    },
    t.sent ∙ rw (u.sent) (sym (append-nil (responses 0 es))),
  )

  -- a read failed
  pub over_at_read : (next : Connection) → IsOpen unread → Fails here next Read → Over next.failed next es
  over_at_read next opened f = over_at (Some Read) next es f.failed (
    record {
      text = u.text;
      rest = unread;
      whole = f.took ∙ u.took;
      spells = u.spells;
      ends = (opened, u.stays);
    },
    f.sent ∙ u.sent,
  )

  heard_bad : (c : Connection) (kind : BadHead) → c.took ≡ here.took → BadFront unread kind → Heard (came c) (map request_of es) (Bad kind)
  heard_bad c kind same bad = record {
    text = u.text;
    rest = unread ++ c.left;
    whole = rw (same, u.took) (append_assoc u.text unread c.left);
    spells = u.spells;
    ends = (BadFront-append unread c.left kind bad, u.stays);
  }

  -- the response to a bad head was sent, or broken off
  pub over_at_bad : (next : Connection) (kind : BadHead) → BadFront unread kind → Sends here next (response_to (bad_reply kind) true) → Over next.failed next es
  over_at_bad next kind bad s = over_at None next es (s.failed ∙ u.fine) (Bad kind, heard_bad next kind s.took bad, s.sent ∙ rw u.sent refl)

  pub over_at_break : (next : Connection) (kind : BadHead) → BadFront unread kind → BreaksOff here next (response_to (bad_reply kind) true) → Over next.failed next es
  over_at_break next kind bad s = over_at (Some Write) next es s.failed (inr (record {
    kind = kind;
    heard = heard_bad next kind s.took bad;
    at = s.at;
    short = s.short;
    sent = s.sent ∙ rw u.sent refl;
  }))

  module _ (e : Exchange) (spelling rest : List ℕ) (next : Connection) (count : ℕ) (count_is : count ≡ length es) (spell : Spelling spelling e.request) (split : unread ≡ spelling ++ rest) where
    grown : List Exchange
    grown = es ++ e ∷ []

    grown_requests : map request_of grown ≡ map request_of es ++ e.request ∷ []
    unfolding grown
    grown_requests = map-append request_of es (e ∷ [])

    grown_count : count + 1 ≡ length grown
    unfolding grown
    grown_count = one_more es e count count_is

    grown_spells : Spells (u.text ++ spelling) (map request_of grown)
    grown_spells =
        let P : List Request → Type 0 = λ rs. Spells (u.text ++ spelling) rs in
        subst P (sym grown_requests) (spells_on u.text spelling (map request_of es) e.request u.spells spell)

    grown_took : here.took ≡ (u.text ++ spelling) ++ rest
    grown_took = u.took ∙ rw split (sym (append_assoc u.text spelling rest))

    counted : count ≡ length (map request_of es)
    counted = count_is ∙ sym (length-map es request_of)

    grown_sent : responses 0 grown ≡ responses 0 es ++ response_to e.reply (closes (count + 1) e.request)
    unfolding grown
    grown_sent = last_response es e count count_is

    -- a response was sent, and the connection goes on
    pub heeds_reply : Sends here next (response_to e.reply (closes (count + 1) e.request)) → closes (count + 1) e.request ≡ false → Heeds next rest (es ++ e ∷ [])
    unfolding grown
    heeds_reply s stay = record {
      text = u.text ++ spelling;
      spells = grown_spells;
      took = s.took ∙ grown_took;
      sent = s.sent ∙ (ap (λ t. t ++ response_to e.reply (closes (count + 1) e.request)) u.sent ∙ sym grown_sent);
      fine = s.failed ∙ u.fine;
      stays = let P : List Request → Type 0 = StayOpen in subst P (sym grown_requests) (stays_on (map request_of es) e.request count counted u.stays stay);
    }

    -- a response was sent, and the server closes
    pub over_at_close : Sends here next (response_to e.reply (closes (count + 1) e.request)) → closes (count + 1) e.request ≡ true → Over next.failed next (es ++ e ∷ [])
    unfolding grown
    over_at_close s close = over_at None next grown (s.failed ∙ u.fine) (
      Closed,
      record {
        text = u.text ++ spelling;
        rest = rest ++ next.left;
        whole = rw (s.took, grown_took) (append_assoc (u.text ++ spelling) rest next.left);
        spells = grown_spells;
        ends = let P : List Request → Type 0 = LastCloses in subst P (sym grown_requests) (closes_on (map request_of es) e.request count counted u.stays close);
      },
      s.sent ∙ (ap (λ t. t ++ response_to e.reply (closes (count + 1) e.request)) u.sent ∙ (sym grown_sent ∙ sym (append-nil (responses 0 grown)))),
    )

    -- a response was broken off
    pub over_at_response : BreaksOff here next (response_to e.reply (closes (count + 1) e.request)) → Over next.failed next (es ++ e ∷ [])
    unfolding grown
    over_at_response s = over_at (Some Write) next grown s.failed (inl (record {
      text = u.text ++ spelling;
      unread = rest;
      took = s.took ∙ grown_took;
      spells = grown_spells;
      front = es;
      last = e;
      split = refl;
      stays = u.stays;
      at = s.at;
      short = let h = grown_count in let P : ℕ → Type 0 = λ k. s.at < length (response_to e.reply (closes k e.request)) in subst P h s.short;
      sent = s.sent ∙ (let h = grown_count in let P : ℕ → Type 0 = λ k. here.sent ++ take s.at (response_to e.reply (closes (count + 1) e.request)) ≡ responses 0 es ++ take s.at (response_to e.reply (closes k e.request)) in subst P h (ap (λ t. t ++ take s.at (response_to e.reply (closes (count + 1) e.request))) u.sent));
    }))
