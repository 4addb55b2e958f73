-- How the list of what was sent goes on.
use Rattle.std.proofs.Common.{◌≡◌, ◌++◌, ◌∙◌, List, [], ◌∷◌, ℕ, Option, Some, true, false, IsTrue, map, ap, sym, subst, append_assoc, slice_index_or, slice_set}
use Rattle.std.proofs.lemmas.List.{append-nil}
use Rattle.std.proofs.Math.Seq.{set-append_seam, get_or-append_seam}
use Rattle.wd_http.specs.Talk.{Connection, is_full, sent_on}
use Rattle.wd_http.specs.HeldConnection.{HeldConnection, whole}
use Rattle.wd_http.specs.KeptConnections.{Kept, last_sent}

-- whatever comes behind the list, those that are over sent the same
pub over_is : (before : List Connection) (over : List HeldConnection) (place : Option ℕ) (sents : List (List ℕ)) (more : List (List ℕ)) → Kept before over place sents → map (whole (sents ++ more)) over ≡ before
over_is before over place sents more k =
    ap (λ (s : List (List ℕ)). map (whole s) over) (ap (λ (s : List (List ℕ)). s ++ more) k.parts ∙ append_assoc (sent_on before) (last_sent sents place) more) ∙ k.stays (last_sent sents place ++ more)

is_full-append : (a b : List ℕ) → IsTrue (is_full a) → IsTrue (is_full (a ++ b))
is_full-append [] b h = let e : false ≡ true = h in cc
is_full-append (x ∷ a) b h = h

-- further bytes are sent on it
pub kept_more : (before : List Connection) (over : List HeldConnection) (i : ℕ) (sents : List (List ℕ)) (more : List ℕ) → Kept before over (Some i) sents → Kept before over (Some i) (slice_set sents i (slice_index_or sents i [] ++ more))
kept_more before over i sents more k =
    let last : List ℕ = slice_index_or sents i [] in
    let front : List (List ℕ) = sent_on before in
    let new : slice_set sents i (last ++ more) ≡ front ++ (last ++ more) ∷ [] =
    ap (λ (s : List (List ℕ)). slice_set s i (last ++ more)) k.parts ∙ ap (λ (n : ℕ). slice_set (front ++ last ∷ []) n (last ++ more)) k.behind.0 ∙ set-append_seam front last [] (last ++ more) in
    let at : slice_index_or (slice_set sents i (last ++ more)) i [] ≡ last ++ more =
    ap (λ (s : List (List ℕ)). slice_index_or s i []) new ∙ ap (λ (n : ℕ). slice_index_or (front ++ (last ++ more) ∷ []) n []) k.behind.0 ∙ get_or-append_seam front (last ++ more) [] [] in
    record {
      stays = k.stays;
      parts = new ∙ ap (λ (s : List ℕ). front ++ s ∷ []) (sym at);
      behind = (k.behind.0, subst (λ (s : List ℕ). IsTrue (is_full s)) (sym at) (is_full-append last more k.behind.1));
    }

-- those that are over sent what stands in the list
kept_as_listed : (before : List Connection) (over : List HeldConnection) (place : Option ℕ) (sents : List (List ℕ)) → Kept before over place sents → Kept (map (whole sents) over) over place sents
kept_as_listed before over place sents k =
    let e : map (whole sents) over ≡ before = ap (λ (s : List (List ℕ)). map (whole s) over) (sym (append-nil sents)) ∙ over_is before over place sents [] k in
    subst (λ (b : List Connection). Kept b over place sents) (sym e) k

pub kept_grown : (over : List HeldConnection) (place : Option ℕ) (i : ℕ) (sents new : List (List ℕ)) (more : List ℕ) → place ≡ Some i → new ≡ slice_set sents i (slice_index_or sents i [] ++ more)
    → Kept (map (whole sents) over) over place sents → Kept (map (whole new) over) over place new
kept_grown over place i sents new more p n k =
    rw (p, n) (kept_as_listed _ over (Some i) _ (kept_more (map (whole sents) over) over i sents more (subst (λ (q : Option ℕ). Kept (map (whole sents) over) over q sents) p k)))

-- and those that are over sent the same
pub past_grown : (over : List HeldConnection) (place : Option ℕ) (i : ℕ) (sents new : List (List ℕ)) (more : List ℕ) → place ≡ Some i → new ≡ slice_set sents i (slice_index_or sents i [] ++ more)
    → Kept (map (whole sents) over) over place sents → map (whole new) over ≡ map (whole sents) over
past_grown over place i sents new more p n k =
    let longer = kept_more (map (whole sents) over) over i sents more (subst (λ (q : Option ℕ). Kept (map (whole sents) over) over q sents) p k) in
    rw n (ap (λ (s : List (List ℕ)). map (whole s) over) (sym (append-nil _)) ∙ over_is (map (whole sents) over) over (Some i) _ [] longer)
