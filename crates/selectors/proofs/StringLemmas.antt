-- A string is a quote, pieces up to where no piece stands, and the same quote.
use Rattle.std.proofs.Common.{◌≡◌, ℕ, true, false, List, ◌∷◌, ◌++◌, None, sym, ap, subst, refl, inl, inr, ◌<◌, cond, [], Option, Some, length, ◌∙◌, arith}
use Rattle.std.specs.Prelude.{MatchOption, ◌||◌, ◌==◌}
use Rattle.std.proofs.lemmas.Bool.{or_cases, eqb-true, eq-eqb}
use Rattle.selectors.specs.Escapes.{is_of_string, all_written}
use Rattle.selectors.specs.Names.{StringIs}
use Rattle.selectors.specs.Reading.{string_piece_at, pieces_at, is_quote, closed_by, string_at}
use Rattle.selectors.proofs.Fronts.{split}
use Rattle.selectors.proofs.EscapeLemmas.{none_some, some_pair}
use Rattle.selectors.proofs.Spelled.{Spelled, Pieces, spelled_once, from_pieces, to_pieces, piece_shortens, pieces_spelled}
use Rattle.selectors.proofs.StringPieces.{string_reads, string_takes}

quote_apart : (quote : ℕ) → ((quote == 34) || (quote == 39)) ≡ true → (92 == quote) ≡ false
quote_apart quote is = elim (or_cases _ _ is) [ inl h ↦ rw (eqb-true quote 34 h) refl | inr h ↦ rw (eqb-true quote 39 h) refl ]

pub quote_ends : (quote : ℕ) (rest : List ℕ) → string_piece_at quote (quote ∷ rest) ≡ None
quote_ends quote rest = rw (eq-eqb quote quote refl) refl

pub string_from : (quote : ℕ) (body value rest : List ℕ) → ((quote == 34) || (quote == 39)) ≡ true → Spelled (string_piece_at quote) body value (quote ∷ rest) → StringIs (quote ∷ body) value rest
string_from quote body value rest is spelled =
    let p : Pieces (string_piece_at quote) (is_of_string quote) body value (quote ∷ rest) = to_pieces (string_piece_at quote) (is_of_string quote) (string_reads quote) body value (quote ∷ rest) spelled in
    record { quote = quote; is_quote = is; pieces = p.pieces; each = p.each; text_is = ap (λ t. quote ∷ t) p.text_is; value_is = p.value_is }

pub record Quoted (text value rest : List ℕ) : Type 0 where
  pub quote : ℕ
  pub is_quote : ((quote == 34) || (quote == 39)) ≡ true
  pub body : List ℕ
  pub text_is : text ≡ quote ∷ body
  pub spelled : Spelled (string_piece_at quote) body value (quote ∷ rest)

pub string_to : (text value rest : List ℕ) → StringIs text value rest → Quoted text value rest
string_to text value rest is = record {
  quote = is.quote;
  is_quote = is.is_quote;
  body = all_written is.pieces ++ is.quote ∷ rest;
  text_is = is.text_is;
  spelled = subst (λ v. Spelled (string_piece_at is.quote) (all_written is.pieces ++ is.quote ∷ rest) v (is.quote ∷ rest)) (sym is.value_is)
      (from_pieces (string_piece_at is.quote) (is_of_string is.quote) (string_takes is.quote (quote_apart is.quote is.is_quote)) is.pieces (is.quote ∷ rest) is.each (quote_ends is.quote rest));
}

pub heads_same : (c d : ℕ) (text other : List ℕ) → c ∷ text ≡ d ∷ other → (c ≡ d) × (text ≡ other)
heads_same c d text other same = (cc, cc)

-- what reading went over, against any string that the text begins with
pub string_read : (quote : ℕ) (body value rest : List ℕ) → Spelled (string_piece_at quote) body value rest → (other left : List ℕ) → StringIs (quote ∷ body) other left → (value ≡ other) × (rest ≡ quote ∷ left)
string_read quote body value rest spelled other left is =
    let q : Quoted (quote ∷ body) other left = string_to (quote ∷ body) other left is in
    let same : (quote ≡ q.quote) × (body ≡ q.body) = heads_same quote q.quote body q.body q.text_is in
    let theirs : Spelled (string_piece_at quote) body other (quote ∷ left) = subst (λ d. Spelled (string_piece_at d) body other (d ∷ left)) (sym same.0) (subst (λ t. Spelled (string_piece_at q.quote) t other (q.quote ∷ left)) (sym same.1) q.spelled) in
    spelled_once (string_piece_at quote) body value rest other (quote ∷ left) spelled theirs

-- a text begins with one string at most
pub one_string : (text value rest other left : List ℕ) → StringIs text value rest → StringIs text other left → (value ≡ other) × (rest ≡ left)
one_string text value rest other left one two =
    let q : Quoted text value rest = string_to text value rest one in
    let r : (value ≡ other) × (q.quote ∷ rest ≡ q.quote ∷ left) = string_read q.quote q.body value (q.quote ∷ rest) q.spelled other left (subst (λ t. StringIs t other left) q.text_is two) in
    (r.0, (heads_same q.quote q.quote rest left r.1).1)

-- ---- the reading function

string_shortens : (quote : ℕ) (text part rest : List ℕ) → string_piece_at quote text ≡ Some (part, rest) → length rest < length text
string_shortens quote text part rest found = piece_shortens (is_of_string quote) text part rest (string_reads quote text part rest found)

closes_is : (quote : ℕ) (body value rest found left : List ℕ) → is_quote quote ≡ true → Spelled (string_piece_at quote) body value rest → closed_by quote value rest ≡ Some (found, left) → StringIs (quote ∷ body) found left
closes_is quote body value [] found left is spelled closed = absurd (none_some _ closed)
closes_is quote body value (c ∷ rest) found left is spelled closed = split (c == quote)
    (λ b. (c == quote) ≡ b → cond {A = Option (List ℕ × List ℕ)} b (Some (value, rest)) None ≡ Some (found, left) → StringIs (quote ∷ body) found left)
    (λ _ e same. let p : (value ≡ found) × (rest ≡ left) = some_pair value found rest left same in
    subst (λ v. StringIs (quote ∷ body) v left) p.0 (string_from quote body value left is (subst (λ r. Spelled (string_piece_at quote) body value (quote ∷ r)) p.1 (subst (λ d. Spelled (string_piece_at quote) body value (d ∷ rest)) (eqb-true c quote e) spelled))))
    (λ _ _ bad. absurd (none_some _ bad)) refl closed

pub string_at_is : (text value rest : List ℕ) → string_at text ≡ Some (value, rest) → StringIs text value rest
unfolding string_at
string_at_is [] value rest found = absurd (none_some _ found)
string_at_is (quote ∷ body) value rest found = split (is_quote quote)
    (λ b. is_quote quote ≡ b → cond {A = Option (List ℕ × List ℕ)} b (closed_by quote (pieces_at (string_piece_at quote) (length body) body).0 (pieces_at (string_piece_at quote) (length body) body).1) None ≡ Some (value, rest) → StringIs (quote ∷ body) value rest)
    (λ _ is closed. closes_is quote body _ _ value rest is (pieces_spelled (string_piece_at quote) (string_shortens quote) (length body) body (omega arith)) closed)
    (λ _ _ bad. absurd (none_some _ bad)) refl found

closed_again : (quote : ℕ) (value rest : List ℕ) → closed_by quote value (quote ∷ rest) ≡ Some (value, rest)
closed_again quote value rest = rw (eq-eqb quote quote refl) refl

string_at_quoted : (quote : ℕ) (body value rest : List ℕ) → is_quote quote ≡ true → Spelled (string_piece_at quote) body value (quote ∷ rest) → string_at (quote ∷ body) ≡ Some (value, rest)
unfolding string_at
string_at_quoted quote body value rest is spelled =
    let q : ((pieces_at (string_piece_at quote) (length body) body).0 ≡ value) × ((pieces_at (string_piece_at quote) (length body) body).1 ≡ quote ∷ rest) =
    spelled_once (string_piece_at quote) body _ _ value (quote ∷ rest) (pieces_spelled (string_piece_at quote) (string_shortens quote) (length body) body (omega arith)) spelled in
    ap (λ b. cond {A = Option (List ℕ × List ℕ)} b (closed_by quote (pieces_at (string_piece_at quote) (length body) body).0 (pieces_at (string_piece_at quote) (length body) body).1) None) is
    ∙ ap (λ v. closed_by quote v (pieces_at (string_piece_at quote) (length body) body).1) q.0 ∙ ap (λ r. closed_by quote value r) q.1 ∙ closed_again quote value rest

pub is_string_at : (text value rest : List ℕ) → StringIs text value rest → string_at text ≡ Some (value, rest)
is_string_at text value rest is = let q : Quoted text value rest = string_to text value rest is in ap string_at q.text_is ∙ string_at_quoted q.quote q.body value rest q.is_quote q.spelled

abbrev pub ReadsString : List ℕ → Option (List ℕ × List ℕ) → Type 0
ReadsString text read = MatchOption read ((value rest : List ℕ) → StringIs text value rest → ⊥) (λ x. StringIs text x.0 x.1)

none_string : (text : List ℕ) (found : Option (List ℕ × List ℕ)) → string_at text ≡ found → ((value rest : List ℕ) → StringIs text value rest → ⊥) → None ≡ found
none_string text None is never = refl
none_string text (Some x) is never = absurd (never x.0 x.1 (string_at_is text x.0 x.1 is))

-- what answers by the relation answers by the function
pub string_same : (text : List ℕ) (read : Option (List ℕ × List ℕ)) → ReadsString text read → read ≡ string_at text
string_same text None never = none_string text (string_at text) refl never
string_same text (Some x) is = sym (is_string_at text x.0 x.1 is)

pub string_at_nothing : (text : List ℕ) → length text ≡ 0 → None ≡ string_at text
unfolding string_at
string_at_nothing [] short = refl
string_at_nothing (c ∷ text) short = absurd (omega arith)

pub string_at_other : (text body : List ℕ) (c : ℕ) → text ≡ c ∷ body → is_quote c ≡ false → None ≡ string_at text
unfolding string_at
string_at_other text body c whole other = sym (ap string_at whole ∙ ap (λ b. cond {A = Option (List ℕ × List ℕ)} b (closed_by c (pieces_at (string_piece_at c) (length body) body).0 (pieces_at (string_piece_at c) (length body) body).1) None) other)
