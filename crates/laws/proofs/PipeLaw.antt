-- Two pipes with the same bytes send the same.
use Rattle.std.proofs.Common.{◌≡◌, ◌∙◌, ◌∷◌, ◌++◌, ◌⊎◌, ℕ, true, List, [], Option, None, length, map, sym, ap, refl, subst, inl, inr, append-nil, arith}
use Rattle.std.proofs.lemmas.List.Elements.{All-get_or}
use Rattle.page_engine.specs.declared.site.Site.{Site}
use Rattle.wd_http.specs.Frames.{End}
use Rattle.wd_http.specs.Made.{LineCall}
use Rattle.wd_http.specs.Talk.{Connection, Talk, came}
use Rattle.wd_http.specs.declared.call.Call.{Call as FailedCall}
use Rattle.wd_http.proofs.HeardLemmas.{heard_once}
use Rattle.remote_end.specs.Machine.{Exchange, request_of}
use Rattle.remote_end.specs.Standing.{Standing, initial}
use Rattle.webdriverd.specs.Headline.{ServesPipe, AreOver, NoMore, OneMore, joined, pipe_run}
use Rattle.webdriverd.specs.Sent.{sent_of}
use Rattle.webdriverd.specs.Service.{Over}
use Rattle.webdriverd.specs.Serving.{Piping, NoneCame, OneServed}
use Rattle.laws.specs.OnePipe.{AreFine, sent_on, PipesAreOne}
use Rattle.laws.proofs.RunLaw.{runs_are_one}

-- there was no connection, or one
abbrev AtMostOne : List Connection → List (List Exchange) → Type 0
AtMostOne served turns = ((served ≡ []) × (turns ≡ [])) ⊎ ((k : Connection) × (es : List Exchange) × (served ≡ k ∷ []) × (turns ≡ es ∷ []) × Over k.failed k es)

at_most_one : (served : List Connection) (turns : List (List Exchange)) (calls : List LineCall) → Piping turns calls → AreOver served turns → AtMostOne served turns
at_most_one served turns calls NoneCame NoMore = inl (refl, refl)
at_most_one served turns calls (OneServed es within serving) (OneMore k cs es' ts over NoMore) = inr (k, es, refl, refl, over)

-- of one connection: what was heard, and what was sent
heard_of : (k : Connection) (es : List Exchange) (o : Option FailedCall) → o ≡ None → Over o k es → Over None k es
heard_of k es o fine over = let P : Option FailedCall → Type 0 = λ x. Over x k es in subst P fine over

front_same : (x y : List ℕ) (xs ys : List (List ℕ)) → x ∷ xs ≡ y ∷ ys → x ≡ y
front_same x y xs ys e = cc

joined_one : (es : List Exchange) (turns : List (List Exchange)) → turns ≡ es ∷ [] → joined turns ≡ es
joined_one es turns is = ap joined is ∙ append-nil es

module _ (O P E : Type 0) (site : Site) (name : List ℕ) (makes : O → LineCall → O → Type 0) (does : P → LineCall → P → Type 0) (line left : O) (other rest : P) (a b c d : Talk) (e f g : E) (one two : Standing)
    (p : ServesPipe site name makes line left true a b e f one) (q : ServesPipe site name does other rest true c d e g two) where
  alike : map request_of (joined p.turns) ≡ map request_of (joined q.turns) → (joined p.turns ≡ joined q.turns) × (one.state ≡ two.state)
  alike same =
      runs_are_one E (initial site name pipe_run).setting 0 e (joined p.turns) (joined q.turns) one.state two.state (p.clock, f) (q.clock, g) (omega arith) same p.ran.runs q.ran.runs p.ran.made q.ran.made

  none : p.turns ≡ [] → q.turns ≡ [] → one.state ≡ two.state
  none x y = (alike (ap (λ (t : List (List Exchange)). map request_of (joined t)) (x ∙ sym y))).1

  some : (k l : Connection) (es fs : List Exchange) → p.turns ≡ es ∷ [] → q.turns ≡ fs ∷ [] → came k ≡ came l → Over None k es → Over None l fs → (k.sent ≡ l.sent) × (one.state ≡ two.state)
  some k l es fs x y same (end, heard, sent) (last, listened, told) =
      let H : List ℕ → Type 0 = λ bytes. Rattle.wd_http.specs.Frames.Heard bytes (map request_of fs) last in
      let once = heard_once (came k) (map request_of es) (map request_of fs) end last heard (subst H (sym same) listened) in
      let whole = alike (ap (map request_of) (joined_one es p.turns x) ∙ once.0 ∙ ap (map request_of) (sym (joined_one fs q.turns y))) in
      let turns : es ≡ fs = sym (joined_one es p.turns x) ∙ whole.0 ∙ joined_one fs q.turns y in
      (sent ∙ ap (λ (t : List Exchange). sent_of t end) turns ∙ ap (sent_of fs) once.1 ∙ sym told, whole.1)

  by : (served given : List Connection) → AtMostOne served p.turns → AtMostOne given q.turns → map came served ++ b.coming ≡ map came given ++ d.coming → length served ≡ length given → AreFine served → AreFine given
      → (sent_on served ≡ sent_on given) × (one.state ≡ two.state)
  by served given (inl (x, t)) (inl (y, u)) bytes many fine also = (ap sent_on (x ∙ sym y), none t u)
  by served given (inl (x, t)) (inr (l, fs, y, u, over)) bytes many fine also = absurd (let n : length {A = Connection} [] ≡ length (l ∷ []) = sym (ap (λ (s : List Connection). length s) x) ∙ many ∙ ap (λ (s : List Connection). length s) y in omega (arith, n))
  by served given (inr (k, es, x, t, over)) (inl (y, u)) bytes many fine also = absurd (let n : length (k ∷ []) ≡ length {A = Connection} [] = sym (ap (λ (s : List Connection). length s) x) ∙ many ∙ ap (λ (s : List Connection). length s) y in omega (arith, n))
  by served given (inr (k, es, x, t, over)) (inr (l, fs, y, u, done)) bytes many fine also =
      let first : came k ≡ came l = front_same (came k) (came l) b.coming d.coming (sym (ap (λ (s : List Connection). map came s ++ b.coming) x) ∙ bytes ∙ ap (λ (s : List Connection). map came s ++ d.coming) y) in
      let Q : List Connection → Type 0 = AreFine in
      let one_fine : k.failed ≡ None = All-get_or (λ (n : Connection). n.failed ≡ None) (k ∷ []) 0 k (omega arith) (subst Q x fine) in
      let two_fine : l.failed ≡ None = All-get_or (λ (n : Connection). n.failed ≡ None) (l ∷ []) 0 l (omega arith) (subst Q y also) in
      let both = some k l es fs t u first (heard_of k es k.failed one_fine over) (heard_of l fs l.failed two_fine done) in
      (ap sent_on x ∙ ap (λ (bytes : List ℕ). bytes ∷ []) both.0 ∙ sym (ap sent_on y), both.1)

pub pipes_are_one : (O P E : Type 0) (makes : O → LineCall → O → Type 0) (does : P → LineCall → P → Type 0) → PipesAreOne E makes does
pipes_are_one O P E makes does site name line left other rest a b c d e f g one two p q coming many fine also =
    let x = p.gave refl in
    let y = q.gave refl in
    by O P E site name makes does line left other rest a b c d e f g one two p q x.served y.served
    (at_most_one x.served p.turns p.calls.calls p.calls.form x.exchanges) (at_most_one y.served q.turns q.calls.calls q.calls.form y.exchanges)
    (sym x.order ∙ coming ∙ y.order) many fine also
