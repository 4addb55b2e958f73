-- Under a virtual clock a run is settled by its requests.
use Rattle.std.proofs.Common.{◌≡◌, ◌<◌, ◌^◌, ◌∙◌, ◌∷◌, ◌++◌, ℕ, max, List, [], Option, Some, None, map, sym, ap, refl, subst}
use Rattle.std.proofs.lemmas.List.Elements.{All-weaker}
use Rattle.wd_http.specs.Clocks.{virtual_now, virtual_rest}
use Rattle.wd_http.specs.Made.{Made}
use Rattle.wd_http.specs.declared.request.Request.{Request}
use Rattle.remote_end.specs.declared.reply.Reply.{Reply}
use Rattle.remote_end.specs.declared.setting.Setting.{Setting}
use Rattle.remote_end.specs.Machine.{Exchange, StepBy, request_of, calls_of}
use Rattle.remote_end.specs.Meaning.{Means}
use Rattle.remote_end.specs.Moments.{start_of, next_after}
use Rattle.remote_end.specs.Outside.{Call, Now, Rest, outside}
use Rattle.remote_end.specs.Plan.{Stage, Plan}
use Rattle.remote_end.specs.State.{State, first_state, at_place, session_named, changed}
use Rattle.remote_end.specs.Step.{Rests, IsActFor, own, Steps}
use Rattle.remote_end.specs.Waits.{AreIdle}
use Rattle.laws.specs.Lawful.{IsLawful, AreLawful}
use Rattle.laws.specs.OneRun.{RunsAreOne}
use Rattle.laws.proofs.MeaningLaw.{means_one}
use Rattle.laws.proofs.StepLaw.{act_one, own_same, changed_same}
use Rattle.laws.proofs.LawfulLaw.{step_lawful, first_lawful}

some_moment : (o : Option ℕ) (s t : ℕ) → o ≡ Some s → o ≡ Some t → s ≡ t
some_moment o s t e f = let g : Some s ≡ Some t = sym e ∙ f in cc

exchange_same : (e f : Exchange) → e.request ≡ f.request → e.calls ≡ f.calls → e.reply ≡ f.reply → e ≡ f
exchange_same e f r c p =
    let one : ◌≡◌ {A = Exchange} e (record { request = f.request; calls = e.calls; reply = e.reply }) = ap (λ (x : Request). let g : Exchange = record { request = x; calls = e.calls; reply = e.reply } in g) r in
    one ∙ ap (λ (x : List Call). let g : Exchange = record { request = f.request; calls = x; reply = e.reply } in g) c
    ∙ ap (λ (x : Reply). let g : Exchange = record { request = f.request; calls = f.calls; reply = x } in g) p

heads : (e f : Exchange) (es fs : List Exchange) → map request_of (e ∷ es) ≡ map request_of (f ∷ fs) → (e.request ≡ f.request) × (map request_of es ≡ map request_of fs)
heads e f es fs same = let h : e.request ∷ map request_of es ≡ f.request ∷ map request_of fs = same in (cc, cc)

idle_of : (setting : Setting) (state : State) → AreLawful setting state → AreIdle state.sessions
idle_of setting state lawful = All-weaker (IsLawful setting) (λ s. s.waiting ≡ None) (λ s l. l.idle) state.sessions lawful.each

module _ (E : Type 0) where
  abbrev Out : ℕ × E → Call → ℕ × E → Type 0
  Out = outside virtual_now virtual_rest

  both : (p q : ℕ × E) → p.0 ≡ q.0 → p.1 ≡ q.1 → p ≡ q
  both p q e f =
      let first : ◌≡◌ {A = ℕ × E} p (q.0, p.1) = ap (λ (n : ℕ). let r : ℕ × E = (n, p.1) in r) e in
      first ∙ ap (λ (v : E). let r : ℕ × E = (q.0, v) in r) f

  -- what is left once two lists of calls turned out to be one
  record Split (xs ys later more : List Call) (a b : ℕ × E) : Type 0 where
    same : xs ≡ ys
    mid : ℕ × E
    first : Made Out mid later a
    second : Made Out mid more b

  rests_one : (stages : List Stage) (reached : ℕ) (o : ℕ × E) (xs ys later more : List Call) (a b : ℕ × E) → Rests stages reached xs → Rests stages reached ys
      → Made Out o (xs ++ later) a → Made Out o (ys ++ more) b → Split xs ys later more a b
  rests_one stages reached o [] [] later more a b r q m n = record { same = refl; mid = o; first = m; second = n }
  rests_one stages reached o [] (Rest t y ∷ ys) later more a b r q m n = absurd (let e : None ≡ Some t = sym r ∙ q.0 in cc)
  rests_one stages reached o [] (Now y ∷ ys) later more a b r q m n = absurd q
  rests_one stages reached o (Rest s x ∷ xs) [] later more a b r q m n = absurd (let e : None ≡ Some s = sym q ∙ r.0 in cc)
  rests_one stages reached o (Rest s x ∷ xs) (Now y ∷ ys) later more a b r q m n = absurd q
  rests_one stages reached o (Now x ∷ xs) ys later more a b r q m n = absurd r
  rests_one stages reached o (Rest s x ∷ xs) (Rest t y ∷ ys) later more a b (next, late, rest) (also, after, others) (p, (gives, kept), m) (u, (gave, held), n) =
      let moment : s ≡ t = some_moment (next_after stages reached) s t next also in
      let answer : x ≡ y = gives.0 ∙ ap (max o.0) moment ∙ sym gave.0 in
      let clock : p ≡ u = both p u (gives.1 ∙ ap (max o.0) moment ∙ sym gave.1) (kept ∙ sym held) in
      let P : ℕ → Type 0 = λ k. Rests stages (max reached k) ys in
      let Q : ℕ × E → Type 0 = λ k. Made Out k (ys ++ more) b in
      let split = rests_one stages (max reached x) p xs ys later more a b rest (subst P (sym answer) others) m (subst Q (sym clock) n) in
      record {
        same = ap (λ (l : List Call). Rest s x ∷ l) split.same ∙ ap (λ (k : ℕ). Rest k x ∷ ys) moment ∙ ap (λ (k : ℕ). Rest t k ∷ ys) answer;
        mid = split.mid;
        first = split.first;
        second = split.second;
      }

  module _ (setting : Setting) where
    -- two steps with one request are one, and leave the clock alike
    record Together (e f : Exchange) (one other : State) (later more : List Call) (a b : ℕ × E) : Type 0 where
      same : e ≡ f
      state : one ≡ other
      mid : ℕ × E
      first : Made Out mid later a
      second : Made Out mid more b

    step_together : (old : State) → AreIdle old.sessions → (o : ℕ × E) (e f : Exchange) (one other : State) (later more : List Call) (a b : ℕ × E) → e.request ≡ f.request
        → StepBy setting old e one → StepBy setting old f other → Made Out o (e.calls ++ later) a → Made Out o (f.calls ++ more) b → Together e f one other later more a b
    unfolding Steps
    step_together old idle o e f one other later more a b same s t m n =
        let R : Request → Type 0 = λ r. Means old r t.meaning in
        let meant = means_one old e.request s.meaning t.meaning s.means (subst R (sym same) t.means) in
        let M : List Call → Type 0 = λ calls. Made Out o (calls ++ later) a in
        let N : List Call → Type 0 = λ calls. Made Out o (calls ++ more) b in
        let x = subst M s.calls_are m in
        let y = subst N t.calls_are n in
        let reading : s.reading ≡ t.reading = x.1.0.0 ∙ sym y.1.0.0 in
        let A : ℕ → Type 0 = λ r. IsActFor setting old t.meaning r t.asked t.plan in
        let act = act_one setting old idle s.reading s.asked t.asked s.plan t.plan s.meaning t.meaning meant s.act (subst A (sym reading) t.act) in
        let clock : x.0 ≡ y.0 = both x.0 y.0 (x.1.0.1 ∙ sym y.1.0.1) (x.1.1 ∙ sym y.1.1) in
        let S : List Call → Type 0 = λ asked. Made Out x.0 ((asked ++ s.rests) ++ later) a in
        let T : List Call → Type 0 = λ asked. Made Out y.0 ((asked ++ t.rests) ++ more) b in
        let U : ℕ × E → Type 0 = λ c. Made Out c (t.rests ++ more) b in
        let first : Made Out x.0 (s.rests ++ later) a = subst S act.0 x.2 in
        let second : Made Out x.0 (t.rests ++ more) b = subst U (sym clock) (subst T act.1 y.2) in
        let W : Plan → Type 0 = λ p. Rests p.stages (start_of (session_named (own t.meaning) old.sessions) t.reading) t.rests in
        let X : Option ℕ → Type 0 = λ p. Rests s.plan.stages (start_of (at_place old.sessions p) t.reading) t.rests in
        let Y : ℕ → Type 0 = λ r. Rests s.plan.stages (start_of (session_named (own s.meaning) old.sessions) r) t.rests in
        let waits = subst Y (sym reading) (subst X (sym (own_same old s.meaning t.meaning meant)) (subst W (sym act.2) t.waits)) in
        let split = rests_one s.plan.stages (start_of (session_named (own s.meaning) old.sessions) s.reading) x.0 s.rests t.rests later more a b s.waits waits first second in
        let asked : s.asked ≡ t.asked = act.0 ∙ sym act.1 in
        let calls : e.calls ≡ f.calls =
        s.calls_are ∙ ap (λ (r : ℕ). Now r ∷ s.asked ++ s.rests) reading ∙ ap (λ (l : List Call). Now t.reading ∷ l ++ s.rests) asked
        ∙ ap (λ (l : List Call). Now t.reading ∷ t.asked ++ l) split.same ∙ sym t.calls_are in
        record {
          same = exchange_same e f same calls (s.reply_is ∙ ap (λ (p : Plan). p.reply) act.2 ∙ sym t.reply_is);
          state =
              s.new_is ∙ ap (λ (p : Plan). changed old (own s.meaning) p.after) act.2
              ∙ changed_same old (own s.meaning) (own t.meaning) t.plan.after (own_same old s.meaning t.meaning meant) ∙ sym t.new_is;
          mid = split.mid;
          first = split.first;
          second = split.second;
        }

    module _ (small : setting.run < 2 ^ 48) where
      together : (es fs : List Exchange) (old : State) → AreLawful setting old → (o : ℕ × E) (one other : State) (a b : ℕ × E) → map request_of es ≡ map request_of fs
          → Made (StepBy setting) old es one → Made (StepBy setting) old fs other → Made Out o (calls_of es) a → Made Out o (calls_of fs) b → (es ≡ fs) × (one ≡ other)
      together [] [] old lawful o one other a b same r q m n = (refl, r ∙ sym q)
      together [] (f ∷ fs) old lawful o one other a b same r q m n = absurd (let e : [] ≡ f.request ∷ map request_of fs = same in cc)
      together (e ∷ es) [] old lawful o one other a b same r q m n = absurd (let g : e.request ∷ map request_of es ≡ [] = same in cc)
      together (e ∷ es) (f ∷ fs) old lawful o one other a b same (s, step, r) (t, also, q) m n =
          let h = heads e f es fs same in
          let both = step_together old (idle_of setting old lawful) o e f s t (calls_of es) (calls_of fs) a b h.0 step also m n in
          let P : State → Type 0 = λ state. Made (StepBy setting) state fs other in
          let rest = together es fs s (step_lawful setting small old s e lawful step) both.mid one other a b h.1 r (subst P (sym both.state) q) both.first both.second in
          (ap (λ (l : List Exchange). e ∷ l) rest.0 ∙ ap (λ (x : Exchange). x ∷ fs) both.same, rest.1)

pub runs_are_one : (E : Type 0) → RunsAreOne E
runs_are_one E setting clock evaluator es fs one other a b small same r q m n = together E setting small es fs first_state (first_lawful setting small) (clock, evaluator) one other a b same r q m n
