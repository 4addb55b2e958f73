-- Where all connections that were asked for were served, or no further one came.
use Rattle.std.proofs.Common.{◌≡◌, ◌∷◌, ◌++◌, ◌+◌, ◌<◌, ◌≤◌, ℕ, List, [], Bool, true, false, Ok, IsTrue, length, drop, map, refl, sym, subst, ap, ◌∙◌, arith}
use Rattle.std.proofs.lemmas.List.{drop_all, length-drop, length-map}
use Rattle.std.proofs.Math.Seq.{drop-append_seam}
use Rattle.wd_http.specs.Made.{LineCall, Asks}
use Rattle.wd_http.specs.Talk.{came, Talk, GoesOn, Comes}
use Rattle.remote_end.specs.Machine.{Exchange}
use Rattle.remote_end.specs.Outside.{Call}
use Rattle.remote_end.specs.Runs.{Ran}
use Rattle.remote_end.specs.Standing.{Standing}
use Rattle.webdriverd.specs.Attended.{Turned, Lacked, CameTo, Attended}
use Rattle.webdriverd.specs.declared.turn.Came.{Came}
use Rattle.webdriverd.specs.Headline.{Gave, joined}
use Rattle.webdriverd.specs.Serving.{Turns, Attending, AllServed, NoFurther, Visits, AtMost, EachCame, LastCameNot, Calls}
use Rattle.webdriverd.proofs.ServiceLemmas.{calls_on, calls_one}
use Rattle.webdriverd.proofs.TurnLemmas.{over_count, turns_visits, visits_on}

pub comes_as : (old new : Talk) (b : Bool) → b ≡ true → GoesOn old new (Ok b) → Comes old new
comes_as old new b e h = let P : Bool → Type 0 = λ x. GoesOn old new (Ok x) in subst P e h

pub none_came : (old new : Talk) (b : Bool) → b ≡ false → GoesOn old new (Ok b) → (old.coming ≡ []) × (new ≡ old)
none_came old new b e h = let P : Bool → Type 0 = λ x. GoesOn old new (Ok x) in subst P e h

-- what came of asking, by the answer
pub came_as : {K O : Type 0} (makes : K → Call → K → Type 0) (a b : K) (old new : Standing) (line_makes : O → LineCall → O → Type 0) (line left : O) (tells : Bool) (before after : Talk) (came w : Came) → came ≡ w
    → CameTo makes a b old new line_makes line left tells before after came → CameTo makes a b old new line_makes line left tells before after w
came_as makes a b old new line_makes line left tells before after came w e h = let P : Came → Type 0 = CameTo makes a b old new line_makes line left tells before after in subst P e h

-- the connections that are still to come, behind those that were served
pub coming_on : (a b : Talk) (turns : List (List Exchange)) (count : ℕ) → count ≡ length turns → Gave a b turns → b.coming ≡ drop count a.coming
coming_on a b turns count n g =
    let many : length (map came g.served) ≡ count = length-map g.served came ∙ over_count g.served turns g.exchanges ∙ sym n in
    let seam : drop (length (map came g.served)) (map came g.served ++ b.coming) ≡ b.coming = drop-append_seam (map came g.served) b.coming in
    sym (ap (drop count) g.order ∙ ap (λ (k : ℕ). drop k (map came g.served ++ b.coming)) (sym many) ∙ seam)

none_coming : (all rest : List (List ℕ)) (count most : ℕ) → rest ≡ drop count all → rest ≡ [] → count < most → rest ≡ drop most all
none_coming all rest count most is none more =
    let short : length (drop count all) ≡ 0 = ap (λ (l : List (List ℕ)). length l) (sym is ∙ none) in
    none ∙ sym (drop_all most all (omega (arith, length-drop count all, short, more)))

module _ {K O : Type 0} (makes : K → Call → K → Type 0) (line_makes : O → LineCall → O → Type 0) (tells : Bool) (a b c : K) (old mid new : Standing) (line now left : O) (before here after : Talk) (count most : ℕ)
    (turned : Turned makes a b old mid line_makes line now tells before here count) where
  -- all of them were served
  pub attended_all : count ≡ most → Attended makes a b old mid line_makes line now tells before here most
  attended_all all = record {
    turns = turned.turns;
    ran = turned.ran;
    calls = record { calls = turned.calls.calls; made = turned.calls.made; form = AllServed most turned.turns turned.calls.calls (sym turned.count_is ∙ all) turned.calls.form };
    gave = turned.gave;
  }

  pub most_all : count ≤ most → Calls line_makes line now (AtMost most)
  most_all few = record {
    calls = turned.calls.calls;
    made = turned.calls.made;
    form = EachCame most (length turned.turns) turned.calls.calls (let n = turned.count_is in omega (arith, n, few)) (turns_visits turned.turns turned.calls.calls turned.calls.form);
  }

  -- there was no further one
  pub attended_short : count < most → Lacked b c mid new line_makes now left tells here after → Attended makes a c old new line_makes line left tells before after most
  attended_short few lacked = record {
    turns = turned.turns;
    ran =
        let P : K → Type 0 = λ k. Ran makes a k old mid (joined turned.turns) in
        let Q : Standing → Type 0 = λ s. Ran makes a c old s (joined turned.turns) in
        subst Q (sym lacked.standing) (subst P (sym lacked.outside) turned.ran);
    calls =
        calls_on line_makes line now left (Turns turned.turns) (λ calls. calls ≡ Asks ∷ []) (Attending most turned.turns) turned.calls
        (calls_one line_makes now left Asks (λ calls. calls ≡ Asks ∷ []) lacked.asks refl)
        (λ xs ys x y.
        let R : List LineCall → Type 0 = λ calls. Attending most turned.turns (xs ++ calls) in
        subst R (sym y) (NoFurther most turned.turns xs (let n = turned.count_is in omega (arith, n, few)) x));
    gave = λ h. let S : Talk → Type 0 = λ t. Gave before t turned.turns in subst S (sym (lacked.told h)) (turned.gave h);
  }

  pub most_short : count < most → line_makes now Asks left → Calls line_makes line left (AtMost most)
  most_short few asks =
      calls_on line_makes line now left (Turns turned.turns) (λ calls. calls ≡ Asks ∷ []) (AtMost most) turned.calls
      (calls_one line_makes now left Asks (λ calls. calls ≡ Asks ∷ []) asks refl)
      (λ xs ys x y.
      let R : List LineCall → Type 0 = λ calls. AtMost most (xs ++ calls) in
      subst R (sym y) (LastCameNot most (length turned.turns) xs (let n = turned.count_is in omega (arith, n, few)) (turns_visits turned.turns xs x)))

  -- memory was wanted while one was served
  pub most_more : count < most → Calls line_makes now left (Visits 1) → Calls line_makes line left (AtMost most)
  most_more few visits =
      calls_on line_makes line now left (Turns turned.turns) (Visits 1) (AtMost most) turned.calls visits
      (λ xs ys x y. EachCame most (length turned.turns + 1) (xs ++ ys) (let n = turned.count_is in omega (arith, n, few)) (visits_on (length turned.turns) 1 xs ys (turns_visits turned.turns xs x) y))

  -- which are still to come
  pub left_all : count ≡ most → IsTrue tells → here.coming ≡ drop most before.coming
  left_all all h = coming_on before here turned.turns count turned.count_is (turned.gave h) ∙ ap (λ (k : ℕ). drop k before.coming) all

  pub left_short : count < most → IsTrue tells → after ≡ here → here.coming ≡ [] → after.coming ≡ drop most before.coming
  left_short few h same none =
      ap (λ (t : Talk). t.coming) same
      ∙ none_coming before.coming here.coming count most (coming_on before here turned.turns count turned.count_is (turned.gave h)) none few
