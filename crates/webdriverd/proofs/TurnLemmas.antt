-- Connections that are served one after another.
use Rattle.std.proofs.Common.{◌≡◌, ◌∷◌, ◌++◌, ◌+◌, ℕ, List, [], Bool, true, IsTrue, length, map, refl, sym, subst, ap, ◌∙◌, append_assoc, append-nil, arith, length-append}
use Rattle.std.specs.List.{All}
use Rattle.std.proofs.lemmas.Grind.{flat_map-append}
use Rattle.std.proofs.lemmas.List.{map-append}
use Rattle.std.proofs.lemmas.List.Elements.{All-append, All-from_recursion}
use Rattle.wd_http.specs.Made.{LineCall, Asks, Takes, HangsUp as HangsUpCall, Made}
use Rattle.wd_http.specs.Talk.{Connection, came, Talk, given, Comes, HangsUp}
use Rattle.remote_end.specs.declared.setting.Setting.{Setting}
use Rattle.remote_end.specs.declared.taken.Taken.{Taken}
use Rattle.remote_end.specs.Machine.{Exchange, Runs, StepBy, calls_of}
use Rattle.remote_end.specs.Outside.{Call, taken_of}
use Rattle.remote_end.specs.Runs.{Ran}
use Rattle.remote_end.specs.Standing.{Standing}
use Rattle.remote_end.proofs.RunLemmas.{made_on, made_one}
use Rattle.webdriverd.specs.Attended.{Turned}
use Rattle.webdriverd.specs.Headline.{AreOver, NoMore, OneMore, Gave, joined}
use Rattle.webdriverd.specs.Service.{Served, Stands}
use Rattle.webdriverd.specs.Serving.{Answering, Starts, Reads, Responds, Serving, Answered, Refused, Turns, NoTurn, OneTurn, Visits, NoVisit, OneVisit, IsWithin, Calls}
use Rattle.webdriverd.proofs.ServiceLemmas.{all_handed, calls_none, calls_on}

-- ---- what is run

ran_join : {O : Type 0} (makes : O → Call → O → Type 0) (a b c : O) (old mid new : Standing) (xs ys : List Exchange) → Ran makes a b old mid xs → Ran makes b c mid new ys → Ran makes a c old new (xs ++ ys)
ran_join {O} makes a b c old mid new xs ys p q =
    let split : calls_of (xs ++ ys) ≡ calls_of xs ++ calls_of ys = flat_map-append (λ (e : Exchange). e.calls) xs ys in
    let P : Setting → Type 0 = λ setting. Runs setting mid.state ys new.state in
    let Q : List Call → Type 0 = λ calls. Made makes a calls c in
    record {
      runs = made_on (StepBy old.setting) old.state mid.state new.state xs ys p.runs (subst P p.setting q.runs);
      taken = q.taken ∙ ap (λ (t : List Taken). t ++ map taken_of (calls_of ys)) p.taken
          ∙ append_assoc old.taken (map taken_of (calls_of xs)) (map taken_of (calls_of ys))
          ∙ ap (λ (t : List Taken). old.taken ++ t) (sym (map-append taken_of (calls_of xs) (calls_of ys)))
          ∙ ap (λ (calls : List Call). old.taken ++ map taken_of calls) (sym split);
      made = subst Q (sym split) (made_on makes a b c (calls_of xs) (calls_of ys) p.made q.made);
      setting = q.setting ∙ p.setting;
    }

joined_on : (xs ys : List (List Exchange)) → joined (xs ++ ys) ≡ joined xs ++ joined ys
joined_on xs ys = flat_map-append (λ (es : List Exchange). es) xs ys

-- ---- what the line gave

over_on : (cs ds : List Connection) (xs ys : List (List Exchange)) → AreOver cs xs → AreOver ds ys → AreOver (cs ++ ds) (xs ++ ys)
over_on cs ds xs ys NoMore q = q
over_on cs ds xs ys (OneMore c rest es turns over more) q = OneMore c (rest ++ ds) es (turns ++ ys) over (over_on rest ds turns ys more q)

pub over_count : (cs : List Connection) (xs : List (List Exchange)) → AreOver cs xs → length cs ≡ length xs
over_count cs xs NoMore = refl
over_count cs xs (OneMore c rest es turns over more) = let n = over_count rest turns more in omega (arith, n)

none_over : (cs : List Connection) (ys : List (List Exchange)) → cs ≡ [] → AreOver cs ys → length ys ≡ 0
none_over cs ys none over = sym (over_count cs ys over) ∙ ap (λ (l : List Connection). length l) none

gave_on : (a b c : Talk) (xs ys : List (List Exchange)) → 1 ≡ length ys → Gave a b xs → Gave b c ys → Gave a c (xs ++ ys)
gave_on a b c xs ys one p q = record {
  served = p.served ++ q.served;
  given_are = q.given_are ∙ ap (λ (g : List Connection). g ++ q.served) p.given_are ∙ append_assoc (given a) p.served q.served;
  order = p.order ∙ ap (λ (rest : List (List ℕ)). map came p.served ++ rest) q.order
      ∙ sym (append_assoc (map came p.served) (map came q.served) c.coming)
      ∙ ap (λ (front : List (List ℕ)). front ++ c.coming) (sym (map-append came p.served q.served));
  over = λ some. q.over (λ none. let n = none_over q.served ys none q.exchanges in absurd (omega (arith, one, n)));
  exchanges = over_on p.served q.served xs ys p.exchanges q.exchanges;
}

pub gave_none : (a b : Talk) → b ≡ a → Gave a b []
gave_none a b same = record {
  served = [];
  given_are = ap given same ∙ sym (append-nil (given a));
  order = ap (λ (t : Talk). t.coming) (sym same);
  over = λ some. absurd (some refl);
  exchanges = NoMore;
}

-- ---- what is called of it

answering_within : (es : List Exchange) (calls : List LineCall) → Answering es calls → All IsWithin calls
answering_within es calls Starts = All-from_recursion IsWithin [] tt
answering_within es calls (Reads run before so_far) = All-append IsWithin before (Takes ∷ []) (answering_within run before so_far) (All-from_recursion IsWithin (Takes ∷ []) (tt, tt))
answering_within es calls (Responds run e before handed so_far hands) = All-append IsWithin before handed (answering_within run before so_far) (all_handed _ handed hands)

serving_within : (es : List Exchange) (calls : List LineCall) → Serving es calls → All IsWithin calls
serving_within es calls (Answered run before so_far) = answering_within run before so_far
serving_within es calls (Refused run kind before handed so_far hands) = All-append IsWithin before handed (answering_within run before so_far) (all_handed _ handed hands)

turns_on : (xs ys : List (List Exchange)) (c d : List LineCall) → Turns xs c → Turns ys d → Turns (xs ++ ys) (c ++ d)
turns_on xs ys c d NoTurn q = q
turns_on xs ys c d (OneTurn es turns serving more serves rest) q =
    let P : List LineCall → Type 0 = λ calls. Turns (es ∷ turns ++ ys) (Asks ∷ calls) in
    subst P (sym (append_assoc serving (HangsUpCall ∷ more) d)) (OneTurn es (turns ++ ys) serving (more ++ d) serves (turns_on turns ys more d rest q))

pub turns_visits : (xs : List (List Exchange)) (calls : List LineCall) → Turns xs calls → Visits (length xs) calls
turns_visits xs calls NoTurn = NoVisit
turns_visits xs calls (OneTurn es turns serving more serves rest) =
    let P : ℕ → Type 0 = λ n. Visits n (Asks ∷ serving ++ HangsUpCall ∷ more) in
    let n : length turns + 1 ≡ length (es ∷ turns) = omega arith in
    subst P n (OneVisit (length turns) serving more (serving_within es serving serves) (turns_visits turns more rest))

pub visits_on : (m n : ℕ) (c d : List LineCall) → Visits m c → Visits n d → Visits (m + n) (c ++ d)
visits_on m n c d NoVisit q = let P : ℕ → Type 0 = λ k. Visits k d in let zero : n ≡ 0 + n = omega arith in subst P zero q
visits_on m n c d (OneVisit k within more all rest) q =
    let P : List LineCall → Type 0 = λ calls. Visits (k + 1 + n) (Asks ∷ calls) in
    let Q : ℕ → Type 0 = λ count. Visits count (Asks ∷ within ++ HangsUpCall ∷ (more ++ d)) in
    let count : k + n + 1 ≡ k + 1 + n = omega arith in
    subst P (sym (append_assoc within (HangsUpCall ∷ more) d)) (subst Q count (OneVisit (k + n) within (more ++ d) all (visits_on k n more d rest q)))

-- between asking for a connection and hanging it up
pub between : {O : Type 0} (makes : O → LineCall → O → Type 0) (a b c d : O) (calls : List LineCall) → makes a Asks b → Made makes b calls c → makes c HangsUpCall d → Made makes a (Asks ∷ calls ++ HangsUpCall ∷ []) d
between makes a b c d calls asks made hangs = (b, asks, made_on makes b c d calls (HangsUpCall ∷ []) made (made_one makes c d HangsUpCall hangs))

pub visited : {O : Type 0} (makes : O → LineCall → O → Type 0) (a b c d : O) → makes a Asks b → Calls makes b c (All IsWithin) → makes c HangsUpCall d → Calls makes a d (Visits 1)
visited makes a b c d asks within hangs = record {
  calls = Asks ∷ within.calls ++ HangsUpCall ∷ [];
  made = between makes a b c d within.calls asks within.made hangs;
  form = OneVisit 0 within.calls [] within.form NoVisit;
}

-- ---- all of it

module _ {K O : Type 0} (makes : K → Call → K → Type 0) (line_makes : O → LineCall → O → Type 0) (tells : Bool) where
  -- before the first
  pub turned_none : (a : K) (old : Standing) (line : O) (talk : Talk) → Turned makes a a old old line_makes line line tells talk talk 0
  turned_none a old line talk = record {
    turns = [];
    count_is = refl;
    ran = record { runs = refl; taken = sym (append-nil _); made = refl; setting = refl };
    calls = calls_none line_makes line (Turns []) NoTurn;
    gave = λ h. gave_none talk talk refl;
  }

  -- one more
  pub turned_on : (a b c : K) (old mid new : Standing) (line now left : O) (before here after : Talk) (count : ℕ)
      → Turned makes a b old mid line_makes line now tells before here count → Turned makes b c mid new line_makes now left tells here after 1
      → Turned makes a c old new line_makes line left tells before after (count + 1)
  turned_on a b c old mid new line now left before here after count p q =
      let P : List Exchange → Type 0 = λ es. Ran makes a c old new es in
      record {
        turns = p.turns ++ q.turns;
        count_is = let n = p.count_is in let one = q.count_is in omega (arith, n, one, length-append p.turns q.turns);
        ran = subst P (sym (joined_on p.turns q.turns)) (ran_join makes a b c old mid new (joined p.turns) (joined q.turns) p.ran q.ran);
        calls = calls_on line_makes line now left (Turns p.turns) (Turns q.turns) (Turns (p.turns ++ q.turns)) p.calls q.calls (λ xs ys x y. turns_on p.turns q.turns xs ys x y);
        gave = λ h. gave_on before here after p.turns q.turns q.count_is (p.gave h) (q.gave h);
      }

  -- of the first one
  pub turned_one : (l0 l1 l2 l3 : O) (a b c d : Talk) (k m : K) (old new : Standing)
      → line_makes l0 Asks l1 → line_makes l2 HangsUpCall l3 → (IsTrue tells → Comes a b) → (IsTrue tells → Stands b c) → (IsTrue tells → HangsUp c d)
      → Served makes k m old new line_makes l1 l2 tells b.here c.here → Turned makes k m old new line_makes l0 l3 tells a d 1
  turned_one l0 l1 l2 l3 a b c d k m old new asks hangs comes stands over served = record {
    turns = served.exchanges ∷ [];
    count_is = refl;
    ran = let P : List Exchange → Type 0 = λ es. Ran makes k m old new es in subst P (sym (append-nil served.exchanges)) served.ran;
    calls = record {
      calls = Asks ∷ served.calls.calls ++ HangsUpCall ∷ [];
      made = between line_makes l0 l1 l2 l3 served.calls.calls asks served.calls.made hangs;
      form = OneTurn served.exchanges [] served.calls.calls [] served.calls.form NoTurn;
    };
    gave = λ h. gave h (comes h) (stands h) (over h);
  }
    where
      gave : IsTrue tells → Comes a b → Stands b c → HangsUp c d → Gave a d (served.exchanges ∷ [])
      gave h comes stands hung = record {
        served = c.here ∷ [];
        given_are =
            let up : c.is_open ≡ true = stands.is_open ∙ comes.is_open in
            rw (hung.is_open, append-nil d.past, hung.past) (rw (up, stands.past, comes.past) refl);
        order =
            let whole : came c.here ≡ b.here.left = stands.came_is ∙ ap came comes.here in
            comes.coming ∙ rw (whole, hung.coming, stands.coming) refl;
        over = λ some. hung.is_open;
        exchanges = OneMore c.here [] served.exchanges [] (served.told h _ comes.here) NoMore;
      }
