-- A request is answered: its command is begun, and resumed at each rest.
use Rattle.std.proofs.Common.{◌≡◌, ◌<◌, ◌≤◌, ◌∙◌, ◌==◌, ℕ, zero, suc, take, drop, get_or, slice_get, List, [], ◌∷◌, ◌++◌, Option, Some, None, Result, map, append_assoc, length, slice_set, sym, ap, refl, subst, arith}
use Rattle.std.specs.Prelude.{Bool, nat_lt}
use Rattle.std.proofs.lemmas.Bool.{ltb-true, eqb-true}
use Rattle.std.proofs.lemmas.List.Elements.{All-append, All-take, All-drop, All-set, All-push}
use Rattle.std.proofs.lemmas.List.Quantifiers.{position-Some}
use Rattle.std.proofs.lemmas.Option.{get_or_from_slice_get, slice_get_within, cond_some}
use Rattle.std.specs.List.{position, position_or_len}
use Rattle.wd_errors.specs.declared.code.Code.{Code}
use Rattle.wd_http.specs.declared.request.Request.{Request}
use Rattle.remote_end.specs.declared.order.Order.{Order}
use Rattle.remote_end.specs.declared.reply.Reply.{Reply}
use Rattle.remote_end.specs.declared.session.Session.{Session}
use Rattle.remote_end.specs.declared.step.Step.{Step as Outcome}
use Rattle.remote_end.specs.declared.step.Step.TheVariants.{Reply as Replied, Wait}
use Rattle.remote_end.specs.declared.setting.Setting.{Setting}
use Rattle.remote_end.specs.State.{State, After, Same, Leaves, Ends, Opens, own_place, place_numbered, at_place, session_numbered, session_named, set_at, without_at, changed}
use Rattle.remote_end.specs.Plan.{Plan}
use Rattle.remote_end.specs.Moments.{later, first_moment, start_of}
use Rattle.remote_end.specs.Meaning.{Means}
use Rattle.remote_end.specs.Carried.{LeavesIdle, ComesTo}
use Rattle.remote_end.specs.Waits.{AreIdle, IsPlanOf, next_moment, busy_in, busy_of, left_of}
use Rattle.remote_end.specs.Step.{Steps, Begins, GoesOn, Resumes, IsNamed, IsActFor, own}
use Rattle.std.proofs.lemmas.List.{map-append}
use Rattle.remote_end.specs.declared.taken.Taken.{Taken}
use Rattle.remote_end.specs.declared.taken.Taken.TheVariants.{Reading}
use Rattle.remote_end.specs.Standing.{Standing, IsReady}
use Rattle.remote_end.specs.Outside.{Call, Now, Rest, taken_of}
use Rattle.wd_http.specs.Made.{Made}
use Rattle.remote_end.specs.Runs.{Answers}
use Rattle.remote_end.proofs.RunLemmas.{made_on, made_one}
use Rattle.remote_end.proofs.NumberLemmas.{numbered_set}
use Rattle.remote_end.proofs.RunAtLemmas.{some_session, here_set, set_again}
use Rattle.remote_end.proofs.RestLemmas.{HasMade, Known, known_first, known_next, made_all, first_of}

position_within : {X : Type 0} (test : X → Bool) (xs : List X) (i : ℕ) → position test xs ≡ Some i → i < length xs
position_within test xs i e =
    let c = cond_some (nat_lt (position_or_len test xs) (length xs)) (position_or_len test xs) i e in
    let less : position_or_len test xs < length xs = ltb-true (position_or_len test xs) (length xs) c.0 in
    omega (arith, less, c.1)

here_at : (sessions : List Session) (number place : ℕ) → place_numbered number sessions ≡ Some place → (s : Session) × (slice_get sessions place ≡ Some s)
here_at sessions number place is = within sessions place (position_within (λ (t : Session). t.number == number) sessions place is)
  where
    within : (ss : List Session) (i : ℕ) → i < length ss → (s : Session) × (slice_get ss i ≡ Some s)
    within [] i h = absurd (omega (arith, h))
    within (s ∷ ss) zero h = (s, refl)
    within (s ∷ ss) (suc i) h = within ss i (omega (arith, h))

left_same : (a b : Session) → Leaves a ≡ Leaves b → a ≡ b
left_same a b e = cc

-- ---- the loop

-- what waits while a request is answered: the command that it began, with the rests that were made
pub record Underway (setting : Setting) (old : State) (request : Request) (reading : ℕ) (made : List Call) (current : State) (number until : ℕ) : Type 0 where
  pub meaning : Result Order Code
  pub means : Means old request meaning
  pub first : Session
  pub session : Session
  pub r : ℕ
  pub less : r < until
  pub begins : (plan : Plan) → IsPlanOf setting session plan → first_moment plan.stages ≡ Some until
  pub known : Known setting (IsActFor setting old meaning reading []) (start_of (session_named (own meaning) old.sessions) reading) made r session
  pub place : ℕ
  pub place_is : own_place (own meaning) old.sessions ≡ Some place
  pub here : slice_get old.sessions place ≡ Some first
  pub numbered : place_numbered number old.sessions ≡ Some place
  pub number_is : session.number ≡ first.number
  pub next : next_moment session ≡ Some until
  pub now_is : current ≡ record old { sessions = slice_set old.sessions place session }

abbrev pub Answering : Setting → State → Request → ℕ → List Call → State → Outcome → Type 0
Answering setting old request reading made current (Replied reply) = Steps setting old request (Now reading ∷ made) reply current × AreIdle current.sessions
Answering setting old request reading made current (Wait number until) = Underway setting old request reading made current number until

numbers_are : (number : ℕ) (sessions : List Session) (place : ℕ) → place_numbered number sessions ≡ Some place → (s : Session) → slice_get sessions place ≡ Some s → s.number ≡ number
numbers_are number sessions place is s here =
    let found = position-Some (λ (t : Session). t.number == number) sessions place s is in
    let there : get_or sessions place s ≡ s = get_or_from_slice_get sessions place s s here in
    ap (λ (t : Session). t.number) (sym there) ∙ eqb-true (get_or sessions place s).number number found.1

some_place : (a b : ℕ) → Some a ≡ Some b → a ≡ b
some_place a b e = cc

-- nothing waits afterwards
idle_set : (old : State) (o : Option ℕ) (s : Session) → AreIdle old.sessions → s.waiting ≡ None → AreIdle (set_at old.sessions o s)
idle_set old None s idle none = idle
idle_set old (Some i) s idle none = All-set (λ (t : Session). t.waiting ≡ None) old.sessions i s none idle

idle_without : (old : State) (o : Option ℕ) → AreIdle old.sessions → AreIdle (without_at old.sessions o)
idle_without old None idle = idle
idle_without old (Some i) idle =
    let P : Session → Type 0 = λ t. t.waiting ≡ None in
    All-append P (take i old.sessions) (drop (suc i) old.sessions) (All-take P i old.sessions idle) (All-drop P (suc i) old.sessions idle)

pub idle_after : (old : State) (named : Option (List ℕ)) (after : After) → AreIdle old.sessions → LeavesIdle after → AreIdle (changed old named after).sessions
idle_after old named Same idle leaves = idle
idle_after old named (Leaves s) idle leaves = idle_set old (own_place named old.sessions) s idle leaves
idle_after old named Ends idle leaves = idle_without old (own_place named old.sessions) idle
idle_after old named (Opens s) idle leaves = All-push (λ (t : Session). t.waiting ≡ None) old.sessions s idle leaves

module _ (setting : Setting) (old : State) (request : Request) (reading : ℕ) (idle : AreIdle old.sessions) where
  step_of : (meaning : Result Order Code) → Means old request meaning → (made : List Call) (m : Plan)
      → HasMade (IsActFor setting old meaning reading []) (start_of (session_named (own meaning) old.sessions) reading) made m
      → (reply : Reply) (after : After) → reply ≡ m.reply → after ≡ m.after → (new : State) → new ≡ changed old (own meaning) after → Steps setting old request (Now reading ∷ made) reply new
  unfolding Steps
  step_of meaning means made m is reply after reply_is after_is new new_is = record {
    meaning = meaning;
    means = means;
    reading = reading;
    asked = [];
    rests = made;
    plan = is.plan;
    act = is.is;
    calls_are = refl;
    waits = is.rests;
    reply_is = reply_is ∙ is.reply_is;
    new_is = new_is ∙ ap (changed old (own meaning)) (after_is ∙ is.after_is);
  }

  -- it was begun
  module _ (new : State) (meaning : Result Order Code) (means : Means old request meaning) (after : After) (new_is : new ≡ changed old (own meaning) after) where
    abbrev IsPlan : Plan → Type 0
    IsPlan plan = IsActFor setting old meaning reading [] plan

    abbrev start : ℕ
    start = start_of (session_named (own meaning) old.sessions) reading

    by : (o : Outcome) → ComesTo setting IsPlan start o after → IsNamed o (own meaning) old.sessions → Answering setting old request reading [] new o
    by (Replied reply) ends named =
        let made : HasMade IsPlan start [] ends.plan = record { plan = ends.plan; is = ends.is; rests = ends.over; reply_is = refl; after_is = refl } in
        let P : State → Type 0 = λ t. AreIdle t.sessions in
        (step_of meaning means [] ends.plan made reply after ends.reply_is ends.after_is new new_is, subst P (sym new_is) (idle_after old (own meaning) after idle ends.idle))
    by (Wait number until) (session, after_is, waits) (place, place_is, numbered) =
        let h = here_at old.sessions number place numbered in
        record {
          meaning = meaning;
          means = means;
          first = h.0;
          session = session;
          r = start;
          less = waits.later;
          begins = first_of IsPlan start number until session waits;
          known = known_first setting IsPlan start number until session waits;
          place = place;
          place_is = place_is;
          here = h.1;
          numbered = numbered;
          number_is = sym waits.number_is ∙ sym (numbers_are number old.sessions place numbered h.0 h.1);
          next = waits.next;
          now_is = new_is ∙ ap (changed old (own meaning)) after_is ∙ ap (λ (o : Option ℕ). let t : State = record old { sessions = set_at old.sessions o session } in t) place_is;
        }

  pub begun : (new : State) (outcome : Outcome) → Begins setting old request reading new outcome → Answering setting old request reading [] new outcome
  begun new outcome begins = by new begins.meaning begins.means begins.after begins.new_is outcome begins.comes begins.named

  -- ---- it was resumed after a rest

  module _ (made : List Call) (current : State) (number until : ℕ) (held : Underway setting old request reading made current number until) where
    session_is : session_numbered number current.sessions ≡ Some held.session
    session_is =
        let within : held.place < length old.sessions = slice_get_within old.sessions held.place held.first held.here in
        let numbered : place_numbered number (slice_set old.sessions held.place held.session) ≡ Some held.place =
        numbered_set old.sessions held.place number held.first held.session held.here held.number_is ∙ held.numbered in
        ap (λ (t : State). session_numbered number t.sessions) held.now_is
        ∙ ap (λ (o : Option ℕ). at_place (slice_set old.sessions held.place held.session) o) numbered
        ∙ here_set old.sessions held.place held.session within

    -- the session waits
    pub is_busy : busy_of number current.sessions ≡ Some until
    is_busy = ap busy_in session_is ∙ held.next

    module _ (x : ℕ) (late : until ≤ x) (new : State) where
      abbrev Now_made : List Call
      Now_made = made ++ Rest until x ∷ []

      on : (left : Session) (o : Outcome) → ComesTo setting (IsPlanOf setting held.session) x o (Leaves left) → left.number ≡ held.session.number
          → new ≡ record old { sessions = slice_set old.sessions held.place left } → Answering setting old request reading Now_made new o
      on left (Replied reply) ends number_is new_is =
          let IsPlan : Plan → Type 0 = IsActFor setting old held.meaning reading [] in
          let start : ℕ = start_of (session_named (own held.meaning) old.sessions) reading in
          let all = made_all setting IsPlan start held.r number until x held.session made held.known held.less late reply (Leaves left) ends held.begins in
          let changed_is : new ≡ changed old (own held.meaning) (Leaves left) = new_is ∙ ap (λ (o : Option ℕ). let t : State = record old { sessions = set_at old.sessions o left } in t) (sym held.place_is) in
          let P : State → Type 0 = λ t. AreIdle t.sessions in (
            step_of held.meaning held.means Now_made all.0 all.1 reply (Leaves left) all.2 all.3 new changed_is,
            subst P (sym changed_is) (idle_after old (own held.meaning) (Leaves left) idle ends.idle),
          )
      on left (Wait other next) (session, after_is, waits) number_is new_is =
          let IsPlan : Plan → Type 0 = IsActFor setting old held.meaning reading [] in
          let start : ℕ = start_of (session_named (own held.meaning) old.sessions) reading in
          let same : left ≡ session = left_same left session after_is in
          let n : session.number ≡ held.first.number = ap (λ (t : Session). t.number) (sym same) ∙ number_is ∙ held.number_is in
          let other_is : number ≡ other = sym (numbers_are number old.sessions held.place held.numbered held.first held.here) ∙ sym n ∙ sym waits.number_is in
          let P : ℕ → Type 0 = λ k. place_numbered k old.sessions ≡ Some held.place in
          record {
            meaning = held.meaning;
            means = held.means;
            first = held.first;
            session = session;
            r = x;
            less = waits.later;
            begins = first_of (IsPlanOf setting held.session) x other next session waits;
            known = known_next setting IsPlan start held.r number until x held.session made held.known held.less late other next session waits held.begins;
            place = held.place;
            place_is = held.place_is;
            here = held.here;
            numbered = subst P other_is held.numbered;
            number_is = n;
            next = waits.next;
            now_is = new_is ∙ ap (λ (t : Session). let u : State = record old { sessions = slice_set old.sessions held.place t } in u) same;
          }

      pub resumed : (o : Outcome) → Resumes setting current number x new o → Answering setting old request reading Now_made new o
      resumed o resumes =
          let within : held.place < length old.sessions = slice_get_within old.sessions held.place held.first held.here in
          let list : current.sessions ≡ slice_set old.sessions held.place held.session = ap (λ (t : State). t.sessions) held.now_is in
          let numbered : place_numbered number current.sessions ≡ Some held.place =
          ap (place_numbered number) list ∙ numbered_set old.sessions held.place number held.first held.session held.here held.number_is ∙ held.numbered in
          let goes = resumes.goes in
          let same_place : resumes.place ≡ held.place = some_place resumes.place held.place (sym resumes.place_is ∙ numbered) in
          let here : slice_get (slice_set old.sessions held.place held.session) held.place ≡ Some goes.session =
          sym (ap (λ (l : List Session). slice_get l held.place) list) ∙ sym (ap (λ (i : ℕ). slice_get current.sessions i) same_place) ∙ goes.here in
          let same : goes.session ≡ held.session = some_session goes.session held.session (sym here ∙ here_set old.sessions held.place held.session within) in
          let P : Session → Type 0 = λ s. ComesTo setting (IsPlanOf setting s) x o (Leaves goes.left) in
          let sessions_are : new.sessions ≡ slice_set old.sessions held.place goes.left =
          goes.new_is ∙ ap (λ (i : ℕ). slice_set current.sessions i goes.left) same_place ∙ ap (λ (l : List Session). slice_set l held.place goes.left) list
          ∙ set_again old.sessions held.place held.session goes.left in
          let next_is : new.next ≡ old.next = resumes.next ∙ ap (λ (t : State). t.next) held.now_is in
          on goes.left o (subst P same goes.comes) (goes.number ∙ ap (λ (t : Session). t.number) same)
          (ap (λ (l : List Session). let t : State = record new { sessions = l } in t) sessions_are ∙ ap (λ (n : ℕ). let t : State = record { next = n; sessions = slice_set old.sessions held.place goes.left } in t) next_is)

-- how many rests a command that waits can still make, at most
abbrev pub rests_in : Option Session → ℕ
rests_in None = 0
rests_in (Some s) = left_of s

abbrev pub rests_left : Outcome → List Session → ℕ
rests_left (Replied reply) sessions = 0
rests_left (Wait number until) sessions = rests_in (session_numbered number sessions)

module _ {setting : Setting} (current new : State) (number until x : ℕ) (busy : busy_of number current.sessions ≡ Some until) (late : until ≤ x) where
  pub fewer_left : (o : Outcome) → Resumes setting current number x new o → rests_left o new.sessions < rests_left (Wait number until) current.sessions
  fewer_left o resumes = by o goes.comes
    where
      goes : GoesOn setting current.sessions resumes.place x new.sessions o
      goes = resumes.goes

      is : session_numbered number current.sessions ≡ Some resumes.goes.session
      is = ap (at_place current.sessions) resumes.place_is ∙ resumes.goes.here

      less : left_of resumes.goes.left < left_of resumes.goes.session
      less = resumes.goes.fewer until (sym (ap busy_in is) ∙ busy) late

      before : rests_left (Wait number until) current.sessions ≡ left_of resumes.goes.session
      before = ap rests_in is

      by : (p : Outcome) → ComesTo setting (IsPlanOf setting resumes.goes.session) x p (Leaves resumes.goes.left) → rests_left p new.sessions < rests_left (Wait number until) current.sessions
      by (Replied reply) ends = let l = less in let b = before in omega (arith, l, b)
      by (Wait other next) (session, after_is, waits) =
          let left : Session = resumes.goes.left in
          let same : left ≡ session = left_same left session after_is in
          let n : number ≡ other =
          sym (numbers_are number current.sessions resumes.place resumes.place_is resumes.goes.session resumes.goes.here)
          ∙ sym resumes.goes.number ∙ ap (λ (t : Session). t.number) same ∙ sym waits.number_is in
          let list : new.sessions ≡ slice_set current.sessions resumes.place left = resumes.goes.new_is in
          let numbered : place_numbered other new.sessions ≡ Some resumes.place =
          ap (place_numbered other) list ∙ numbered_set current.sessions resumes.place other resumes.goes.session left resumes.goes.here resumes.goes.number
          ∙ ap (λ (k : ℕ). place_numbered k current.sessions) (sym n) ∙ resumes.place_is in
          let after : session_numbered other new.sessions ≡ Some left =
          ap (λ (o : Option ℕ). at_place new.sessions o) numbered ∙ ap (λ (l : List Session). slice_get l resumes.place) list
          ∙ here_set current.sessions resumes.place left (slice_get_within current.sessions resumes.place resumes.goes.session resumes.goes.here) in
          let l = less in let b = before in let f : rests_left (Wait other next) new.sessions ≡ left_of left = ap rests_in after in
          omega (arith, l, b, f)

-- ---- what the loop knows

pub record Rested {O : Type 0} (makes : O → Call → O → Type 0) (before after : O) (old current : Standing) (request : Request) (reading : ℕ) (outcome : Outcome) : Type 0 where
  pub made : List Call
  pub answering : Answering old.setting old.state request reading made current.state outcome
  pub kept : current ≡ record old { state = current.state; taken = old.taken ++ map taken_of (Now reading ∷ made) }
  pub calls : Made makes before (Now reading ∷ made) after

module _ {O : Type 0} (makes : O → Call → O → Type 0) (before after : O) (old : Standing) (request : Request) (reading : ℕ) (ready : IsReady old) where
  pub rested_first : (current : Standing) (outcome : Outcome) → makes before (Now reading) after → Begins old.setting old.state request reading current.state outcome
      → current ≡ record old { state = current.state; taken = old.taken ++ Reading reading ∷ [] } → Rested makes before after old current request reading outcome
  rested_first current outcome does begins kept = record {
    made = [];
    answering = begun old.setting old.state request reading ready.idle current.state outcome begins;
    kept = kept;
    calls = made_one makes before after (Now reading) does;
  }

  pub rested_next : (current new : Standing) (number until x : ℕ) (outcome : Outcome) (later : O) → Rested makes before after old current request reading (Wait number until)
      → until ≤ x → makes after (Rest until x) later → Resumes current.setting current.state number x new.state outcome → new ≡ record current { state = new.state; taken = current.taken ++ Reading x ∷ [] }
      → Rested makes before later old new request reading outcome
  rested_next current new number until x outcome later held late does resumes kept =
      let same : current.setting ≡ old.setting = ap (λ (s : Standing). s.setting) held.kept in
      let P : Setting → Type 0 = λ t. Resumes t current.state number x new.state outcome in
      let taken_is : current.taken ≡ old.taken ++ map taken_of (Now reading ∷ held.made) = ap (λ (s : Standing). s.taken) held.kept in
      let taken_more : current.taken ++ Reading x ∷ [] ≡ old.taken ++ map taken_of (Now reading ∷ held.made ++ Rest until x ∷ []) =
      ap (λ (l : List Taken). l ++ Reading x ∷ []) taken_is ∙ append_assoc old.taken (map taken_of (Now reading ∷ held.made)) (Reading x ∷ [])
      ∙ ap (λ (l : List Taken). old.taken ++ l) (sym (map-append taken_of (Now reading ∷ held.made) (Rest until x ∷ []))) in
      record {
        made = held.made ++ Rest until x ∷ [];
        answering = resumed old.setting old.state request reading ready.idle held.made current.state number until held.answering x late new.state outcome (subst P same resumes);
        kept = kept
            ∙ ap (λ (s : Standing). let t : Standing = record s { state = new.state; taken = current.taken ++ Reading x ∷ [] } in t) held.kept
            ∙ ap (λ (l : List Taken). let t : Standing = record old { state = new.state; taken = l } in t) taken_more;
        calls = made_on makes before after later (Now reading ∷ held.made) (Rest until x ∷ []) held.calls (made_one makes after later (Rest until x) does);
      }

  pub answers_all : (current : Standing) (reply : Reply) → Rested makes before after old current request reading (Replied reply) → Answers makes before after old current request reply
  answers_all current reply held = record {
    calls = Now reading ∷ held.made;
    steps = held.answering.0;
    taken = ap (λ (s : Standing). s.taken) held.kept;
    made = held.calls;
    setting = ap (λ (s : Standing). s.setting) held.kept;
    ready = record { alive = ap (λ (s : Standing). s.spent) held.kept ∙ ready.alive; idle = held.answering.1 };
  }

-- while it waits, its session is busy
pub busy_while : {O : Type 0} (makes : O → Call → O → Type 0) (before after : O) (old current : Standing) (request : Request) (reading number until : ℕ) (outcome : Outcome) → IsReady old
    → Rested makes before after old current request reading outcome → outcome ≡ Wait number until → busy_of number current.state.sessions ≡ Some until
busy_while {O} makes before after old current request reading number until outcome ready held is =
    let P : Outcome → Type 0 = λ o. Answering old.setting old.state request reading held.made current.state o in
    is_busy old.setting old.state request reading ready.idle held.made current.state number until (subst P is held.answering)

pub rested_as : {O : Type 0} (makes : O → Call → O → Type 0) (before after : O) (old current : Standing) (request : Request) (reading : ℕ) (one other : Outcome)
    → one ≡ other → Rested makes before after old current request reading one → Rested makes before after old current request reading other
rested_as {O} makes before after old current request reading one other is held =
    let P : Outcome → Type 0 = λ o. Rested makes before after old current request reading o in subst P is held
