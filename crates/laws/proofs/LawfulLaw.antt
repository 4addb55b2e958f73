-- Every state that a run reaches is lawful.
use Rattle.std.proofs.Common.{◌≡◌, ◌<◌, ◌≤◌, ◌+◌, ◌-◌, ◌^◌, ◌∷◌, ◌++◌, ◌∙◌, ◌⊎◌, ℕ, suc, List, [], Bool, true, false, Option, Some, None, Result, Ok, Err, length, take, drop, slice_get, sym, ap, refl, subst, inl, inr, arith, length-append, length-take, length-drop}
use Rattle.std.specs.List.{All}
use Rattle.std.specs.Prelude.{nat_lt, not}
use Rattle.std.proofs.lemmas.Bool.{ltb-true, or_parts}
use Rattle.std.proofs.lemmas.List.{length-set}
use Rattle.std.proofs.lemmas.List.Elements.{All-append, All-take, All-drop, All-set, All-push, All-get_or, All-from_recursion}
use Rattle.std.proofs.lemmas.Option.{get_or_from_slice_get, slice_get_within}
use Rattle.capabilities.specs.Processed.{processed}
use Rattle.capabilities.specs.declared.fault.CapFault.{CapFault}
use Rattle.capabilities.specs.declared.matched.Matched.{Matched}
use Rattle.capabilities.specs.Timeouts.{timeouts_in}
use Rattle.capabilities.specs.declared.timeouts.Timeouts.{Timeouts}
use Rattle.endpoints.specs.declared.command.Command.{Command}
use Rattle.endpoints.specs.declared.command.Command.TheVariants.{NewSession, DeleteSession, Status, GetTimeouts, SetTimeouts, NavigateTo, GetCurrentUrl, Back, Forward, Refresh, GetTitle, GetWindowHandle, CloseWindow, SwitchToWindow, GetWindowHandles, GetWindowRect, SetWindowRect, MaximizeWindow, FullscreenWindow, MinimizeWindow, SwitchToFrame, SwitchToParentFrame, GetActiveElement, FindElement, FindElements, FindElementFromElement, FindElementsFromElement, FindElementFromShadowRoot, FindElementsFromShadowRoot, GetElementShadowRoot, IsElementSelected, GetElementAttribute, GetElementProperty, GetElementCssValue, GetElementText, GetElementTagName, GetElementRect, IsElementEnabled, IsElementDisplayed, ElementClick, ElementClear, ElementSendKeys, GetPageSource, ExecuteScript, ExecuteAsyncScript, GetAllCookies, AddCookie, DeleteAllCookies, GetNamedCookie, DeleteCookie, PerformActions, ReleaseActions, DismissAlert, AcceptAlert, GetAlertText, SendAlertText, TakeScreenshot, TakeElementScreenshot}
use Rattle.page_tree.specs.Places.{shadow_of}
use Rattle.references.specs.Handed.{Handed, handed, is_node_kind}
use Rattle.references.specs.HandedAll.{named, handed_all}
use Rattle.references.specs.Identifier.{Identifier}
use Rattle.references.specs.declared.kind.Kind.{Kind}
use Rattle.references.specs.declared.kind.Kind.TheVariants.{Element, Shadow}
use Rattle.references.specs.declared.name.NodeName.{NodeName}
use Rattle.references.specs.Series.{Series}
use Rattle.references.proofs.Issuing.{issued_none, issued_next}
use Rattle.selectors.specs.Named.{first_of_list}
use Rattle.waits.specs.Moments.{last_moment}
use Rattle.wd_errors.specs.declared.code.Code.{Code}
use Rattle.wd_errors.specs.declared.code.Code.TheVariants.{SessionNotCreated}
use Rattle.wd_http.specs.Made.{Made}
use Rattle.wd_http.specs.declared.request.Request.{Request}
use Rattle.wd_json.specs.declared.value.Json.{Json}
use Rattle.remote_end.specs.declared.finds.Wanted.{Wanted}
use Rattle.remote_end.specs.declared.finds.Wanted.TheVariants.{First, All as AllOf}
use Rattle.remote_end.specs.declared.order.Order.{Order}
use Rattle.remote_end.specs.declared.reply.Reply.{Reply}
use Rattle.remote_end.specs.declared.session.Session.{Session}
use Rattle.remote_end.specs.declared.setting.Setting.{Setting}
use Rattle.remote_end.specs.declared.waiting.FindWait.{FindWait}
use Rattle.remote_end.specs.Advance.{Advanced}
use Rattle.remote_end.specs.Elements.{current_document}
use Rattle.remote_end.specs.FindRows.{root_plan, shadow_plan}
use Rattle.remote_end.specs.FindSpans.{EndsAt}
use Rattle.remote_end.specs.Finds.{find_of, IsFind, Refused, Looks, FindPlan, first_plan, with_references, nodes_plan}
use Rattle.remote_end.specs.Handing.{with_reference}
use Rattle.laws.specs.Lawful.{IsLawful, AreLawful, StatesAreLawful}
use Rattle.remote_end.specs.Machine.{Exchange, StepBy}
use Rattle.remote_end.specs.Meaning.{Means, IsCommand}
use Rattle.remote_end.specs.Moments.{start_of}
use Rattle.remote_end.specs.Needs.{Need}
use Rattle.remote_end.specs.Opening.{opened, series}
use Rattle.remote_end.specs.Outside.{Call}
use Rattle.remote_end.specs.Plan.{Plan, at_once, AsksNothing}
use Rattle.remote_end.specs.Rows.{Row, Alone, Own, Unbuilt, row_of, Follows, IsOwn, IsAlone}
use Rattle.remote_end.specs.SessionRows.{new_session, set_timeouts_plan}
use Rattle.remote_end.specs.State.{State, After, Same, Leaves, Ends, Opens, first_state, is_full, own_place, at_place, set_at, without_at, changed}
use Rattle.remote_end.specs.Step.{IsActOf, IsActFor, own, Steps}
use Rattle.laws.proofs.RowLaw.{checks_one}
use Rattle.laws.proofs.KnownLemmas.{IsKnownOn, handed_known, all_known}
use Rattle.remote_end.proofs.NumberLemmas.{rise_more, rise_without, rise_set}

-- what a command leaves of a session, whose law it keeps
pub record Stays (setting : Setting) (s t : Session) : Type 0 where
  pub number : t.number ≡ s.number
  pub lawful : IsLawful setting s → IsLawful setting t

stays_here : (setting : Setting) (s : Session) → Stays setting s s
stays_here setting s = record { number = refl; lawful = λ l. l }

stays_on : (setting : Setting) (s t u : Session) → Stays setting s t → Stays setting t u → Stays setting s u
stays_on setting s t u a b = record { number = b.number ∙ a.number; lawful = λ l. b.lawful (a.lawful l) }

abbrev StaysAfter : Setting → Session → After → Type 0
StaysAfter setting s Same = Unit {0}
StaysAfter setting s (Leaves t) = Stays setting s t
StaysAfter setting s Ends = Unit {0}
StaysAfter setting s (Opens t) = ⊥

known_stays : (setting : Setting) (s : Session) (known : Handed) → (IsLawful setting s → IsKnownOn s.known known) → Stays setting s (record s { known = known })
known_stays setting s known on = record {
  number = refl;
  lawful = λ l. let k = on l in record { issued = k.issued; run = k.run ∙ l.run; session = k.session ∙ l.session; id = l.id; window = l.window; moment = l.moment; idle = l.idle };
}

-- a plan that leaves the same
asks : (setting : Setting) (s : Session) (given : Plan) (x : List Call) (p : Plan) → StaysAfter setting s given.after → AsksNothing given x p → StaysAfter setting s p.after
asks setting s given x p stays is = let P : Plan → Type 0 = λ q. StaysAfter setting s q.after in subst P (sym is.1) stays

after_on : (setting : Setting) (s t : Session) (after : After) → Stays setting s t → StaysAfter setting t after → StaysAfter setting s after
after_on setting s t Same a b = tt
after_on setting s t (Leaves u) a b = stays_on setting s t u a b
after_on setting s t Ends a b = tt
after_on setting s t (Opens u) a b = b

-- ---- what is handed out

reference_stays : (setting : Setting) (s : Session) (kind : Kind) (name : NodeName) → is_node_kind kind ≡ true → (o : Option (Identifier × Handed)) → handed s.known kind name ≡ o
    → StaysAfter setting s (with_reference kind s o).after
reference_stays setting s kind name k None is = stays_here setting s
reference_stays setting s kind name k (Some (id, known)) is = known_stays setting s known (λ l. handed_known s.known kind name l.issued k (id, known) is)

references_stay : (setting : Setting) (s : Session) (nodes : List ℕ) (o : Option (List Identifier × Handed)) → handed_all s.known Element current_document nodes ≡ o
    → StaysAfter setting s (with_references s o).after
references_stay setting s nodes None is = stays_here setting s
references_stay setting s nodes (Some (ids, known)) is = known_stays setting s known (λ l. all_known s.known Element current_document nodes (ids, known) refl l.issued is)

first_stays : (setting : Setting) (s : Session) (o : Option ℕ) → StaysAfter setting s (first_plan s o).after
first_stays setting s None = stays_here setting s
first_stays setting s (Some node) = reference_stays setting s Element (named current_document node) refl (handed s.known Element (named current_document node)) refl

nodes_stay : (setting : Setting) (s : Session) (wanted : Wanted) (nodes : List ℕ) → StaysAfter setting s (nodes_plan wanted s nodes).after
nodes_stay setting s First nodes = first_stays setting s (first_of_list nodes)
nodes_stay setting s AllOf nodes = references_stay setting s nodes (handed_all s.known Element current_document nodes) refl

root_stays : (setting : Setting) (s : Session) (o : Option ℕ) → StaysAfter setting s (root_plan s o).after
root_stays setting s None = stays_here setting s
root_stays setting s (Some root) = reference_stays setting s Shadow (named current_document root) refl (handed s.known Shadow (named current_document root)) refl

-- ---- time

advanced_stays : (setting : Setting) (s t : Session) (m : ℕ) → m ≤ last_moment → Advanced setting s m t → Stays setting s t
advanced_stays setting s t m within a =
    let u : Session = record s { page = t.page; at = m } in
    let P : Session → Type 0 = λ v. Stays setting s v in
    subst P (sym a.kept) (record {
      number = refl;
      lawful = λ l. record { issued = l.issued; run = l.run; session = l.session; id = l.id; window = l.window; moment = within; idle = l.idle };
    })

ends_within : (find : FindWait) (nodes : List ℕ) (m : ℕ) → EndsAt find nodes m → m ≤ find.until
ends_within find [] m e = omega (arith, e)
ends_within find (node ∷ nodes) m e = e

find_stays : (setting : Setting) (s : Session) (find : FindWait) (plan : Plan) → find.until ≤ last_moment → FindPlan setting find s plan → StaysAfter setting s plan.after
find_stays setting s find plan within is =
    let by_end = ends_within find is.nodes is.end.at is.ends.ends in
    let P : After → Type 0 = StaysAfter setting s in
    subst P (ap (λ (q : Plan). q.after) is.answers)
    (after_on setting s is.end (nodes_plan find.wanted is.end is.nodes).after (advanced_stays setting s is.end is.end.at (omega (arith, by_end, within)) is.ends.advanced) (nodes_stay setting is.end find.wanted is.nodes))

is_find_stays : (setting : Setting) (s : Session) (find : FindWait) (x : List Call) (p : Plan) → find.until ≤ last_moment → IsFind setting find s x p → StaysAfter setting s p.after
is_find_stays setting s find x p within (Refused bad is) = asks setting s _ x p (stays_here setting s) is
is_find_stays setting s find x p within (Looks plan is) = find_stays setting s find p within plan

-- ---- the table

timeouts_stay : (setting : Setting) (s : Session) (o : Option Timeouts) → StaysAfter setting s (set_timeouts_plan s o).after
timeouts_stay setting s None = stays_here setting s
timeouts_stay setting s (Some timeouts) = record { number = refl; lawful = λ l. record { issued = l.issued; run = l.run; session = l.session; id = l.id; window = l.window; moment = l.moment; idle = l.idle } }

set_timeouts_stays : (setting : Setting) (order : Order) (s : Session) (x : List Call) (p : Plan) → AsksNothing (set_timeouts_plan s (timeouts_in order.parameters s.matched.timeouts)) x p → StaysAfter setting s p.after
set_timeouts_stays setting order s x p r = asks setting s _ x p (timeouts_stay setting s (timeouts_in order.parameters s.matched.timeouts)) r

-- what a command without a session leaves: no change, or one session more
abbrev OpensAfter : Setting → State → ℕ → Command → After → Type 0
OpensAfter setting state reading c after = (after ≡ Same) ⊎ ((c ≡ NewSession) × (m : Matched) × (after ≡ Opens (opened setting state.next m reading)))

new_after : (setting : Setting) (state : State) (reading : ℕ) (r : Result Matched CapFault) → OpensAfter setting state reading NewSession (new_session setting state reading r).after
new_after setting state reading (Ok matched) = inr (refl, matched, refl)
new_after setting state reading (Err fault) = inl refl

new_session_after : (setting : Setting) (state : State) (j : Json) (reading : ℕ) (x : List Call) (p : Plan) → AsksNothing (new_session setting state reading (processed setting.offer.name j)) x p
    → OpensAfter setting state reading NewSession p.after
new_session_after setting state j reading x p r =
    let P : Plan → Type 0 = λ q. OpensAfter setting state reading NewSession q.after in
    subst P (sym r.1) (new_after setting state reading (processed setting.offer.name j))

abbrev KeepsLaw : Command → Row → Type 0
KeepsLaw c (Alone does) = (setting : Setting) (state : State) (j : Json) (reading : ℕ) (x : List Call) (p : Plan) → does setting state j reading x p → OpensAfter setting state reading c p.after
KeepsLaw c (Own needs does) = (setting : Setting) (order : Order) (s : Session) (x : List Call) (p : Plan) → does setting order s x p → StaysAfter setting s p.after
KeepsLaw c Unbuilt = Unit {0}

rows_keep : (c : Command) → KeepsLaw c (row_of c)
unfolding row_of
rows_keep c = elim c as (λ c. KeepsLaw c (row_of c)) [ NewSession ↦ new_session_after | DeleteSession ↦ λ setting order s x p r. asks setting s (at_once _ Ends) x p tt r | Status ↦ λ setting state j reading x p r. inl (ap (λ (q : Plan). q.after) r.1) | GetTimeouts ↦ λ setting order s x p r. asks setting s _ x p (stays_here setting s) r | SetTimeouts ↦ set_timeouts_stays | NavigateTo ↦ tt | GetCurrentUrl ↦ λ setting order s x p r. asks setting s _ x p (stays_here setting s) r | Back ↦ tt | Forward ↦ tt | Refresh ↦ tt | GetTitle ↦ λ setting order s x p r. asks setting s _ x p (stays_here setting s) r | GetWindowHandle ↦ λ setting order s x p r. asks setting s _ x p (stays_here setting s) r | CloseWindow ↦ tt | SwitchToWindow ↦ tt | GetWindowHandles ↦ tt | GetWindowRect ↦ tt | SetWindowRect ↦ tt | MaximizeWindow ↦ tt | FullscreenWindow ↦ tt | MinimizeWindow ↦ tt | SwitchToFrame ↦ tt | SwitchToParentFrame ↦ tt | GetActiveElement ↦ tt | FindElement ↦ λ setting order s x p r. is_find_stays setting s (find_of First s None order.parameters) x p (omega arith) r | FindElements ↦ λ setting order s x p r. is_find_stays setting s (find_of AllOf s None order.parameters) x p (omega arith) r | FindElementFromElement ↦ λ setting order s x p r. is_find_stays setting s (find_of First s (Some r.0) order.parameters) x p (omega arith) r.2 | FindElementsFromElement ↦ λ setting order s x p r. is_find_stays setting s (find_of AllOf s (Some r.0) order.parameters) x p (omega arith) r.2 | FindElementFromShadowRoot ↦ λ setting order s x p r. is_find_stays setting s (find_of First s (Some r.0) order.parameters) x p (omega arith) r.2 | FindElementsFromShadowRoot ↦ λ setting order s x p r. is_find_stays setting s (find_of AllOf s (Some r.0) order.parameters) x p (omega arith) r.2 | GetElementShadowRoot ↦ λ setting order s x p r. asks setting s (shadow_plan s r.0) x p (root_stays setting s (shadow_of s.page.rows.shadows r.0.node)) r.2 | IsElementSelected ↦ tt | GetElementAttribute ↦ tt | GetElementProperty ↦ tt | GetElementCssValue ↦ tt | GetElementText ↦ λ setting order s x p r. asks setting s _ x p (stays_here setting s) r.2 | GetElementTagName ↦ λ setting order s x p r. asks setting s _ x p (stays_here setting s) r.2 | GetElementRect ↦ tt | IsElementEnabled ↦ tt | IsElementDisplayed ↦ tt | ElementClick ↦ tt | ElementClear ↦ tt | ElementSendKeys ↦ tt | GetPageSource ↦ tt | ExecuteScript ↦ tt | ExecuteAsyncScript ↦ tt | GetAllCookies ↦ tt | AddCookie ↦ tt | DeleteAllCookies ↦ tt | GetNamedCookie ↦ tt | DeleteCookie ↦ tt | PerformActions ↦ tt | ReleaseActions ↦ tt | DismissAlert ↦ tt | AcceptAlert ↦ tt | GetAlertText ↦ tt | SendAlertText ↦ tt | TakeScreenshot ↦ tt | TakeElementScreenshot ↦ tt ]

module _ (setting : Setting) (order : Order) (s : Session) (x : List Call) (p : Plan) where
  follows_stays : (does : Setting → Order → Session → List Call → Plan → Type 0) (c : Command) (needs : List Need) → KeepsLaw c (Own needs does) → (r : Option Reply)
      → Follows (does setting order) s r x p → StaysAfter setting s p.after
  follows_stays does c needs keeps (Some reply) f = asks setting s _ x p (stays_here setting s) f
  follows_stays does c needs keeps None f = keeps setting order s x p f

  own_stays : (c : Command) (row : Row) → KeepsLaw c row → IsOwn row setting order s x p → StaysAfter setting s p.after
  own_stays c (Alone does) keeps f = asks setting s _ x p (stays_here setting s) f
  own_stays c Unbuilt keeps f = asks setting s _ x p (stays_here setting s) f
  own_stays c (Own needs does) keeps f =
      let same = checks_one order order refl needs s f.checked f.checked f.refusal f.refusal f.checks f.checks in
      let P : Session → Type 0 = λ t. Follows (does setting order) t f.refusal x p in
      follows_stays does c needs keeps f.refusal (subst P same.0 f.follows)

alone_opens : (setting : Setting) (state : State) (j : Json) (reading : ℕ) (x : List Call) (p : Plan) (c : Command) (row : Row) → KeepsLaw c row → IsAlone row setting state j reading x p → OpensAfter setting state reading c p.after
alone_opens setting state j reading x p c (Alone does) keeps f = keeps setting state j reading x p f
alone_opens setting state j reading x p c Unbuilt keeps f = inl (ap (λ (q : Plan). q.after) f.1)
alone_opens setting state j reading x p c (Own needs does) keeps f = inl (ap (λ (q : Plan). q.after) f.1)

-- ---- a step

module _ (setting : Setting) (small : setting.run < 2 ^ 48) where
  -- what a command may leave of the sessions
  abbrev Fits : State → Option (List ℕ) → After → Type 0
  Fits old named Same = Unit {0}
  Fits old named (Leaves t) = (i : ℕ) → own_place named old.sessions ≡ Some i → (s : Session) × (slice_get old.sessions i ≡ Some s) × Stays setting s t
  Fits old named Ends = Unit {0}
  Fits old named (Opens t) = (m : Matched) × (reading : ℕ) × (t ≡ opened setting old.next m reading) × (is_full old ≡ false)

  lawful_at : (sessions : List Session) (i : ℕ) (s : Session) → All (IsLawful setting) sessions → slice_get sessions i ≡ Some s → IsLawful setting s
  lawful_at sessions i s all here =
      let P : Session → Type 0 = IsLawful setting in
      subst P (get_or_from_slice_get sessions i s s here) (All-get_or P sessions i s (slice_get_within sessions i s here) all)

  left : (old : State) (named : Option (List ℕ)) (t : Session) (o : Option ℕ) → own_place named old.sessions ≡ o → Fits old named (Leaves t) → AreLawful setting old
      → AreLawful setting (record old { sessions = set_at old.sessions o t })
  left old named t None is fits l = record { each = l.each; apart = l.apart; few = l.few; numbers = l.numbers }
  left old named t (Some i) is fits l =
      let f = fits i is in
      let few : length old.sessions ≤ 8 = l.few in
      record {
        each = All-set (IsLawful setting) old.sessions i t (f.2.lawful (lawful_at old.sessions i f.0 l.each f.1)) l.each;
        apart = rise_set 1 old.sessions old.next i f.0 t f.1 f.2.number l.apart;
        few = let e = length-set old.sessions i t in omega (arith, few, e);
        numbers = l.numbers;
      }

  ended : (old : State) (o : Option ℕ) → AreLawful setting old → AreLawful setting (record old { sessions = without_at old.sessions o })
  ended old None l = record { each = l.each; apart = l.apart; few = l.few; numbers = l.numbers }
  ended old (Some i) l =
      let few : length old.sessions ≤ 8 = l.few in
      let P : Session → Type 0 = IsLawful setting in
      record {
        each = All-append P (take i old.sessions) (drop (suc i) old.sessions) (All-take P i old.sessions l.each) (All-drop P (suc i) old.sessions l.each);
        apart = rise_without 1 old.sessions old.next i l.apart;
        few = omega (arith, few, length-append (take i old.sessions) (drop (suc i) old.sessions), length-take i old.sessions, length-drop (suc i) old.sessions);
        numbers = l.numbers;
      }

  opened_lawful : (n : ℕ) (m : Matched) (reading : ℕ) → n < 2 ^ 30 → IsLawful setting (opened setting n m reading)
  opened_lawful n m reading few =
      let ids : Series = series setting n 1 in
      let none = issued_none ids (record { run = small; session = few; next = omega arith }) in
      record {
        issued = issued_next (record { ids = ids; first = 1; entries = []; spent = false }) none (λ e. absurd (let f : 1 ≡ 2 ^ 32 - 1 = e in omega (arith, f)));
        run = refl;
        session = refl;
        id = refl;
        window = refl;
        moment = omega arith;
        idle = refl;
      }

  not_false : (b : Bool) → not b ≡ false → b ≡ true
  not_false true e = refl
  not_false false e = absurd (let f : true ≡ false = e in cc)

  opens : (old : State) (t : Session) (m : Matched) (reading : ℕ) → t ≡ opened setting old.next m reading → is_full old ≡ false → AreLawful setting old
      → AreLawful setting (record { next = old.next + 1; sessions = old.sessions ++ t ∷ [] })
  opens old t m reading is room l =
      let parts = or_parts (not (nat_lt (length old.sessions) 8)) _ room in
      let few : length old.sessions < 8 = ltb-true (length old.sessions) 8 (not_false (nat_lt (length old.sessions) 8) parts.0) in
      let short : old.next < 2 ^ 30 = ltb-true old.next (2 ^ 30) (not_false (nat_lt old.next (2 ^ 30)) parts.1) in
      let P : Session → Type 0 = IsLawful setting in
      record {
        each = All-push P old.sessions t l.each (subst P (sym is) (opened_lawful old.next m reading short));
        apart = rise_more 1 old.sessions old.next t (ap (λ (s : Session). s.number) is) l.apart;
        few = let e = length-append old.sessions (t ∷ []) in omega (arith, few, e);
        numbers = omega (arith, short);
      }

  changed_lawful : (old : State) (named : Option (List ℕ)) (after : After) → Fits old named after → AreLawful setting old → AreLawful setting (changed old named after)
  changed_lawful old named Same fits l = l
  changed_lawful old named (Leaves t) fits l = left old named t (own_place named old.sessions) refl fits l
  changed_lawful old named Ends fits l = ended old (own_place named old.sessions) l
  changed_lawful old named (Opens t) fits l = opens old t fits.0 fits.1 fits.2 fits.3 l

  fits_same : (old : State) (named : Option (List ℕ)) (after : After) → after ≡ Same → Fits old named after
  fits_same old named after is = let P : After → Type 0 = Fits old named in subst P (sym is) tt

  fits_opened : (old : State) (named : Option (List ℕ)) (reading : ℕ) (c : Command) (after : After) → (c ≡ NewSession → is_full old ≡ false) → OpensAfter setting old reading c after → Fits old named after
  fits_opened old named reading c after room (inl same) = fits_same old named after same
  fits_opened old named reading c after room (inr (new, m, is)) = let P : After → Type 0 = Fits old named in subst P (sym is) (m, reading, refl, room new)

  fits_own : (old : State) (named : Option (List ℕ)) (place : ℕ) (s : Session) (after : After) → own_place named old.sessions ≡ Some place → slice_get old.sessions place ≡ Some s → StaysAfter setting s after → Fits old named after
  fits_own old named place s Same at here stays = tt
  fits_own old named place s (Leaves t) at here stays = λ i is.
      let same : i ≡ place = (let e : Some i ≡ Some place = sym is ∙ at in cc) in
      let P : ℕ → Type 0 = λ k. slice_get old.sessions k ≡ Some s in
      (s, subst P (sym same) here, stays)
  fits_own old named place s Ends at here stays = tt
  fits_own old named place s (Opens t) at here stays = absurd stays

  module _ (old : State) (reading : ℕ) (x : List Call) (p : Plan) where
    of_own : (order : Order) (s : Session) → IsActOf setting old order reading (Some s) x p → StaysAfter setting s p.after
    of_own order s (begun, advanced, row) =
        let start : ℕ = start_of (Some s) reading in
        after_on setting s begun p.after (advanced_stays setting s begun start (omega arith) advanced) (own_stays setting order begun x p order.route.command (row_of order.route.command) (rows_keep order.route.command) row)

    of_place : (order : Order) → (order.route.command ≡ NewSession → is_full old ≡ false) → (o : Option ℕ) → own_place order.route.session old.sessions ≡ o
        → IsActOf setting old order reading (at_place old.sessions o) x p → Fits old order.route.session p.after
    of_place order room None at act =
        fits_opened old order.route.session reading order.route.command p.after room
        (alone_opens setting old order.parameters reading x p order.route.command (row_of order.route.command) (rows_keep order.route.command) act)
    of_place order room (Some i) at act = of_session order room i at (slice_get old.sessions i) refl act
      where
        of_session : (order : Order) → (order.route.command ≡ NewSession → is_full old ≡ false) → (i : ℕ) → own_place order.route.session old.sessions ≡ Some i → (o : Option Session) → slice_get old.sessions i ≡ o
            → IsActOf setting old order reading o x p → Fits old order.route.session p.after
        of_session order room i at None here act =
            fits_opened old order.route.session reading order.route.command p.after room
            (alone_opens setting old order.parameters reading x p order.route.command (row_of order.route.command) (rows_keep order.route.command) act)
        of_session order room i at (Some s) here act = fits_own old order.route.session i s p.after at here (of_own order s act)

    fits : (request : Request) (m : Result Order Code) → Means old request m → IsActFor setting old m reading x p → Fits old (own m) p.after
    fits request (Err code) means act = fits_same old None p.after (ap (λ (q : Plan). q.after) act.1)
    fits request (Ok order) means act = of_place order (room_of order means) (own_place order.route.session old.sessions) refl act
      where
        by : (order : Order) (full : Bool) → is_full old ≡ full → IsCommand old request order → order.route.command ≡ NewSession → full ≡ false
        by order false is command new = refl
        by order true is command new = absurd (command.passes.1.1.0 SessionNotCreated (new, is, refl))

        room_of : (order : Order) → IsCommand old request order → order.route.command ≡ NewSession → is_full old ≡ false
        room_of order command new = by order (is_full old) refl command new

  pub step_lawful : (old new : State) (e : Exchange) → AreLawful setting old → StepBy setting old e new → AreLawful setting new
  unfolding Steps
  step_lawful old new e l step =
      let P : State → Type 0 = AreLawful setting in
      subst P (sym step.new_is) (changed_lawful old (own step.meaning) step.plan.after (fits old step.reading step.asked step.plan e.request step.meaning step.means step.act) l)

  runs_lawful : (es : List Exchange) (old new : State) → AreLawful setting old → Made (StepBy setting) old es new → AreLawful setting new
  runs_lawful [] old new l same = let P : State → Type 0 = AreLawful setting in subst P (sym same) l
  runs_lawful (e ∷ es) old new l (mid, step, rest) = runs_lawful es mid new (step_lawful old mid e l step) rest

  pub first_lawful : AreLawful setting first_state
  first_lawful = record { each = All-from_recursion (IsLawful setting) [] tt; apart = omega arith; few = omega arith; numbers = omega arith }

pub states_are_lawful : StatesAreLawful
states_are_lawful setting exchanges state small runs = runs_lawful setting small exchanges first_state state (first_lawful setting small) runs
