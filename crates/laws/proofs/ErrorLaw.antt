-- An error leaves its session as it is, but advanced.
use Rattle.std.proofs.Common.{◌≡◌, ◌≢◌, ◌≤◌, ◌∙◌, ◌⊎◌, ℕ, List, Option, Some, None, Result, Ok, Err, slice_get, sym, ap, refl, subst, inl, inr, arith}
use Rattle.capabilities.specs.Processed.{processed}
use Rattle.capabilities.specs.Timeouts.{timeouts_in}
use Rattle.capabilities.specs.declared.fault.CapFault.{CapFault}
use Rattle.capabilities.specs.declared.matched.Matched.{Matched}
use Rattle.capabilities.specs.declared.timeouts.Timeouts.{Timeouts}
use Rattle.endpoints.specs.declared.command.Command.{Command}
use Rattle.endpoints.specs.declared.command.Command.TheVariants.{NewSession, DeleteSession, Status, GetTimeouts, SetTimeouts, NavigateTo, GetCurrentUrl, Back, Forward, Refresh, GetTitle, GetWindowHandle, CloseWindow, SwitchToWindow, GetWindowHandles, GetWindowRect, SetWindowRect, MaximizeWindow, FullscreenWindow, MinimizeWindow, SwitchToFrame, SwitchToParentFrame, GetActiveElement, FindElement, FindElements, FindElementFromElement, FindElementsFromElement, FindElementFromShadowRoot, FindElementsFromShadowRoot, GetElementShadowRoot, IsElementSelected, GetElementAttribute, GetElementProperty, GetElementCssValue, GetElementText, GetElementTagName, GetElementRect, IsElementEnabled, IsElementDisplayed, ElementClick, ElementClear, ElementSendKeys, GetPageSource, ExecuteScript, ExecuteAsyncScript, GetAllCookies, AddCookie, DeleteAllCookies, GetNamedCookie, DeleteCookie, PerformActions, ReleaseActions, DismissAlert, AcceptAlert, GetAlertText, SendAlertText, TakeScreenshot, TakeElementScreenshot}
use Rattle.std.proofs.lemmas.List.Elements.{All-get_or}
use Rattle.std.proofs.lemmas.Option.{get_or_from_slice_get, slice_get_within}
use Rattle.page_tree.specs.Places.{shadow_of}
use Rattle.waits.specs.Moments.{last_moment}
use Rattle.references.specs.Handed.{Handed, handed}
use Rattle.references.specs.HandedAll.{named, handed_all}
use Rattle.references.specs.Identifier.{Identifier}
use Rattle.references.specs.declared.kind.Kind.{Kind}
use Rattle.references.specs.declared.kind.Kind.TheVariants.{Element, Shadow}
use Rattle.selectors.specs.Named.{first_of_list}
use Rattle.wd_errors.specs.declared.code.Code.{Code}
use Rattle.wd_errors.specs.declared.code.Code.TheVariants.{InvalidArgument, InvalidSelector, NoSuchElement, NoSuchShadowRoot, UnknownError, UnsupportedOperation}
use Rattle.wd_json.specs.declared.value.Json.{Json}
use Rattle.wd_json.specs.declared.value.Json.TheVariants.{Null, List as ListValue}
use Rattle.remote_end.specs.declared.finds.Wanted.{Wanted}
use Rattle.remote_end.specs.declared.finds.Wanted.TheVariants.{First, All as AllOf}
use Rattle.remote_end.specs.declared.order.Order.{Order}
use Rattle.remote_end.specs.declared.reply.Reply.{Reply}
use Rattle.remote_end.specs.declared.session.Session.{Session}
use Rattle.remote_end.specs.declared.setting.Setting.{Setting}
use Rattle.remote_end.specs.declared.waiting.FindWait.{FindWait}
use Rattle.remote_end.specs.Advance.{NoneDue, Advanced}
use Rattle.remote_end.specs.Elements.{current_document}
use Rattle.remote_end.specs.FindRows.{root_plan, shadow_plan}
use Rattle.remote_end.specs.Finds.{find_of, IsFind, Refused, Looks, FindPlan, first_plan, with_references, nodes_plan}
use Rattle.remote_end.specs.Handing.{node_value, with_reference}
use Rattle.remote_end.specs.Moments.{start_of}
use Rattle.remote_end.specs.NavigationRows.{url_plan, title_plan}
use Rattle.remote_end.specs.Needs.{Need}
use Rattle.remote_end.specs.Outside.{Call}
use Rattle.remote_end.specs.Plan.{Plan, at_once, AsksNothing}
use Rattle.remote_end.specs.Replies.{success, failure}
use Rattle.remote_end.specs.Rows.{Row, Alone, Own, Unbuilt, row_of, Follows, IsOwn, IsAlone}
use Rattle.remote_end.specs.SessionRows.{new_session, timeouts_plan, set_timeouts_plan, with_timeouts}
use Rattle.remote_end.specs.State.{State, After, Same, Leaves, Ends, own_place, at_place, set_at, changed}
use Rattle.remote_end.specs.StateRows.{tag_name_plan, text_plan}
use Rattle.remote_end.specs.Values.{reference_values}
use Rattle.remote_end.specs.WindowRows.{handle_plan}
use Rattle.remote_end.specs.Step.{IsActOf, IsActFor, own, Steps}
use Rattle.remote_end.proofs.AdvanceMoreLemmas.{over_after, at_of, advanced_here, advanced_on}
use Rattle.laws.specs.Lawful.{IsLawful, AreLawful}
use Rattle.laws.specs.Errors.{HasAdvanced, ErrorsKeep}
use Rattle.laws.proofs.RowLaw.{checks_one}

-- where its reply is an error, a plan leaves the session advanced, or all as it is
abbrev Advances : Setting → Session → After → Type 0
Advances setting s after = (after ≡ Same) ⊎ ((m : ℕ) × (t : Session) × (s.at ≤ m) × Advanced setting s m t × (after ≡ Leaves t))

abbrev Only : Setting → Session → Plan → Type 0
Only setting s plan = plan.reply.status ≢ 200 → Advances setting s plan.after

here : (setting : Setting) (s : Session) → NoneDue s.page.pending s.at → (reply : Reply) → Only setting s (at_once reply (Leaves s))
here setting s still reply bad = inr (s.at, s, omega arith, advanced_here s still, refl)

leaves : (setting : Setting) (s : Session) → NoneDue s.page.pending s.at → (given : Plan) → given.after ≡ Leaves s → Only setting s given
leaves setting s still given is bad = inr (s.at, s, omega arith, advanced_here s still, is)

good : (setting : Setting) (s : Session) (value : Json) (after : After) → Only setting s (at_once (success value) after)
good setting s value after bad = absurd (bad refl)

asks : (setting : Setting) (s : Session) (given : Plan) (x : List Call) (p : Plan) → Only setting s given → AsksNothing given x p → Only setting s p
asks setting s given x p only is = let P : Plan → Type 0 = Only setting s in subst P (sym is.1) only

-- ---- finds

reference_only : (setting : Setting) (s : Session) → NoneDue s.page.pending s.at → (kind : Kind) (o : Option (Identifier × Handed)) → Only setting s (with_reference kind s o)
reference_only setting s still kind None = here setting s still (failure UnknownError)
reference_only setting s still kind (Some (id, known)) = good setting s (node_value kind id) (Leaves (record s { known = known }))

references_only : (setting : Setting) (s : Session) → NoneDue s.page.pending s.at → (o : Option (List Identifier × Handed)) → Only setting s (with_references s o)
references_only setting s still None = here setting s still (failure UnknownError)
references_only setting s still (Some (ids, known)) = good setting s (ListValue (reference_values ids)) (Leaves (record s { known = known }))

first_only : (setting : Setting) (s : Session) → NoneDue s.page.pending s.at → (o : Option ℕ) → Only setting s (first_plan s o)
first_only setting s still None = here setting s still (failure NoSuchElement)
first_only setting s still (Some node) = reference_only setting s still Element (handed s.known Element (named current_document node))

nodes_only : (setting : Setting) (s : Session) → NoneDue s.page.pending s.at → (wanted : Wanted) (nodes : List ℕ) → Only setting s (nodes_plan wanted s nodes)
nodes_only setting s still First nodes = first_only setting s still (first_of_list nodes)
nodes_only setting s still AllOf nodes = references_only setting s still (handed_all s.known Element current_document nodes)

root_only : (setting : Setting) (s : Session) → NoneDue s.page.pending s.at → (o : Option ℕ) → Only setting s (root_plan s o)
root_only setting s still None = here setting s still (failure NoSuchShadowRoot)
root_only setting s still (Some root) = reference_only setting s still Shadow (handed s.known Shadow (named current_document root))

-- one that has advanced advances further
advances_on : (setting : Setting) (s mid : Session) (m : ℕ) (after : After) → s.at ≤ m → Advanced setting s m mid → Advances setting mid after → Advances setting s after
advances_on setting s mid m after from a (inl same) = inl same
advances_on setting s mid m after from a (inr (n, t, on, b, is)) =
    let at : mid.at ≡ m = at_of s mid m a in
    let more : m ≤ n = omega (arith, at, on) in
    inr (n, t, omega (arith, from, more), advanced_on s mid t m n from more a b, is)

find_only : (setting : Setting) (find : FindWait) (s : Session) (plan : Plan) → FindPlan setting find s plan → Only setting s plan
find_only setting find s plan is bad =
    let end = is.end in
    let still : NoneDue end.page.pending end.at = over_after setting end.at s.page s.at end.page is.ends.advanced.page in
    let P : Plan → Type 0 = Only setting end in
    advances_on setting s end end.at plan.after is.ends.onwards is.ends.advanced (subst P is.answers (nodes_only setting end still find.wanted is.nodes) bad)

is_find_only : (setting : Setting) (find : FindWait) (s : Session) → NoneDue s.page.pending s.at → (x : List Call) (p : Plan) → IsFind setting find s x p → Only setting s p
is_find_only setting find s still x p (Refused bad is) = asks setting s (at_once (failure InvalidSelector) (Leaves s)) x p (here setting s still (failure InvalidSelector)) is
is_find_only setting find s still x p (Looks plan is) = find_only setting find s p plan

-- ---- the table

timeouts_only : (setting : Setting) (s : Session) → NoneDue s.page.pending s.at → (o : Option Timeouts) → Only setting s (set_timeouts_plan s o)
timeouts_only setting s still None = here setting s still (failure InvalidArgument)
timeouts_only setting s still (Some timeouts) = good setting s Null (Leaves (with_timeouts s timeouts))

new_same : (setting : Setting) (state : State) (reading : ℕ) (r : Result Matched CapFault) → (new_session setting state reading r).reply.status ≢ 200 → (new_session setting state reading r).after ≡ Same
new_same setting state reading (Ok matched) bad = absurd (bad refl)
new_same setting state reading (Err fault) bad = refl

new_quiet : (setting : Setting) (state : State) (reading : ℕ) (r : Result Matched CapFault) (x : List Call) (p : Plan) → AsksNothing (new_session setting state reading r) x p → p.reply.status ≢ 200 → p.after ≡ Same
new_quiet setting state reading r x p is = let P : Plan → Type 0 = λ q. q.reply.status ≢ 200 → q.after ≡ Same in subst P (sym is.1) (new_same setting state reading r)

abbrev Keeps : Row → Type 0
Keeps (Alone does) = (setting : Setting) (state : State) (j : Json) (reading : ℕ) (x : List Call) (p : Plan) → does setting state j reading x p → p.reply.status ≢ 200 → p.after ≡ Same
Keeps (Own needs does) = (setting : Setting) (order : Order) (s : Session) → NoneDue s.page.pending s.at → (x : List Call) (p : Plan) → does setting order s x p → Only setting s p
Keeps Unbuilt = Unit {0}

rows_keep : (c : Command) → Keeps (row_of c)
unfolding row_of
rows_keep c = elim c as (λ c. Keeps (row_of c)) [ NewSession ↦ λ setting state j reading x p r. new_quiet setting state reading (processed setting.offer.name j) x p r | DeleteSession ↦ λ setting order s still x p r. asks setting s (at_once (success Null) Ends) x p (good setting s Null Ends) r | Status ↦ λ setting state j reading x p r bad. ap (λ (q : Plan). q.after) r.1 | GetTimeouts ↦ λ setting order s still x p r. asks setting s (timeouts_plan s) x p (leaves setting s still (timeouts_plan s) refl) r | SetTimeouts ↦ λ setting order s still x p r. asks setting s (set_timeouts_plan s (timeouts_in order.parameters s.matched.timeouts)) x p (timeouts_only setting s still (timeouts_in order.parameters s.matched.timeouts)) r | NavigateTo ↦ tt | GetCurrentUrl ↦ λ setting order s still x p r. asks setting s (url_plan s) x p (leaves setting s still (url_plan s) refl) r | Back ↦ tt | Forward ↦ tt | Refresh ↦ tt | GetTitle ↦ λ setting order s still x p r. asks setting s (title_plan s) x p (leaves setting s still (title_plan s) refl) r | GetWindowHandle ↦ λ setting order s still x p r. asks setting s (handle_plan s) x p (leaves setting s still (handle_plan s) refl) r | CloseWindow ↦ tt | SwitchToWindow ↦ tt | GetWindowHandles ↦ tt | GetWindowRect ↦ tt | SetWindowRect ↦ tt | MaximizeWindow ↦ tt | FullscreenWindow ↦ tt | MinimizeWindow ↦ tt | SwitchToFrame ↦ tt | SwitchToParentFrame ↦ tt | GetActiveElement ↦ tt | FindElement ↦ λ setting order s still x p r. is_find_only setting (find_of First s None order.parameters) s still x p r | FindElements ↦ λ setting order s still x p r. is_find_only setting (find_of AllOf s None order.parameters) s still x p r | FindElementFromElement ↦ λ setting order s still x p r. is_find_only setting (find_of First s (Some r.0) order.parameters) s still x p r.2 | FindElementsFromElement ↦ λ setting order s still x p r. is_find_only setting (find_of AllOf s (Some r.0) order.parameters) s still x p r.2 | FindElementFromShadowRoot ↦ λ setting order s still x p r. is_find_only setting (find_of First s (Some r.0) order.parameters) s still x p r.2 | FindElementsFromShadowRoot ↦ λ setting order s still x p r. is_find_only setting (find_of AllOf s (Some r.0) order.parameters) s still x p r.2 | GetElementShadowRoot ↦ λ setting order s still x p r. asks setting s (shadow_plan s r.0) x p (root_only setting s still (shadow_of s.page.rows.shadows r.0.node)) r.2 | IsElementSelected ↦ tt | GetElementAttribute ↦ tt | GetElementProperty ↦ tt | GetElementCssValue ↦ tt | GetElementText ↦ λ setting order s still x p r. asks setting s (text_plan s r.0) x p (leaves setting s still (text_plan s r.0) refl) r.2 | GetElementTagName ↦ λ setting order s still x p r. asks setting s (tag_name_plan s r.0) x p (leaves setting s still (tag_name_plan s r.0) refl) r.2 | GetElementRect ↦ tt | IsElementEnabled ↦ tt | IsElementDisplayed ↦ tt | ElementClick ↦ tt | ElementClear ↦ tt | ElementSendKeys ↦ tt | GetPageSource ↦ tt | ExecuteScript ↦ tt | ExecuteAsyncScript ↦ tt | GetAllCookies ↦ tt | AddCookie ↦ tt | DeleteAllCookies ↦ tt | GetNamedCookie ↦ tt | DeleteCookie ↦ tt | PerformActions ↦ tt | ReleaseActions ↦ tt | DismissAlert ↦ tt | AcceptAlert ↦ tt | GetAlertText ↦ tt | SendAlertText ↦ tt | TakeScreenshot ↦ tt | TakeElementScreenshot ↦ tt ]

module _ (setting : Setting) (order : Order) (s : Session) (still : NoneDue s.page.pending s.at) (x : List Call) (p : Plan) where
  follows_only : (does : Setting → Order → Session → List Call → Plan → Type 0) (needs : List Need) → Keeps (Own needs does) → (r : Option Reply) → Follows (does setting order) s r x p → Only setting s p
  follows_only does needs keeps (Some reply) f = asks setting s _ x p (here setting s still reply) f
  follows_only does needs keeps None f = keeps setting order s still x p f

  own_only : (row : Row) → Keeps row → IsOwn row setting order s x p → Only setting s p
  own_only (Alone does) keeps f = asks setting s (at_once (failure UnsupportedOperation) (Leaves s)) x p (here setting s still (failure UnsupportedOperation)) f
  own_only Unbuilt keeps f = asks setting s (at_once (failure UnsupportedOperation) (Leaves s)) x p (here setting s still (failure UnsupportedOperation)) f
  own_only (Own needs does) keeps f =
      let same = checks_one order order refl needs s f.checked f.checked f.refusal f.refusal f.checks f.checks in
      let P : Session → Type 0 = λ t. Follows (does setting order) t f.refusal x p in
      follows_only does needs keeps f.refusal (subst P same.0 f.follows)

alone_same : (setting : Setting) (state : State) (j : Json) (reading : ℕ) (x : List Call) (p : Plan) (row : Row) → Keeps row → IsAlone row setting state j reading x p → p.reply.status ≢ 200 → p.after ≡ Same
alone_same setting state j reading x p (Alone does) keeps f = keeps setting state j reading x p f
alone_same setting state j reading x p Unbuilt keeps f = λ bad. ap (λ (q : Plan). q.after) f.1
alone_same setting state j reading x p (Own needs does) keeps f = λ bad. ap (λ (q : Plan). q.after) f.1

-- ---- a step

module _ (setting : Setting) (old : State) (lawful : AreLawful setting old) (reading : ℕ) (x : List Call) (p : Plan) (bad : p.reply.status ≢ 200) where
  abbrev Left : Option (List ℕ) → Type 0
  Left named = (changed old named p.after ≡ old) ⊎ HasAdvanced setting old (changed old named p.after)

  left_same : (named : Option (List ℕ)) → p.after ≡ Same → Left named
  left_same named is = inl (ap (changed old named) is)

  left_session : (named : Option (List ℕ)) (i : ℕ) (s : Session) → own_place named old.sessions ≡ Some i → slice_get old.sessions i ≡ Some s → Advances setting s p.after → Left named
  left_session named i s at here (inl same) = left_same named same
  left_session named i s at here (inr (m, t, on, a, is)) = inr (record {
    place = i;
    session = s;
    here = here;
    moment = m;
    onwards = on;
    later = t;
    advanced = a;
    new_is = ap (changed old named) is ∙ ap (λ (o : Option ℕ). let u : State = record old { sessions = set_at old.sessions o t } in u) at;
  })

  of_session : (order : Order) (i : ℕ) → own_place order.route.session old.sessions ≡ Some i → (o : Option Session) → slice_get old.sessions i ≡ o → IsActOf setting old order reading o x p → Left order.route.session
  of_session order i at None here act = left_same order.route.session (alone_same setting old order.parameters reading x p (row_of order.route.command) (rows_keep order.route.command) act bad)
  of_session order i at (Some s) here (begun, advanced, row) =
      let start : ℕ = start_of (Some s) reading in
      let P : ℕ → Type 0 = λ m. NoneDue begun.page.pending m in
      let still : NoneDue begun.page.pending begun.at = subst P (sym (at_of s begun start advanced)) (over_after setting start s.page s.at begun.page advanced.page) in
      let Q : Session → Type 0 = IsLawful setting in
      let whole : IsLawful setting s = subst Q (get_or_from_slice_get old.sessions i s s here) (All-get_or Q old.sessions i s (slice_get_within old.sessions i s here) lawful.each) in
      let within : s.at ≤ last_moment = whole.moment in
      left_session order.route.session i s at here
      (advances_on setting s begun start p.after (omega (arith, within)) advanced (own_only setting order begun still x p (row_of order.route.command) (rows_keep order.route.command) row bad))

  of_place : (order : Order) (o : Option ℕ) → own_place order.route.session old.sessions ≡ o → IsActOf setting old order reading (at_place old.sessions o) x p → Left order.route.session
  of_place order None at act = left_same order.route.session (alone_same setting old order.parameters reading x p (row_of order.route.command) (rows_keep order.route.command) act bad)
  of_place order (Some i) at act = of_session order i at (slice_get old.sessions i) refl act

  errors_keep_act : (m : Result Order Code) → IsActFor setting old m reading x p → Left (own m)
  errors_keep_act (Ok order) act = of_place order (own_place order.route.session old.sessions) refl act
  errors_keep_act (Err code) act = left_same None (ap (λ (q : Plan). q.after) act.1)

pub errors_keep : ErrorsKeep
unfolding Steps
errors_keep setting old new request calls reply lawful step bad =
    let wrong : step.plan.reply.status ≢ 200 = λ fine. bad (ap (λ (r : Reply). r.status) step.reply_is ∙ fine) in
    let P : State → Type 0 = λ state. (state ≡ old) ⊎ HasAdvanced setting old state in
    subst P (sym step.new_is) (errors_keep_act setting old lawful step.reading step.asked step.plan wrong step.meaning step.act)
