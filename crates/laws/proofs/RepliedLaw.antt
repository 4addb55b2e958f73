-- What a session handed out stood in an earlier reply.
use Rattle.std.proofs.Common.{◌≡◌, ◌==◌, ◌∙◌, ◌∷◌, ◌++◌, ◌⊎◌, ℕ, suc, List, [], Bool, true, false, Option, Some, None, Result, Ok, Err, take, drop, sym, ap, refl, subst, inl, inr, append_assoc, append-nil, arith, if◌then◌else◌}
use Rattle.std.specs.List.{All, Contains, find, fold}
use Rattle.std.specs.Option.{option_map}
use Rattle.std.specs.Prelude.{slice_get}
use Rattle.std.proofs.lemmas.List.Elements.{All-append, All-take, All-drop, All-set, All-push, All-get_or, All-weaker, All-from_recursion, Contains-append_left, Contains-push, Contains-push_cases}
use Rattle.std.proofs.lemmas.Option.{get_or_from_slice_get, slice_get_within}
use Rattle.capabilities.specs.Processed.{processed}
use Rattle.capabilities.specs.Timeouts.{timeouts_in}
use Rattle.capabilities.specs.declared.fault.CapFault.{CapFault}
use Rattle.capabilities.specs.declared.matched.Matched.{Matched}
use Rattle.capabilities.specs.declared.timeouts.Timeouts.{Timeouts}
use Rattle.endpoints.specs.declared.command.Command.{Command}
use Rattle.endpoints.specs.declared.command.Command.TheVariants.{NewSession, DeleteSession, Status, GetTimeouts, SetTimeouts, NavigateTo, GetCurrentUrl, Back, Forward, Refresh, GetTitle, GetWindowHandle, CloseWindow, SwitchToWindow, GetWindowHandles, GetWindowRect, SetWindowRect, MaximizeWindow, FullscreenWindow, MinimizeWindow, SwitchToFrame, SwitchToParentFrame, GetActiveElement, FindElement, FindElements, FindElementFromElement, FindElementsFromElement, FindElementFromShadowRoot, FindElementsFromShadowRoot, GetElementShadowRoot, IsElementSelected, GetElementAttribute, GetElementProperty, GetElementCssValue, GetElementText, GetElementTagName, GetElementRect, IsElementEnabled, IsElementDisplayed, ElementClick, ElementClear, ElementSendKeys, GetPageSource, ExecuteScript, ExecuteAsyncScript, GetAllCookies, AddCookie, DeleteAllCookies, GetNamedCookie, DeleteCookie, PerformActions, ReleaseActions, DismissAlert, AcceptAlert, GetAlertText, SendAlertText, TakeScreenshot, TakeElementScreenshot}
use Rattle.page_tree.specs.Places.{shadow_of}
use Rattle.references.specs.Handed.{Handed, given, handed, is_named, after_next, with_entry}
use Rattle.references.specs.HandedAll.{named, and_one, handed_all}
use Rattle.references.specs.Identifier.{Identifier}
use Rattle.references.specs.Series.{Series, id_at, last_serial}
use Rattle.references.specs.declared.kind.Kind.{Kind}
use Rattle.references.specs.declared.kind.Kind.TheVariants.{Element, Shadow}
use Rattle.references.specs.declared.name.Entry.{Entry}
use Rattle.references.specs.declared.name.NodeName.{NodeName}
use Rattle.selectors.specs.Named.{first_of_list}
use Rattle.wd_errors.specs.declared.code.Code.{Code}
use Rattle.wd_errors.specs.declared.code.Code.TheVariants.{InvalidArgument, InvalidSelector, NoSuchElement, NoSuchShadowRoot, UnknownError, UnsupportedOperation}
use Rattle.wd_http.specs.Made.{Made}
use Rattle.wd_json.specs.declared.value.Json.{Json}
use Rattle.wd_json.specs.declared.value.Json.TheVariants.{Null, List as ListValue}
use Rattle.remote_end.specs.declared.finds.Wanted.{Wanted}
use Rattle.remote_end.specs.declared.finds.Wanted.TheVariants.{First, All as AllOf}
use Rattle.remote_end.specs.declared.order.Order.{Order}
use Rattle.remote_end.specs.declared.reply.Reply.{Reply}
use Rattle.remote_end.specs.declared.session.Session.{Session}
use Rattle.remote_end.specs.declared.setting.Setting.{Setting}
use Rattle.remote_end.specs.declared.waiting.FindWait.{FindWait}
use Rattle.remote_end.specs.Advance.{Advanced}
use Rattle.remote_end.specs.Elements.{current_document}
use Rattle.remote_end.specs.FindRows.{root_plan, shadow_plan}
use Rattle.remote_end.specs.Finds.{find_of, IsFind, Refused, Looks, FindPlan, first_plan, with_references, nodes_plan}
use Rattle.remote_end.specs.Handing.{node_value, with_reference}
use Rattle.remote_end.specs.Machine.{Exchange, StepBy}
use Rattle.remote_end.specs.Moments.{start_of}
use Rattle.remote_end.specs.NavigationRows.{url_plan, title_plan}
use Rattle.remote_end.specs.Needs.{Need}
use Rattle.remote_end.specs.Outside.{Call}
use Rattle.remote_end.specs.Plan.{Plan, at_once, AsksNothing}
use Rattle.remote_end.specs.Replies.{success, failure}
use Rattle.remote_end.specs.Rows.{Row, Alone as AloneRow, Own, Unbuilt, row_of, Follows, IsOwn, IsAlone}
use Rattle.remote_end.specs.SessionRows.{new_session, timeouts_plan, set_timeouts_plan}
use Rattle.remote_end.specs.State.{State, After, Same, Leaves, Ends, Opens, first_state, is_full, own_place, at_place, set_at, without_at, changed}
use Rattle.remote_end.specs.StateRows.{tag_name_plan, text_plan}
use Rattle.remote_end.specs.Step.{IsActOf, IsActFor, own, Steps}
use Rattle.remote_end.specs.Values.{status_value, reference_values}
use Rattle.remote_end.specs.WindowRows.{handle_plan}
use Rattle.laws.specs.Replied.{Holds, Alone, Among, IsReplied, AreReplied}
use Rattle.laws.proofs.KnownLemmas.{nothing}
use Rattle.laws.proofs.RowLaw.{checks_one}

-- ---- what is handed out

id_same : (a b : Series) → a.run ≡ b.run → a.session ≡ b.session → (kind : Kind) (serial : ℕ) → id_at a kind serial ≡ id_at b kind serial
id_same a b r s kind serial =
    ap (λ (x : ℕ). let i : Identifier = record { run = x; session = a.session; kind = kind; serial = serial } in i) r
    ∙ ap (λ (x : ℕ). let i : Identifier = record { run = b.run; session = x; kind = kind; serial = serial } in i) s

-- one node: an entry that is new has this identifier
record OneMore (h : Handed) (kind : Kind) (q : Identifier × Handed) : Type 0 where
  run : q.1.ids.run ≡ h.ids.run
  session : q.1.ids.session ≡ h.ids.session
  entries : (entry : Entry) → Contains q.1.entries entry → Contains h.entries entry ⊎ ((entry.kind ≡ kind) × (id_at q.1.ids entry.kind entry.serial ≡ q.0))

module _ (h : Handed) (kind : Kind) (name : NodeName) where
  entered : (full : Bool) (q : Identifier × Handed) → (if full then None else Some (id_at h.ids kind h.ids.next, with_entry h kind name)) ≡ Some q → OneMore h kind q
  entered true q e = absurd (let f : None ≡ Some q = e in cc)
  entered false q e =
      let same : ◌≡◌ {A = Identifier × Handed} (id_at h.ids kind h.ids.next, with_entry h kind name) q = cc in
      let P : Identifier × Handed → Type 0 = OneMore h kind in
      subst P same (record { run = refl; session = refl; entries = entries })
    where
      new : Entry
      new = record { kind = kind; name = name; serial = h.ids.next }

      by : (entry : Entry) → Contains h.entries entry ⊎ (new ≡ entry) → Contains h.entries entry ⊎ ((entry.kind ≡ kind) × (id_at (after_next h.ids) entry.kind entry.serial ≡ id_at h.ids kind h.ids.next))
      by entry (inl old) = inl old
      by entry (inr same) =
          let Q : Entry → Type 0 = λ x. (x.kind ≡ kind) × (id_at (after_next h.ids) x.kind x.serial ≡ id_at h.ids kind h.ids.next) in
          inr (subst Q same (refl, refl))

      entries : (entry : Entry) → Contains (h.entries ++ new ∷ []) entry → Contains h.entries entry ⊎ ((entry.kind ≡ kind) × (id_at (after_next h.ids) entry.kind entry.serial ≡ id_at h.ids kind h.ids.next))
      entries entry is = by entry (Contains-push_cases h.entries new entry is)

  by_entry : (o : Option Entry) (q : Identifier × Handed) → given h kind name o ≡ Some q → OneMore h kind q
  by_entry (Some entry) q e =
      let same : ◌≡◌ {A = Identifier × Handed} (id_at h.ids kind entry.serial, h) q = cc in
      let P : Identifier × Handed → Type 0 = OneMore h kind in
      subst P same (record { run = refl; session = refl; entries = λ x is. inl is })
  by_entry None q e = entered (h.ids.next == last_serial) q e

  one_more : (q : Identifier × Handed) → handed h kind name ≡ Some q → OneMore h kind q
  unfolding handed
  one_more q e = by_entry (find (is_named kind name) h.entries) q e

-- many nodes: an entry that is new has one of these identifiers
record ManyMore (kind : Kind) (p q : List Identifier × Handed) : Type 0 where
  run : q.1.ids.run ≡ p.1.ids.run
  session : q.1.ids.session ≡ p.1.ids.session
  ids : (id : Identifier) → Contains p.0 id → Contains q.0 id
  entries : (entry : Entry) → Contains q.1.entries entry → Contains p.1.entries entry ⊎ ((entry.kind ≡ kind) × Contains q.0 (id_at q.1.ids entry.kind entry.serial))

module _ (kind : Kind) (document : ℕ) where
  joins : (p q : List Identifier × Handed) (r : Identifier × Handed) → OneMore p.1 kind r → ManyMore kind (p.0 ++ r.0 ∷ [], r.1) q → ManyMore kind p q
  joins p q r one many = record {
    run = many.run ∙ one.run;
    session = many.session ∙ one.session;
    ids = λ id is. many.ids id (Contains-append_left p.0 (r.0 ∷ []) id is);
    entries = λ entry is. later entry (many.entries entry is);
  }
    where
      first : (entry : Entry) → Contains p.1.entries entry ⊎ ((entry.kind ≡ kind) × (id_at r.1.ids entry.kind entry.serial ≡ r.0)) → Contains p.1.entries entry ⊎ ((entry.kind ≡ kind) × Contains q.0 (id_at q.1.ids entry.kind entry.serial))
      first entry (inl old) = inl old
      first entry (inr (k, same)) =
          let P : Identifier → Type 0 = Contains q.0 in
          let there : Contains q.0 r.0 = many.ids r.0 (Contains-push p.0 r.0) in
          inr (k, subst P (sym (id_same q.1.ids r.1.ids many.run many.session entry.kind entry.serial ∙ same)) there)

      later : (entry : Entry) → Contains r.1.entries entry ⊎ ((entry.kind ≡ kind) × Contains q.0 (id_at q.1.ids entry.kind entry.serial)) → Contains p.1.entries entry ⊎ ((entry.kind ≡ kind) × Contains q.0 (id_at q.1.ids entry.kind entry.serial))
      later entry (inl old) = first entry (one.entries entry old)
      later entry (inr new) = inr new

  many_more : (ns : List ℕ) (p q : List Identifier × Handed) → fold (and_one kind document) (Some p) ns ≡ Some q → ManyMore kind p q
  many_more [] p q e =
      let same : ◌≡◌ {A = List Identifier × Handed} p q = cc in
      let P : List Identifier × Handed → Type 0 = ManyMore kind p in
      subst P same (record { run = refl; session = refl; ids = λ id is. is; entries = λ entry is. inl is })
  many_more (n ∷ ns) p q e = by (λ r. many_more ns r q) (handed p.1 kind (named document n)) refl e
    where
      by : ((r : List Identifier × Handed) → fold (and_one kind document) (Some r) ns ≡ Some q → ManyMore kind r q) → (o : Option (Identifier × Handed)) → handed p.1 kind (named document n) ≡ o
          → fold (and_one kind document) (option_map (λ (r : Identifier × Handed). (p.0 ++ r.0 ∷ [], r.1)) o) ns ≡ Some q → ManyMore kind p q
      by more None f e = let s = nothing kind document ns in absurd (cc)
      by more (Some r) f e = joins p q r (one_more p.1 kind (named document n) r f) (more (p.0 ++ r.0 ∷ [], r.1) e)

-- ---- what a plan hands out

-- an entry that is new stands in the reply
record Adds (h g : Handed) (reply : Reply) : Type 0 where
  run : g.ids.run ≡ h.ids.run
  session : g.ids.session ≡ h.ids.session
  entries : (entry : Entry) → Contains g.entries entry → Contains h.entries entry ⊎ Holds reply entry.kind (id_at g.ids entry.kind entry.serial)

adds_none : (h : Handed) (reply : Reply) → Adds h h reply
adds_none h reply = record { run = refl; session = refl; entries = λ entry is. inl is }

abbrev AddsAfter : Session → Reply → After → Type 0
AddsAfter s reply Same = Unit {0}
AddsAfter s reply (Leaves t) = Adds s.known t.known reply
AddsAfter s reply Ends = Unit {0}
AddsAfter s reply (Opens t) = ⊥

abbrev Hands : Session → Plan → Type 0
Hands s plan = AddsAfter s plan.reply plan.after

asks : (s : Session) (given : Plan) (x : List Call) (p : Plan) → Hands s given → AsksNothing given x p → Hands s p
asks s given x p hands is = let P : Plan → Type 0 = Hands s in subst P (sym is.1) hands

reference_hands : (s : Session) (kind : Kind) (name : NodeName) (o : Option (Identifier × Handed)) → handed s.known kind name ≡ o → Hands s (with_reference kind s o)
reference_hands s kind name None is = adds_none s.known (failure UnknownError)
reference_hands s kind name (Some (id, known)) is = by (one_more s.known kind name (id, known) is)
  where
    by : OneMore s.known kind (id, known) → Adds s.known known (success (node_value kind id))
    by one = record { run = one.run; session = one.session; entries = λ entry there. new entry (one.entries entry there) }
      where
        new : (entry : Entry) → Contains s.known.entries entry ⊎ ((entry.kind ≡ kind) × (id_at known.ids entry.kind entry.serial ≡ id)) → Contains s.known.entries entry ⊎ Holds (success (node_value kind id)) entry.kind (id_at known.ids entry.kind entry.serial)
        new entry (inl old) = inl old
        new entry (inr (k, same)) =
            inr (Alone (ap (λ (x : Kind). success (node_value x id)) (sym k) ∙ ap (λ (x : Identifier). success (node_value entry.kind x)) (sym same)))

all_more : (s : Session) (nodes : List ℕ) (q : List Identifier × Handed) → handed_all s.known Element current_document nodes ≡ Some q → ManyMore Element ([], s.known) q
unfolding handed_all
all_more s nodes q is = many_more Element current_document nodes ([], s.known) q is

references_hand : (s : Session) (nodes : List ℕ) (o : Option (List Identifier × Handed)) → handed_all s.known Element current_document nodes ≡ o → Hands s (with_references s o)
references_hand s nodes None is = adds_none s.known (failure UnknownError)
references_hand s nodes (Some (ids, known)) is = by (all_more s nodes (ids, known) is)
  where
    by : ManyMore Element ([], s.known) (ids, known) → Adds s.known known (success (ListValue (reference_values ids)))
    by many = record { run = many.run; session = many.session; entries = λ entry there. new entry (many.entries entry there) }
      where
        new : (entry : Entry) → Contains s.known.entries entry ⊎ ((entry.kind ≡ Element) × Contains ids (id_at known.ids entry.kind entry.serial))
            → Contains s.known.entries entry ⊎ Holds (success (ListValue (reference_values ids))) entry.kind (id_at known.ids entry.kind entry.serial)
        new entry (inl old) = inl old
        new entry (inr (k, there)) = inr (Among ids k there refl)

first_hands : (s : Session) (o : Option ℕ) → Hands s (first_plan s o)
first_hands s None = adds_none s.known (failure NoSuchElement)
first_hands s (Some node) = reference_hands s Element (named current_document node) (handed s.known Element (named current_document node)) refl

nodes_hand : (s : Session) (wanted : Wanted) (nodes : List ℕ) → Hands s (nodes_plan wanted s nodes)
nodes_hand s First nodes = first_hands s (first_of_list nodes)
nodes_hand s AllOf nodes = references_hand s nodes (handed_all s.known Element current_document nodes) refl

root_hands : (s : Session) (o : Option ℕ) → Hands s (root_plan s o)
root_hands s None = adds_none s.known (failure NoSuchShadowRoot)
root_hands s (Some root) = reference_hands s Shadow (named current_document root) (handed s.known Shadow (named current_document root)) refl

known_same : {setting : Setting} (s t : Session) (m : ℕ) → Advanced setting s m t → t.known ≡ s.known
known_same {setting} s t m a = ap (λ (u : Session). u.known) a.kept

after_from : (s t : Session) (reply : Reply) (after : After) → t.known ≡ s.known → AddsAfter t reply after → AddsAfter s reply after
after_from s t reply Same same a = tt
after_from s t reply (Leaves u) same a = let P : Handed → Type 0 = λ h. Adds h u.known reply in subst P same a
after_from s t reply Ends same a = tt
after_from s t reply (Opens u) same a = a

find_hands : {setting : Setting} (find : FindWait) (s : Session) (plan : Plan) → FindPlan setting find s plan → Hands s plan
find_hands {setting} find s plan is =
    let P : Plan → Type 0 = Hands is.end in
    after_from s is.end plan.reply plan.after (known_same s is.end is.end.at is.ends.advanced) (subst P is.answers (nodes_hand is.end find.wanted is.nodes))

is_find_hands : {setting : Setting} (find : FindWait) (s : Session) (x : List Call) (p : Plan) → IsFind setting find s x p → Hands s p
is_find_hands {setting} find s x p (Refused bad is) = asks s (at_once (failure InvalidSelector) (Leaves s)) x p (adds_none s.known (failure InvalidSelector)) is
is_find_hands {setting} find s x p (Looks plan is) = find_hands find s p plan

timeouts_hand : (s : Session) (o : Option Timeouts) → Hands s (set_timeouts_plan s o)
timeouts_hand s None = adds_none s.known (failure InvalidArgument)
timeouts_hand s (Some timeouts) = adds_none s.known (success Null)

-- ---- the table

-- a command without a session changes none, or opens one that has handed nothing out
abbrev Fresh : After → Type 0
Fresh Same = Unit {0}
Fresh (Leaves t) = ⊥
Fresh Ends = ⊥
Fresh (Opens t) = t.known.entries ≡ []

asks_alone : (given : Plan) (x : List Call) (p : Plan) → Fresh given.after → AsksNothing given x p → Fresh p.after
asks_alone given x p fresh is = let P : Plan → Type 0 = λ q. Fresh q.after in subst P (sym is.1) fresh

new_fresh : (setting : Setting) (state : State) (reading : ℕ) (r : Result Matched CapFault) → Fresh (new_session setting state reading r).after
new_fresh setting state reading (Ok matched) = refl
new_fresh setting state reading (Err fault) = tt

new_opens : (setting : Setting) (state : State) (reading : ℕ) (r : Result Matched CapFault) (x : List Call) (p : Plan) → AsksNothing (new_session setting state reading r) x p → Fresh p.after
new_opens setting state reading r x p is = asks_alone (new_session setting state reading r) x p (new_fresh setting state reading r) is

abbrev RowHands : Row → Type 0
RowHands (AloneRow does) = (setting : Setting) (state : State) (j : Json) (reading : ℕ) (x : List Call) (p : Plan) → does setting state j reading x p → Fresh p.after
RowHands (Own needs does) = (setting : Setting) (order : Order) (s : Session) (x : List Call) (p : Plan) → does setting order s x p → Hands s p
RowHands Unbuilt = Unit {0}

rows_hand : (c : Command) → RowHands (row_of c)
unfolding row_of
rows_hand c = elim c as (λ c. RowHands (row_of c)) [ NewSession ↦ λ setting state j reading x p r. new_opens setting state reading (processed setting.offer.name j) x p r | DeleteSession ↦ λ setting order s x p r. asks s (at_once (success Null) Ends) x p tt r | Status ↦ λ setting state j reading x p r. asks_alone (at_once (success (status_value (is_full state))) Same) x p tt r | GetTimeouts ↦ λ setting order s x p r. asks s (timeouts_plan s) x p (adds_none s.known _) r | SetTimeouts ↦ λ setting order s x p r. asks s (set_timeouts_plan s (timeouts_in order.parameters s.matched.timeouts)) x p (timeouts_hand s (timeouts_in order.parameters s.matched.timeouts)) r | NavigateTo ↦ tt | GetCurrentUrl ↦ λ setting order s x p r. asks s (url_plan s) x p (adds_none s.known _) r | Back ↦ tt | Forward ↦ tt | Refresh ↦ tt | GetTitle ↦ λ setting order s x p r. asks s (title_plan s) x p (adds_none s.known _) r | GetWindowHandle ↦ λ setting order s x p r. asks s (handle_plan s) x p (adds_none s.known _) r | CloseWindow ↦ tt | SwitchToWindow ↦ tt | GetWindowHandles ↦ tt | GetWindowRect ↦ tt | SetWindowRect ↦ tt | MaximizeWindow ↦ tt | FullscreenWindow ↦ tt | MinimizeWindow ↦ tt | SwitchToFrame ↦ tt | SwitchToParentFrame ↦ tt | GetActiveElement ↦ tt | FindElement ↦ λ setting order s x p r. is_find_hands (find_of First s None order.parameters) s x p r | FindElements ↦ λ setting order s x p r. is_find_hands (find_of AllOf s None order.parameters) s x p r | FindElementFromElement ↦ λ setting order s x p r. is_find_hands (find_of First s (Some r.0) order.parameters) s x p r.2 | FindElementsFromElement ↦ λ setting order s x p r. is_find_hands (find_of AllOf s (Some r.0) order.parameters) s x p r.2 | FindElementFromShadowRoot ↦ λ setting order s x p r. is_find_hands (find_of First s (Some r.0) order.parameters) s x p r.2 | FindElementsFromShadowRoot ↦ λ setting order s x p r. is_find_hands (find_of AllOf s (Some r.0) order.parameters) s x p r.2 | GetElementShadowRoot ↦ λ setting order s x p r. asks s (shadow_plan s r.0) x p (root_hands s (shadow_of s.page.rows.shadows r.0.node)) r.2 | IsElementSelected ↦ tt | GetElementAttribute ↦ tt | GetElementProperty ↦ tt | GetElementCssValue ↦ tt | GetElementText ↦ λ setting order s x p r. asks s (text_plan s r.0) x p (adds_none s.known _) r.2 | GetElementTagName ↦ λ setting order s x p r. asks s (tag_name_plan s r.0) x p (adds_none s.known _) r.2 | GetElementRect ↦ tt | IsElementEnabled ↦ tt | IsElementDisplayed ↦ tt | ElementClick ↦ tt | ElementClear ↦ tt | ElementSendKeys ↦ tt | GetPageSource ↦ tt | ExecuteScript ↦ tt | ExecuteAsyncScript ↦ tt | GetAllCookies ↦ tt | AddCookie ↦ tt | DeleteAllCookies ↦ tt | GetNamedCookie ↦ tt | DeleteCookie ↦ tt | PerformActions ↦ tt | ReleaseActions ↦ tt | DismissAlert ↦ tt | AcceptAlert ↦ tt | GetAlertText ↦ tt | SendAlertText ↦ tt | TakeScreenshot ↦ tt | TakeElementScreenshot ↦ tt ]

module _ (setting : Setting) (order : Order) (s : Session) (x : List Call) (p : Plan) where
  follows_hands : (does : Setting → Order → Session → List Call → Plan → Type 0) (needs : List Need) → RowHands (Own needs does) → (r : Option Reply) → Follows (does setting order) s r x p → Hands s p
  follows_hands does needs hands (Some reply) f = asks s (at_once reply (Leaves s)) x p (adds_none s.known reply) f
  follows_hands does needs hands None f = hands setting order s x p f

  own_hands : (row : Row) → RowHands row → IsOwn row setting order s x p → Hands s p
  own_hands (AloneRow does) hands f = asks s (at_once (failure UnsupportedOperation) (Leaves s)) x p (adds_none s.known (failure UnsupportedOperation)) f
  own_hands Unbuilt hands f = asks s (at_once (failure UnsupportedOperation) (Leaves s)) x p (adds_none s.known (failure UnsupportedOperation)) f
  own_hands (Own needs does) hands f =
      let same = checks_one order order refl needs s f.checked f.checked f.refusal f.refusal f.checks f.checks in
      let P : Session → Type 0 = λ t. Follows (does setting order) t f.refusal x p in
      follows_hands does needs hands f.refusal (subst P same.0 f.follows)

alone_fresh : (setting : Setting) (state : State) (j : Json) (reading : ℕ) (x : List Call) (p : Plan) (row : Row) → RowHands row → IsAlone row setting state j reading x p → Fresh p.after
alone_fresh setting state j reading x p (AloneRow does) hands f = hands setting state j reading x p f
alone_fresh setting state j reading x p Unbuilt hands f = asks_alone (at_once (failure UnsupportedOperation) Same) x p tt f
alone_fresh setting state j reading x p (Own needs does) hands f = asks_alone (at_once (failure UnsupportedOperation) Same) x p tt f

-- ---- a step

-- with one exchange more
more_replied : (es : List Exchange) (e : Exchange) (s : Session) → IsReplied es s → IsReplied (es ++ e ∷ []) s
more_replied es e s replied entry is = let r = replied entry is in (r.0, Contains-append_left es (e ∷ []) r.0 r.1, r.2)

module _ (setting : Setting) (old : State) (es : List Exchange) (e : Exchange) (so_far : All (IsReplied es) old.sessions) (reading : ℕ) (x : List Call) (p : Plan) (reply_is : e.reply ≡ p.reply) where
  abbrev now : List Exchange
  now = es ++ e ∷ []

  all_on : All (IsReplied now) old.sessions
  all_on = All-weaker (IsReplied es) (IsReplied now) (λ s r. more_replied es e s r) old.sessions so_far

  left_replied : (s t : Session) → IsReplied es s → Adds s.known t.known p.reply → IsReplied now t
  left_replied s t replied adds entry is = by (adds.entries entry is)
    where
      by : Contains s.known.entries entry ⊎ Holds p.reply entry.kind (id_at t.known.ids entry.kind entry.serial) → (f : Exchange) × Contains now f × Holds f.reply entry.kind (id_at t.known.ids entry.kind entry.serial)
      by (inl before) =
          let r = replied entry before in
          let P : Identifier → Type 0 = Holds r.0.reply entry.kind in
          (r.0, Contains-append_left es (e ∷ []) r.0 r.1, subst P (sym (id_same t.known.ids s.known.ids adds.run adds.session entry.kind entry.serial)) r.2)
      by (inr holds) =
          let P : Reply → Type 0 = λ reply. Holds reply entry.kind (id_at t.known.ids entry.kind entry.serial) in
          (e, Contains-push es e, subst P (sym reply_is) holds)

  abbrev Now : Option (List ℕ) → After → Type 0
  Now named after = All (IsReplied now) (changed old named after).sessions

  fresh_replied : (named : Option (List ℕ)) (after : After) → Fresh after → Now named after
  fresh_replied named Same fresh = all_on
  fresh_replied named (Leaves t) fresh = absurd fresh
  fresh_replied named Ends fresh = absurd fresh
  fresh_replied named (Opens t) fresh =
      All-push (IsReplied now) old.sessions t all_on (λ entry is. absurd (none entry (let P : List Entry → Type 0 = λ l. Contains l entry in subst P fresh is)))
    where
      none : (entry : Entry) → Contains [] entry → ⊥
      none entry (k, less, is) = omega (arith, less)

  without : (o : Option ℕ) → All (IsReplied now) (without_at old.sessions o)
  without None = all_on
  without (Some i) =
      let P : Session → Type 0 = IsReplied now in
      All-append P (take i old.sessions) (drop (suc i) old.sessions) (All-take P i old.sessions all_on) (All-drop P (suc i) old.sessions all_on)

  own_replied : (named : Option (List ℕ)) (i : ℕ) (s : Session) (after : After) → own_place named old.sessions ≡ Some i → slice_get old.sessions i ≡ Some s → AddsAfter s p.reply after → Now named after
  own_replied named i s Same at here adds = all_on
  own_replied named i s (Leaves t) at here adds =
      let P : Session → Type 0 = IsReplied es in
      let before : IsReplied es s = subst P (get_or_from_slice_get old.sessions i s s here) (All-get_or P old.sessions i s (slice_get_within old.sessions i s here) so_far) in
      let Q : Option ℕ → Type 0 = λ o. All (IsReplied now) (set_at old.sessions o t) in
      subst Q (sym at) (All-set (IsReplied now) old.sessions i t (left_replied s t before adds) all_on)
  own_replied named i s Ends at here adds = without (own_place named old.sessions)
  own_replied named i s (Opens t) at here adds = absurd adds

  of_session : (order : Order) (i : ℕ) → own_place order.route.session old.sessions ≡ Some i → (o : Option Session) → slice_get old.sessions i ≡ o → IsActOf setting old order reading o x p → Now order.route.session p.after
  of_session order i at None here act =
      fresh_replied order.route.session p.after (alone_fresh setting old order.parameters reading x p (row_of order.route.command) (rows_hand order.route.command) act)
  of_session order i at (Some s) here (begun, advanced, row) =
      own_replied order.route.session i s p.after at here
      (after_from s begun p.reply p.after (known_same s begun (start_of (Some s) reading) advanced) (own_hands setting order begun x p (row_of order.route.command) (rows_hand order.route.command) row))

  of_place : (order : Order) (o : Option ℕ) → own_place order.route.session old.sessions ≡ o → IsActOf setting old order reading (at_place old.sessions o) x p → Now order.route.session p.after
  of_place order None at act =
      fresh_replied order.route.session p.after (alone_fresh setting old order.parameters reading x p (row_of order.route.command) (rows_hand order.route.command) act)
  of_place order (Some i) at act = of_session order i at (slice_get old.sessions i) refl act

  act_replied : (m : Result Order Code) → IsActFor setting old m reading x p → Now (own m) p.after
  act_replied (Ok order) act = of_place order (own_place order.route.session old.sessions) refl act
  act_replied (Err code) act = fresh_replied None p.after (asks_alone (at_once (failure code) Same) x p tt act)

step_replied : (setting : Setting) (old new : State) (es : List Exchange) (e : Exchange) → All (IsReplied es) old.sessions → StepBy setting old e new → All (IsReplied (es ++ e ∷ [])) new.sessions
unfolding Steps
step_replied setting old new es e so_far step =
    let P : State → Type 0 = λ state. All (IsReplied (es ++ e ∷ [])) state.sessions in
    subst P (sym step.new_is) (act_replied setting old es e so_far step.reading step.asked step.plan step.reply_is step.meaning step.act)

runs_replied : (setting : Setting) (before es : List Exchange) (old new : State) → All (IsReplied before) old.sessions → Made (StepBy setting) old es new → All (IsReplied (before ++ es)) new.sessions
runs_replied setting before [] old new all same =
    let P : State → Type 0 = λ state. All (IsReplied (before ++ [])) state.sessions in
    let Q : List Exchange → Type 0 = λ l. All (IsReplied l) old.sessions in
    subst P (sym same) (subst Q (sym (append-nil before)) all)
runs_replied setting before (e ∷ es) old new all (mid, step, rest) =
    let P : List Exchange → Type 0 = λ l. All (IsReplied l) new.sessions in
    subst P (append_assoc before (e ∷ []) es) (runs_replied setting (before ++ e ∷ []) es mid new (step_replied setting old mid before e all step) rest)

pub are_replied : AreReplied
are_replied setting exchanges state runs = runs_replied setting [] exchanges first_state state (All-from_recursion (IsReplied []) [] tt) runs
