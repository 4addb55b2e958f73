-- A command of a session has one plan, and asks the outside for nothing.
use Rattle.std.proofs.Common.{◌≡◌, ◌≤◌, ◌∙◌, ℕ, List, [], Bool, true, false, Option, Some, None, Ok, Err, sym, ap, refl, subst, arith, if◌then◌else◌}
use Rattle.std.specs.Prelude.{nat_lt}
use Rattle.std.proofs.lemmas.Bool.{ltb-true, ltb-false}
use Rattle.capabilities.specs.Processed.{processed}
use Rattle.capabilities.specs.Timeouts.{timeouts_in}
use Rattle.endpoints.specs.declared.command.Command.{Command}
use Rattle.endpoints.specs.declared.command.Command.TheVariants.{NewSession, DeleteSession, Status, GetTimeouts, SetTimeouts, NavigateTo, GetCurrentUrl, Back, Forward, Refresh, GetTitle, GetWindowHandle, CloseWindow, SwitchToWindow, GetWindowHandles, GetWindowRect, SetWindowRect, MaximizeWindow, FullscreenWindow, MinimizeWindow, SwitchToFrame, SwitchToParentFrame, GetActiveElement, FindElement, FindElements, FindElementFromElement, FindElementsFromElement, FindElementFromShadowRoot, FindElementsFromShadowRoot, GetElementShadowRoot, IsElementSelected, GetElementAttribute, GetElementProperty, GetElementCssValue, GetElementText, GetElementTagName, GetElementRect, IsElementEnabled, IsElementDisplayed, ElementClick, ElementClear, ElementSendKeys, GetPageSource, ExecuteScript, ExecuteAsyncScript, GetAllCookies, AddCookie, DeleteAllCookies, GetNamedCookie, DeleteCookie, PerformActions, ReleaseActions, DismissAlert, AcceptAlert, GetAlertText, SendAlertText, TakeScreenshot, TakeElementScreenshot}
use Rattle.page_engine.specs.Scene.{PageState}
use Rattle.page_tree.specs.Rows.{Rows}
use Rattle.references.specs.Handed.{name_with}
use Rattle.references.specs.declared.kind.Kind.{Kind}
use Rattle.references.specs.declared.kind.Kind.TheVariants.{Element, Shadow}
use Rattle.references.specs.declared.name.NodeName.{NodeName}
use Rattle.wd_json.specs.declared.value.Json.{Json}
use Rattle.remote_end.specs.declared.finds.Wanted.{Wanted}
use Rattle.remote_end.specs.declared.finds.Wanted.TheVariants.{First, All}
use Rattle.remote_end.specs.declared.order.Order.{Order}
use Rattle.remote_end.specs.declared.reply.Reply.{Reply}
use Rattle.remote_end.specs.declared.session.Session.{Session}
use Rattle.remote_end.specs.declared.setting.Setting.{Setting}
use Rattle.remote_end.specs.declared.waiting.FindWait.{FindWait}
use Rattle.remote_end.specs.Advance.{NoneDue}
use Rattle.remote_end.specs.Elements.{is_current, checked, gone_code, unknown_code, looked_up}
use Rattle.remote_end.specs.FindRows.{FindRow, FindFromRow, shadow_plan}
use Rattle.remote_end.specs.Finds.{find_of, IsFind, Refused, Looks, FindPlan}
use Rattle.remote_end.specs.FindSpans.{Gives, StartsIn}
use Rattle.remote_end.specs.Needs.{Need, OpenWindow, OpenContext, NoPrompt, Item, item_of, IsItem, refusal_of, Judges, Checks, AllPass, Refuses, Passes}
use Rattle.remote_end.specs.Outside.{Call}
use Rattle.remote_end.specs.Plan.{Plan, AsksNothing}
use Rattle.remote_end.specs.Rows.{Row, Alone, Own, Unbuilt, row_of, Follows, IsOwn, IsAlone}
use Rattle.remote_end.specs.SessionRows.{NewSessionRow, SetTimeoutsRow, new_session, set_timeouts_plan}
use Rattle.remote_end.specs.State.{State, own_place}
use Rattle.remote_end.specs.StateRows.{tag_name_plan, text_plan}
use Rattle.remote_end.specs.Waits.{IsSought}
use Rattle.remote_end.proofs.AdvanceMoreLemmas.{still_page, advanced_here}
use Rattle.remote_end.proofs.FindLemmas.{gives_sought, sought_lawful}
use Rattle.remote_end.specs.declared.waiting.Waiting.TheVariants.{Find}
use Rattle.remote_end.specs.Waits.{with_waiting}
use Rattle.remote_end.proofs.PlanLaw.{plans_are_one}
use Rattle.remote_end.proofs.WaitLemmas.{settled_is}

-- the same command and parameters, and the same of what the path names
pub record SameOrder (a b : Order) : Type 0 where
  pub command : a.route.command ≡ b.route.command
  pub item : item_of a ≡ item_of b
  pub parameters : a.parameters ≡ b.parameters
  pub place : (sessions : List Session) → own_place a.route.session sessions ≡ own_place b.route.session sessions

abbrev pub AreOne : List Call → List Call → Plan → Plan → Type 0
AreOne x y p q = (x ≡ []) × (y ≡ []) × (p ≡ q)

nothing_one : (given other : Plan) (x y : List Call) (p q : Plan) → given ≡ other → AsksNothing given x p → AsksNothing other y q → AreOne x y p q
nothing_one given other x y p q same a b = (a.0, b.0, a.1 ∙ same ∙ sym b.1)

abbrev IsOne : (Setting → Order → Session → List Call → Plan → Type 0) → Type 0
IsOne does =
    (setting : Setting) (a b : Order) → SameOrder a b → (s : Session) → NoneDue s.page.pending s.at → s.waiting ≡ None → (x y : List Call) (p q : Plan) → does setting a s x p → does setting b s y q → AreOne x y p q

-- ---- rows

set_timeouts_one : IsOne SetTimeoutsRow
set_timeouts_one setting a b same s still idle x y p q r t =
    nothing_one _ _ x y p q (ap (λ (j : Json). set_timeouts_plan s (timeouts_in j s.matched.timeouts)) same.parameters) r t

-- a find that has a plan can look
plan_sought : {setting : Setting} (find : FindWait) (s : Session) (plan : Plan) → NoneDue s.page.pending s.at → StartsIn find.start s.page.rows → FindPlan setting find s plan → IsSought find.by find.text
plan_sought {setting} find s plan still starts is = by (nat_lt s.at is.end.at) refl
  where
    by : (later : Bool) → nat_lt s.at is.end.at ≡ later → IsSought find.by find.text
    by true less = gives_sought find s.page.rows [] starts (is.ends.least s.at s (omega arith) (ltb-true s.at is.end.at less) (advanced_here s still))
    by false less =
        let onwards : s.at ≤ is.end.at = is.ends.onwards in
        let not_later : is.end.at ≤ s.at = ltb-false s.at is.end.at less in
        let same : s.at ≡ is.end.at = omega (arith, onwards, not_later) in
        let P : ℕ → Type 0 = λ m. NoneDue s.page.pending m in
        let page : s.page ≡ is.end.page = still_page s is.end is.end.at (subst P same still) is.ends.advanced in
        let Q : PageState → Type 0 = λ t. Gives find t.rows is.nodes in
        gives_sought find s.page.rows is.nodes starts (subst Q (sym page) is.ends.gives)

-- a find has one plan: that of a session in which it waits
find_one : {setting : Setting} (find : FindWait) (s : Session) (p q : Plan) → s.waiting ≡ None → FindPlan setting find s p → FindPlan setting find s q → p ≡ q
find_one {setting} find s p q idle a b =
    let P : Session → Plan → Type 0 = λ t plan. FindPlan setting find t plan in
    let Q : Session → Type 0 = λ t. P t p in
    let R : Session → Type 0 = λ t. P t q in
    let same = sym (settled_is s idle) in
    plans_are_one setting (with_waiting s (Find find)) p q (subst Q same a) (subst R same b)

is_find_one : {setting : Setting} (find : FindWait) (s : Session) → NoneDue s.page.pending s.at → s.waiting ≡ None → StartsIn find.start s.page.rows → (x y : List Call) (p q : Plan) → IsFind setting find s x p → IsFind setting find s y q → AreOne x y p q
is_find_one {setting} find s still idle starts x y p q (Refused bad a) (Refused also b) = nothing_one _ _ x y p q refl a b
is_find_one {setting} find s still idle starts x y p q (Refused bad a) (Looks plan b) = absurd (sought_lawful find.by find.text (plan_sought find s q still starts plan) bad)
is_find_one {setting} find s still idle starts x y p q (Looks plan a) (Refused bad b) = absurd (sought_lawful find.by find.text (plan_sought find s p still starts plan) bad)
is_find_one {setting} find s still idle starts x y p q (Looks plan a) (Looks other b) = (a, b, find_one find s p q idle plan other)

find_row_one : (wanted : Wanted) → IsOne (FindRow wanted)
find_row_one wanted setting a b same s still idle x y p q r t =
    let P : Json → Type 0 = λ j. IsFind setting (find_of wanted s None j) s y q in
    is_find_one (find_of wanted s None a.parameters) s still idle tt x y p q r (subst P (sym same.parameters) t)

-- a node that was looked up is connected
checked_current : (kind : Kind) (rows : Rows) (o : Option NodeName) (name : NodeName) → checked kind rows o ≡ Ok name → is_current rows name ≡ true
checked_current kind rows None name is = absurd (let f : Err (unknown_code kind) ≡ Ok name = is in cc)
checked_current kind rows (Some n) name is = by (is_current rows n) refl is
  where
    by : (current : Bool) → is_current rows n ≡ current → (if current then Ok n else Err (gone_code kind)) ≡ Ok name → is_current rows name ≡ true
    by true c e = let same : n ≡ name = cc in ap (is_current rows) (sym same) ∙ c
    by false c e = absurd (let f : Err (gone_code kind) ≡ Ok name = e in cc)

names_one : (kind : Kind) (a b : Order) (s : Session) (name other : NodeName) → item_of a ≡ item_of b → IsItem kind a s name → IsItem kind b s other → name ≡ other
names_one kind a b s name other same is also =
    let e : Ok name ≡ Ok other = sym is ∙ ap (looked_up kind s) same ∙ also in cc

find_from_one : (wanted : Wanted) (kind : Kind) → IsOne (FindFromRow wanted kind)
find_from_one wanted kind setting a b same s still idle x y p q (name, is, r) (other, also, t) =
    let n : name ≡ other = names_one kind a b s name other same.item is also in
    let P : Json → Type 0 = λ j. IsFind setting (find_of wanted s (Some other) j) s y q in
    let Q : NodeName → Type 0 = λ m. IsFind setting (find_of wanted s (Some m) a.parameters) s y q in
    is_find_one (find_of wanted s (Some name) a.parameters) s still idle (checked_current kind s.page.rows (name_with s.known kind (item_of a)) name is) x y p q r
    (subst Q (sym n) (subst P (sym same.parameters) t))

abbrev ItemRow : (Session → NodeName → Plan) → Setting → Order → Session → List Call → Plan → Type 0
ItemRow given setting order s asked plan = (name : NodeName) × IsItem Element order s name × AsksNothing (given s name) asked plan

item_one : (given : Session → NodeName → Plan) → IsOne (ItemRow given)
item_one given setting a b same s still idle x y p q (name, is, r) (other, also, t) =
    nothing_one _ _ x y p q (ap (given s) (names_one Element a b s name other same.item is also)) r t

-- ---- the table

abbrev AloneIsOne : (Setting → State → Json → ℕ → List Call → Plan → Type 0) → Type 0
AloneIsOne does =
    (setting : Setting) (state : State) (j k : Json) → j ≡ k → (reading : ℕ) (x y : List Call) (p q : Plan) → does setting state j reading x p → does setting state k reading y q → AreOne x y p q

new_session_one : AloneIsOne NewSessionRow
new_session_one setting state j k same reading x y p q r t =
    nothing_one _ _ x y p q (ap (λ (i : Json). new_session setting state reading (processed setting.offer.name i)) same) r t

abbrev IsOneRow : Row → Type 0
IsOneRow (Alone does) = AloneIsOne does
IsOneRow (Own needs does) = IsOne does
IsOneRow Unbuilt = Unit {0}

rows_are_one : (c : Command) → IsOneRow (row_of c)
unfolding row_of
rows_are_one c = elim c as (λ c. IsOneRow (row_of c)) [ NewSession ↦ new_session_one | DeleteSession ↦ λ setting a b same s still idle x y p q r t. nothing_one _ _ x y p q refl r t | Status ↦ λ setting state j k same reading x y p q r t. nothing_one _ _ x y p q refl r t | GetTimeouts ↦ λ setting a b same s still idle x y p q r t. nothing_one _ _ x y p q refl r t | SetTimeouts ↦ set_timeouts_one | NavigateTo ↦ tt | GetCurrentUrl ↦ λ setting a b same s still idle x y p q r t. nothing_one _ _ x y p q refl r t | Back ↦ tt | Forward ↦ tt | Refresh ↦ tt | GetTitle ↦ λ setting a b same s still idle x y p q r t. nothing_one _ _ x y p q refl r t | GetWindowHandle ↦ λ setting a b same s still idle x y p q r t. nothing_one _ _ x y p q refl r t | CloseWindow ↦ tt | SwitchToWindow ↦ tt | GetWindowHandles ↦ tt | GetWindowRect ↦ tt | SetWindowRect ↦ tt | MaximizeWindow ↦ tt | FullscreenWindow ↦ tt | MinimizeWindow ↦ tt | SwitchToFrame ↦ tt | SwitchToParentFrame ↦ tt | GetActiveElement ↦ tt | FindElement ↦ find_row_one First | FindElements ↦ find_row_one All | FindElementFromElement ↦ find_from_one First Element | FindElementsFromElement ↦ find_from_one All Element | FindElementFromShadowRoot ↦ find_from_one First Shadow | FindElementsFromShadowRoot ↦ find_from_one All Shadow | GetElementShadowRoot ↦ item_one shadow_plan | IsElementSelected ↦ tt | GetElementAttribute ↦ tt | GetElementProperty ↦ tt | GetElementCssValue ↦ tt | GetElementText ↦ item_one text_plan | GetElementTagName ↦ item_one tag_name_plan | GetElementRect ↦ tt | IsElementEnabled ↦ tt | IsElementDisplayed ↦ tt | ElementClick ↦ tt | ElementClear ↦ tt | ElementSendKeys ↦ tt | GetPageSource ↦ tt | ExecuteScript ↦ tt | ExecuteAsyncScript ↦ tt | GetAllCookies ↦ tt | AddCookie ↦ tt | DeleteAllCookies ↦ tt | GetNamedCookie ↦ tt | DeleteCookie ↦ tt | PerformActions ↦ tt | ReleaseActions ↦ tt | DismissAlert ↦ tt | AcceptAlert ↦ tt | GetAlertText ↦ tt | SendAlertText ↦ tt | TakeScreenshot ↦ tt | TakeElementScreenshot ↦ tt ]

-- ---- the needs

judged_one : (a b : Order) → item_of a ≡ item_of b → (need : Need) (s t u : Session) (r q : Option Reply) → Judges a need s t r → Judges b need s u q → (t ≡ s) × (u ≡ s) × (r ≡ q)
judged_one a b same OpenWindow s t u r q (x, e) (y, f) = (x, y, e ∙ sym f)
judged_one a b same OpenContext s t u r q (x, e) (y, f) = (x, y, e ∙ sym f)
judged_one a b same NoPrompt s t u r q (x, e) (y, f) = (x, y, e ∙ sym f)
judged_one a b same (Item kind) s t u r q (x, e) (y, f) = (x, y, e ∙ ap (λ (text : List ℕ). refusal_of (looked_up kind s text)) same ∙ sym f)

module _ (a b : Order) (same : item_of a ≡ item_of b) where
  pub checks_one : (needs : List Need) (s t u : Session) (r q : Option Reply) → Checks (Judges a) needs s t r → Checks (Judges b) needs s u q → (t ≡ s) × (u ≡ s) × (r ≡ q)
  checks_one needs s t u r q (AllPass x) (AllPass y) = (refl, refl, refl)
  checks_one needs s t u r q (Refuses need later x y reply judged) (Refuses need' later' x' y' reply' judged') = judged_one a b same need s t u r q judged judged'
  checks_one needs s t u r q (Refuses need later x y reply judged) (Passes need' later' x' mid z refusal judged' rest) =
      absurd (let e : Some reply ≡ None = (judged_one a b same need s t mid (Some reply) None judged judged').2 in cc)
  checks_one needs s t u r q (Passes need later x mid z refusal judged rest) (Refuses need' later' x' y reply judged') =
      absurd (let e : None ≡ Some reply = (judged_one a b same need s mid u None (Some reply) judged judged').2 in cc)
  checks_one needs s t u r q (Passes need later x mid z refusal judged rest) (Passes need' later' x' mid' z' refusal' judged' rest') =
      let j = judged_one a b same need s mid mid' None None judged judged' in
      let P : Session → Type 0 = λ m. Checks (Judges b) later m u q in
      let more = checks_one later mid t u r q rest (subst P (j.1 ∙ sym j.0) rest') in
      (more.0 ∙ j.0, more.1 ∙ j.0, more.2)

module _ (setting : Setting) (a b : Order) (same : SameOrder a b) (s : Session) (still : NoneDue s.page.pending s.at) (idle : s.waiting ≡ None) (x y : List Call) (p q : Plan) where
  follows_one : (does : Setting → Order → Session → List Call → Plan → Type 0) → IsOne does → (r : Option Reply) → Follows (does setting a) s r x p → Follows (does setting b) s r y q → AreOne x y p q
  follows_one does one (Some reply) f g = nothing_one _ _ x y p q refl f g
  follows_one does one None f g = one setting a b same s still idle x y p q f g

  own_one : (row : Row) → IsOneRow row → IsOwn row setting a s x p → IsOwn row setting b s y q → AreOne x y p q
  own_one (Alone does) one f g = nothing_one _ _ x y p q refl f g
  own_one Unbuilt one f g = nothing_one _ _ x y p q refl f g
  own_one (Own needs does) one f g =
      let c = checks_one a b same.item needs s f.checked g.checked f.refusal g.refusal f.checks g.checks in
      let P : Session → Type 0 = λ t. Follows (does setting a) t f.refusal x p in
      let Q : Session → Type 0 = λ t. Follows (does setting b) t g.refusal y q in
      let R : Option Reply → Type 0 = λ o. Follows (does setting b) s o y q in
      follows_one does one f.refusal (subst P c.0 f.follows) (subst R (sym c.2) (subst Q c.1 g.follows))

  pub row_one : IsOwn (row_of a.route.command) setting a s x p → IsOwn (row_of b.route.command) setting b s y q → AreOne x y p q
  row_one f g =
      let P : Command → Type 0 = λ command. IsOwn (row_of command) setting b s y q in
      own_one (row_of a.route.command) (rows_are_one a.route.command) f (subst P (sym same.command) g)

module _ (setting : Setting) (state : State) (reading : ℕ) (j k : Json) (same : j ≡ k) (x y : List Call) (p q : Plan) where
  alone_one : (row : Row) → IsOneRow row → IsAlone row setting state j reading x p → IsAlone row setting state k reading y q → AreOne x y p q
  alone_one (Alone does) one f g = one setting state j k same reading x y p q f g
  alone_one Unbuilt one f g = nothing_one _ _ x y p q refl f g
  alone_one (Own needs does) one f g = nothing_one _ _ x y p q refl f g

  pub row_alone_one : (c d : Command) → c ≡ d → IsAlone (row_of c) setting state j reading x p → IsAlone (row_of d) setting state k reading y q → AreOne x y p q
  row_alone_one c d e f g =
      let P : Command → Type 0 = λ command. IsAlone (row_of command) setting state k reading y q in
      alone_one (row_of c) (rows_are_one c) f (subst P (sym e) g)
