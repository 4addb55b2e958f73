-- A session that advances: to a moment and then to a later one, and where nothing is due.
use Rattle.std.proofs.Common.{◌≡◌, ◌≤◌, ℕ, sym, ap, refl, subst}
use Rattle.page_engine.specs.Scene.{PageState}
use Rattle.waits.specs.Advancing.{NoneDue as NoTimerDue, Over}
use Rattle.waits.proofs.AdvancingLaws as advancing
use Rattle.waits.proofs.NextTimer.{somewhere}
use Rattle.remote_end.specs.declared.session.Session.{Session}
use Rattle.remote_end.specs.Advance.{NoneDue, page_timers, Ran, PageAdvances, Advanced}
use Rattle.remote_end.specs.Laws.{AdvancesToOne, AdvancesSomewhere}
use Rattle.remote_end.proofs.PageTimers.{in_turn, run_out}
use Rattle.remote_end.specs.declared.setting.Setting.{Setting}

pub none_of : (page : PageState) (to : ℕ) → NoneDue page.pending to → NoTimerDue page_timers page to
none_of page to none t here = none t.place t.timer here

pub over_after : (setting : Setting) (to : ℕ) (page : PageState) (reached : ℕ) (other : PageState) → PageAdvances setting to page reached other → NoneDue other.pending to
over_after setting to page reached other advances place timer here = advancing.over_after page_timers (Ran setting) to page reached other advances (record { place = place; timer = timer }) here

-- ---- the laws

pub advances_to_one : AdvancesToOne
advances_to_one setting to reached page one other a b = advancing.to_one page_timers (Ran setting) in_turn (run_out setting) to page reached one other a b

pub advances_somewhere : AdvancesSomewhere
advances_somewhere setting to reached page = somewhere page_timers (Ran setting) in_turn (run_out setting) to page reached

-- ---- of a session

-- nothing happens where nothing is due
pub still_page : {setting : Setting} (s mid : Session) (m : ℕ) → NoneDue s.page.pending m → Advanced setting s m mid → s.page ≡ mid.page
still_page {setting} s mid m none a = advancing.over_one page_timers (Ran setting) m s.page s.at mid.page a.page (none_of s.page m none)

pub advanced_here : {setting : Setting} (s : Session) → NoneDue s.page.pending s.at → Advanced setting s s.at s
advanced_here {setting} s none = record { page = Over s.page s.at (none_of s.page s.at none); kept = refl }

pub advanced_somewhere : (setting : Setting) (s : Session) (m : ℕ) → (mid : Session) × Advanced setting s m mid
advanced_somewhere setting s m =
    let rest = advances_somewhere setting m s.at s.page in
    let mid : Session = record s { page = rest.0; at = m } in
    (mid, record { page = rest.1; kept = refl })

pub at_of : {setting : Setting} (s mid : Session) (m : ℕ) → Advanced setting s m mid → mid.at ≡ m
at_of {setting} s mid m a = ap (λ (t : Session). t.at) a.kept

pub advanced_on : {setting : Setting} (s mid end : Session) (a b : ℕ) → s.at ≤ a → a ≤ b → Advanced setting s a mid → Advanced setting mid b end → Advanced setting s b end
advanced_on {setting} s mid end a b s_a a_b first second =
    let P : ℕ → Type 0 = λ m. PageAdvances setting b mid.page m end.page in
    let page : PageAdvances setting b mid.page a end.page = subst P (at_of s mid a first) second.page in
    let Q : Session → Type 0 = λ t. let r : Session = record t { page = end.page; at = b } in end ≡ r in
    record { page = advancing.advances_on page_timers (Ran setting) in_turn a b s.page s.at mid.page end.page a_b s_a first.page page; kept = subst Q first.kept second.kept }

pub advanced_rest : {setting : Setting} (s mid end : Session) (a b : ℕ) → s.at ≤ a → a ≤ b → Advanced setting s a mid → Advanced setting s b end → Advanced setting mid b end
advanced_rest {setting} s mid end a b s_a a_b first whole =
    let P : ℕ → Type 0 = λ m. PageAdvances setting b mid.page m end.page in
    let Q : Session → Type 0 = λ t. let r : Session = record t { page = end.page; at = b } in end ≡ r in
    record {
      page = subst P (sym (at_of s mid a first)) (advancing.advances_rest page_timers (Ran setting) in_turn (run_out setting) a b s.page s.at mid.page end.page a_b s_a first.page whole.page);
      kept = subst Q (sym first.kept) whole.kept;
    }
