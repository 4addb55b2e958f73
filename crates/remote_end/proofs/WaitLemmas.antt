-- A command that waits in its session, and is carried to a moment.
use Rattle.std.proofs.Common.{◌≡◌, ◌<◌, ◌≤◌, ◌∙◌, ℕ, Bool, true, false, List, [], ◌∷◌, Option, Some, None, sym, ap, refl, subst, arith}
use Rattle.std.specs.Prelude.{nat_lt, if◌then◌else◌}
use Rattle.std.proofs.lemmas.Bool.{ltb-true, lt-ltb}
use Rattle.page_engine.specs.Scene.{PageState}
use Rattle.waits.specs.Reaching.{Reaches, Stays, Goes, IsLater}
use Rattle.references.specs.Handed.{Handed, handed}
use Rattle.references.specs.HandedAll.{named, handed_all}
use Rattle.references.specs.declared.kind.Kind.TheVariants.{Element}
use Rattle.selectors.specs.Named.{first_of_list}
use Rattle.remote_end.specs.Elements.{current_document}
use Rattle.references.specs.Identifier.{Identifier}
use Rattle.references.specs.declared.kind.Kind.{Kind}
use Rattle.remote_end.specs.declared.finds.Wanted.{Wanted}
use Rattle.remote_end.specs.declared.finds.Wanted.TheVariants.{First, All}
use Rattle.remote_end.specs.declared.reply.Reply.{Reply}
use Rattle.remote_end.specs.declared.session.Session.{Session}
use Rattle.remote_end.specs.declared.waiting.FindWait.{FindWait}
use Rattle.remote_end.specs.declared.waiting.Waiting.{Waiting}
use Rattle.remote_end.specs.declared.waiting.Waiting.TheVariants.{Find, Ended}
use Rattle.remote_end.specs.Advance.{NoneDue, Advanced}
use Rattle.remote_end.specs.Carried.{LeavesIdle, EndsBy, LeadsTo}
use Rattle.remote_end.specs.FindSpans.{Gives, soonest, Passes, AtEnd, Onwards}
use Rattle.remote_end.specs.Finds.{first_plan, with_references, nodes_plan, BegunIs, FindPlan}
use Rattle.remote_end.specs.Handing.{with_reference}
use Rattle.remote_end.specs.Moments.{later, first_moment, next_after, stand_from, stand}
use Rattle.remote_end.specs.Plan.{Stage, Plan, at_once}
use Rattle.remote_end.specs.State.{After, Same, Leaves, Ends, Opens, IsSameBut}
use Rattle.remote_end.specs.Waits.{settled, with_waiting, PlansIn, IsPlanOf, next_in, next_moment, FindSteps, GoesOn, HasEnded, StepsIn, StepsAt, StepsGoing, FindFits, Fits, FitsOrEnded, EndedWell, IsKept, IsGoing, left_in, left_of}
use Rattle.remote_end.proofs.AdvanceMoreLemmas.{over_after, at_of}
use Rattle.remote_end.proofs.FindLemmas.{plan_there, plan_later, ends_after}
use Rattle.remote_end.specs.declared.setting.Setting.{Setting}

-- ---- a session keeps no command while one is carried out in it

pub settled_after : {setting : Setting} (s mid : Session) (m : ℕ) → s.waiting ≡ None → Advanced setting s m mid → mid.waiting ≡ None
settled_after {setting} s mid m none a = ap (λ (t : Session). t.waiting) a.kept ∙ none

pub settled_is : (s : Session) → s.waiting ≡ None → settled s ≡ s
settled_is s none = ap (λ (w : Option Waiting). let t : Session = record s { waiting = w } in t) (sym none)

-- a plan that leaves the session with its number, and with what waits in it
abbrev KeepsAfter : Session → After → Type 0
KeepsAfter s Same = Unit {0}
KeepsAfter s (Leaves t) = IsSameBut s t
KeepsAfter s Ends = Unit {0}
KeepsAfter s (Opens t) = Unit {0}

abbrev Keeps : Session → Plan → Type 0
Keeps s plan = KeepsAfter s plan.after

keeps_reference : (kind : Kind) (s : Session) (o : Option (Identifier × Handed)) → Keeps s (with_reference kind s o)
keeps_reference kind s None = record { number = refl; waiting = refl }
keeps_reference kind s (Some handed) = record { number = refl; waiting = refl }

keeps_references : (s : Session) (o : Option (List Identifier × Handed)) → Keeps s (with_references s o)
keeps_references s None = record { number = refl; waiting = refl }
keeps_references s (Some handed) = record { number = refl; waiting = refl }

keeps_first : (s : Session) (o : Option ℕ) → Keeps s (first_plan s o)
keeps_first s None = record { number = refl; waiting = refl }
keeps_first s (Some node) = keeps_reference Element s (handed s.known Element (named current_document node))

pub keeps_nodes : (wanted : Wanted) (s : Session) (nodes : List ℕ) → Keeps s (nodes_plan wanted s nodes)
keeps_nodes First s nodes = keeps_first s (first_of_list nodes)
keeps_nodes All s nodes = keeps_references s (handed_all s.known Element current_document nodes)

pub left_settled : (wanted : Wanted) (s left : Session) (nodes : List ℕ) (reply : Reply) → s.waiting ≡ None → nodes_plan wanted s nodes ≡ at_once reply (Leaves left) → left.waiting ≡ None
left_settled wanted s left nodes reply none is =
    let P : Plan → Type 0 = Keeps s in
    let kept : IsSameBut s left = subst P is (keeps_nodes wanted s nodes) in
    kept.waiting ∙ none

-- ---- a find that goes on

pub mid_fits : {setting : Setting} (find : FindWait) (s mid : Session) (m : ℕ) → FindFits find s.page s.at → Advanced setting s m mid → Gives find mid.page.rows [] → m < find.until → FindFits find mid.page mid.at
mid_fits {setting} find s mid m fits a gives short =
    let at : mid.at ≡ m = at_of s mid m a in
    let P : ℕ → Type 0 = λ k. NoneDue mid.page.pending k in
    let Q : ℕ → Type 0 = λ k. k < find.until in
    record { sought = fits.sought; nothing = gives; short = subst Q (sym at) short; within = fits.within; still = subst P (sym at) (over_after setting m s.page s.at mid.page a.page) }

passes_first : {setting : Setting} (until : ℕ) (s : Session) (stages : List Stage) (end : Session) → Passes setting until s stages end → s.at < end.at → first_moment stages ≡ Some (soonest until s.page.pending)
passes_first {setting} until s l e (AtEnd end) less = absurd (omega (arith, less))
passes_first {setting} until s l e (Onwards from mid end stages less a rest) _ = refl

begun_of : (stages : List Stage) (begun : Option Session) (s : Session) (k : ℕ) → BegunIs stages begun s → first_moment stages ≡ Some k → begun ≡ Some s
begun_of [] begun s k is first = absurd (let f : None ≡ Some k = first in cc)
begun_of (stage ∷ stages) begun s k is first = is

find_first : {setting : Setting} (find : FindWait) (s : Session) (plan : Plan) → FindFits find s.page s.at → FindPlan setting find s plan → first_moment plan.stages ≡ Some (soonest find.until s.page.pending)
find_first {setting} find s plan fits is = passes_first find.until s plan.stages is.end is.passes (ends_after setting find s fits is.end is.nodes is.ends)

find_begun : {setting : Setting} (find : FindWait) (s : Session) (plan : Plan) → FindFits find s.page s.at → FindPlan setting find s plan → plan.begun ≡ Some s
find_begun {setting} find s plan fits is = begun_of plan.stages plan.begun s (soonest find.until s.page.pending) is.begun (find_first find s plan fits is)

-- ---- one step of a waiting command, seen from its plans

-- a plan of the command after a step is, with that moment in front, one from before it
pub record StepsBack (setting : Setting) (old : Session) (m : ℕ) (new : Session) (rest : Plan) : Type 0 where
  pub session : Session
  pub is : IsPlanOf setting old (record rest { begun = Some (settled old); stages = record { moment = m; session = session } ∷ rest.stages })
  pub stands : (until : ℕ) → next_moment new ≡ Some until → rest.begun ≡ Some session

module _ (setting : Setting) (find : FindWait) (s : Session) (none : s.waiting ≡ None) (fits : FindFits find s.page s.at) where
  find_back : (new : Session) (rest : Plan) → FindSteps setting find s (soonest find.until s.page.pending) new → IsPlanOf setting new rest
      → StepsBack setting (with_waiting s (Find find)) (soonest find.until s.page.pending) new rest
  find_back new rest (GoesOn mid a gives short new_is) plan =
      let idle = settled_after s mid (soonest find.until s.page.pending) none a in
      let P : Session → Type 0 = λ t. IsPlanOf setting t rest in
      let Q : Session → Type 0 = λ t. FindPlan setting find t rest in
      let there : FindPlan setting find mid rest = subst Q (settled_is mid idle) (subst P new_is plan) in
      let R : Session → Type 0 = λ t. FindPlan setting find t (record rest { begun = Some t; stages = record { moment = soonest find.until s.page.pending; session = mid } ∷ rest.stages }) in
      record {
        session = mid;
        is = subst R (sym (settled_is s none)) (plan_later setting find s fits mid rest a there);
        stands = λ until next. find_begun find mid rest (mid_fits find s mid (soonest find.until s.page.pending) fits a gives short) there;
      }
  find_back new rest (HasEnded end left nodes reply a gives ends answers new_is) plan =
      let idle = left_settled find.wanted end left nodes reply (settled_after s end (soonest find.until s.page.pending) none a) answers in
      let P : Session → Type 0 = λ t. IsPlanOf setting t rest in
      let over : rest ≡ at_once reply (Leaves (settled left)) = subst P new_is plan in
      let answer : nodes_plan find.wanted end nodes ≡ at_once reply (Leaves (settled left)) = answers ∙ ap (λ (t : Session). at_once reply (Leaves t)) (sym (settled_is left idle)) in
      let Q : Plan → Type 0 = λ p. IsPlanOf setting (with_waiting s (Find find)) (record p { begun = Some (settled s); stages = record { moment = soonest find.until s.page.pending; session = end } ∷ p.stages }) in
      let R : Session → Type 0 = λ t. FindPlan setting find t (record { reply = reply; after = Leaves (settled left); begun = Some t; stages = record { moment = soonest find.until s.page.pending; session = end } ∷ [] }) in
      record {
        session = end;
        is = subst Q (sym over) (subst R (sym (settled_is s none)) (plan_there setting find s fits end nodes reply (Leaves (settled left)) a gives ends answer));
        stands = λ until next. absurd (let f : None ≡ Some until = sym (ap next_moment new_is) ∙ next in cc);
      }

pub not_lt : (a b : ℕ) → b ≤ a → nat_lt a b ≡ false
not_lt a b h = by (nat_lt a b) refl
  where
    by : (less : Bool) → nat_lt a b ≡ less → nat_lt a b ≡ false
    by true is = absurd (let l : a < b = ltb-true a b is in omega (arith, l, h))
    by false is = is

some_same : (a b : ℕ) → Some a ≡ Some b → a ≡ b
some_same a b e = cc

-- by what waits
steps_back : (setting : Setting) (waiting : Option Waiting) (s : Session) (m : ℕ) (new : Session) (rest : Plan) → s.waiting ≡ None → FitsOrEnded waiting s.page s.at → next_in waiting s ≡ Some m
    → StepsIn setting waiting s m new → IsPlanOf setting new rest → (let old : Session = record s { waiting = waiting } in StepsBack setting old m new rest)
steps_back setting None s m new rest none fits next steps plan = absurd steps
steps_back setting (Some (Find find)) s m new rest none fits next steps plan =
    let same : soonest find.until s.page.pending ≡ m = some_same (soonest find.until s.page.pending) m next in
    let P : ℕ → Type 0 = λ k. FindSteps setting find s k new in
    let Q : ℕ → Type 0 = λ k. StepsBack setting (with_waiting s (Find find)) k new rest in
    subst Q same (find_back setting find s none fits new rest (subst P (sym same) steps) plan)
steps_back setting (Some (Ended reply)) s m new rest none fits next steps plan = absurd steps

pub next_settled : (waiting : Option Waiting) (t : Session) → next_in waiting t ≡ next_in waiting (settled t)
next_settled None t = refl
next_settled (Some (Find find)) t = refl
next_settled (Some (Ended reply)) t = refl

-- a session whose command goes on, or has ended
abbrev pub Apt : Session → Type 0
Apt s = FitsOrEnded s.waiting s.page s.at

pub step_back : (setting : Setting) (old : Session) (m : ℕ) (new : Session) (rest : Plan) → Apt old → next_moment old ≡ Some m → StepsAt setting old m new → IsPlanOf setting new rest → StepsBack setting old m new rest
step_back setting old m new rest apt next steps plan = steps_back setting old.waiting (settled old) m new rest refl apt (sym (next_settled old.waiting old) ∙ next) steps plan

-- ---- a step leaves it apt

find_apt : {setting : Setting} (find : FindWait) (s new : Session) (m : ℕ) → FindFits find s.page s.at → FindSteps setting find s m new → Apt new
find_apt {setting} find s new m fits (GoesOn mid a gives short new_is) = subst Apt (sym new_is) (mid_fits find s mid m fits a gives short)
find_apt {setting} find s new m fits (HasEnded end left nodes reply a gives ends answers new_is) = subst Apt (sym new_is) tt

steps_apt : (setting : Setting) (waiting : Option Waiting) (s : Session) (m : ℕ) (new : Session) → FitsOrEnded waiting s.page s.at → StepsIn setting waiting s m new → Apt new
steps_apt setting None s m new fits steps = absurd steps
steps_apt setting (Some (Find find)) s m new fits steps = find_apt find s new m fits steps
steps_apt setting (Some (Ended reply)) s m new fits steps = absurd steps

pub step_apt : (setting : Setting) (old : Session) (m : ℕ) (new : Session) → Apt old → StepsAt setting old m new → Apt new
step_apt setting old m new apt steps = steps_apt setting old.waiting (settled old) m new apt steps

-- ---- a step leaves the session's number

find_number : {setting : Setting} (find : FindWait) (s new : Session) (m : ℕ) → FindSteps setting find s m new → new.number ≡ s.number
find_number {setting} find s new m (GoesOn mid a gives short new_is) = ap (λ (t : Session). t.number) new_is ∙ ap (λ (t : Session). t.number) a.kept
find_number {setting} find s new m (HasEnded end left nodes reply a gives ends answers new_is) =
    let P : Plan → Type 0 = Keeps end in
    let kept : IsSameBut end left = subst P answers (keeps_nodes find.wanted end nodes) in
    ap (λ (t : Session). t.number) new_is ∙ kept.number ∙ ap (λ (t : Session). t.number) a.kept

steps_number : (setting : Setting) (waiting : Option Waiting) (s : Session) (m : ℕ) (new : Session) → StepsIn setting waiting s m new → new.number ≡ s.number
steps_number setting None s m new steps = absurd steps
steps_number setting (Some (Find find)) s m new steps = find_number find s new m steps
steps_number setting (Some (Ended reply)) s m new steps = absurd steps

pub same_number : (setting : Setting) (r : ℕ) (a b : Session) → Reaches next_moment (StepsAt setting) r a b → b.number ≡ a.number
same_number setting r a b (Stays s) = refl
same_number setting r a b (Goes s t u m first within step more) = same_number setting r t u more ∙ steps_number setting s.waiting (settled s) m t step

-- ---- the plans of a command that waits begin where it stands, and their first next moment is its next moment

pub record BeginsWith (s : Session) (plan : Plan) (until : ℕ) : Type 0 where
  pub begun : plan.begun ≡ Some s
  pub first : first_moment plan.stages ≡ Some until

begins_in : (setting : Setting) (waiting : Option Waiting) (s : Session) (plan : Plan) (until : ℕ) → FitsOrEnded waiting s.page s.at → PlansIn setting waiting s plan → next_in waiting s ≡ Some until → BeginsWith s plan until
begins_in setting None s plan until fits is next = absurd is
begins_in setting (Some (Find find)) s plan until fits is next = record {
  begun = find_begun find s plan fits is;
  first = find_first find s plan fits is ∙ next;
}
begins_in setting (Some (Ended reply)) s plan until fits is next = absurd (let f : None ≡ Some until = next in cc)

pub begins_with : (setting : Setting) (s : Session) (plan : Plan) (until : ℕ) → Apt s → IsPlanOf setting s plan → next_moment s ≡ Some until → BeginsWith (settled s) plan until
begins_with setting s plan until apt is next = begins_in setting s.waiting (settled s) plan until apt is (sym (next_settled s.waiting s) ∙ next)

-- ---- lists of next moments

pub not_yet : (stages : List Stage) (at : Option Session) (r until : ℕ) → first_moment stages ≡ Some until → r < until → (later stages r ≡ stages) × (stand_from at stages r ≡ at)
not_yet [] at r until first less = absurd (let f : None ≡ Some until = first in cc)
not_yet (stage ∷ stages) at r until first less =
    let same : stage.moment ≡ until = some_same stage.moment until first in
    let yes : nat_lt r stage.moment ≡ true = lt-ltb r stage.moment (omega (arith, same, less)) in (
      ap (λ (b : Bool). if b then stage ∷ stages else later stages r) yes,
      ap (λ (b : Bool). if b then at else stand_from (Some stage.session) stages r) yes,
    )

handled : (stage : Stage) (stages : List Stage) (at : Option Session) (r : ℕ) → stage.moment ≤ r
    → (later (stage ∷ stages) r ≡ later stages r) × (stand_from at (stage ∷ stages) r ≡ stand_from (Some stage.session) stages r)
handled stage stages at r within =
    let no : nat_lt r stage.moment ≡ false = not_lt r stage.moment within in (
      ap (λ (b : Bool). if b then stage ∷ stages else later stages r) no,
      ap (λ (b : Bool). if b then at else stand_from (Some stage.session) stages r) no,
    )

-- ---- a command that is carried on, seen from its plans

still_waits : (setting : Setting) (r : ℕ) (a b : Session) → Reaches next_moment (StepsAt setting) r a b → (until : ℕ) → next_moment b ≡ Some until → (k : ℕ) × (next_moment a ≡ Some k)
still_waits setting r a b (Stays s) until next = (until, next)
still_waits setting r a b (Goes s t u m first within step more) until next = (m, first)

pub waits_back : (setting : Setting) (r : ℕ) (a b : Session) → Reaches next_moment (StepsAt setting) r a b → (until : ℕ) → next_moment b ≡ Some until → r < until → Apt a → (rest : Plan) → IsPlanOf setting b rest
    → LeadsTo (IsPlanOf setting a) r until b rest
waits_back setting r a b (Stays s) until next less apt rest is =
    let begins = begins_with setting s rest until apt is next in
    let none = not_yet rest.stages rest.begun r until begins.first less in
    record {
      plan = rest;
      is = is;
      next = ap first_moment none.0 ∙ begins.first;
      stands = none.1 ∙ begins.begun;
      rest_is = sym (ap (λ (o : Option Session). let p : Plan = record rest { begun = o; stages = later rest.stages r } in p) none.1
          ∙ ap (λ (l : List Stage). let p : Plan = record rest { stages = l } in p) none.0);
    }
waits_back setting r a b (Goes s t u m first within step more) until next less apt rest is =
    let lead = waits_back setting r t u more until next less (step_apt setting s m t apt step) rest is in
    let on = still_waits setting r t u more until next in
    let back = step_back setting s m t lead.plan apt first step lead.is in
    let stage : Stage = record { moment = m; session = back.session } in
    let over = handled stage lead.plan.stages (Some (settled s)) r within in
    let standing : stand_from (Some (settled s)) (stage ∷ lead.plan.stages) r ≡ stand lead.plan r =
    over.1 ∙ ap (λ (o : Option Session). stand_from o lead.plan.stages r) (sym (back.stands on.0 on.1)) in
    record {
      plan = record lead.plan { begun = Some (settled s); stages = stage ∷ lead.plan.stages };
      is = back.is;
      next = ap first_moment over.0 ∙ lead.next;
      stands = standing ∙ lead.stands;
      rest_is = lead.rest_is
          ∙ ap (λ (o : Option Session). let p : Plan = record lead.plan { begun = o; stages = later lead.plan.stages r } in p) (sym standing)
          ∙ ap (λ (l : List Stage). let p : Plan = record lead.plan { begun = stand_from (Some (settled s)) (stage ∷ lead.plan.stages) r; stages = l } in p) (sym over.0);
    }

pub ends_back : (setting : Setting) (r : ℕ) (a b : Session) → Reaches next_moment (StepsAt setting) r a b → Apt a → (rest : Plan) → IsPlanOf setting b rest → LeavesIdle rest.after → next_after rest.stages r ≡ None
    → EndsBy (IsPlanOf setting a) r rest.reply rest.after
ends_back setting r a b (Stays s) apt rest is idle over = record { plan = rest; is = is; over = over; reply_is = refl; after_is = refl; idle = idle }
ends_back setting r a b (Goes s t u m first within step more) apt rest is idle over =
    let ends = ends_back setting r t u more (step_apt setting s m t apt step) rest is idle over in
    let back = step_back setting s m t ends.plan apt first step ends.is in
    let stage : Stage = record { moment = m; session = back.session } in
    let past = handled stage ends.plan.stages (Some (settled s)) r within in
    record {
      plan = record ends.plan { begun = Some (settled s); stages = stage ∷ ends.plan.stages };
      is = back.is;
      over = ap first_moment past.0 ∙ ends.over;
      reply_is = ends.reply_is;
      after_is = ends.after_is;
      idle = ends.idle;
    }

pub ends_carried : (setting : Setting) (r : ℕ) (a b left : Session) (reply : Reply) → Reaches next_moment (StepsAt setting) r a b → Apt a → b ≡ with_waiting left (Ended reply) → left.waiting ≡ None
    → EndsBy (IsPlanOf setting a) r reply (Leaves left)
ends_carried setting r a b left reply reaches apt ended idle =
    let P : Session → Type 0 = λ t. IsPlanOf setting t (at_once reply (Leaves left)) in
    let there : IsPlanOf setting (with_waiting left (Ended reply)) (at_once reply (Leaves left)) = ap (λ (t : Session). at_once reply (Leaves t)) (sym (settled_is left idle)) in
    ends_back setting r a b reaches apt (at_once reply (Leaves left)) (subst P (sym ended) there) idle refl

pub none_left : (s : Session) → s.waiting ≡ None → left_of s ≡ 0
none_left s none = ap (λ (w : Option Waiting). left_in w s.page) none

pub later_than : (o : Option ℕ) (until r : ℕ) → o ≡ Some until → IsLater o r → r < until
later_than None until r is later = let f : None ≡ Some until = is in cc
later_than (Some m) until r is later = let same : m ≡ until = some_same m until is in let l : r < m = later in omega (arith, same, l)

-- a session in which a command waits goes on
going_in : (waiting : Option Waiting) (page : PageState) (at until : ℕ) (s : Session) → Fits waiting page at → next_in waiting s ≡ Some until → FitsOrEnded waiting page at × EndedWell waiting
going_in None page at until s fits next = absurd (let f : None ≡ Some until = next in cc)
going_in (Some (Find find)) page at until s fits next = (fits, tt)
going_in (Some (Ended reply)) page at until s fits next = absurd fits

pub kept_going : (s : Session) (until : ℕ) → IsKept s → next_moment s ≡ Some until → IsGoing s
kept_going s until kept next = let g = going_in s.waiting s.page s.at until s kept.fits next in record { whole = kept.whole; fits = g.0; status = g.1 }

-- ---- in a setting

pub reaches_in : (setting : Setting) (r : ℕ) (a b : Setting × Session) → setting ≡ a.0 → Reaches (λ (g : Setting × Session). next_moment g.1) StepsGoing r a b → Reaches next_moment (StepsAt setting) r a.1 b.1
reaches_in setting r a b is (Stays g) = Stays g.1
reaches_in setting r a b is (Goes g h k m first within step more) =
    let P : Setting → Type 0 = λ t. StepsAt t g.1 m h.1 in
    Goes g.1 h.1 k.1 m first within (subst P (sym is) step.0) (reaches_in setting r h k (is ∙ sym step.1) more)
