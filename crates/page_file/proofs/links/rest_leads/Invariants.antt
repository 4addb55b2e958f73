use Rattle.std.proofs.Common.{◌≡◌, true, drop}
use Rattle.std.specs.List.{list_all}
use Rattle.page_file.specs.Leading.{effects_lead}
use Rattle.page_file.proofs.links.rest_leads.Given as goal

abbrev pub invariant-loop-timer : goal.invariant-loop-timer
invariant-loop-timer l = list_all (λ timer. effects_lead l.pages l.base timer.effects) l.timer-items ≡ list_all (λ timer. effects_lead l.pages l.base timer.effects) (drop l.timer-index l.timer-items)

abbrev pub invariant-loop-entry : goal.invariant-loop-entry
invariant-loop-entry l = (list_all (λ timer. effects_lead l.pages l.base timer.effects) l.page.timers ≡ true)
    × (list_all (λ entry. effects_lead l.pages l.base entry.effects) l.entry-items ≡ list_all (λ entry. effects_lead l.pages l.base entry.effects) (drop l.entry-index l.entry-items))
