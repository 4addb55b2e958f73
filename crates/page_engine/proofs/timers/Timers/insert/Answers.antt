use Rattle.std.proofs.Common.{◌≡◌, ◌+◌, ℕ, List, sym, subst, ap, rules, ◌∙◌}
use Rattle.page_engine.specs.Timers.{Turn, timers_in, with_timer}
use Rattle.page_engine.specs.declared.effect.Effect.{Effect}
use Rattle.std.specs.BTreeMap.{insert_entry}
use Rattle.page_engine.proofs.Turns.{MadeBy, put_made, put_timer, turn_order}
use Rattle.page_engine.proofs.timers.Timers.insert.Goals as goal

pub invariant_of-self-in-Some : goal.invariant_of-self-in-Some
invariant_of-self-in-Some c =
    let P : List (Turn × List Effect) → Type 0 = MadeBy c.in-Some.made in
    let Q : ℕ → Type 0 = λ made. MadeBy made (insert_entry turn_order c.self.inside.turns.entries (c.args.due, c.self.inside.made) c.args.effects) in
    let more : c.self.inside.made + 1 ≡ c.in-Some.made = search rules in
    subst P (sym c.in_ok-insert-in-Some.ensures.entries) (subst Q more (put_made c.args.due c.self.inside.made c.args.effects c.self.inside.turns.entries c.self.invariant))

pub returns-in_ok-insert-in-Some : goal.returns-in_ok-insert-in-Some
returns-in_ok-insert-in-Some c =
    ap timers_in c.in_ok-insert-in-Some.ensures.entries
    ∙ put_timer c.args.due c.self.inside.made c.args.effects c.self.inside.turns.entries c.self.invariant
    ∙ ap (with_timer (c.args.due, c.args.effects)) c.self.view_is
