-- A request that is begun.
use Rattle.std.proofs.Common.{◌≡◌, ℕ, Ok, Err, refl, ap}
use Rattle.wd_errors.specs.declared.code.Code.{Code}
use Rattle.wd_http.specs.declared.request.Request.{Request}
use Rattle.remote_end.specs.declared.order.Order.{Order}
use Rattle.remote_end.specs.declared.reply.Reply.{Reply}
use Rattle.remote_end.specs.declared.step.Step.{Step as Outcome}
use Rattle.remote_end.specs.declared.step.Step.TheVariants.{Reply as Replied, Wait}
use Rattle.remote_end.specs.declared.setting.Setting.{Setting}
use Rattle.remote_end.specs.State.{State, After, Same}
use Rattle.remote_end.specs.Plan.{Plan, at_once}
use Rattle.remote_end.specs.Replies.{failure}
use Rattle.remote_end.specs.Meaning.{Means}
use Rattle.remote_end.specs.Carried.{LeavesIdle, EndsBy, ComesTo}
use Rattle.remote_end.specs.Step.{Begins, ActsAt}

-- of a turn that ends at once
pub ends_at_once : (IsPlan : Plan → Type 0) (r : ℕ) (reply : Reply) (after : After) → LeavesIdle after → IsPlan (at_once reply after) → EndsBy IsPlan r reply after
ends_at_once IsPlan r reply after idle is = record { plan = at_once reply after; is = is; over = refl; reply_is = refl; after_is = refl; idle = idle }

-- a command that has one of these plans has one of those
pub comes_of : (setting : Setting) (One Other : Plan → Type 0) → ((plan : Plan) → One plan → Other plan) → (r : ℕ) (outcome : Outcome) (after : After) → ComesTo setting One r outcome after → ComesTo setting Other r outcome after
comes_of setting One Other f r (Replied reply) after e = record { plan = e.plan; is = f e.plan e.is; over = e.over; reply_is = e.reply_is; after_is = e.after_is; idle = e.idle }
comes_of setting One Other f r (Wait number until) after (session, left, w) = (
  session,
  left,
  record {
    number_is = w.number_is;
    next = w.next;
    later = w.later;
    leads = λ rest is. let l = w.leads rest is in record { plan = l.plan; is = f l.plan l.is; next = l.next; stands = l.stands; rest_is = l.rest_is };
  },
)

-- a request that is refused
pub refused_at : (setting : Setting) (state : State) (request : Request) (reading : ℕ) (code : Code) (reply : Reply)
    → Means state request (Err code) → reply ≡ failure code → Begins setting state request reading state (Replied reply)
refused_at setting state request reading code reply means reply_is = record {
  meaning = Err code;
  means = means;
  after = Same;
  comes = ends_at_once _ _ reply Same tt (refl, ap (λ (r : Reply). at_once r Same) reply_is);
  named = tt;
  new_is = refl;
}

-- a request that is a command
pub acted_at : (setting : Setting) (old new : State) (request : Request) (reading : ℕ) (order : Order) (outcome : Outcome)
    → Means old request (Ok order) → ActsAt setting old order reading new outcome → Begins setting old request reading new outcome
acted_at setting old new request reading order outcome means a = record { meaning = Ok order; means = means; after = a.after; comes = a.comes; named = a.named; new_is = a.new_is }
