use Rattle.std.proofs.Common.{◌∙◌, sym, refl}
use Rattle.wd_http.proofs.KeptLemmas.{kept_grown, past_grown}
use Rattle.wd_http.proofs.connections.Connections.send.Goals as goal

pub invariant_of-self-in-Some : goal.invariant_of-self-in-Some
invariant_of-self-in-Some c = record {
  within = c.self.invariant.within;
  closed = c.self.invariant.closed;
  kept = kept_grown _ c.self.inside.here.place c.in-Some.place c.self.inside.sent c.extend-in-Some.new.self c.args.piece.now (sym c.place.ensures ∙ c.in-Some.is) c.in_ok-extend.ensures.ok c.self.invariant.kept;
}

pub returns-in-Some-clause-elsewhere : goal.returns-in-Some-clause-elsewhere
returns-in-Some-clause-elsewhere c = rw (← c.self.view_is) (record {
  coming = refl;
  is_open = refl;
  past = past_grown _ c.self.inside.here.place c.in-Some.place c.self.inside.sent c.extend-in-Some.new.self c.args.piece.now (sym c.place.ensures ∙ c.in-Some.is) c.in_ok-extend.ensures.ok c.self.invariant.kept;
})
