-- Lookups are exact in every state that a run reaches.
use Rattle.std.proofs.lemmas.List.Elements.{All-weaker}
use Rattle.remote_end.proofs.LookupLemmas.{lookups_are_exact}
use Rattle.laws.specs.Lawful.{IsLawful}
use Rattle.laws.specs.Lookups.{LooksUpAll, LookupsAreExactInRuns}
use Rattle.laws.proofs.LawfulLaw.{states_are_lawful}

pub lookups_are_exact_in_runs : LookupsAreExactInRuns
lookups_are_exact_in_runs setting exchanges state small runs =
    All-weaker (IsLawful setting) LooksUpAll (λ s lawful kind text node. lookups_are_exact kind s text node lawful.issued) state.sessions (states_are_lawful setting exchanges state small runs).each
