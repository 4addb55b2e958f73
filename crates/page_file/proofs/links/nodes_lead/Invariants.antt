use Rattle.std.proofs.Common.{◌≡◌, drop}
use Rattle.std.specs.List.{list_all}
use Rattle.page_file.specs.Leading.{handlers_lead}
use Rattle.page_file.proofs.links.nodes_lead.Given as goal

abbrev pub invariant-loop-node : goal.invariant-loop-node
invariant-loop-node l = list_all (λ d. handlers_lead l.pages l.base d.on) l.nodes ≡ list_all (λ d. handlers_lead l.pages l.base d.on) (drop l.node-index l.nodes)
