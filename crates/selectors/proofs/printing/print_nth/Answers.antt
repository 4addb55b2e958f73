use Rattle.std.proofs.Common.{◌≡◌, ◌++◌, codes, rules}
use Rattle.selectors.specs.Printing.{printed_step}
use Rattle.selectors.proofs.OnOks.{on_ok_map}
use Rattle.selectors.proofs.PrintLoops.{three_added}
use Rattle.selectors.proofs.printing.print_nth.Goals as goal

pub returns : goal.returns
returns c =
    let form : c.print_step.new.out ≡ c.push_text.new.out ++ printed_step c.args.a c.args.b = search rules in
    on_ok_map c.push_text-2.result _ _ (λ e. three_added c.args.out.now (codes ":nth-child(") (printed_step c.args.a c.args.b) (codes ")") c.push_text.new.out c.print_step.new.out c.push_text-2.new.out c.in_ok-push_text.ensures form e) c.push_text-2.ensures
