use Rattle.selectors.proofs.PrintedSteps.{step_reads}
use Rattle.selectors.proofs.printed_steps.print_step.Goals as goal

pub returns-in_err-push_factor-clause-reads : goal.returns-in_err-push_factor-clause-reads
returns-in_err-push_factor-clause-reads c = step_reads c.args.a c.args.b c.requires.a c.requires.b

pub returns-in_err-push-clause-reads : goal.returns-in_err-push-clause-reads
returns-in_err-push-clause-reads c = step_reads c.args.a c.args.b c.requires.a c.requires.b

pub returns-clause-reads : goal.returns-clause-reads
returns-clause-reads c = step_reads c.args.a c.args.b c.requires.a c.requires.b
