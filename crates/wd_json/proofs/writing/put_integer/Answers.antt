use Rattle.std.proofs.Common.{◌≡◌, Some, ℤ, pos, negsuc, FitsSigned, w64, ap, arith, rules}
use Rattle.std.specs.Option.{option_map}
use Rattle.serde_json.specs.Data.{number}
use Rattle.serde_json.specs.Find.{of_integer}
use Rattle.serde_json.specs.Read.{number_of}
use Rattle.serde_json.specs.Written.{number_text}
use Rattle.serde_json.proofs.Numbers.{number_of-decimal, number_of-negative}
use Rattle.wd_json.proofs.writing.put_integer.Goals as goal

integer : (n : ℤ) → FitsSigned w64 n → number_of (number_text (of_integer n)) ≡ Some (of_integer n)
integer (pos n) fits = number_of-decimal n (grind arith)
integer (negsuc n) fits = number_of-negative n (grind arith)

pub returns-clause-reads : goal.returns-clause-reads
returns-clause-reads c = ap (option_map number) (integer c.args.n (search rules))
