use Rattle.std.proofs.Common.{◌≡◌, length}
use Rattle.percent_encoding.specs.Iter.{decoded_bytes}
use Rattle.percent_encoding.specs.Percent.{percent_decode}
use Rattle.endpoints.specs.Path.{same_text}
use Rattle.endpoints.proofs.segments.is_spelled.Given as goal

-- what is left is the same exactly where the whole is
abbrev pub invariant-loop-first : goal.invariant-loop-first
invariant-loop-first l =
    same_text (decoded_bytes l.bytes) l.rest ≡ same_text (percent_decode l.fn.segment) l.fn.text

abbrev pub decreases-loop-first : goal.decreases-loop-first
decreases-loop-first l = length l.rest
