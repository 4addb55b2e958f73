-- What a segment of a path stands for.
use Rattle.std.specs.Prelude.{ℕ, List}
use Rattle.percent_encoding.specs.Percent.{percent_decode}

-- its bytes, percent-decoded
abbrev pub decoded : List ℕ → List ℕ
decoded segment = percent_decode segment
