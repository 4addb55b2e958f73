use Rattle.std.proofs.Common.{◌≡◌, map, take}
use Rattle.std.specs.Str.{chars}
use Rattle.timed.proofs.named_files.listed.Given as goal

abbrev pub invariant-loop-file : goal.invariant-loop-file
invariant-loop-file l = l.list ≡ map (λ file. (chars file.0.now, file.1.now)) (take l.file-index l.files)
