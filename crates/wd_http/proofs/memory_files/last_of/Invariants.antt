use Rattle.std.proofs.Common.{◌≡◌, take}
use Rattle.std.specs.Option.{option_copied}
use Rattle.wd_http.specs.Files.{file_at}
use Rattle.wd_http.proofs.memory_files.last_of.Given as goal

abbrev pub invariant-loop-file : goal.invariant-loop-file
invariant-loop-file l = option_copied l.found ≡ file_at l.name (take l.file-index l.files)
