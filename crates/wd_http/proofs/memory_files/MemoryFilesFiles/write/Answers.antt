use Rattle.wd_http.proofs.FilesLemmas.{sets_added}
use Rattle.wd_http.proofs.memory_files.MemoryFilesFiles.write.Goals as goal

pub returns-clause-told : goal.returns-clause-told
returns-clause-told c = rw (c.in_ok-push.ensures.ok, ← c.self.view_is, c.in_ok-bytes.ensures, c.as_slice.ensures) (sets_added _ _ _ _ c.in_ok-name.ensures.bytes)
