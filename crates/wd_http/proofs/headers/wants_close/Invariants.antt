use Rattle.std.proofs.Common.{◌≡◌, drop, map}
use Rattle.std.specs.Prelude.{codes}
use Rattle.std.specs.List.{list_any}
use Rattle.httparse.specs.Spans.{header_bytes}
use Rattle.wd_http.specs.Headers.{has_word, values_of}
use Rattle.wd_http.proofs.headers.wants_close.Given as goal

-- whether one has the word is left to the headers that are left
abbrev pub invariant-loop-header : goal.invariant-loop-header
invariant-loop-header l =
    list_any (has_word (codes "close")) (values_of (codes "Connection") (map (header_bytes l.block) l.headers))
    ≡ list_any (has_word (codes "close")) (values_of (codes "Connection") (map (header_bytes l.block) (drop l.header-index l.headers)))
