use Rattle.std.proofs.Common.{◌≡◌, All, length, map}
use Rattle.httparse.specs.Spans.{header_bytes, IsHeaderWithin}
use Rattle.wd_http.specs.Headers.{values_of}
use Rattle.wd_http.proofs.headers.find_header.Given as goal

abbrev pub invariant-loop-headers : goal.invariant-loop-headers
invariant-loop-headers l = record {
  values : values_of l.name (map (header_bytes l.block) l.fn.headers) ≡ values_of l.name (map (header_bytes l.block) l.headers);
  within : All (IsHeaderWithin (length l.block)) l.headers;
}

abbrev pub decreases-loop-headers : goal.decreases-loop-headers
decreases-loop-headers l = length l.headers
