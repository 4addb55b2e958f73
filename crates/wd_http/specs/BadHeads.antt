-- How a bad head is answered.
use Rattle.std.specs.Prelude.{ℕ, List, codes}
use Rattle.wd_http.specs.declared.request.BadHead.{BadHead}
use Rattle.wd_http.specs.declared.request.BadHead.TheVariants.{HeadLong, Head, Coding, Length, BodyLong}

-- the status of the response
abbrev pub head_status : BadHead → ℕ
head_status HeadLong = 431
head_status Head = 400
head_status Coding = 501
head_status Length = 400
head_status BodyLong = 413

-- its message
abbrev pub head_message : BadHead → List ℕ
head_message HeadLong = codes "head too long"
head_message Head = codes "bad head"
head_message Coding = codes "transfer coding"
head_message Length = codes "bad length"
head_message BodyLong = codes "body too long"
