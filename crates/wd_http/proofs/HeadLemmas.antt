-- What the parser answers on a whole head block.
use Rattle.std.proofs.Common.{◌≡◌, ◌≤◌, ◌<◌, ℕ, List, [], Ok, true, map, take, drop, length, refl, sym, ap, subst, ◌∙◌, arith, IsUtf8, length-take}
use Rattle.std.specs.Str.{chars}
use Rattle.std.proofs.lemmas.List.{length-map, drop_all}
use Rattle.std.proofs.lemmas.List.Elements.{All-weaker}
use Rattle.std.proofs.lemmas.Str.{IsUtf8-from_ascii}
use Rattle.std.proofs.lemmas.Str.Ascii.{IsAscii-from_all}
use Rattle.std.proofs.lemmas.Bool.Decides.{nat_tests}
use Rattle.httparse.specs.Grammar.{RequestHead, ReadsRequest, IsToken, is_token_byte}
use Rattle.httparse.specs.Spans.{IsRequestAt, header_bytes, span_bytes, name_and_value}
use Rattle.httparse.specs.declared.spans.HeaderSpan.{HeaderSpan}
use Rattle.httparse.specs.declared.spans.RequestSpans.{RequestSpans}
use Rattle.wd_http.specs.declared.request.Request.{Request}
use Rattle.wd_http.specs.Headers.{body_length, wants_close}
use Rattle.wd_http.specs.HeadIs.{IsHeadOf}

token_is_ascii : (b : ℕ) → is_token_byte b ≡ true → b < 128
unfolding is_token_byte
token_is_ascii b token = grind (arith, nat_tests)

-- a token is text
pub token_text : (m : List ℕ) → IsToken m → IsUtf8 m
token_text m h = IsUtf8-from_ascii _ (IsAscii-from_all _ (All-weaker (λ b. is_token_byte b ≡ true) (λ b. b < 128) token_is_ascii _ h.1))

pub head_good : (block : List ℕ) (headers : List HeaderSpan) (spans : RequestSpans) (h : RequestHead) (n : ℕ) (r : Request)
    → IsRequestAt block headers spans h → spans.len ≡ length block → spans.headers ≤ length headers → length headers ≤ 64
    → body_length (map (header_bytes block) (take spans.headers headers)) ≡ Ok n
    → r ≡ record { method = chars (span_bytes block spans.method); target = chars (span_bytes block spans.path); close = wants_close spans.version (map (header_bytes block) (take spans.headers headers)); body = [] } → IsHeadOf block r n
head_good block headers spans h n r at whole fits room len is =
    let none : drop spans.len block ≡ [] = rw whole (drop_all (length block) block (omega arith)) in
    let P : List ℕ → Type 0 = λ rest. ReadsRequest block h rest in
    let count : length (take spans.headers headers) ≡ length h.fields =
    sym (length-map (take spans.headers headers) (header_bytes block)) ∙ (ap length at.fields ∙ length-map h.fields name_and_value) in
    (h, (subst P none at.reads, omega (arith, count, length-take spans.headers headers)), ap body_length (sym at.fields) ∙ len, is ∙ rw (at.method, at.path, at.version, at.fields) refl)
