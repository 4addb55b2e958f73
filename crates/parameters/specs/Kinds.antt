-- The kinds of parameters: which values of a member each takes, and what it answers to others.
use Rattle.std.specs.Prelude.{ℕ, ◌^◌, pos, negsuc, int_lt, nat_lt, ◌&&◌, ◌||◌, List, Bool, true, false, Option, Some, None, is_some, codes, if◌then◌else◌}
use Rattle.std.specs.Option.{option_map_or}
use Rattle.std.specs.Result.{is_ok}
use Rattle.url.specs.Parser.{parse_url}
use Rattle.capabilities.specs.Values.{Members, same_text, text_of, list_of}
use Rattle.capabilities.specs.Timeouts.{span_of}
use Rattle.parameters.specs.declared.kind.Kind.{Kind}
use Rattle.parameters.specs.declared.kind.Kind.TheVariants as kind
use Rattle.wd_errors.specs.declared.code.Code.{Code}
use Rattle.wd_errors.specs.declared.code.Code.TheVariants.{InvalidArgument, UnsupportedOperation}
use Rattle.references.specs.Keys.{element_key}
use Rattle.wd_json.specs.Keys.{get}
use Rattle.wd_json.specs.declared.value.Json.{Json, out-Json}
use Rattle.wd_json.specs.declared.value.Json.TheOpen.{Json-F}

abbrev pub invalid_unless : Bool → Option Code
invalid_unless true = None
invalid_unless false = Some InvalidArgument

abbrev pub is_text : Json → Bool
is_text v = is_some (text_of v)

abbrev pub is_list : Json → Bool
is_list v = is_some (list_of v)

-- the ways to find elements
abbrev pub is_strategy : List ℕ → Bool
is_strategy t = same_text t (codes "css selector") || same_text t (codes "link text") || same_text t (codes "partial link text") || same_text t (codes "tag name")

abbrev pub strategy_refusal : List ℕ → Option Code
strategy_refusal t = if same_text t (codes "xpath") then Some UnsupportedOperation else invalid_unless (is_strategy t)

-- one of four ways; a fifth isn't supported
abbrev pub using_refusal : Json → Option Code
using_refusal v = option_map_or strategy_refusal (text_of v) (Some InvalidArgument)

-- the URL Standard's parser gives an address for the text, alone
abbrev pub is_address_text : List ℕ → Bool
is_address_text t = is_ok (parse_url None t)

abbrev pub is_address : Json → Bool
is_address v = option_map_or is_address_text (text_of v) false

-- a text stands at the element key
abbrev pub is_reference : Members → Bool
is_reference ms = option_map_or is_text (get element_key ms) false

abbrev frame_in : Json-F Json → Bool
frame_in Json-F.Null = true
frame_in (Json-F.Int (pos n)) = nat_lt n 65536
frame_in (Json-F.Object ms) = is_reference ms
frame_in v = false

-- null, 0 to 65535, or a reference to an element
abbrev pub is_frame : Json → Bool
is_frame v = frame_in (out-Json v)

abbrev place_in : {A : Type 0} → Json-F A → Bool
place_in Json-F.Null = true
place_in (Json-F.Int z) = int_lt (negsuc (2 ^ 31)) z && int_lt z (pos (2 ^ 31))
place_in v = false

-- null, or -2^31 to 2^31 - 1
abbrev pub is_place : Json → Bool
is_place v = place_in (out-Json v)

abbrev size_in : {A : Type 0} → Json-F A → Bool
size_in Json-F.Null = true
size_in (Json-F.Int (pos n)) = nat_lt n (2 ^ 31)
size_in v = false

-- null, or 0 to 2^31 - 1
abbrev pub is_size : Json → Bool
is_size v = size_in (out-Json v)

-- 0 to 2^53 - 1
abbrev pub is_span : Json → Bool
is_span v = is_some (span_of v)

-- what is answered to a value of the member, if it is refused
abbrev pub refusal_of : Kind → Json → Option Code
refusal_of kind.Text v = invalid_unless (is_text v)
refusal_of kind.Using v = using_refusal v
refusal_of kind.List v = invalid_unless (is_list v)
refusal_of kind.Address v = invalid_unless (is_address v)
refusal_of kind.Frame v = invalid_unless (is_frame v)
refusal_of kind.Place v = invalid_unless (is_place v)
refusal_of kind.Size v = invalid_unless (is_size v)
refusal_of kind.Span v = invalid_unless (is_span v)

-- whether the member may be absent
abbrev pub may_lack : Kind → Bool
may_lack kind.Place = true
may_lack kind.Size = true
may_lack kind.Span = true
may_lack k = false

-- what is answered to the member, there or absent
abbrev pub refusal_at : Kind → Option Json → Option Code
refusal_at k (Some v) = refusal_of k v
refusal_at k None = invalid_unless (may_lack k)
