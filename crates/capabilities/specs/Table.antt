-- The table of capabilities: for each name which values are valid, which of them this end matches, and what it answers.
use Rattle.std.specs.Prelude.{ℕ, ◌==◌, ◌||◌, List, [], ◌∷◌, Bool, true, false, Option, is_some, codes}
use Rattle.std.specs.List.{find, list_any}
use Rattle.std.specs.Option.{option_map_or, unwrap_or}
use Rattle.std.specs.Str.{encode_utf8_all}
use Rattle.capabilities.specs.Values.{Member, Members, same_text, text_of, bool_of, object_of, value_of, text_passes}
use Rattle.capabilities.specs.Strategy.{strategy_of, strategy_text}
use Rattle.capabilities.specs.Behaviour.{behaviour_of, behaviour_text}
use Rattle.capabilities.specs.Timeouts.{timeouts_of, timeouts_object}
use Rattle.capabilities.specs.declared.capability.Capability.{Capability}
use Rattle.capabilities.specs.declared.capability.Capability.TheVariants.{AcceptInsecureCerts, BrowserName, BrowserVersion, PageLoadStrategy, PlatformName, Proxy, SetWindowRect, StrictFileInteractability, Timeouts, UnhandledPromptBehavior}
use Rattle.capabilities.specs.declared.matched.Matched.{Matched}
use Rattle.wd_json.specs.declared.value.Json.{Json}
use Rattle.wd_json.specs.declared.value.Json.TheVariants as json

-- the columns; what is matched and what is answered may depend on the name that this end offers
pub record Row : Type 0 where
  pub name : List ℕ
  pub is_valid : Json → Bool
  pub matches : List ℕ → Json → Bool
  pub echoed : List ℕ → Matched → Json

abbrev pub is_text : Json → Bool
is_text v = is_some (text_of v)

abbrev pub is_bool : Json → Bool
is_bool v = is_some (bool_of v)

abbrev pub is_this : List ℕ → Json → Bool
is_this text v = text_passes (λ t. same_text t text) v

abbrev pub is_proxy_type : List ℕ → Bool
is_proxy_type t = same_text t (codes "pac") || same_text t (codes "direct") || same_text t (codes "autodetect") || same_text t (codes "system") || same_text t (codes "manual")

-- `proxyType`, if it is there, is one of five texts
abbrev pub has_proxy_type : Members → Bool
has_proxy_type ms = option_map_or (text_passes is_proxy_type) (value_of (codes "proxyType") ms) true

abbrev pub is_proxy : Json → Bool
is_proxy v = option_map_or has_proxy_type (object_of v) false

abbrev pub always : List ℕ → Json → Bool
always offered v = true

abbrev pub row_of : Capability → Row
row_of AcceptInsecureCerts = record { name = codes "acceptInsecureCerts"; is_valid = is_bool; matches = always; echoed = λ offered m. json.Bool m.insecure }
row_of BrowserName = record { name = codes "browserName"; is_valid = is_text; matches = λ offered v. is_this (encode_utf8_all offered) v; echoed = λ offered m. json.Text offered }
row_of BrowserVersion = record { name = codes "browserVersion"; is_valid = is_text; matches = λ offered v. is_this (codes "1.0") v; echoed = λ offered m. json.Text (codes "1.0") }
row_of PageLoadStrategy = record { name = codes "pageLoadStrategy"; is_valid = λ v. is_some (strategy_of v); matches = always; echoed = λ offered m. json.Text (strategy_text m.strategy) }
row_of PlatformName = record { name = codes "platformName"; is_valid = is_text; matches = λ offered v. is_this (codes "linux") v; echoed = λ offered m. json.Text (codes "linux") }
row_of Proxy = record { name = codes "proxy"; is_valid = is_proxy; matches = always; echoed = λ offered m. m.proxy }
row_of SetWindowRect = record { name = codes "setWindowRect"; is_valid = is_bool; matches = λ offered v. unwrap_or (bool_of v) false; echoed = λ offered m. json.Bool true }
row_of StrictFileInteractability = record { name = codes "strictFileInteractability"; is_valid = is_bool; matches = always; echoed = λ offered m. json.Bool m.strict }
row_of Timeouts = record { name = codes "timeouts"; is_valid = λ v. is_some (timeouts_of v); matches = always; echoed = λ offered m. timeouts_object m.timeouts }
row_of UnhandledPromptBehavior = record { name = codes "unhandledPromptBehavior"; is_valid = λ v. is_some (behaviour_of v); matches = always; echoed = λ offered m. json.Text (behaviour_text m.behaviour) }

-- in the order of the names' bytes
abbrev pub all_capabilities : List Capability
all_capabilities = AcceptInsecureCerts ∷ BrowserName ∷ BrowserVersion ∷ PageLoadStrategy ∷ PlatformName ∷ Proxy ∷ SetWindowRect ∷ StrictFileInteractability ∷ Timeouts ∷ UnhandledPromptBehavior ∷ []

-- the row with this name
unfoldable pub capability_with : List ℕ → Option Capability
capability_with name = find (λ c. same_text (row_of c).name name) all_capabilities

-- a name with a colon is another vendor's
abbrev pub has_colon : List ℕ → Bool
has_colon name = list_any (λ b. b == 58) name

-- a name of the table has the values of its row, a name with a colon any value, and no other name any
unfoldable pub is_valid : Member → Bool
is_valid m = option_map_or (λ c. (row_of c).is_valid m.1) (capability_with (encode_utf8_all m.0)) (has_colon (encode_utf8_all m.0))

-- what no row speaks of is matched
unfoldable pub is_match : List ℕ → Member → Bool
is_match offered m = option_map_or (λ c. (row_of c).matches offered m.1) (capability_with (encode_utf8_all m.0)) true
