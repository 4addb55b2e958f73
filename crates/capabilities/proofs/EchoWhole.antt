-- The numbers of what a session is answered with are whole.
use Rattle.std.proofs.Common.{◌≡◌, ℕ, ◌<◌, ◌^◌, List, [], ◌∷◌, map, pos, codes, true, nat_lt, refl, ap, ◌∙◌, arith, tests}
use Rattle.wd_json.specs.Json.{data_of, members_data}
use Rattle.wd_json.specs.Whole.{is_whole, members_are_whole}
use Rattle.wd_json.specs.declared.value.Json.TheVariants as json
use Rattle.wd_json.proofs.Shapes.{data_of-Bool, data_of-Int, data_of-Text, data_of-Object}
use Rattle.capabilities.specs.Values.{Member, Members}
use Rattle.capabilities.specs.Strategy.{strategy_text}
use Rattle.capabilities.specs.Behaviour.{behaviour_text}
use Rattle.capabilities.specs.Timeouts.{AreInRange, timeouts_object}
use Rattle.capabilities.specs.Table.{all_capabilities}
use Rattle.capabilities.specs.Echo.{echoed, echoed_at}
use Rattle.capabilities.specs.declared.capability.Capability.{Capability}
use Rattle.capabilities.specs.declared.capability.Capability.TheVariants.{AcceptInsecureCerts, BrowserName, BrowserVersion, PageLoadStrategy, PlatformName, Proxy, SetWindowRect, StrictFileInteractability, Timeouts, UnhandledPromptBehavior}
use Rattle.capabilities.specs.declared.matched.Matched.{Matched}
use Rattle.capabilities.specs.declared.timeouts.Timeouts.{Timeouts as Spans}
use Rattle.capabilities.proofs.Whole.{Whole, AreWhole, both}

object-whole : (ms : Members) → AreWhole ms → Whole (json.Object ms)
object-whole ms h = ap is_whole (data_of-Object ms) ∙ h

number-whole : (n : ℕ) → n < 2 ^ 53 → Whole (json.Int (pos n))
number-whole n h =
    let below : nat_lt n (2 ^ 53) ≡ true = grind (arith, tests) in
    ap is_whole (data_of-Int (pos n)) ∙ below

more-whole : (m : Member) (ms : Members) → Whole m.1 → AreWhole ms → AreWhole (m ∷ ms)
more-whole m ms h k = both (is_whole (data_of m.1)) (members_are_whole (members_data ms)) h k

pub timeouts_object-whole : (t : Spans) → AreInRange t → Whole (timeouts_object t)
timeouts_object-whole t h =
    let i : Member = (codes "implicit", json.Int (pos t.implicit)) in
    let p : Member = (codes "pageLoad", json.Int (pos t.page_load)) in
    let s : Member = (codes "script", json.Int (pos t.script)) in
    object-whole (i ∷ p ∷ s ∷ []) (more-whole i (p ∷ s ∷ []) (number-whole t.implicit h.implicit) (more-whole p (s ∷ []) (number-whole t.page_load h.page_load) (more-whole s [] (number-whole t.script h.script) refl)))

mapped-whole : (f : Capability → Member) (cs : List Capability) → ((c : Capability) → Whole (f c).1) → AreWhole (map f cs)
mapped-whole f [] h = refl
mapped-whole f (c ∷ cs) h = more-whole (f c) (map f cs) (h c) (mapped-whole f cs h)

text-whole : (t : List ℕ) → Whole (json.Text t)
text-whole t = ap is_whole (data_of-Text t)

row-whole : (offered : List ℕ) (m : Matched) → AreInRange m.timeouts → Whole m.proxy → (c : Capability) → Whole (echoed_at offered m c).1
row-whole offered m h p AcceptInsecureCerts = ap is_whole (data_of-Bool m.insecure)
row-whole offered m h p BrowserName = text-whole offered
row-whole offered m h p BrowserVersion = text-whole (codes "1.0")
row-whole offered m h p PageLoadStrategy = text-whole (strategy_text m.strategy)
row-whole offered m h p PlatformName = text-whole (codes "linux")
row-whole offered m h p Proxy = p
row-whole offered m h p SetWindowRect = ap is_whole (data_of-Bool true)
row-whole offered m h p StrictFileInteractability = ap is_whole (data_of-Bool m.strict)
row-whole offered m h p Timeouts = timeouts_object-whole m.timeouts h
row-whole offered m h p UnhandledPromptBehavior = text-whole (behaviour_text m.behaviour)

pub echoed-whole : (offered : List ℕ) (m : Matched) → AreInRange m.timeouts → Whole m.proxy → Whole (json.Object (echoed offered m))
echoed-whole offered m h p = object-whole (echoed offered m) (mapped-whole (echoed_at offered m) all_capabilities (row-whole offered m h p))
