-- Why a value gives no list of effects.
use Rattle.std.specs.Prelude.{◌≡◌, None}
use Rattle.page_file.specs.Spelled.{effects_in}
use Rattle.page_file.specs.declared.fault.EffectFault.{EffectFault}
use Rattle.page_file.specs.declared.fault.EffectFault.TheVariants.{Form, Memory}
use Rattle.wd_json.specs.declared.value.Json.{Json}

-- it spells none, or there was no memory
abbrev pub IsCause : Json → EffectFault → Type 0
IsCause value Form = effects_in value ≡ None
IsCause value Memory = Unit {0}
