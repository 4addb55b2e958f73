-- The text of each fault of a site.
use Rattle.std.specs.Prelude.{ℕ, List, ◌++◌, codes, decimal}
use Rattle.std.specs.Str.{encode_utf8_all}
use Rattle.page_file.specs.declared.site_fault.SiteFault.{SiteFault}
use Rattle.page_file.specs.declared.site_fault.SiteFault.TheVariants.{Read, TooLong, Bad, Links, Memory}
use Rattle.page_file.specs.declared.why.Why.{Why}
use Rattle.page_file.specs.declared.why.Why.TheVariants as why

abbrev pub why_text : Why → List ℕ
why_text why.Json = codes "json"
why_text why.Shape = codes "shape"
why_text why.Address = codes "address"
why_text why.Node = codes "node"
why_text why.Depth = codes "depth"
why_text why.Nodes = codes "nodes"
why_text why.Effect = codes "effect"
why_text why.Timer = codes "timer"
why_text why.Script = codes "script"
why_text why.Weight = codes "weight"

abbrev pub fault_text : SiteFault → List ℕ
fault_text (Read name) = codes "file fault"
fault_text (TooLong name) = encode_utf8_all name ++ codes ": too long"
fault_text (Bad name row why) = encode_utf8_all name ++ (codes ": row " ++ (decimal row ++ (codes ": " ++ why_text why)))
fault_text (Links name) = encode_utf8_all name ++ codes ": links"
fault_text Memory = codes "out of memory"
