use Rattle.std.proofs.Common.{rules, ◌≡◌, ℕ, List, Option, None, Some, Ok, ap, ◌∙◌}
use Rattle.std.specs.Option.{option_and_then}
use Rattle.url.specs.Parts.{Parts, serialize}
use Rattle.url.specs.Parser.{parse_url, Parsed}
use Rattle.page_engine.specs.BuiltIn.{built_in_address}
use Rattle.page_engine.specs.Links.{parsed}
use Rattle.page_engine.specs.Sites.{IsAddress, address_when, own_address, address_named}
use Rattle.page_engine.proofs.LawfulPages.{always}
use Rattle.page_engine.proofs.built_in.own_address.Goals as goal

pub returns-then-is_none-clause-address : goal.returns-then-is_none-clause-address
returns-then-is_none-clause-address c =
    let parses : parse_url None built_in_address ≡ Ok c.in-Ok.url = c.in-Ok.ensures in
    let serialised : serialize c.in-Ok.url ≡ built_in_address = search rules in
    let no_fragment : c.in-Ok.url.fragment ≡ None = search rules in
    let named : address_named built_in_address ≡ Some built_in_address =
    ap (λ (r : Parsed Parts). option_and_then own_address (parsed r)) parses
    ∙ ap (λ (fragment : Option (List ℕ)). address_when fragment (serialize c.in-Ok.url)) no_fragment
    ∙ ap (λ (text : List ℕ). address_when None text) serialised
    in
    always c.ascii.result (IsAddress built_in_address) (built_in_address, named)
