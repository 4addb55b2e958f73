use Rattle.std.proofs.Common.{◌≡◌, Bool, false, ap, sym, ◌∙◌, List, ℕ, rules}
use Rattle.std.proofs.lemmas.List.Folds.{list_all_at}
use Rattle.std.specs.List.{list_all, list_any}
use Rattle.std.specs.Str.{bytes_eq, encode_utf8_all}
use Rattle.page_file.proofs.members.has_only.Goals as goal
use Rattle.wd_json.specs.declared.value.Json.{Json}

no_longer : (b : Bool) → b ≡ false → false ≡ b
no_longer b e = sym e

pub returns-then-not-is_one_of : goal.returns-then-not-is_one_of
returns-then-not-is_one_of c =
    let names = c.args.names.now in
    let xs = c.as_slice-member-items.result.now in
    let test = λ (m : List ℕ × Json). list_any (λ n. bytes_eq (encode_utf8_all m.0) n.now) names in
    let here : test c.member-item.result ≡ false = search rules in
    sym (ap (list_all test) (sym c.as_slice-member-items.ensures.entries) ∙ list_all_at test xs c.loop-member.member-index c.member-item.result c.loop-member-test.true (ap test (sym c.member-item.is) ∙ here))
