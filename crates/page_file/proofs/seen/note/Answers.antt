use Rattle.std.proofs.Common.{◌≡◌, ℕ, ◌||◌, Bool, true, false, cond, List, refl, ap, ◌∙◌, string_bytes, rules}
use Rattle.std.proofs.lemmas.Map.Text.{btree_set_updates_text}
use Rattle.std.specs.BTreeSet.{contains_text}
use Rattle.std.specs.Str.{bytes_eq, encode_utf8_all}
use Rattle.page_file.proofs.seen.note.Goals as goal

either : (a b : Bool) → cond a true b ≡ (a || b)
either true b = refl
either false b = refl

pub returns-clause-has : goal.returns-clause-has
returns-clause-has c = λ cs.
    let bytes = string_bytes c.in_ok-key.key in
    let key : bytes ≡ encode_utf8_all c.args.text.now = search rules in
    btree_set_updates_text bytes c.args.seen.now c.insert.new.self _ c.in_ok-insert.ensures.updates cs
    ∙ either (bytes_eq bytes cs) (contains_text c.args.seen.now cs)
    ∙ ap (λ (bs : List ℕ). bytes_eq bs cs || contains_text c.args.seen.now cs) key
