use Rattle.std.specs.Str.{bytes_eq, str_to_ascii_lowercase}
use Rattle.std.proofs.lemmas.Slice.Eq.{bytes_eq-Decides}
use Rattle.std.proofs.lemmas.Str.{encodes-chars}
use Rattle.selectors.proofs.Bools.{bools_same}
use Rattle.interaction.proofs.finding.fits_tag.Goals as goal

pub returns : goal.returns
returns c = rw (encodes-chars c.args.tag.now c.utf8.tag, encodes-chars c.args.text.now c.utf8.text)
    (let same = bytes_eq-Decides (str_to_ascii_lowercase c.args.tag.now) (str_to_ascii_lowercase c.args.text.now) in
    let test = c.eq_ignore_ascii_case.ensures.test in
    bools_same c.eq_ignore_ascii_case.result (bytes_eq (str_to_ascii_lowercase c.args.tag.now) (str_to_ascii_lowercase c.args.text.now)) (λ t. same.1 (test.0 t)) (λ t. test.1 (same.0 t)))
