use Rattle.std.proofs.Common.{rules, ◌≡◌, Some, refl, ◌∙◌}
use Rattle.page_file.specs.Listings.{entry_of, IsPlain}
use Rattle.page_file.specs.declared.listing.Entry.{Entry}
use Rattle.page_file.proofs.EntrySteps.{known_entry, new_entry, index_more}
use Rattle.page_file.proofs.entries.next_entry.Goals as goal

pub returns-then-not-branch-clause-fault : goal.returns-then-not-branch-clause-fault
returns-then-not-branch-clause-fault c =
    let e : Entry = c.in-Some.entry in
    let spelled : entry_of c.args.value.now ≡ Some e = search rules in
    let plain : IsPlain e.address = search rules in
    (refl, known_entry c.args.places.now c.args.entries.now e c.args.value.now c.as_str.result.now c.requires.index spelled (c.as_str.ensures.bytes ∙ plain) (search rules))

pub returns-clause-next : goal.returns-clause-next
returns-clause-next c =
    let e : Entry = c.in-Some.entry in
    let spelled : entry_of c.args.value.now ≡ Some e = search rules in
    let plain : IsPlain e.address = search rules in
    new_entry c.args.places.now c.args.entries.now e c.args.value.now c.as_str.result.now c.requires.index spelled (c.as_str.ensures.bytes ∙ plain) (search rules)

pub returns-clause-index : goal.returns-clause-index
returns-clause-index c =
    let e : Entry = c.in-Some.entry in
    let plain : IsPlain e.address = search rules in
    index_more c.args.places.now c.add.new.places c.args.entries.now e c.requires.index (search rules) (search rules)
