use Rattle.std.proofs.Common.{◌≡◌, Bool, true, false, ◌&&◌, List, Some, length, ap, sym, ◌∙◌, rules}
use Rattle.std.specs.Prelude.{not}
use Rattle.std.specs.BTreeSet.{contains_text}
use Rattle.std.specs.List.{list_any}
use Rattle.std.specs.Str.{bytes_eq, encode_utf8_all}
use Rattle.page_engine.specs.Books.{is_entry}
use Rattle.page_engine.specs.declared.book.BookEntry.{BookEntry}
use Rattle.page_file.proofs.Rows.{kept_if}
use Rattle.page_file.proofs.SeenTexts.{was_had, was_new, had_is, has_more}
use Rattle.page_file.specs.Scripts.{entry_of, is_next, script}
use Rattle.page_file.specs.declared.why.Why.TheVariants.{Script}
use Rattle.page_file.proofs.scripts.next_script.Goals as goal

-- whether it is the next, by whether its script was had
next_by : (es : List BookEntry) (e : BookEntry) (h : Bool) → is_entry e ≡ true → list_any (λ other. bytes_eq e.script other.script) es ≡ h → is_next es e ≡ not h
next_by es e h good had = ap (λ b. b && not (list_any (λ (other : BookEntry). bytes_eq e.script other.script) es)) good ∙ ap not had

pub returns-then-not-branch-2-clause-fault : goal.returns-then-not-branch-2-clause-fault
returns-then-not-branch-2-clause-fault c =
    let es = c.args.entries.now in
    let e = c.in-Some.entry in
    let row : c.in_ok-row.row ≡ length es = search rules in
    let spelled : entry_of c.args.value.now ≡ Some e = search rules in
    let good : is_entry e ≡ true = search rules in
    let was : c.in_ok-note.field-0 ≡ false = search rules in
    let had = was_had c.in_ok-note.field-0 (contains_text c.args.seen.now (encode_utf8_all e.script)) c.in_ok-note.ensures.new was in
    (row, kept_if (is_next es) Script (entry_of c.args.value.now) e false spelled (next_by es e true good (sym (had_is script c.args.seen.now es e c.requires c.in_ok-note.ensures.text) ∙ had)))

pub returns-clause-next : goal.returns-clause-next
returns-clause-next c =
    let es = c.args.entries.now in
    let e = c.in-Some.entry in
    let spelled : entry_of c.args.value.now ≡ Some e = search rules in
    let good : is_entry e ≡ true = search rules in
    let was : c.in_ok-note.field-0 ≡ true = search rules in
    let fresh = was_new c.in_ok-note.field-0 (contains_text c.args.seen.now (encode_utf8_all e.script)) c.in_ok-note.ensures.new was in
    kept_if (is_next es) Script (entry_of c.args.value.now) e true spelled (next_by es e false good (sym (had_is script c.args.seen.now es e c.requires c.in_ok-note.ensures.text) ∙ fresh))

pub returns-clause-seen : goal.returns-clause-seen
returns-clause-seen c = has_more script c.args.seen.now c.note.new.seen c.args.entries.now c.in-Some.entry c.requires c.in_ok-note.ensures.text c.in_ok-note.ensures.has
