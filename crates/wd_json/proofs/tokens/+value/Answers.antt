use Rattle.std.proofs.Common.{◌≡◌, ◌-◌, ◌<◌, [], ◌∷◌, ◌++◌, length, true, Some, None, w64, sym, ap, ◌∙◌, subst, arith, rules}
use mir.Val.{to_z, of_z}
use Rattle.std.specs.Str.{encode_utf8_all}
use Rattle.json.specs.Token.{Token}
use Rattle.json.specs.Json.{parse_map, after_end_array, read_key, items, members, value}
use Rattle.json.proofs.Grammar.{value_is, read_key-shorter}
use Rattle.serde_json.specs.Data.{string, number}
use Rattle.serde_json.specs.Find.{of_integer}
use Rattle.serde_json.specs.Read.{of_json, of_items, of_members, converted}
use Rattle.wd_json.specs.Json.{data_of, items_data, members_data}
use Rattle.wd_json.specs.Whole.{members_are_whole}
use Rattle.wd_json.specs.declared.value.Json.TheVariants as json
use Rattle.wd_json.proofs.Shapes.{data_of-Null, data_of-Bool, data_of-Int, data_of-Text, data_of-List, data_of-Object}
use Rattle.wd_json.proofs.Turns.{before, of_list, of_object, next_item, last_item, items_whole, next_member, last_member, put_whole}
use Rattle.wd_json.proofs.tokens.+value.Goals as goal

pub value-returns-in-Null-clause-reads : goal.value-returns-in-Null-clause-reads
value-returns-in-Null-clause-reads t c =
    let is : c.args.reader.now ≡ Token.null ∷ c.next.new.self = grind arith in
    ap (converted of_json) (ap (value c.args.depth) is ∙ value_is c.args.depth _) ∙ ap (λ d. Some (d, c.next.new.self)) (sym data_of-Null)

pub value-returns-in-Bool-clause-reads : goal.value-returns-in-Bool-clause-reads
value-returns-in-Bool-clause-reads t c =
    let is : c.args.reader.now ≡ Token.boolean c.in-Bool.b ∷ c.next.new.self = grind arith in
    ap (converted of_json) (ap (value c.args.depth) is ∙ value_is c.args.depth _) ∙ ap (λ d. Some (d, c.next.new.self)) (sym (data_of-Bool c.in-Bool.b))

pub value-returns-in_ok-integer-in-Number-clause-reads : goal.value-returns-in_ok-integer-in-Number-clause-reads
value-returns-in_ok-integer-in-Number-clause-reads t c =
    let n = c.in_ok-integer-in-Number.field-0 in
    let seen : data_of (json.Int (to_z w64 (of_z w64 n))) ≡ number (of_integer n) = search (rules, data_of-Int) in
    let is : c.args.reader.now ≡ Token.number c.in-Number.text.now ∷ c.next.new.self = grind arith in
    ap (converted of_json) (ap (value c.args.depth) is ∙ value_is c.args.depth _) ∙ rw c.in_ok-integer-in-Number.ensures.same (ap (λ d. Some (d, c.next.new.self)) (sym seen))

pub value-returns-in_ok-ok-in-String-clause-reads : goal.value-returns-in_ok-ok-in-String-clause-reads
value-returns-in_ok-ok-in-String-clause-reads t c =
    let is : c.args.reader.now ≡ Token.string c.in-String.text.now ∷ c.next.new.self = grind arith in
    let copied : encode_utf8_all c.in_ok-ok-in-String.field-0 ≡ c.in-String.text.now = search rules in
    ap (converted of_json) (ap (value c.args.depth) is ∙ value_is c.args.depth _) ∙ ap (λ bytes. Some (string bytes, c.next.new.self)) (sym copied) ∙ ap (λ d. Some (d, c.next.new.self)) (sym (data_of-Text _))

pub value-returns-in_ok-items-in-BeginArray-clause-reads : goal.value-returns-in_ok-items-in-BeginArray-clause-reads
value-returns-in_ok-items-in-BeginArray-clause-reads t c =
    let found = c.in_ok-items-in-BeginArray in
    of_list c.args.depth c.args.reader.now c.items.new.reader c.next.new.self (items_data found.field-0) (omega arith) (grind arith) found.ensures.reads
    ∙ ap (λ d. Some (d, c.items.new.reader)) (sym (data_of-List found.field-0))

pub value-returns-in_ok-members-in-BeginObject-clause-reads : goal.value-returns-in_ok-members-in-BeginObject-clause-reads
value-returns-in_ok-members-in-BeginObject-clause-reads t c =
    let found = c.in_ok-members-in-BeginObject in
    of_object c.args.depth c.args.reader.now c.members.new.reader c.next.new.self (members_data found.field-0) (omega arith) (grind arith) found.ensures.reads
    ∙ ap (λ d. Some (d, c.members.new.reader)) (sym (data_of-Object found.field-0))

pub items-items-preserved : goal.items-items-preserved
items-items-preserved t c =
    let turn = c.items in
    let steps = turn.invariant.steps in
    let item = c.in_ok-item.item in
    let rest = c.value.new.reader in
    let going : (after_end_array turn.reader ≡ None) × (c.take_end_array.new.self ≡ turn.reader) = grind arith in
    let less : length rest < length turn.reader = rw (← going.1) c.in_ok-item.ensures.shorter in
    let pushed : c.push.new.self.items ≡ turn.list.items ++ item ∷ [] = search rules in
    record {
      steps = steps - 1;
      enough = omega (arith, turn.invariant.enough);
      same = turn.invariant.same ∙ next_item c.args.depth steps turn.list.items item turn.reader rest (omega (arith, turn.invariant.enough)) going.0 (rw (← going.1) c.in_ok-item.ensures.reads)
          ∙ ap (λ js. parse_map (before js) (converted of_items (items (value c.args.depth) (steps - 1) rest))) (sym pushed);
      whole = rw pushed (items_whole turn.list.items item turn.invariant.whole c.in_ok-item.ensures.whole);
      less = omega (arith, turn.invariant.less);
    }

pub items-returns-clause-reads : goal.items-returns-clause-reads
items-returns-clause-reads t c =
    let turn = c.items in
    let rest = c.take_end_array.new.self in
    let kept : c.from_vec.result ≡ turn.list.items = search rules in
    turn.invariant.same ∙ last_item c.args.depth turn.invariant.steps turn.list.items turn.reader rest turn.invariant.enough (grind arith) ∙ ap (λ js. Some (items_data js, rest)) (sym kept)

pub members-members-preserved : goal.members-members-preserved
members-members-preserved t c =
    let turn = c.members in
    let steps = turn.invariant.steps in
    let k = c.in_ok-key.key in
    let s = c.next_key.new.self in
    let rest = c.value.new.reader in
    let member = c.in_ok-member.member in
    let copied : encode_utf8_all k ≡ c.in-Some.name.now = search rules in
    let key : read_key turn.reader ≡ Some (Some (encode_utf8_all k), s) = grind (arith, copied) in
    let less = read_key-shorter turn.reader (Some (encode_utf8_all k)) s key in
    let lesser = c.in_ok-member.ensures.shorter in
    record {
      steps = steps - 1;
      enough = omega (arith, turn.invariant.enough);
      same = turn.invariant.same ∙ next_member c.args.depth steps turn.map k member turn.reader s rest (omega (arith, turn.invariant.enough)) key c.in_ok-member.ensures.reads
          ∙ ap (λ es. converted (λ ms. of_members ms (members_data es)) (members (value c.args.depth) (steps - 1) rest)) (search rules);
      whole = subst (λ es. members_are_whole (members_data es) ≡ true) (search rules) (put_whole k member turn.map turn.invariant.whole c.in_ok-member.ensures.whole);
      less = omega (arith, turn.invariant.less);
    }

pub members-returns-clause-reads : goal.members-returns-clause-reads
members-returns-clause-reads t c =
    let turn = c.members in
    let rest = c.next_key.new.self in
    turn.invariant.same ∙ last_member c.args.depth turn.invariant.steps (members_data turn.map) turn.reader rest turn.invariant.enough (grind arith) ∙ ap (λ es. Some (members_data es, rest)) (search rules)
