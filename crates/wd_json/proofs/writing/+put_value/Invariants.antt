use Rattle.std.proofs.Common.{◌≡◌, ◌++◌, Some, take, drop}
use Rattle.json.specs.Tree.{items_tokens, members_tokens}
use Rattle.serde_json.specs.Data.{no_members}
use Rattle.serde_json.specs.Read.{of_items, of_members}
use Rattle.serde_json.specs.Written.{items_outline, members_outline}
use Rattle.wd_json.specs.Json.{items_data, members_data}
use Rattle.wd_json.specs.Keys.{items_rise, members_rise}
use Rattle.wd_json.proofs.writing.+put_value.Given as goal

-- what was written and the tokens of what is left are the whole
abbrev pub invariant-put_items-loop-item : goal.invariant-put_items-loop-item
invariant-put_items-loop-item l = record {
  before : l.out.before ≡ l.initial.out.before;
  tokens : l.out.tokens ++ items_tokens (items_outline (items_data (drop l.item-index l.item-items)))
      ≡ l.initial.out.tokens ++ items_tokens (items_outline (items_data l.item-items));
  reads : of_items (items_outline (items_data (drop l.item-index l.item-items))) ≡ Some (items_data (drop l.item-index l.item-items))
      → of_items (items_outline (items_data l.item-items)) ≡ Some (items_data l.item-items);
  order : items_rise (items_data l.item-items) ≡ items_rise (items_data (drop l.item-index l.item-items));
}

abbrev pub invariant-put_members-loop-key : goal.invariant-put_members-loop-key
invariant-put_members-loop-key l = record {
  before : l.out.before ≡ l.initial.out.before;
  tokens : l.out.tokens ++ members_tokens (members_outline (members_data (drop l.key-index l.key-items)))
      ≡ l.initial.out.tokens ++ members_tokens (members_outline (members_data l.key-items));
  reads : of_members (members_outline (members_data l.key-items)) no_members
      ≡ of_members (members_outline (members_data (drop l.key-index l.key-items))) (members_data (take l.key-index l.key-items));
  order : members_rise (members_data l.key-items) ≡ members_rise (members_data (drop l.key-index l.key-items));
}
