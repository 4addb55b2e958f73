use Rattle.std.proofs.Common.{◌≡◌, ℕ, ◌+◌, ◌*◌, ◌≤◌, true, length}
use Rattle.json.specs.Json.{items, members, value, parse_map}
use Rattle.serde_json.specs.Data.{no_members}
use Rattle.serde_json.specs.Read.{of_items, of_members, converted}
use Rattle.wd_json.specs.Json.{items_data, members_data}
use Rattle.wd_json.specs.Whole.{items_are_whole, members_are_whole}
use Rattle.wd_json.proofs.Turns.{before}
use Rattle.wd_json.proofs.tokens.+value.Given as goal

abbrev pub decreases-value : goal.decreases-value
decreases-value l = 2 * l.depth

abbrev pub decreases-items : goal.decreases-items
decreases-items l = 2 * l.depth + 1

abbrev pub decreases-members : goal.decreases-members
decreases-members l = 2 * l.depth + 1

abbrev pub invariant-items-items : goal.invariant-items-items
invariant-items-items l = record {
  steps : ℕ;
  enough : length l.reader ≤ steps;
  same : converted of_items (items (value l.depth) (length l.initial.reader) l.initial.reader) ≡ parse_map (before l.list.items) (converted of_items (items (value l.depth) steps l.reader));
  whole : items_are_whole (items_data l.list.items) ≡ true;
  less : length l.reader ≤ length l.initial.reader;
}

abbrev pub decreases-items-items : goal.decreases-items-items
decreases-items-items l = length l.reader

abbrev pub invariant-members-members : goal.invariant-members-members
invariant-members-members l = record {
  steps : ℕ;
  enough : length l.reader ≤ steps;
  same : converted (λ ms. of_members ms no_members) (members (value l.depth) (length l.initial.reader) l.initial.reader)
      ≡ converted (λ ms. of_members ms (members_data l.map)) (members (value l.depth) steps l.reader);
  whole : members_are_whole (members_data l.map) ≡ true;
  less : length l.reader ≤ length l.initial.reader;
}

abbrev pub decreases-members-members : goal.decreases-members-members
decreases-members-members l = length l.reader
