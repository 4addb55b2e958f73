use Rattle.std.proofs.Common.{◌∙◌, ◌++◌, [], ◌∷◌, ◌+◌, rules, ap, drop}
use Rattle.json.specs.Token.{key}
use Rattle.json.specs.Tree.{json_tokens, members_tokens}
use Rattle.serde_json.specs.Written.{outline, members_outline}
use Rattle.wd_json.specs.Json.{data_of, members_data}
use Rattle.wd_json.specs.Keys.{KeysRise}
use Rattle.wd_json.proofs.Members.{order_next, next_tokens, next_reads}
use Rattle.wd_json.proofs.writing.+put_value.Goals as goal

pub put_members-loop-key-preserved : goal.put_members-loop-key-preserved
put_members-loop-key-preserved t c =
    let xs = c.as_slice-key-items.result.now in
    let rise : KeysRise xs = rw c.as_slice-key-items.ensures.entries c.as_slice-key-items.ensures.rise in
    let i = c.loop-key.key-index in
    let written = json_tokens (outline (data_of c.loop-key-item.result.1)) in
    let left = members_tokens (members_outline (members_data (drop (i + 1) xs))) in
    record {
      before = search rules;
      tokens = ap (λ ts. ts ++ left) (c.in_ok-put_value.ensures.ok ∙ ap (λ ts. ts ++ written) (c.in_ok-key.ensures.ok ∙ ap (λ name. c.loop-key.out.tokens ++ key name ∷ []) c.as_str.ensures.bytes))
          ∙ next_tokens xs i c.loop-key-item.result c.loop-key.out.tokens c.loop-key-test.true c.loop-key-item.is
          ∙ c.loop-key.invariant.tokens;
      reads = c.loop-key.invariant.reads ∙ next_reads xs i c.loop-key-item.result c.loop-key-test.true c.loop-key-item.is rise c.in_ok-put_value.ensures.reads;
      order = c.loop-key.invariant.order ∙ order_next xs i c.loop-key-item.result c.loop-key-test.true c.loop-key-item.is rise c.in_ok-put_value.ensures.order;
    }
