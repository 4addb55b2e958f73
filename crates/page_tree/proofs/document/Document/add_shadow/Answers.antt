use Rattle.std.proofs.Common.{◌≡◌, ◌<◌, rules, ap, arith}
use Rattle.page_tree.specs.Places.{depth, max_depth}
use Rattle.page_tree.specs.Rows.{hosting}
use Rattle.page_tree.specs.Inside.{rows_of, ups_of}
use Rattle.page_tree.proofs.Nodes.{hosting_nodes}
use Rattle.page_tree.proofs.document.Document.add_shadow.Goals as goal

pub invariant_of-self-else-is_err : goal.invariant_of-self-else-is_err
invariant_of-self-else-is_err c =
    let nodes = c.self.inside.nodes.items in
    let pushed : rows_of c.push_shadow.new.nodes.items ≡ hosting (rows_of nodes) c.args.host = search rules in
    let shallow : depth (ups_of nodes) c.args.host < max_depth = omega (arith, c.if-depth-ge-MAX_DEPTH.false, c.depth.ensures, ap (λ ns. depth (ups_of ns) c.args.host) c.deref.ensures.value) in
    hosting_nodes nodes c.self.inside.focus c.self.inside.scroll (rows_of c.push_shadow.new.nodes.items) c.args.self.now.rows c.args.host (ap (λ s. s.rows) c.self.view_is) pushed c.self.invariant (λ full. c.if-number-eq-MAX_NODES.false (omega arith))
    c.requires.host_in c.requires.an_element c.requires.no_host shallow
