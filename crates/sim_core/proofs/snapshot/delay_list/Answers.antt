use Rattle.std.proofs.Common.{◌≤◌, [], ◌++◌, length, sym, ap, ◌∙◌, arith}
use Rattle.std.specs.List.{cons_option, enumerate_from}
use Rattle.sym_link.specs.declared.program.Item.{Item}
use Rattle.sym_link.specs.Roots.{node_of}
use Rattle.sim_core.specs.Snapshot.{request_at, request_by}
use Rattle.sim_core.proofs.SnapshotLemmas.{filter-all, filter-more, numbered, numbered-all}
use Rattle.sim_core.proofs.snapshot.delay_list.Goals as goal

pub items-preserved : goal.items-preserved
items-preserved g c =
    filter-more (request_at c.args.net.now.values) (enumerate_from 0 c.args.net.now.nodes) c.items.i (c.items.i, node_of c.index-items-i.result) c.items.list c.add_request.new.list
    (numbered c.args.items.now c.args.net.now.nodes c.items.i c.index-items-i.result c.requires.nodes c.items-test.true c.index-items-i.is) c.items.invariant
    (c.in_ok-add_request.ensures ∙ ap (λ (x : Item). c.items.list ++ cons_option (request_by c.args.net.now.values c.items.i x.what) []) (sym c.index-items-i.is))

pub returns : goal.returns
returns g c =
    let enough : length c.args.items.now ≤ c.items.i = omega (arith, c.items-test.false) in
    filter-all (request_at c.args.net.now.values) (enumerate_from 0 c.args.net.now.nodes) c.items.i c.items.list (numbered-all c.args.items.now c.args.net.now.nodes c.items.i c.requires.nodes enough) c.items.invariant
