use Rattle.std.proofs.Common.{◌≤◌, Option, List, [], ◌∷◌, ◌++◌, length, sym, ap, ◌∙◌, arith}
use Rattle.std.specs.List.{enumerate_from}
use Rattle.strengths.specs.Interval.{Interval}
use Rattle.sym_link.specs.declared.program.Item.{Item}
use Rattle.sym_link.specs.Roots.{node_of}
use Rattle.sim_core.specs.Snapshot.{forced_at, forced_by}
use Rattle.sim_core.proofs.SnapshotLemmas.{map-all, map-more, numbered, numbered-all}
use Rattle.sim_core.proofs.snapshot.forced_list.Goals as goal

pub items-preserved : goal.items-preserved
items-preserved g c =
    map-more (forced_at c.args.net.now.values) (enumerate_from 0 c.args.net.now.nodes) c.items.i (c.items.i, node_of c.index-items-i.result) c.items.list c.push.new.self
    (numbered c.args.items.now c.args.net.now.nodes c.items.i c.index-items-i.result c.requires.nodes c.items-test.true c.index-items-i.is) c.items.invariant
    (c.in_ok-push.ensures.ok ∙ ap (λ (o : List (Option Interval)). c.items.list ++ o ∷ []) c.in_ok-forced_on.ensures ∙ ap (λ (x : Item). c.items.list ++ forced_by c.args.net.now.values c.items.i x.what ∷ []) (sym c.index-items-i.is))

pub returns : goal.returns
returns g c =
    let enough : length c.args.items.now ≤ c.items.i = omega (arith, c.items-test.false) in
    map-all (forced_at c.args.net.now.values) (enumerate_from 0 c.args.net.now.nodes) c.items.i c.items.list (numbered-all c.args.items.now c.args.net.now.nodes c.items.i c.requires.nodes enough) c.items.invariant
