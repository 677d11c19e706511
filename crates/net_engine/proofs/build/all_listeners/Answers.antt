use Rattle.std.proofs.Common.{◌<◌, ◌≤◌, ℕ, List, [], length, map, get_or, sym, ap, ◌∙◌, arith}
use Rattle.std.proofs.lemmas.List.{length-map}
use Rattle.sym_link.specs.declared.program.Item.{Item}
use Rattle.sym_link.specs.Roots.{node_of}
use Rattle.net_engine.specs.Built.{is_last}
use Rattle.net_engine.proofs.ListLemmas.{listed-fresh, listed-all}
use Rattle.net_engine.proofs.BuildLemmas.{listers-step}
use Rattle.net_engine.proofs.build.all_listeners.Goals as goal

pub list_item-requires-clause-fresh : goal.list_item-requires-clause-fresh
list_item-requires-clause-fresh c = λ event inside.
    let within : event < length (map node_of c.args.items.now) = omega (arith, ap length c.as_mut_slice.ensures.value, c.items.invariant.count, inside) in
    ap (λ (ls : List (List ℕ)). is_last (get_or ls event []) c.items.i) c.as_mut_slice.ensures.value ∙ listed-fresh (map node_of c.args.items.now) c.items.listeners.items c.items.i event c.items.invariant within

pub items-preserved : goal.items-preserved
items-preserved c =
    listers-step c.args.items.now c.items.listeners.items c.as_mut_slice.result.now c.list_item.new.listeners c.items.listeners.len c.items.i c.index-items-i.result _ c.items.invariant c.items-test.true c.index-items-i.is
    (ap (λ (x : Item). x.what) (sym c.index-items-i.is)) c.items.listeners.ok.0 c.as_mut_slice.ensures.value c.in_ok-list_item.ensures

pub returns : goal.returns
returns c =
    let enough : length (map node_of c.args.items.now) ≤ c.items.i = (let many = length-map c.args.items.now node_of in omega (arith, many)) in
    listed-all (map node_of c.args.items.now) c.items.listeners.items c.items.i enough c.items.invariant
