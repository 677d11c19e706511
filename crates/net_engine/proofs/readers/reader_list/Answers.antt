use Rattle.std.proofs.Common.{◌≡◌, ◌≢◌, ◌<◌, ◌≤◌, List, length, map, sym, ap, ◌∙◌, subst, arith}
use Rattle.std.specs.List.{All, AllPairs, slice_get}
use Rattle.std.proofs.lemmas.List.{length-map}
use Rattle.port_chain.specs.Pairs.{links_of}
use Rattle.port_chain.specs.declared.link.Reader.{Reader}
use Rattle.sym_link.specs.declared.program.Item.{Item}
use Rattle.sym_link.specs.Roots.{node_of, nodes_of, ports_of}
use Rattle.net_engine.specs.Readers.{all_readers}
use Rattle.net_engine.specs.Parts.{AreNamed}
use Rattle.net_engine.proofs.ReaderLemmas.{readers-step, readers-all, readers-links, readers-once}
use Rattle.net_engine.proofs.BoundLemmas.{sources-at, drivers-within, nodes-within}
use Rattle.net_engine.proofs.readers.reader_list.Goals as goal

pub push_readers-requires-clause-sources : goal.push_readers-requires-clause-sources
push_readers-requires-clause-sources c = λ node at.
    subst (λ (xs : List Item). AreNamed (length xs) (ports_of node.what)) (sym c.as_slice-items.ensures)
    (sources-at c.args.program.now c.items.at node c.requires (ap (λ (xs : List Item). slice_get (map node_of xs) c.items.at) (sym c.as_slice-items.ensures) ∙ at))

pub items-preserved : goal.items-preserved
items-preserved c = readers-step c.as_slice-items.result.now c.items.readers.items c.push_readers.new.readers.items c.items.at c.items-test.true c.items.invariant c.in_ok-push_readers.ensures

whole : (c : goal.After-items) → c.items.readers.items ≡ all_readers (nodes_of c.args.program.now)
whole c =
    let enough : length (map node_of c.as_slice-items.result.now) ≤ c.items.at = (let many = length-map c.as_slice-items.result.now node_of in omega (arith, many)) in
    readers-all (map node_of c.as_slice-items.result.now) c.items.readers.items c.items.at enough c.items.invariant ∙ ap (λ (xs : List Item). all_readers (map node_of xs)) c.as_slice-items.ensures

pub returns-clause-readers : goal.returns-clause-readers
returns-clause-readers c = whole c

pub returns-clause-links : goal.returns-clause-links
returns-clause-links c = λ item. ap (links_of item) (whole c) ∙ readers-links (nodes_of c.args.program.now) item

pub returns-clause-drivers : goal.returns-clause-drivers
returns-clause-drivers c = subst (All (λ (r : Reader). r.driver < length c.args.program.now.items)) (sym (whole c)) (drivers-within c.args.program.now c.requires)

pub returns-clause-nodes : goal.returns-clause-nodes
returns-clause-nodes c = subst (All (λ (r : Reader). r.link.node < length c.args.program.now.items)) (sym (whole c)) (nodes-within c.args.program.now)

pub returns-clause-once : goal.returns-clause-once
returns-clause-once c = subst (AllPairs (λ (a b : Reader). a.link ≢ b.link)) (sym (whole c)) (readers-once (nodes_of c.args.program.now))
