use Rattle.std.proofs.Common.{◌≡◌, ◌++◌, List, map, sym, subst, refl, ap, ◌∙◌}
use Rattle.std.proofs.lemmas.List.{append-nil}
use Rattle.sym_link.specs.declared.program.Item.{Item}
use Rattle.std.specs.Prelude.{IfOk}
use Rattle.std.specs.List.{filter_map, enumerate_from}
use Rattle.sym_link.specs.declared.program.Source.{Source}
use Rattle.sym_link.specs.Roots.{node_of}
use Rattle.net_engine.specs.Readers.{reader_at}
use Rattle.net_engine.proofs.BoundLemmas.{kind-sources, delay-source, kind-ports, no-ports}
use Rattle.net_engine.proofs.readers.push_readers.Goals as goal

pub push_ports-requires-clause-sources : goal.push_ports-requires-clause-sources
push_ports-requires-clause-sources c = kind-sources c.args.items.now c.args.at c.index-items-at.result _ c.requires.item c.index-items-at.is (ap (λ (i : Item). i.what) c.index-items-at.is ∙ c.in-Functor.is) c.requires.sources

pub push_ports-requires-in-Edge-clause-sources : goal.push_ports-requires-in-Edge-clause-sources
push_ports-requires-in-Edge-clause-sources c = kind-sources c.args.items.now c.args.at c.index-items-at.result _ c.requires.item c.index-items-at.is (ap (λ (i : Item). i.what) c.index-items-at.is ∙ c.in-Edge.is) c.requires.sources

pub push_port-requires-clause-source : goal.push_port-requires-clause-source
push_port-requires-clause-source c = λ named. delay-source _ c.in-Delay.port named (kind-sources c.args.items.now c.args.at c.index-items-at.result _ c.requires.item c.index-items-at.is (ap (λ (i : Item). i.what) c.index-items-at.is ∙ c.in-Delay.is) c.requires.sources)

pub returns-in-Functor : goal.returns-in-Functor
returns-in-Functor c = λ node at.
    subst (λ (ps : List Source). IfOk c.push_ports.result (λ x. c.push_ports.new.readers.items ≡ c.args.readers.now.items ++ filter_map (reader_at (map node_of c.args.items.now) c.args.at) (enumerate_from 0 ps)))
    (kind-ports c.args.items.now c.args.at c.index-items-at.result _ node c.requires.item c.index-items-at.is (ap (λ (i : Item). i.what) c.index-items-at.is ∙ c.in-Functor.is) at) c.push_ports.ensures

pub returns-in-Edge : goal.returns-in-Edge
returns-in-Edge c = λ node at.
    subst (λ (ps : List Source). IfOk c.push_ports-in-Edge.result (λ x. c.push_ports-in-Edge.new.readers.items ≡ c.args.readers.now.items ++ filter_map (reader_at (map node_of c.args.items.now) c.args.at) (enumerate_from 0 ps)))
    (kind-ports c.args.items.now c.args.at c.index-items-at.result _ node c.requires.item c.index-items-at.is (ap (λ (i : Item). i.what) c.index-items-at.is ∙ c.in-Edge.is) at) c.push_ports-in-Edge.ensures

pub returns-in-Delay : goal.returns-in-Delay
returns-in-Delay c = λ node at.
    subst (λ (ps : List Source). IfOk c.push_port.result (λ x. c.push_port.new.readers.items ≡ c.args.readers.now.items ++ filter_map (reader_at (map node_of c.args.items.now) c.args.at) (enumerate_from 0 ps)))
    (kind-ports c.args.items.now c.args.at c.index-items-at.result _ node c.requires.item c.index-items-at.is (ap (λ (i : Item). i.what) c.index-items-at.is ∙ c.in-Delay.is) at) c.push_port.ensures

pub returns-in_default : goal.returns-in_default
returns-in_default c = λ node at.
    let old = c.args.readers.now.items in
    let nodes = map node_of c.args.items.now in
    let what = ap (λ (i : Item). i.what) c.index-items-at.is in
    let none = sym (kind-ports c.args.items.now c.args.at c.index-items-at.result c.index-items-at.result.what node c.requires.item c.index-items-at.is refl at)
    ∙ no-ports c.index-items-at.result.what (λ gate drive ports e. c.in_default.not-Functor gate drive ports (sym what ∙ e)) (λ edge ports e. c.in_default.not-Edge edge ports (sym what ∙ e)) (λ rise fall decay port e. c.in_default.not-Delay rise fall decay port (sym what ∙ e)) in
    sym (ap (λ (ps : List Source). old ++ filter_map (reader_at nodes c.args.at) (enumerate_from 0 ps)) none ∙ append-nil old)
