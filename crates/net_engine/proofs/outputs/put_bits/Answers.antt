use Rattle.std.proofs.Common.{Some, sym, ap, ◌∙◌}
use Rattle.std.specs.Option.{option_map}
use Rattle.sym_link.specs.declared.program.Source.{Source}
use Rattle.net_engine.specs.Net.{at_source, seen}
use Rattle.net_engine.proofs.StrongLemmas.{seen-driven}
use Rattle.net_engine.proofs.outputs.put_bits.Goals as goal

pub returns-in-Fixed-clause-value : goal.returns-in-Fixed-clause-value
returns-in-Fixed-clause-value g c =
    ap (λ bits. Some bits) (c.sized_bits-in-Fixed.ensures.value ∙ sym (seen-driven c.in-Fixed.bits)) ∙ ap (λ (s : Source). option_map seen (at_source c.args.design.now c.args.store.now.values s)) (sym c.in-Fixed.is)
