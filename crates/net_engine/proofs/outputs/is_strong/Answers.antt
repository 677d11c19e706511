use Rattle.std.proofs.Common.{◌≡◌, sym, subst}
use Rattle.std.specs.Option.{option_map}
use Rattle.sym_link.specs.declared.program.Source.{Source}
use Rattle.net_engine.specs.Net.{at_source, seen, strongly}
use Rattle.net_engine.proofs.StrongLemmas.{strong-fixed}
use Rattle.net_engine.proofs.outputs.is_strong.Goals as goal

pub returns-in-Fixed : goal.returns-in-Fixed
returns-in-Fixed g c = λ same.
    subst (λ (s : Source). option_map strongly (option_map seen (at_source c.args.design.now c.args.store.now.values s)) ≡ at_source c.args.design.now c.args.store.now.values s) (sym c.in-Fixed.is) (strong-fixed c.in-Fixed._bits)
