use Rattle.std.proofs.Common.{Option, set, sym, ap, ◌∙◌}
use Rattle.std.specs.Prelude.{unwrap_or}
use Rattle.strengths.specs.Interval.{Interval}
use Rattle.net_engine.proofs.MixLemmas.{set-same}
use Rattle.net_engine.proofs.slot.with_shown.Goals as goal

pub returns-in-None : goal.returns-in-None
returns-in-None c = λ level at. set-same c.args.levels c.args.at level at ∙ ap (λ (f : Option Interval). set c.args.levels c.args.at (unwrap_or f level)) (sym c.in-None.is)
