use Rattle.std.proofs.Common.{◌≡◌, length}
use Rattle.std.specs.Option.{option_map}
use Rattle.vvp_forms.specs.Operands.{symbols_of, symbols_after}
use Rattle.vvp_forms.proofs.PieceLemmas.{after_names}
use Rattle.vvp_forms.proofs.pieces.symbols_of.Given as goal

abbrev pub invariant-loop-rest : goal.invariant-loop-rest
invariant-loop-rest l = option_map (after_names l.names) (symbols_after l.rest) ≡ symbols_of l.tokens

abbrev pub decreases-loop-rest : goal.decreases-loop-rest
decreases-loop-rest l = length l.rest
