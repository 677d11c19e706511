use Rattle.std.proofs.Common.{◌≡◌, length}
use Rattle.std.specs.Option.{option_map}
use Rattle.std.specs.List.{All}
use Rattle.vvp_lex.specs.Place.{IsTextOf}
use Rattle.vvp_ops.specs.Calls.{arguments_of}
use Rattle.vvp_ops.proofs.CallLemmas.{after_arguments}
use Rattle.vvp_ops.proofs.calls.arguments.Given as goal

abbrev pub invariant-loop-alloc : goal.invariant-loop-alloc
invariant-loop-alloc l = record {
  texts : All (IsTextOf l.src) l.rest;
  reads : arguments_of l.src 0 l.tokens ≡ option_map (after_arguments l.args) (arguments_of l.src 0 l.rest);
}

abbrev pub decreases-loop-alloc : goal.decreases-loop-alloc
decreases-loop-alloc l = length l.rest
