use Rattle.std.proofs.Common.{◌≡◌, ◌≤◌, ◌-◌, ◌^◌, min, drop}
use Rattle.std.specs.Str.Parse.{digits_value, digits_value_after}
use Rattle.vvp_ops.proofs.tokens.decimal.Given as goal

abbrev pub invariant-loop-digit : goal.invariant-loop-digit
invariant-loop-digit l = record {
  fits : l.value ≤ 2 ^ 64 - 1;
  reads : min (digits_value_after 10 l.value (drop l.digit-index l.digits)) (2 ^ 64 - 1) ≡ min (digits_value 10 l.digits) (2 ^ 64 - 1);
}
