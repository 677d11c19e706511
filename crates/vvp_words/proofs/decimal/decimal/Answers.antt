use Rattle.std.proofs.Common.{◌+◌, take, sym, ap, ◌∙◌, arith, take_all}
use Rattle.std.proofs.lemmas.Bool.Decides.{nat_tests}
use Rattle.std.specs.Char.{is_ascii_digit}
use Rattle.std.specs.List.{list_all}
use Rattle.vvp_words.specs.Decimal.{spelled}
use Rattle.vvp_words.proofs.DecimalLemmas.{none-if_empty, none-if_long, none-if_more, none-if_less, none-by_byte, some-if, digits-more, digits-none, spelled-more, spelled-grows}
use Rattle.vvp_words.proofs.decimal.decimal.Goals as goal

pub returns-then-is_empty-clause-number : goal.returns-then-is_empty-clause-number
returns-then-is_empty-clause-number c = none-if_empty _ _ _ c.args.text.now c.is_empty.result c.if-is_empty.true c.is_empty.ensures

pub returns-then-text-places-clause-number : goal.returns-then-text-places-clause-number
returns-then-text-places-clause-number c = none-if_long _ _ _ c.args.text.now c.if-text-places.true

pub returns-then-not-is_ascii_digit-clause-number : goal.returns-then-not-is_ascii_digit-clause-number
returns-then-not-is_ascii_digit-clause-number c =
    none-by_byte _ _ _ c.args.text.now (digits-none c.args.text.now c.loop-byte.byte-index c.loop-byte-test.true (sym c.is_ascii_digit.ensures.value ∙ c.if-not-is_ascii_digit.true))

pub loop-byte-preserved : goal.loop-byte-preserved
loop-byte-preserved c =
    let i = c.loop-byte.byte-index in
    record {
      number_is = omega (arith, spelled-more c.args.text.now i c.loop-byte-test.true, c.loop-byte.invariant.number_is, c.from.ensures);
      digits = digits-more c.args.text.now i c.loop-byte-test.true c.loop-byte.invariant.digits (sym c.is_ascii_digit.ensures.value ∙ c.if-not-is_ascii_digit.false);
      small = omega (arith, c.if-number-from.false, c.from-in-loop-byte.ensures);
    }

-- more than the most already
pub returns-then-number-from-clause-number : goal.returns-then-number-from-clause-number
returns-then-number-from-clause-number c =
    let i = c.loop-byte.byte-index in
    none-if_more _ _ _ (spelled (take (i + 1) c.args.text.now)) c.args.text.now (spelled-grows c.args.text.now (i + 1))
    (omega (arith, c.if-number-from.true, spelled-more c.args.text.now i c.loop-byte-test.true, c.loop-byte.invariant.number_is, c.from.ensures, c.from-in-loop-byte.ensures))

pub returns-then-number-from-2-clause-number : goal.returns-then-number-from-2-clause-number
returns-then-number-from-2-clause-number c =
    none-if_less _ _ _ c.loop-byte.number c.args.text.now (c.loop-byte.invariant.number_is ∙ ap spelled (take_all c.loop-byte.byte-index c.args.text.now (omega arith))) (omega (arith, c.if-number-from-2.true, c.from-2.ensures))

pub returns-clause-number : goal.returns-clause-number
returns-clause-number c =
    some-if _ _ _ c.loop-byte.number c.args.text.now
    (grind (arith, nat_tests))
    c.if-text-places.false
    (ap (list_all is_ascii_digit) (sym (take_all c.loop-byte.byte-index c.args.text.now (omega arith))) ∙ c.loop-byte.invariant.digits)
    (c.loop-byte.invariant.number_is ∙ ap spelled (take_all c.loop-byte.byte-index c.args.text.now (omega arith)))
    (omega (arith, c.if-number-from-2.false, c.from-2.ensures))
    c.loop-byte.invariant.small
