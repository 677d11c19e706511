use Rattle.std.proofs.Common.{◌∙◌, take, sym, arith}
use Rattle.std.proofs.lemmas.List.{length-take-le}
use Rattle.vcd_write.specs.Value.{spelled}
use Rattle.vcd_write.proofs.LineLemmas.{length-spelled, spelled-read, put-more, put-all}
use Rattle.vcd_write.proofs.value.put_bits.Goals as goal

pub loop-done-preserved : goal.loop-done-preserved
loop-done-preserved c =
    rw c.from.ensures (put-more c.loop-done.room (spelled (take c.args.count c.args.value)) c.loop-done.done c.bit_code.result (omega arith) c.loop-done.invariant
    (c.bit_code.ensures ∙ sym (spelled-read c.args.value c.args.count c.loop-done.done c.bit.result c.requires.there (omega arith) c.bit.ensures)))

pub returns : goal.returns
returns c =
    put-all c.loop-done.room (spelled (take c.args.count c.args.value)) c.args.count (omega arith)
    (length-spelled (take c.args.count c.args.value) ∙ length-take-le c.args.count c.args.value c.requires.there)
    (λ k h. c.loop-done.invariant k (omega arith))
