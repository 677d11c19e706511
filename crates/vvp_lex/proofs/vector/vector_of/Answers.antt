use Rattle.std.proofs.Common.{sym, ◌∙◌, arith}
use Rattle.vvp_lex.proofs.VectorLemmas.{vector_of-some}
use Rattle.vvp_lex.proofs.vector.vector_of.Goals as goal

pub returns : goal.returns
returns c =
    vector_of-some c.args.bits.now c.bytes_after.result.now c.bit_of.result c.with_bits.result (sym c.is_empty.ensures ∙ c.if-is_empty.false) (omega arith) c.bit_of.ensures c.bytes_after.ensures c.with_bits.ensures
