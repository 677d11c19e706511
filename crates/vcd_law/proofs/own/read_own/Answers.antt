-- The law says that a dump of ours is in the grammar, so the reader's clause `only` leaves no refusal.
use Rattle.vcd_law.proofs.OwnLaw.{not-refused}
use Rattle.vcd_law.proofs.own.read_own.Goals as goal

pub unreachable-requires : goal.unreachable-requires
unreachable-requires c = not-refused c.args.bytes.now c.requires.own c.read_vcd.result c.read_vcd.ensures.only c.in-Err-Refused.field-0 c.in-Err-Refused.field-0-0 c.in-Err-Refused.field-0-1 c.in-Err-Refused.is c.in-Err-Refused.field-0-is
