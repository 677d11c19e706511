use Rattle.vcd_law.proofs.OwnLaw.{not-refused}
use Rattle.vvp_top.proofs.activity.read_dump.Goals as goal

-- the reader refuses no dump of ours
pub unreachable-requires : goal.unreachable-requires
unreachable-requires c = not-refused c.args.dump.now c.requires c.read_vcd.result c.read_vcd.ensures.only c.in-Err-Refused.field-0 c.in-Err-Refused.field-0-0 c.in-Err-Refused.field-0-1 c.in-Err-Refused.is c.in-Err-Refused.field-0-is
