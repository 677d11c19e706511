use Rattle.sim_core.proofs.opcode.do_opcode_at.Goals as goal

pub do_opcode-requires : goal.do_opcode-requires
do_opcode-requires g c = λ op at. c.requires.fits _ op at
