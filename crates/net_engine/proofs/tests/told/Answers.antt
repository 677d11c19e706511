use Rattle.std.proofs.Common.{refl}
use Rattle.net_engine.proofs.CallLemmas.{built-net}
use Rattle.net_engine.proofs.tests.told.Goals as goal

pub is_told_by_bits-requires-clause-linked : goal.is_told_by_bits-requires-clause-linked
is_told_by_bits-requires-clause-linked c = (built-net c.args.program.now c.in_ok-design.design c.in_ok-store.store.values _ c.requires.program c.in_ok-design.ensures c.in_ok-store.ensures.values refl).linked

pub is_told_by_bits-requires-clause-wide : goal.is_told_by_bits-requires-clause-wide
is_told_by_bits-requires-clause-wide c = (built-net c.args.program.now c.in_ok-design.design c.in_ok-store.store.values _ c.requires.program c.in_ok-design.ensures c.in_ok-store.ensures.values refl).wide

pub bits_output-bits-requires-clause-linked : goal.bits_output-bits-requires-clause-linked
bits_output-bits-requires-clause-linked c = (built-net c.args.program.now c.in_ok-design.design c.in_ok-store.store.values _ c.requires.program c.in_ok-design.ensures c.in_ok-store.ensures.values refl).linked

pub bits_output-bits-requires-clause-wide : goal.bits_output-bits-requires-clause-wide
bits_output-bits-requires-clause-wide c = (built-net c.args.program.now c.in_ok-design.design c.in_ok-store.store.values _ c.requires.program c.in_ok-design.ensures c.in_ok-store.ensures.values refl).wide
