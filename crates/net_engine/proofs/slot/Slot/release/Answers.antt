use Rattle.net_engine.proofs.SlotLemmas.{release-long, release-slot}
use Rattle.net_engine.proofs.slot.Slot.release.Goals as goal

pub invariant_of-self : goal.invariant_of-self
invariant_of-self c =
    release-slot c.released-driven.result _ c.as_slice-2.result.now c.is_any-self-inside.result
    (release-long c.args.base c.args.width c.args.keep c.self.inside.levels c.self.inside.forced.items c.self.inside.any c.args.self.now c.args.bits c.driven.result c.released-driven.result c.as_slice.result.now c.as_mut_slice.result.now c.release_some.new.forced c.self.inside.forced.len
    c.self.invariant c.self.view_is c.requires.bits c.driven.ensures c.as_slice.ensures.value c.released-driven.ensures c.self.inside.forced.ok.0 c.as_mut_slice.ensures.value c.release_some.ensures) c.as_slice-2.ensures.value c.is_any-self-inside.ensures

pub drive-requires : goal.drive-requires
drive-requires c =
    release-long c.args.base c.args.width c.args.keep c.self.inside.levels c.self.inside.forced.items c.self.inside.any c.args.self.now c.args.bits c.driven.result c.released-driven.result c.as_slice.result.now c.as_mut_slice.result.now c.release_some.new.forced c.self.inside.forced.len
    c.self.invariant c.self.view_is c.requires.bits c.driven.ensures c.as_slice.ensures.value c.released-driven.ensures c.self.inside.forced.ok.0 c.as_mut_slice.ensures.value c.release_some.ensures
