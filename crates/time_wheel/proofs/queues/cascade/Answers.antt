use Rattle.std.proofs.Common.{refl, ◌∙◌, arith, get_or, []}
use Rattle.time_wheel.specs.declared.queues.TheConstants.{OVERFLOW}
use Rattle.time_wheel.proofs.CascadeLemmas.{cascaded-start, length-cascaded, cascaded-next, cascaded-all}
use Rattle.time_wheel.proofs.queues.cascade.Goals as goal

pub cascade-init : goal.cascade-init
cascade-init c = record { cascaded = cascaded-start c.args.now c.args.pool.now.queues c.requires.queues c.requires.others; spare = refl }

pub cascade_first-least-requires : goal.cascade_first-least-requires
cascade_first-least-requires c = length-cascaded _ _ _ _ _ c.cascade.invariant.cascaded

pub cascade-preserved : goal.cascade-preserved
cascade-preserved c = record {
  cascaded = cascaded-next _ (get_or c.args.pool.now.queues OVERFLOW []) _ _ _ _ _ (omega (arith, c.requires.count)) c.requires.timely c.cascade.invariant.cascaded c.cascade_first-least.ensures.queues c.cascade_first-least.ensures.least;
  spare = c.cascade_first-least.ensures.spare ∙ c.cascade.invariant.spare;
}

pub returns : goal.returns
returns c =
    let all = cascaded-all c.args.now (get_or c.args.pool.now.queues OVERFLOW []) c.cascade.counter c.cascade.pool.queues c.cascade.least (omega (arith, c.requires.count)) c.cascade.invariant.cascaded in
    record { wheel = all.wheel; order = all.order; least = all.least; spare = c.cascade.invariant.spare }
