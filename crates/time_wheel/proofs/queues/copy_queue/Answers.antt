use Rattle.std.proofs.Common.{◌∙◌, ◌++◌, ◌∷◌, [], map, sym, ap, arith}
use Rattle.std.proofs.lemmas.List.{append-nil, take_all}
use Rattle.time_wheel.specs.Queues.{shown_due}
use Rattle.time_wheel.proofs.CopyLemmas.{shown_at, copied-more}
use Rattle.time_wheel.proofs.queues.copy_queue.Goals as goal

pub loop-item-init : goal.loop-item-init
loop-item-init c = sym (append-nil c.args.dues.now)

pub loop-item-preserved : goal.loop-item-preserved
loop-item-preserved c =
    copied-more c.args.queue c.loop-item.item-index c.deref-item-items.result.now c.args.dues.now c.loop-item.dues c.push.new.self c.item-item.result
    c.loop-item-test.true c.item-item.is c.loop-item.invariant (c.in_ok-push.ensures.ok ∙ ap (λ d. c.loop-item.dues ++ d ∷ []) c.shown_due.ensures)

pub returns : goal.returns
returns c =
    let items = c.deref-item-items.result.now in
    c.loop-item.invariant
    ∙ ap (λ xs. c.args.dues.now ++ map (shown_due c.args.queue) xs) (take_all c.loop-item.item-index items c.loop-item-test.false ∙ c.deref-item-items.ensures.value ∙ c.in_ok-items.ensures)
    ∙ ap (λ xs. c.args.dues.now ++ xs) (sym (shown_at c.args.queue c.args.pool.now.queues (omega (arith, c.requires.queues))))
