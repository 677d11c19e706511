use Rattle.std.proofs.Common.{◌≡◌, ◌<◌, ◌+◌, ℕ, ℤ, false, List, length, map, refl, sym, ap, subst, ◌∙◌, option_map, rules, w64, FitsSigned}
use Rattle.std.proofs.lemmas.Int.{to_z-of_z}
use denote.Param.{param}
use Rattle.event_pool.specs.declared.agenda.Act.{Act}
use Rattle.event_pool.specs.declared.agenda.Act.TheVariants.{Eval, Run}
use Rattle.event_pool.specs.declared.agenda.Due.{Due}
use Rattle.event_pool.specs.Order.{in_order}
use Rattle.event_pool.specs.Pending.{is_eval_of, unkeyed, unkeyed_act}
use Rattle.event_pool.specs.Schedule.{Schedule, active_dues}
use Rattle.vvp_threads.specs.Keyed.{IsKeyOf}
use Rattle.vvp_threads.specs.Runs.{is_run_of}
use Rattle.sym_link.specs.declared.program.Item.{Item}
use Rattle.sym_link.specs.Roots.{Node}
use Rattle.net_engine.specs.Delivery.{eval, mature, write}
use Rattle.net_engine.specs.Kept.{Delivers, state_of}
use Rattle.sim_core.specs.declared.engine.Running.{Running}
use Rattle.sim_core.specs.contracts.engine.Engine.{the_view}
use Rattle.sim_core.specs.Machine.{on_state}
use Rattle.sim_core.specs.Step.{apply}
use Rattle.sim_core.specs.Engine.{Shown}
use Rattle.sim_core.specs.Kept.{Held, IsSound}
use Rattle.sim_core.specs.Parts.{ShownSteps, is_delay_in, stepped, take_by_order}
use Rattle.sim_core.proofs.TakeLemmas.{active-some, fits-eval, fits-taken, if-some, net-taken, run-taken, sound-applied, sound-run}
use Rattle.sim_core.proofs.TookLemmas.{few-more, few-none, few-same, ok-holds, place-within, rests-none, took, took-at, took-dues, took-item, took-key, took-left, took-names, took-now, took-removes, took-spare, took-turn}
use Rattle.sim_core.proofs.WakeLemmas.{wakes-eval, wakes-mature, wakes-write}
use Rattle.sim_core.proofs.SoundLemmas.{lasts, lasts-failed}
use Rattle.sim_core.proofs.engine.Engine.take_due.Goals as goal

pub picked-place-requires-clause-some : goal.picked-place-requires-clause-some
picked-place-requires-clause-some g c =
    let s = g.A.Agenda.schedule c.self.inside.agenda in
    let ready = rw (← c.self.view_is) at c.requires.ready in
    active-some s.now s.dues ready

pub take_nth-act-requires : goal.take_nth-act-requires
take_nth-act-requires g c =
    let s = g.A.Agenda.schedule c.self.inside.agenda in
    let ready = rw (← c.self.view_is) at c.requires.ready in
    place-within c.self.inside.order c.self.inside.taken (length (active_dues s.now s.dues)) c.picked-place.result (active_dues s.now s.dues) refl c.picked-place.ensures (active-some s.now s.dues ready)

pub make_delay_room-room-requires-clause-item : goal.make_delay_room-room-requires-clause-item
make_delay_room-room-requires-clause-item g c =
    let h : Held = record { program = c.self.inside.program; scope_parents = c.self.inside.scope_parents.items; outputs = c.self.inside.outputs; net = c.self.inside.net; threads = c.self.inside.threads; design = c.self.inside.tasks.design; schedule = g.A.Agenda.schedule c.self.inside.agenda; running = c.self.inside.running; steps = c.self.inside.steps; taken = c.self.inside.taken } in
    let fine : c.self.inside.failed ≡ false = ap (λ (s : Shown). s.failed) c.self.view_is ∙ c.requires.fine in
    let s : IsSound h = c.self.invariant.sound fine in
    let mid = g.A.Agenda.schedule c.take_nth-act.new.self in
    let t = took h c.self.inside.order _ c.picked-place.result c.take_nth-act.result mid refl c.picked-place.ensures c.take_nth-act.ensures.nth c.take_nth-act.ensures.rest in
    subst (λ (xs : List Item). c.in-Eval.item < length xs) (sym c.as_slice.ensures) (took-item h c.self.inside.order c.picked-place.result c.in-Eval.item c.take_nth-act.result mid t c.in-Eval.is s)

pub eval-requires-clause-fits : goal.eval-requires-clause-fits
eval-requires-clause-fits g c =
    let h : Held = record { program = c.self.inside.program; scope_parents = c.self.inside.scope_parents.items; outputs = c.self.inside.outputs; net = c.self.inside.net; threads = c.self.inside.threads; design = c.self.inside.tasks.design; schedule = g.A.Agenda.schedule c.self.inside.agenda; running = c.self.inside.running; steps = c.self.inside.steps; taken = c.self.inside.taken } in
    let fine : c.self.inside.failed ≡ false = ap (λ (s : Shown). s.failed) c.self.view_is ∙ c.requires.fine in
    let s : IsSound h = c.self.invariant.sound fine in
    let mid = g.A.Agenda.schedule c.take_nth-act.new.self in
    let t = took h c.self.inside.order _ c.picked-place.result c.take_nth-act.result mid refl c.picked-place.ensures c.take_nth-act.ensures.nth c.take_nth-act.ensures.rest in
    fits-eval c.self.inside.program.items c.self.inside.outputs c.self.inside.net c.self.inside.threads (g.A.Agenda.schedule c.self.inside.agenda) mid (g.A.Agenda.schedule c.make_delay_room-room.new.agenda) c.in-Eval.item c.take_nth-act.result c.in-Eval.is (took-removes h c.self.inside.order c.picked-place.result c.take_nth-act.result mid t) (took-spare h c.self.inside.order c.picked-place.result c.take_nth-act.result mid t)
    s.nodes s.outputs_are c.make_delay_room-room.ensures.dues (λ e. c.make_delay_room-room.ensures.gate (ap (λ (xs : List Item). is_delay_in xs c.in-Eval.item) c.as_slice.ensures ∙ e))
    (λ e. ok-holds c.make_delay_room-room.result (sym c.is_err.ensures.value ∙ c.if-is_err.false) c.make_delay_room-room.ensures.delay (ap (λ (xs : List Item). is_delay_in xs c.in-Eval.item) c.as_slice.ensures ∙ e)) s.fits

pub eval-requires-clause-item : goal.eval-requires-clause-item
eval-requires-clause-item g c =
    let h : Held = record { program = c.self.inside.program; scope_parents = c.self.inside.scope_parents.items; outputs = c.self.inside.outputs; net = c.self.inside.net; threads = c.self.inside.threads; design = c.self.inside.tasks.design; schedule = g.A.Agenda.schedule c.self.inside.agenda; running = c.self.inside.running; steps = c.self.inside.steps; taken = c.self.inside.taken } in
    let fine : c.self.inside.failed ≡ false = ap (λ (s : Shown). s.failed) c.self.view_is ∙ c.requires.fine in
    let s : IsSound h = c.self.invariant.sound fine in
    let mid = g.A.Agenda.schedule c.take_nth-act.new.self in
    let t = took h c.self.inside.order _ c.picked-place.result c.take_nth-act.result mid refl c.picked-place.ensures c.take_nth-act.ensures.nth c.take_nth-act.ensures.rest in
    took-names h c.self.inside.order c.picked-place.result c.take_nth-act.result (Eval c.in-Eval.item) mid t c.in-Eval.is s

pub invariant_of-self-in-Eval : goal.invariant_of-self-in-Eval
invariant_of-self-in-Eval g c = lasts _ _ (ap (λ (s : Shown). s.failed) c.self.view_is ∙ c.requires.fine)
    (λ fine.
    let h : Held = record { program = c.self.inside.program; scope_parents = c.self.inside.scope_parents.items; outputs = c.self.inside.outputs; net = c.self.inside.net; threads = c.self.inside.threads; design = c.self.inside.tasks.design; schedule = g.A.Agenda.schedule c.self.inside.agenda; running = c.self.inside.running; steps = c.self.inside.steps; taken = c.self.inside.taken } in
    let s : IsSound h = c.self.invariant.sound fine in
    let mid = g.A.Agenda.schedule c.take_nth-act.new.self in
    let t = took h c.self.inside.order _ c.picked-place.result c.take_nth-act.result mid refl c.picked-place.ensures c.take_nth-act.ensures.nth c.take_nth-act.ensures.rest in
    sound-applied (eval c.self.inside.net.nodes c.in-Eval.item) h (g.A.Agenda.schedule c.make_delay_room-room.new.agenda) c.eval.new.self c.eval.new.threads (g.A.Agenda.schedule c.eval.new.agenda) (rests-none c.self.inside.running (ap (λ (s : Shown). s.machine.running) c.self.view_is ∙ c.requires.rests))
    (subst (λ (ds : List Due). in_order (map unkeyed ds) ≡ map unkeyed ds) (sym c.make_delay_room-room.ensures.dues) (took-turn h c.self.inside.order c.picked-place.result c.take_nth-act.result mid t))
    c.eval.ensures.state (wakes-eval c.self.inside.net.nodes c.in-Eval.item) (few-more c.self.inside.net.values c.eval.new.self.values c.self.inside.steps c.eval.ensures.requests s.few_requests) s)

pub runner-self-inside-requires : goal.runner-self-inside-requires
runner-self-inside-requires g c =
    let h : Held = record { program = c.self.inside.program; scope_parents = c.self.inside.scope_parents.items; outputs = c.self.inside.outputs; net = c.self.inside.net; threads = c.self.inside.threads; design = c.self.inside.tasks.design; schedule = g.A.Agenda.schedule c.self.inside.agenda; running = c.self.inside.running; steps = c.self.inside.steps; taken = c.self.inside.taken } in
    let fine : c.self.inside.failed ≡ false = ap (λ (s : Shown). s.failed) c.self.view_is ∙ c.requires.fine in
    let s : IsSound h = c.self.invariant.sound fine in
    let mid = g.A.Agenda.schedule c.take_nth-act.new.self in
    let t = took h c.self.inside.order _ c.picked-place.result c.take_nth-act.result mid refl c.picked-place.ensures c.take_nth-act.ensures.nth c.take_nth-act.ensures.rest in
    took-key h c.self.inside.order c.picked-place.result c.take_nth-act.result (Run c.in-Run.serial c.in-Run.key) mid t c.in-Run.is s

pub invariant_of-self : goal.invariant_of-self
invariant_of-self g c =
    let h : Held = record { program = c.self.inside.program; scope_parents = c.self.inside.scope_parents.items; outputs = c.self.inside.outputs; net = c.self.inside.net; threads = c.self.inside.threads; design = c.self.inside.tasks.design; schedule = g.A.Agenda.schedule c.self.inside.agenda; running = c.self.inside.running; steps = c.self.inside.steps; taken = c.self.inside.taken } in
    let old = c.self.invariant.stands in
    let s : IsSound h = c.self.invariant.sound (ap (λ (x : Shown). x.failed) c.self.view_is ∙ c.requires.fine) in
    let mid = g.A.Agenda.schedule c.take_nth-act.new.self in
    let t = took h c.self.inside.order _ c.picked-place.result c.take_nth-act.result mid refl c.picked-place.ensures c.take_nth-act.ensures.nth c.take_nth-act.ensures.rest in
    lasts-failed _ (record {
      linked = old.linked;
      nodes = old.nodes;
      events = old.events;
      in_turn = subst (λ (ds : List Due). in_order (map unkeyed ds) ≡ map unkeyed ds) (sym c.make_delay_room-room.ensures.dues) (took-turn h c.self.inside.order c.picked-place.result c.take_nth-act.result mid t);
    })

pub invariant_of-self-in-Run : goal.invariant_of-self-in-Run
invariant_of-self-in-Run g c = lasts _ _ (ap (λ (s : Shown). s.failed) c.self.view_is ∙ c.requires.fine)
    (λ fine.
    let h : Held = record { program = c.self.inside.program; scope_parents = c.self.inside.scope_parents.items; outputs = c.self.inside.outputs; net = c.self.inside.net; threads = c.self.inside.threads; design = c.self.inside.tasks.design; schedule = g.A.Agenda.schedule c.self.inside.agenda; running = c.self.inside.running; steps = c.self.inside.steps; taken = c.self.inside.taken } in
    let s : IsSound h = c.self.invariant.sound fine in
    let mid = g.A.Agenda.schedule c.take_nth-act.new.self in
    let t = took h c.self.inside.order _ c.picked-place.result c.take_nth-act.result mid refl c.picked-place.ensures c.take_nth-act.ensures.nth c.take_nth-act.ensures.rest in
    sound-run h mid c.take_nth-act.result c.in-Run.serial c.in-Run.key c.runner-self-inside.result c.in-Run.is (took-removes h c.self.inside.order c.picked-place.result c.take_nth-act.result mid t) (took-spare h c.self.inside.order c.picked-place.result c.take_nth-act.result mid t) (took-turn h c.self.inside.order c.picked-place.result c.take_nth-act.result mid t)
    c.runner-self-inside.ensures.runner (if-some c.runner-self-inside.result (λ (r : Running). IsKeyOf c.self.inside.threads r.serial r.key) c.runner-self-inside.ensures.key) c.runner-self-inside.ensures.waiting s)

pub write-requires-clause-fits : goal.write-requires-clause-fits
write-requires-clause-fits g c =
    let h : Held = record { program = c.self.inside.program; scope_parents = c.self.inside.scope_parents.items; outputs = c.self.inside.outputs; net = c.self.inside.net; threads = c.self.inside.threads; design = c.self.inside.tasks.design; schedule = g.A.Agenda.schedule c.self.inside.agenda; running = c.self.inside.running; steps = c.self.inside.steps; taken = c.self.inside.taken } in
    let fine : c.self.inside.failed ≡ false = ap (λ (s : Shown). s.failed) c.self.view_is ∙ c.requires.fine in
    let s : IsSound h = c.self.invariant.sound fine in
    let mid = g.A.Agenda.schedule c.take_nth-act.new.self in
    let t = took h c.self.inside.order _ c.picked-place.result c.take_nth-act.result mid refl c.picked-place.ensures c.take_nth-act.ensures.nth c.take_nth-act.ensures.rest in
    fits-taken c.self.inside.net c.self.inside.threads (g.A.Agenda.schedule c.self.inside.agenda) mid c.take_nth-act.result (took-removes h c.self.inside.order c.picked-place.result c.take_nth-act.result mid t) (took-spare h c.self.inside.order c.picked-place.result c.take_nth-act.result mid t)
    (λ serial. ap (λ (a : Act). is_run_of serial a) c.in-Update.is) (λ item. ap (λ (a : Act). is_eval_of item a) c.in-Update.is) s.fits

pub write-requires-clause-item : goal.write-requires-clause-item
write-requires-clause-item g c =
    let h : Held = record { program = c.self.inside.program; scope_parents = c.self.inside.scope_parents.items; outputs = c.self.inside.outputs; net = c.self.inside.net; threads = c.self.inside.threads; design = c.self.inside.tasks.design; schedule = g.A.Agenda.schedule c.self.inside.agenda; running = c.self.inside.running; steps = c.self.inside.steps; taken = c.self.inside.taken } in
    let fine : c.self.inside.failed ≡ false = ap (λ (s : Shown). s.failed) c.self.view_is ∙ c.requires.fine in
    let s : IsSound h = c.self.invariant.sound fine in
    let mid = g.A.Agenda.schedule c.take_nth-act.new.self in
    let t = took h c.self.inside.order _ c.picked-place.result c.take_nth-act.result mid refl c.picked-place.ensures c.take_nth-act.ensures.nth c.take_nth-act.ensures.rest in
    took-names h c.self.inside.order c.picked-place.result c.take_nth-act.result _ mid t c.in-Update.is s

pub mature-requires-clause-fits : goal.mature-requires-clause-fits
mature-requires-clause-fits g c =
    let h : Held = record { program = c.self.inside.program; scope_parents = c.self.inside.scope_parents.items; outputs = c.self.inside.outputs; net = c.self.inside.net; threads = c.self.inside.threads; design = c.self.inside.tasks.design; schedule = g.A.Agenda.schedule c.self.inside.agenda; running = c.self.inside.running; steps = c.self.inside.steps; taken = c.self.inside.taken } in
    let fine : c.self.inside.failed ≡ false = ap (λ (s : Shown). s.failed) c.self.view_is ∙ c.requires.fine in
    let s : IsSound h = c.self.invariant.sound fine in
    let mid = g.A.Agenda.schedule c.take_nth-act.new.self in
    let t = took h c.self.inside.order _ c.picked-place.result c.take_nth-act.result mid refl c.picked-place.ensures c.take_nth-act.ensures.nth c.take_nth-act.ensures.rest in
    fits-taken c.self.inside.net c.self.inside.threads (g.A.Agenda.schedule c.self.inside.agenda) mid c.take_nth-act.result (took-removes h c.self.inside.order c.picked-place.result c.take_nth-act.result mid t) (took-spare h c.self.inside.order c.picked-place.result c.take_nth-act.result mid t)
    (λ serial. ap (λ (a : Act). is_run_of serial a) c.in-Mature.is) (λ item. ap (λ (a : Act). is_eval_of item a) c.in-Mature.is) s.fits

pub mature-requires-clause-item : goal.mature-requires-clause-item
mature-requires-clause-item g c =
    let h : Held = record { program = c.self.inside.program; scope_parents = c.self.inside.scope_parents.items; outputs = c.self.inside.outputs; net = c.self.inside.net; threads = c.self.inside.threads; design = c.self.inside.tasks.design; schedule = g.A.Agenda.schedule c.self.inside.agenda; running = c.self.inside.running; steps = c.self.inside.steps; taken = c.self.inside.taken } in
    let fine : c.self.inside.failed ≡ false = ap (λ (s : Shown). s.failed) c.self.view_is ∙ c.requires.fine in
    let s : IsSound h = c.self.invariant.sound fine in
    let mid = g.A.Agenda.schedule c.take_nth-act.new.self in
    let t = took h c.self.inside.order _ c.picked-place.result c.take_nth-act.result mid refl c.picked-place.ensures c.take_nth-act.ensures.nth c.take_nth-act.ensures.rest in
    took-names h c.self.inside.order c.picked-place.result c.take_nth-act.result _ mid t c.in-Mature.is s

pub invariant_of-self-in-Update : goal.invariant_of-self-in-Update
invariant_of-self-in-Update g c = lasts _ _ (ap (λ (s : Shown). s.failed) c.self.view_is ∙ c.requires.fine)
    (λ fine.
    let h : Held = record { program = c.self.inside.program; scope_parents = c.self.inside.scope_parents.items; outputs = c.self.inside.outputs; net = c.self.inside.net; threads = c.self.inside.threads; design = c.self.inside.tasks.design; schedule = g.A.Agenda.schedule c.self.inside.agenda; running = c.self.inside.running; steps = c.self.inside.steps; taken = c.self.inside.taken } in
    let s : IsSound h = c.self.invariant.sound fine in
    let mid = g.A.Agenda.schedule c.take_nth-act.new.self in
    let t = took h c.self.inside.order _ c.picked-place.result c.take_nth-act.result mid refl c.picked-place.ensures c.take_nth-act.ensures.nth c.take_nth-act.ensures.rest in
    sound-applied _ h mid c.write.new.self c.write.new.threads (g.A.Agenda.schedule c.write.new.agenda) (rests-none c.self.inside.running (ap (λ (s : Shown). s.machine.running) c.self.view_is ∙ c.requires.rests)) (took-turn h c.self.inside.order c.picked-place.result c.take_nth-act.result mid t) c.write.ensures.state
    (wakes-write c.self.inside.net.nodes c.in-Update.item c.in-Update.word _ c.in-Update.value) (few-same c.self.inside.net.values c.write.new.self.values c.self.inside.steps c.write.ensures.requests s.few_requests) s)

pub invariant_of-self-in-Mature : goal.invariant_of-self-in-Mature
invariant_of-self-in-Mature g c = lasts _ _ (ap (λ (s : Shown). s.failed) c.self.view_is ∙ c.requires.fine)
    (λ fine.
    let h : Held = record { program = c.self.inside.program; scope_parents = c.self.inside.scope_parents.items; outputs = c.self.inside.outputs; net = c.self.inside.net; threads = c.self.inside.threads; design = c.self.inside.tasks.design; schedule = g.A.Agenda.schedule c.self.inside.agenda; running = c.self.inside.running; steps = c.self.inside.steps; taken = c.self.inside.taken } in
    let s : IsSound h = c.self.invariant.sound fine in
    let mid = g.A.Agenda.schedule c.take_nth-act.new.self in
    let t = took h c.self.inside.order _ c.picked-place.result c.take_nth-act.result mid refl c.picked-place.ensures c.take_nth-act.ensures.nth c.take_nth-act.ensures.rest in
    sound-applied _ h mid c.mature.new.self c.mature.new.threads (g.A.Agenda.schedule c.mature.new.agenda) (rests-none c.self.inside.running (ap (λ (s : Shown). s.machine.running) c.self.view_is ∙ c.requires.rests)) (took-turn h c.self.inside.order c.picked-place.result c.take_nth-act.result mid t) c.mature.ensures.state
    (wakes-mature c.self.inside.net.nodes c.in-Mature.item c.in-Mature.serial) (few-none c.self.inside.net.values c.mature.new.self.values c.self.inside.steps c.mature.ensures.requests s.few_requests) s)

pub returns-else-is_err-clause-ok : goal.returns-else-is_err-clause-ok
returns-else-is_err-clause-ok g c =
    let h : Held = record { program = c.self.inside.program; scope_parents = c.self.inside.scope_parents.items; outputs = c.self.inside.outputs; net = c.self.inside.net; threads = c.self.inside.threads; design = c.self.inside.tasks.design; schedule = g.A.Agenda.schedule c.self.inside.agenda; running = c.self.inside.running; steps = c.self.inside.steps; taken = c.self.inside.taken } in
    let fine : c.self.inside.failed ≡ false = ap (λ (s : Shown). s.failed) c.self.view_is ∙ c.requires.fine in
    let s : IsSound h = c.self.invariant.sound fine in
    let mid = g.A.Agenda.schedule c.take_nth-act.new.self in
    let t = took h c.self.inside.order _ c.picked-place.result c.take_nth-act.result mid refl c.picked-place.ensures c.take_nth-act.ensures.nth c.take_nth-act.ensures.rest in
    rw (← c.self.view_is) (net-taken (eval c.self.inside.net.nodes c.in-Eval.item) (the_view (param 0 g.row.A) (param 1 g.row.F) g.A.Agenda g.F.Fanout c.self.inside) c.self.inside.net c.eval.new.self c.self.inside.threads c.eval.new.threads (g.A.Agenda.schedule c.self.inside.agenda) (g.A.Agenda.schedule c.make_delay_room-room.new.agenda) (g.A.Agenda.schedule c.eval.new.agenda) c.take_nth-act.result refl (took-at h c.self.inside.order c.picked-place.result c.take_nth-act.result mid t)
    (c.make_delay_room-room.ensures.now ∙ took-now h c.self.inside.order c.picked-place.result c.take_nth-act.result mid t) (c.make_delay_room-room.ensures.dues ∙ took-dues h c.self.inside.order c.picked-place.result c.take_nth-act.result mid t)
    (λ machine. ap (λ (a : Act). apply c.self.inside.program (unkeyed_act a) machine) c.in-Eval.is ∙ ap (λ (ns : List Node). on_state (eval ns c.in-Eval.item) machine) (sym s.nodes)) c.eval.ensures.state)

pub returns-in-Update-clause-ok : goal.returns-in-Update-clause-ok
returns-in-Update-clause-ok g c =
    let fits : FitsSigned w64 c.in-Update.offset = search rules in
    let h : Held = record { program = c.self.inside.program; scope_parents = c.self.inside.scope_parents.items; outputs = c.self.inside.outputs; net = c.self.inside.net; threads = c.self.inside.threads; design = c.self.inside.tasks.design; schedule = g.A.Agenda.schedule c.self.inside.agenda; running = c.self.inside.running; steps = c.self.inside.steps; taken = c.self.inside.taken } in
    let fine : c.self.inside.failed ≡ false = ap (λ (s : Shown). s.failed) c.self.view_is ∙ c.requires.fine in
    let s : IsSound h = c.self.invariant.sound fine in
    let mid = g.A.Agenda.schedule c.take_nth-act.new.self in
    let t = took h c.self.inside.order _ c.picked-place.result c.take_nth-act.result mid refl c.picked-place.ensures c.take_nth-act.ensures.nth c.take_nth-act.ensures.rest in
    rw (← c.self.view_is) (net-taken (write c.self.inside.net.nodes c.in-Update.item c.in-Update.word c.in-Update.offset c.in-Update.value) (the_view (param 0 g.row.A) (param 1 g.row.F) g.A.Agenda g.F.Fanout c.self.inside) c.self.inside.net c.write.new.self c.self.inside.threads c.write.new.threads (g.A.Agenda.schedule c.self.inside.agenda) mid (g.A.Agenda.schedule c.write.new.agenda) c.take_nth-act.result refl (took-at h c.self.inside.order c.picked-place.result c.take_nth-act.result mid t)
    (took-now h c.self.inside.order c.picked-place.result c.take_nth-act.result mid t) (took-dues h c.self.inside.order c.picked-place.result c.take_nth-act.result mid t)
    (λ machine. ap (λ (a : Act). apply c.self.inside.program (unkeyed_act a) machine) c.in-Update.is ∙ ap (λ (ns : List Node). on_state (write ns c.in-Update.item c.in-Update.word c.in-Update.offset c.in-Update.value) machine) (sym s.nodes))
    (subst (λ (z : ℤ). Delivers (write c.self.inside.net.nodes c.in-Update.item c.in-Update.word z c.in-Update.value) c.self.inside.net c.write.new.self c.self.inside.threads c.write.new.threads mid (g.A.Agenda.schedule c.write.new.agenda))
    (to_z-of_z w64 c.in-Update.offset fits) c.write.ensures.state))

pub returns-in-Mature-clause-ok : goal.returns-in-Mature-clause-ok
returns-in-Mature-clause-ok g c =
    let h : Held = record { program = c.self.inside.program; scope_parents = c.self.inside.scope_parents.items; outputs = c.self.inside.outputs; net = c.self.inside.net; threads = c.self.inside.threads; design = c.self.inside.tasks.design; schedule = g.A.Agenda.schedule c.self.inside.agenda; running = c.self.inside.running; steps = c.self.inside.steps; taken = c.self.inside.taken } in
    let fine : c.self.inside.failed ≡ false = ap (λ (s : Shown). s.failed) c.self.view_is ∙ c.requires.fine in
    let s : IsSound h = c.self.invariant.sound fine in
    let mid = g.A.Agenda.schedule c.take_nth-act.new.self in
    let t = took h c.self.inside.order _ c.picked-place.result c.take_nth-act.result mid refl c.picked-place.ensures c.take_nth-act.ensures.nth c.take_nth-act.ensures.rest in
    rw (← c.self.view_is) (net-taken (mature c.self.inside.net.nodes c.in-Mature.item c.in-Mature.serial) (the_view (param 0 g.row.A) (param 1 g.row.F) g.A.Agenda g.F.Fanout c.self.inside) c.self.inside.net c.mature.new.self c.self.inside.threads c.mature.new.threads (g.A.Agenda.schedule c.self.inside.agenda) mid (g.A.Agenda.schedule c.mature.new.agenda) c.take_nth-act.result refl (took-at h c.self.inside.order c.picked-place.result c.take_nth-act.result mid t)
    (took-now h c.self.inside.order c.picked-place.result c.take_nth-act.result mid t) (took-dues h c.self.inside.order c.picked-place.result c.take_nth-act.result mid t)
    (λ machine. ap (λ (a : Act). apply c.self.inside.program (unkeyed_act a) machine) c.in-Mature.is ∙ ap (λ (ns : List Node). on_state (mature ns c.in-Mature.item c.in-Mature.serial) machine) (sym s.nodes)) c.mature.ensures.state)

pub returns-in-Run-clause-ok : goal.returns-in-Run-clause-ok
returns-in-Run-clause-ok g c =
    let h : Held = record { program = c.self.inside.program; scope_parents = c.self.inside.scope_parents.items; outputs = c.self.inside.outputs; net = c.self.inside.net; threads = c.self.inside.threads; design = c.self.inside.tasks.design; schedule = g.A.Agenda.schedule c.self.inside.agenda; running = c.self.inside.running; steps = c.self.inside.steps; taken = c.self.inside.taken } in
    let fine : c.self.inside.failed ≡ false = ap (λ (s : Shown). s.failed) c.self.view_is ∙ c.requires.fine in
    let s : IsSound h = c.self.invariant.sound fine in
    let mid = g.A.Agenda.schedule c.take_nth-act.new.self in
    let t = took h c.self.inside.order _ c.picked-place.result c.take_nth-act.result mid refl c.picked-place.ensures c.take_nth-act.ensures.nth c.take_nth-act.ensures.rest in
    let running = option_map (λ (r : Running). r.serial) c.runner-self-inside.result in
    let view = (the_view (param 0 g.row.A) (param 1 g.row.F) g.A.Agenda g.F.Fanout c.self.inside) in
    rw (← c.self.view_is)
    (subst (λ (m : Schedule). ShownSteps (λ machine. take_by_order view.program view.order (stepped machine)) view
    (record view { machine = record view.machine { state = state_of c.self.inside.net c.self.inside.threads m; running = running; steps = view.machine.steps + 1; taken = view.machine.taken + 1 } }))
    (sym (took-left h c.self.inside.order c.picked-place.result c.take_nth-act.result mid t))
    (run-taken view c.self.inside.net c.self.inside.threads (g.A.Agenda.schedule c.self.inside.agenda) c.take_nth-act.result c.in-Run.serial c.in-Run.key running refl (ap (λ (s : Shown). s.machine.running) c.self.view_is ∙ c.requires.rests) (took-at h c.self.inside.order c.picked-place.result c.take_nth-act.result mid t) c.in-Run.is c.runner-self-inside.ensures.runner))
