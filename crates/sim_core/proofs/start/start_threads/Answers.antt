use Rattle.std.proofs.Common.{◌≡◌, ◌+◌, ◌<◌, None, List, drop, get_or, length, refl, ap, subst, ◌∙◌, arith}
use Rattle.sym_link.specs.declared.program.Item.{Item}
use Rattle.sym_link.specs.declared.program.Start.{Start}
use Rattle.vvp_threads.specs.Table.{spawned}
use Rattle.sim_core.proofs.LoadLemmas.{left-at}
use Rattle.sim_core.proofs.StartedLemmas.{live-most, no_threads, started-all, started-more, started-none, started-room}
use Rattle.sim_core.proofs.start.start_threads.Goals as goal

pub loop-index-init : goal.loop-index-init
loop-index-init g c =
    started-none c.args.program.now c.in_ok-threads.threads (g.A.Agenda.schedule c.args.agenda.now)
    (c.in_ok-threads.ensures.table ∙ ap (λ (items : List Item). no_threads (length items)) c.as_slice.ensures)
    c.requires.time c.requires.dues c.requires.room

pub loop-index-preserved : goal.loop-index-preserved
loop-index-preserved g c =
    let starts = c.args.program.now.threads in
    let k = c.loop-index.index in
    let none : Start = record { code = 0; scope = 0 } in
    let within = subst (λ (xs : List Start). k < length xs) c.as_slice-starts.ensures c.loop-index-test.true in
    let table =
    subst (λ (xs : List Start). c.start_thread.new.threads.table ≡ spawned c.loop-index.threads.table None (get_or xs k none).scope (get_or xs k none).code) c.as_slice-starts.ensures c.in_ok-start_thread.ensures.table in
    started-more c.args.program.now (drop (k + 1) starts) (get_or starts k none) k c.loop-index.threads c.start_thread.new.threads (g.A.Agenda.schedule c.loop-index.agenda) (g.A.Agenda.schedule c.start_thread.new.agenda)
    (left-at starts k none within) refl table c.in_ok-start_thread.ensures.dues c.start_thread.ensures.time c.in_ok-start_thread.ensures.runs c.loop-index.invariant

pub start_thread-requires-clause-few : goal.start_thread-requires-clause-few
start_thread-requires-clause-few g c = omega (arith, live-most c.loop-index.threads.table, c.loop-index.invariant.count, c.requires.program.few_threads, c.loop-index-test.true, ap (λ (starts : List Start). length starts) c.as_slice-starts.ensures)

pub start_thread-requires-clause-room : goal.start_thread-requires-clause-room
start_thread-requires-clause-room g c =
    let within = subst (λ (starts : List Start). c.loop-index.index < length starts) c.as_slice-starts.ensures c.loop-index-test.true in
    started-room c.args.program.now c.loop-index.index c.loop-index.threads (g.A.Agenda.schedule c.loop-index.agenda) within c.loop-index.invariant

pub returns-clause-dues : goal.returns-clause-dues
returns-clause-dues g c =
    let done : c.loop-index.index ≡ length c.args.program.now.threads = omega (arith, c.loop-index-test.false, c.loop-index.auto.index-end, ap (λ (starts : List Start). length starts) c.as_slice-starts.ensures) in
    (started-all c.args.program.now c.loop-index.index c.loop-index.threads (g.A.Agenda.schedule c.loop-index.agenda) done c.loop-index.invariant).dues

pub returns-clause-table : goal.returns-clause-table
returns-clause-table g c =
    let done : c.loop-index.index ≡ length c.args.program.now.threads = omega (arith, c.loop-index-test.false, c.loop-index.auto.index-end, ap (λ (starts : List Start). length starts) c.as_slice-starts.ensures) in
    (started-all c.args.program.now c.loop-index.index c.loop-index.threads (g.A.Agenda.schedule c.loop-index.agenda) done c.loop-index.invariant).table

pub returns-clause-runs : goal.returns-clause-runs
returns-clause-runs g c =
    let done : c.loop-index.index ≡ length c.args.program.now.threads = omega (arith, c.loop-index-test.false, c.loop-index.auto.index-end, ap (λ (starts : List Start). length starts) c.as_slice-starts.ensures) in
    (started-all c.args.program.now c.loop-index.index c.loop-index.threads (g.A.Agenda.schedule c.loop-index.agenda) done c.loop-index.invariant).runs
