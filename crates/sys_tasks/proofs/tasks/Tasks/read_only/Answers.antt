use Rattle.std.proofs.lemmas.Result.{err_from_is_err_and, on_err_weaker, on_ok_weaker}
use Rattle.sys_tasks.proofs.DumpLemmas.{widths-from}
use Rattle.sys_tasks.proofs.LineLemmas.{strobed-answers}
use Rattle.sys_tasks.proofs.PhaseLemmas.{dumping-part, middle-answers, middle-holds, monitor-part, strobes-part, whole-phase}
use Rattle.sys_tasks.proofs.tasks.Tasks.read_only.Goals as goal

pub print_monitor-requires : goal.print_monitor-requires
print_monitor-requires g c = strobed-answers c.args.now (g.V.Values.words_of c.args.values.now) c.args.self.now c.print_strobes.new.self c.in_ok-print_strobes.ensures.ok c.requires.answers

pub write_dump-requires : goal.write_dump-requires
write_dump-requires g c =
    let words = g.V.Values.words_of c.args.values.now in
    let strobes = c.in_ok-print_strobes.ensures.ok in
    let monitor = c.in_ok-print_monitor.ensures.ok in
    widths-from _ words c.args.plane.now (middle-answers c.args.now words _ _ _ strobes monitor c.requires.answers) (middle-holds c.args.now words _ _ _ c.args.plane.now strobes monitor c.requires.plane)

pub returns-clause-ok : goal.returns-clause-ok
returns-clause-ok g c =
    let words = g.V.Values.words_of c.args.values.now in
    let strobes = c.in_ok-print_strobes.ensures.ok in
    let monitor = c.in_ok-print_monitor.ensures.ok in
    on_ok_weaker c.write_dump.result
    (λ told. whole-phase c.args.now words c.args.self.now c.print_strobes.new.self c.print_monitor.new.self c.write_dump.new.self strobes monitor (told words (middle-holds c.args.now words _ _ _ c.args.plane.now strobes monitor c.requires.plane)))
    c.write_dump.ensures.ok

pub returns-clause-part : goal.returns-clause-part
returns-clause-part g c =
    let words = g.V.Values.words_of c.args.values.now in
    let strobes = c.in_ok-print_strobes.ensures.ok in
    let monitor = c.in_ok-print_monitor.ensures.ok in
    on_err_weaker c.write_dump.result
    (λ told. dumping-part c.args.now words c.args.self.now c.print_strobes.new.self c.print_monitor.new.self c.write_dump.new.self strobes monitor (told words (middle-holds c.args.now words _ _ _ c.args.plane.now strobes monitor c.requires.plane)))
    c.write_dump.ensures.part

pub returns-in_err-print_strobes-clause-part : goal.returns-in_err-print_strobes-clause-part
returns-in_err-print_strobes-clause-part g c =
    let p = err_from_is_err_and c.from_residual.result c.from_residual.ensures.1 in
    rw p.1 (strobes-part c.args.now (g.V.Values.words_of c.args.values.now) c.args.self.now c.print_strobes.new.self c.in_err-print_strobes.ensures.part c.in_err-print_strobes.ensures.err)

pub returns-in_err-print_monitor-clause-part : goal.returns-in_err-print_monitor-clause-part
returns-in_err-print_monitor-clause-part g c =
    let p = err_from_is_err_and c.from_residual-in_err-print_monitor.result c.from_residual-in_err-print_monitor.ensures.1 in
    rw p.1 (monitor-part c.args.now (g.V.Values.words_of c.args.values.now) c.args.self.now c.print_strobes.new.self c.print_monitor.new.self c.in_ok-print_strobes.ensures.ok c.in_err-print_monitor.ensures.err)
