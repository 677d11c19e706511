use Rattle.std.proofs.Common.{◌≡◌, ◌+◌, drop, get_or, length, refl, arith}
use Rattle.sim_core.proofs.LoadLemmas.{left-at, put-all, put-more, put-none, put-room}
use Rattle.sim_core.proofs.start.put_evals.Goals as goal

pub loop-index-init : goal.loop-index-init
loop-index-init g c = put-none c.args.items.now (g.A.Agenda.schedule c.args.agenda.now) c.requires.time c.requires.empty

pub put_eval-requires-clause-room : goal.put_eval-requires-clause-room
put_eval-requires-clause-room g c = λ output.
    let items = c.args.items.now in
    let k = c.loop-index.index in
    let item = c.index-items-index.result in
    put-room items (drop (k + 1) items) (get_or items k item) (g.A.Agenda.schedule c.args.agenda.now).spare k (g.A.Agenda.schedule c.loop-index.agenda) (left-at items k item c.loop-index-test.true) c.requires.room output c.loop-index.invariant

pub loop-index-preserved : goal.loop-index-preserved
loop-index-preserved g c =
    let items = c.args.items.now in
    let k = c.loop-index.index in
    let item = c.index-items-index.result in
    put-more items (drop (k + 1) items) (get_or items k item) (g.A.Agenda.schedule c.args.agenda.now).spare k (g.A.Agenda.schedule c.loop-index.agenda) (g.A.Agenda.schedule c.put_eval.new.agenda) (left-at items k item c.loop-index-test.true) refl
    c.put_eval.ensures.some c.put_eval.ensures.none c.requires.room c.loop-index.invariant

pub returns-clause-dues : goal.returns-clause-dues
returns-clause-dues g c =
    let done : c.loop-index.index ≡ length c.args.items.now = omega (arith, c.loop-index-test.false, c.loop-index.auto.index-end) in
    (put-all c.args.items.now (g.A.Agenda.schedule c.args.agenda.now).spare c.loop-index.index (g.A.Agenda.schedule c.loop-index.agenda) done c.loop-index.invariant).0

pub returns-clause-room : goal.returns-clause-room
returns-clause-room g c =
    let done : c.loop-index.index ≡ length c.args.items.now = omega (arith, c.loop-index-test.false, c.loop-index.auto.index-end) in
    (put-all c.args.items.now (g.A.Agenda.schedule c.args.agenda.now).spare c.loop-index.index (g.A.Agenda.schedule c.loop-index.agenda) done c.loop-index.invariant).1
