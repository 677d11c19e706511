use Rattle.std.proofs.Common.{◌≤◌, ap, ◌∙◌, arith}
use Rattle.vvp_threads.specs.Table.{live_count}
use Rattle.vvp_threads.proofs.CallRuns.{idle-runs}
use Rattle.vvp_threads.proofs.tests.make_agenda.Goals as goal

pub returns : goal.returns
returns c =
    let room : live_count c.args.threads.now.table ≤ c.reserve.new.self.spare = omega (arith, c.live.ensures, c.in_ok-reserve.ensures.ok) in
    idle-runs c.args.threads.now c.reserve.new.self (c.reserve.ensures.dues ∙ ap (λ s. s.dues) c.in_ok-agenda.ensures) room
