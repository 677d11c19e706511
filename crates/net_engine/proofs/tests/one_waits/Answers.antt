use Rattle.std.proofs.Common.{None, length, ap, ◌∙◌, arith}
use Rattle.std.proofs.lemmas.List.{length-replicate}
use Rattle.vvp_threads.specs.Keyed.{KeyedTable}
use Rattle.net_engine.proofs.TestLemmas.{begun, is-ready, now-waits}
use Rattle.net_engine.proofs.tests.one_waits.Goals as goal

pub wait_on-requires-clause-ready : goal.wait_on-requires-clause-ready
wait_on-requires-clause-ready c =
    let ready = is-ready c.args.events c.in_ok-key.key c.spawn.new.self (begun c.args.events c.in_ok-key.key c.in_ok-threads.threads c.spawn.new.self c.in_ok-threads.ensures.table (c.in_ok-key.ensures.ok None tt)) in
    (0, ready.0, ready.1)

pub wait_on-requires-clause-event : goal.wait_on-requires-clause-event
wait_on-requires-clause-event c =
    let one = begun c.args.events c.in_ok-key.key c.in_ok-threads.threads c.spawn.new.self c.in_ok-threads.ensures.table (c.in_ok-key.ensures.ok None tt) in
    let long = ap (λ (t : KeyedTable). length t.table.waiting) one ∙ length-replicate c.args.events _ in
    let within = c.requires in
    omega (arith, long, within)

pub returns : goal.returns
returns c =
    let one = begun c.args.events c.in_ok-key.key c.in_ok-threads.threads c.spawn.new.self c.in_ok-threads.ensures.table (c.in_ok-key.ensures.ok None tt) in
    let ready = is-ready c.args.events c.in_ok-key.key c.spawn.new.self one in
    now-waits c.args.events c.in_ok-key.key c.args.event c.spawn.new.self c.wait_on.new.self one (c.wait_on.ensures.table 0 ready.0)
