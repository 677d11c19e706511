use Rattle.std.proofs.Common.{length, sym, ap, ◌∙◌}
use Rattle.std.proofs.lemmas.List.{length-map}
use Rattle.event_pool.specs.Schedule.{Schedule}
use Rattle.net_engine.specs.Net.{first_values}
use Rattle.net_engine.proofs.TestLemmas.{may-fit}
use Rattle.net_engine.proofs.tests.followed.Goals as goal

pub follow-requires-clause-fits : goal.follow-requires-clause-fits
follow-requires-clause-fits c =
    may-fit c.in_ok-design.design (first_values c.in_ok-design.design) c.as_mut_slice.result.now c.in_ok-threads.threads c.reserve.new.self (length c.as_slice-count.result.now)
    (ap length c.in_ok-design.ensures ∙ length-map c.args.program.now.items _ ∙ ap length (sym c.as_slice-count.ensures))
    (c.as_mut_slice.ensures.value ∙ c.in_ok-marks.ensures) (c.in_ok-reserve.ensures.dues ∙ ap (λ (s : Schedule). s.dues) c.in_ok-agenda.ensures) c.in_ok-reserve.ensures.ok
    c.in_ok-threads.ensures.0 c.in_ok-threads.ensures.1
