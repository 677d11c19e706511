use Rattle.std.proofs.Common.{inr, sym, ◌∙◌}
use Rattle.sim_core.specs.Start.{run as run_of}
use Rattle.vvp_words.specs.Seen.{seen}
use Rattle.vvp_top.proofs.ActivityLemmas.{activity-bad, activity-no_program, activity-none_or, activity-plain, activity-read, activity-stopped}
use Rattle.vvp_top.proofs.TopLemmas.{refusal-isnt}
use Rattle.vvp_top.proofs.activity.trace_of_source.Goals as goal

-- no program
pub returns-in-Err-clause-refused : goal.returns-in-Err-clause-refused
returns-in-Err-clause-refused c = activity-no_program (seen c.args.entries.now) c.args.source.now c.in-Err.outcome c.in-Err.ensures.refused

pub returns-in-Err-clause-own : goal.returns-in-Err-clause-own
returns-in-Err-clause-own c = (
  (λ same. refusal-isnt c.in-Err.outcome _ _ c.in-Err.ensures.refused (λ is. cc) (λ why is. cc) same),
  (λ same. refusal-isnt c.in-Err.outcome _ _ c.in-Err.ensures.refused (λ is. cc) (λ why is. cc) same),
  (λ same. refusal-isnt c.in-Err.outcome _ _ c.in-Err.ensures.refused (λ is. cc) (λ why is. cc) same),
)

-- a dump can't hold its names
pub returns-then-not-plain_names-clause-refused : goal.returns-then-not-plain_names-clause-refused
returns-then-not-plain_names-clause-refused c = inr (activity-bad (seen c.args.entries.now) c.args.source.now c.in-Ok.program c.in-Ok.ensures.program (sym c.plain_names.ensures.plain ∙ c.if-not-plain_names.true))

-- its run
pub returns-in-Ok-own_trace-clause-whole : goal.returns-in-Ok-own_trace-clause-whole
returns-in-Ok-own_trace-clause-whole c =
    activity-plain (seen c.args.entries.now) c.args.source.now c.in-Ok.program _ c.in-Ok.ensures.program (sym c.plain_names.ensures.plain ∙ c.if-not-plain_names.false)
    (activity-read (run_of c.in-Ok.program c.args.entries.now.order c.args.entries.now.budget) c.in-Ok-own_trace.found.0 c.in-Ok-own_trace.found.1 c.in-Ok-own_trace.ensures.small c.in-Ok-own_trace.ensures.trace c.in-Ok-own_trace.ensures.ending)

-- it was stopped
pub returns-in-Err-own_trace-clause-refused : goal.returns-in-Err-own_trace-clause-refused
returns-in-Err-own_trace-clause-refused c =
    activity-none_or (seen c.args.entries.now) c.args.source.now c.in-Ok.program _ c.in-Ok.ensures.program (sym c.plain_names.ensures.plain ∙ c.if-not-plain_names.false)
    (activity-stopped c.in-Err-own_trace.own (run_of c.in-Ok.program c.args.entries.now.order c.args.entries.now.budget) _ c.outcome.ensures c.in-Err-own_trace.ensures.large)
