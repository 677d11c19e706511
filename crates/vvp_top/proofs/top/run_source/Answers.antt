use Rattle.std.proofs.Common.{refl}
use Rattle.vvp_words.specs.Seen.{seen}
use Rattle.vvp_top.specs.Whole.{whole_of_run}
use Rattle.vvp_top.proofs.TopLemmas.{cuts-nothing, refusal-isnt, refusal-silent, source-cut, source-done}
use Rattle.vvp_top.proofs.FaultLemmas.{fault-is_output, fault-is_store, fault-isnt_mild, fault-isnt_words}
use Rattle.vvp_top.proofs.PerformLemmas.{memory-not-output, memory-not-store, memory-not-words, not-yields}
use Rattle.vvp_top.specs.declared.outcome.Outcome.TheVariants.{Memory}
use Rattle.vvp_top.proofs.top.run_source.Goals as goal

-- no program
pub returns-in-Err-clause-refused : goal.returns-in-Err-clause-refused
returns-in-Err-clause-refused g c = λ none. (refusal-silent (seen c.args.entries.now) c.args.source.now c.in-Err.outcome c.in-Err.ensures.refused none, refl, refl)

pub returns-in-Err-clause-cut : goal.returns-in-Err-clause-cut
returns-in-Err-clause-cut g c = λ _. cuts-nothing (whole_of_run (seen c.args.entries.now) c.args.source.now) _ _ _ _ refl refl

pub returns-in-Err-clause-store_fault : goal.returns-in-Err-clause-store_fault
returns-in-Err-clause-store_fault g c = λ same. absurd (refusal-isnt c.in-Err.outcome _ _ c.in-Err.ensures.refused (λ is. cc) (λ why is. cc) same)

pub returns-in-Err-clause-output_fault : goal.returns-in-Err-clause-output_fault
returns-in-Err-clause-output_fault g c = λ same. absurd (refusal-isnt c.in-Err.outcome _ _ c.in-Err.ensures.refused (λ is. cc) (λ why is. cc) same)

pub returns-in-Err-clause-own : goal.returns-in-Err-clause-own
returns-in-Err-clause-own g c = λ same. refusal-isnt c.in-Err.outcome _ _ c.in-Err.ensures.refused (λ is. cc) (λ why is. cc) same

-- no memory for the engine
pub returns-in-Err-load-clause-cut : goal.returns-in-Err-load-clause-cut
returns-in-Err-load-clause-cut g c = λ _. cuts-nothing (whole_of_run (seen c.args.entries.now) c.args.source.now) _ _ _ _ refl refl

-- the run is stopped
pub returns-in-Err-run_engine-clause-cut : goal.returns-in-Err-run_engine-clause-cut
returns-in-Err-run_engine-clause-cut g c = λ _.
    source-cut (seen c.args.entries.now) c.args.source.now c.in-Ok.program c.in-Ok-load.engine _ _ _ _ c.in-Ok.ensures.program c.in-Ok-load.ensures.program c.in-Ok-load.ensures.order c.in-Ok-load.ensures.start c.in-Err-run_engine.ensures.cut

-- the run has come to its end
pub returns-clause-whole : goal.returns-clause-whole
returns-clause-whole g c =
    source-done (seen c.args.entries.now) c.args.source.now c.in-Ok.program c.in-Ok-load.engine c.run_engine.new.engine c.ended.result c.counts_of.result c.in-Ok-run_engine.ending _ _ _ _ c.in-Ok.ensures.program c.in-Ok-load.ensures.program c.in-Ok-load.ensures.order c.in-Ok-load.ensures.start
    c.in-Ok-run_engine.ensures.done c.ended.ensures.ended c.in-Ok-run_engine.ensures.answer c.counts_of.ensures

pub returns-in-Err-load-clause-refused : goal.returns-in-Err-load-clause-refused
returns-in-Err-load-clause-refused g c = λ none. absurd (not-yields Memory none refl)

pub returns-in-Err-load-clause-store_fault : goal.returns-in-Err-load-clause-store_fault
returns-in-Err-load-clause-store_fault g c = λ is. absurd (memory-not-store is)

pub returns-in-Err-load-clause-output_fault : goal.returns-in-Err-load-clause-output_fault
returns-in-Err-load-clause-output_fault g c = λ is. absurd (memory-not-output is)

pub returns-in-Err-load-clause-own : goal.returns-in-Err-load-clause-own
returns-in-Err-load-clause-own g c = λ is. memory-not-words is

pub returns-in-Err-run_engine-clause-refused : goal.returns-in-Err-run_engine-clause-refused
returns-in-Err-run_engine-clause-refused g c = λ none. absurd (fault-isnt_mild c.in-Err-run_engine.fault _ c.outcome.ensures none)

pub returns-in-Err-run_engine-clause-store_fault : goal.returns-in-Err-run_engine-clause-store_fault
returns-in-Err-run_engine-clause-store_fault g c = λ is. c.in-Err-run_engine.ensures.store_fault (fault-is_store c.in-Err-run_engine.fault _ c.outcome.ensures is)

pub returns-in-Err-run_engine-clause-output_fault : goal.returns-in-Err-run_engine-clause-output_fault
returns-in-Err-run_engine-clause-output_fault g c = λ is. c.in-Err-run_engine.ensures.output_fault (fault-is_output c.in-Err-run_engine.fault _ c.outcome.ensures is)

pub returns-in-Err-run_engine-clause-own : goal.returns-in-Err-run_engine-clause-own
returns-in-Err-run_engine-clause-own g c = λ is. fault-isnt_words c.in-Err-run_engine.fault _ c.outcome.ensures is
