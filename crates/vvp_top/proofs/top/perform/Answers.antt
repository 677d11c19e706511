use Rattle.std.proofs.Common.{◌∙◌, Err, ap, inl, inr, refl, sym, map, string_bytes}
use Rattle.vvp_top.specs.declared.outcome.Outcome.TheVariants.{BadWords, Memory, OutputFault, StoreFault}
use Rattle.vvp_top.specs.Whole.{whole}
use Rattle.vvp_words.specs.Seen.{seen}
use Rattle.vvp_top.proofs.TopLemmas.{all-told, cuts-nothing, does-nothing, whole-refused}
use Rattle.vvp_top.proofs.PerformLemmas.{bare-counts, bare-isnt, bare-outcome, bare-yields, ended-isnt, ended-not, ended-yields, memory-not-output, memory-not-store, memory-not-words, not-refused, not-yields, rose-later, run-cut, run-did, run-refused, source-refused, words-not-output, words-not-store}
use Rattle.vvp_top.proofs.top.perform.Goals as goal

-- refused words
pub returns-in-Err-Refused-clause-bad_words : goal.returns-in-Err-Refused-clause-bad_words
returns-in-Err-Refused-clause-bad_words g c = λ _. c.in-Err-Refused.ensures.refused (ap Err c.in-Err-Refused.field-0-is)

pub returns-in-Err-Refused-clause-refused : goal.returns-in-Err-Refused-clause-refused
returns-in-Err-Refused-clause-refused g c = λ _. (inl (bare-outcome _ BadWords c.bare.ensures), refl, refl)

pub returns-in-Err-Refused-clause-store_fault : goal.returns-in-Err-Refused-clause-store_fault
returns-in-Err-Refused-clause-store_fault g c = λ is. absurd (bare-isnt _ BadWords StoreFault c.bare.ensures words-not-store is)

pub returns-in-Err-Refused-clause-output_fault : goal.returns-in-Err-Refused-clause-output_fault
returns-in-Err-Refused-clause-output_fault g c = λ is. absurd (bare-isnt _ BadWords OutputFault c.bare.ensures words-not-output is)

pub returns-in-Err-Refused-clause-whole : goal.returns-in-Err-Refused-clause-whole
returns-in-Err-Refused-clause-whole g c = λ _. all-told _ _ (λ files. does-nothing (whole (map string_bytes c.args.words.now) files) BadWords _ _ _ _ _ (whole-refused _ files (c.in-Err-Refused.ensures.refused (ap Err c.in-Err-Refused.field-0-is))) c.bare.ensures refl refl)

pub returns-in-Err-Refused-clause-cut : goal.returns-in-Err-Refused-clause-cut
returns-in-Err-Refused-clause-cut g c = λ so. absurd (not-yields BadWords refl (bare-yields _ BadWords _ c.bare.ensures so))

pub returns-in-Err-Refused-clause-bare : goal.returns-in-Err-Refused-clause-bare
returns-in-Err-Refused-clause-bare g c = λ _. bare-counts _ BadWords c.bare.ensures

-- want of memory before anything is run
pub returns-in-Err-Memory-clause-bad_words : goal.returns-in-Err-Memory-clause-bad_words
returns-in-Err-Memory-clause-bad_words g c = λ is. absurd (bare-isnt _ Memory BadWords c.bare-in-Err-Memory.ensures memory-not-words is)

pub returns-in-Err-Memory-clause-refused : goal.returns-in-Err-Memory-clause-refused
returns-in-Err-Memory-clause-refused g c = λ _. (inr (bare-outcome _ Memory c.bare-in-Err-Memory.ensures), refl, refl)

pub returns-in-Err-Memory-clause-store_fault : goal.returns-in-Err-Memory-clause-store_fault
returns-in-Err-Memory-clause-store_fault g c = λ is. absurd (bare-isnt _ Memory StoreFault c.bare-in-Err-Memory.ensures memory-not-store is)

pub returns-in-Err-Memory-clause-output_fault : goal.returns-in-Err-Memory-clause-output_fault
returns-in-Err-Memory-clause-output_fault g c = λ is. absurd (bare-isnt _ Memory OutputFault c.bare-in-Err-Memory.ensures memory-not-output is)

pub returns-in-Err-Memory-clause-whole : goal.returns-in-Err-Memory-clause-whole
returns-in-Err-Memory-clause-whole g c = λ mild. absurd (not-yields Memory (bare-yields _ Memory _ c.bare-in-Err-Memory.ensures mild) refl)

pub returns-in-Err-Memory-clause-cut : goal.returns-in-Err-Memory-clause-cut
returns-in-Err-Memory-clause-cut g c = λ _. all-told _ _ (λ files. cuts-nothing (whole (map string_bytes c.args.words.now) files) _ _ _ _ refl refl)

pub returns-in-Err-Memory-clause-bare : goal.returns-in-Err-Memory-clause-bare
returns-in-Err-Memory-clause-bare g c = λ _. bare-counts _ Memory c.bare-in-Err-Memory.ensures

-- no source
pub returns-in-Err-clause-bad_words : goal.returns-in-Err-clause-bad_words
returns-in-Err-clause-bad_words g c = λ is. absurd (bare-isnt _ c.in-Err.outcome BadWords c.bare-in-Err.ensures c.in-Err.ensures.own.1 is)

pub returns-in-Err-clause-refused : goal.returns-in-Err-clause-refused
returns-in-Err-clause-refused g c = λ none. absurd (not-refused _ _ c.in-Ok.ensures.ok none)

pub returns-in-Err-clause-store_fault : goal.returns-in-Err-clause-store_fault
returns-in-Err-clause-store_fault g c = λ is. c.in-Err.ensures.fault (sym (bare-outcome _ c.in-Err.outcome c.bare-in-Err.ensures) ∙ is)

pub returns-in-Err-clause-output_fault : goal.returns-in-Err-clause-output_fault
returns-in-Err-clause-output_fault g c = λ is. absurd (bare-isnt _ c.in-Err.outcome OutputFault c.bare-in-Err.ensures c.in-Err.ensures.own.0 is)

pub returns-in-Err-clause-whole : goal.returns-in-Err-clause-whole
returns-in-Err-clause-whole g c = λ mild.
    source-refused (map string_bytes c.args.words.now) (seen c.in-Ok.entries) c.in-Err.outcome _ _ _ _ c.in-Ok.ensures.ok (c.in-Err.ensures.refused (bare-yields _ c.in-Err.outcome _ c.bare-in-Err.ensures mild)) c.in-Err.ensures.files c.bare-in-Err.ensures

pub returns-in-Err-clause-cut : goal.returns-in-Err-clause-cut
returns-in-Err-clause-cut g c = λ _. all-told _ _ (λ files. cuts-nothing (whole (map string_bytes c.args.words.now) files) _ _ _ _ refl c.in-Err.ensures.files)

pub returns-in-Err-clause-bare : goal.returns-in-Err-clause-bare
returns-in-Err-clause-bare g c = λ _. bare-counts _ c.in-Err.outcome c.bare-in-Err.ensures

-- the run is stopped
pub returns-in-Err-work_on-clause-bad_words : goal.returns-in-Err-work_on-clause-bad_words
returns-in-Err-work_on-clause-bad_words g c = λ is. absurd (bare-isnt _ c.in-Err-work_on.outcome BadWords c.bare-in-Err-work_on.ensures c.in-Err-work_on.ensures.own is)

pub returns-in-Err-work_on-clause-refused : goal.returns-in-Err-work_on-clause-refused
returns-in-Err-work_on-clause-refused g c = λ none. absurd (not-refused _ _ c.in-Ok.ensures.ok none)

pub returns-in-Err-work_on-clause-store_fault : goal.returns-in-Err-work_on-clause-store_fault
returns-in-Err-work_on-clause-store_fault g c = λ is. rose-later _ _ _ c.source_of.ensures.later (c.in-Err-work_on.ensures.store_fault (sym (bare-outcome _ c.in-Err-work_on.outcome c.bare-in-Err-work_on.ensures) ∙ is))

pub returns-in-Err-work_on-clause-output_fault : goal.returns-in-Err-work_on-clause-output_fault
returns-in-Err-work_on-clause-output_fault g c = λ is. c.in-Err-work_on.ensures.output_fault (sym (bare-outcome _ c.in-Err-work_on.outcome c.bare-in-Err-work_on.ensures) ∙ is)

pub returns-in-Err-work_on-clause-whole : goal.returns-in-Err-work_on-clause-whole
returns-in-Err-work_on-clause-whole g c = λ none.
    run-refused (map string_bytes c.args.words.now) (seen c.in-Ok.entries) _ c.in-Ok-source_of.source.items c.in-Err-work_on.outcome _ _ _ _ _ _ c.in-Ok.ensures.ok c.deref.ensures.value c.in-Ok-source_of.ensures.source c.source_of.ensures.files (c.in-Err-work_on.ensures.refused (bare-yields _ c.in-Err-work_on.outcome _ c.bare-in-Err-work_on.ensures none)) c.bare-in-Err-work_on.ensures

pub returns-in-Err-work_on-clause-cut : goal.returns-in-Err-work_on-clause-cut
returns-in-Err-work_on-clause-cut g c = λ so.
    run-cut (map string_bytes c.args.words.now) (seen c.in-Ok.entries) _ c.in-Ok-source_of.source.items _ _ _ _ _ c.in-Ok.ensures.ok c.deref.ensures.value c.in-Ok-source_of.ensures.source c.source_of.ensures.files (c.in-Err-work_on.ensures.cut (bare-yields _ c.in-Err-work_on.outcome _ c.bare-in-Err-work_on.ensures so))

pub returns-in-Err-work_on-clause-bare : goal.returns-in-Err-work_on-clause-bare
returns-in-Err-work_on-clause-bare g c = λ _. bare-counts _ c.in-Err-work_on.outcome c.bare-in-Err-work_on.ensures

-- the run has come to its end
pub returns-clause-bad_words : goal.returns-clause-bad_words
returns-clause-bad_words g c = λ is. absurd (ended-isnt c.in-Ok-work_on.report.outcome BadWords c.in-Ok-work_on.ensures.run refl is)

pub returns-clause-refused : goal.returns-clause-refused
returns-clause-refused g c = λ none. absurd (not-refused _ _ c.in-Ok.ensures.ok none)

pub returns-clause-store_fault : goal.returns-clause-store_fault
returns-clause-store_fault g c = λ is. absurd (ended-isnt c.in-Ok-work_on.report.outcome StoreFault c.in-Ok-work_on.ensures.run refl is)

pub returns-clause-output_fault : goal.returns-clause-output_fault
returns-clause-output_fault g c = λ is. absurd (ended-isnt c.in-Ok-work_on.report.outcome OutputFault c.in-Ok-work_on.ensures.run refl is)

pub returns-clause-whole : goal.returns-clause-whole
returns-clause-whole g c = λ _. run-did (map string_bytes c.args.words.now) (seen c.in-Ok.entries) _ c.in-Ok-source_of.source.items c.in-Ok-work_on.report _ _ _ _ _ c.in-Ok.ensures.ok c.deref.ensures.value c.in-Ok-source_of.ensures.source c.source_of.ensures.files c.in-Ok-work_on.ensures.whole

pub returns-clause-cut : goal.returns-clause-cut
returns-clause-cut g c = λ so. absurd (ended-yields c.in-Ok-work_on.report.outcome c.in-Ok-work_on.ensures.run so)

pub returns-clause-bare : goal.returns-clause-bare
returns-clause-bare g c = λ isnt. absurd (ended-not c.in-Ok-work_on.report.outcome c.in-Ok-work_on.ensures.run isnt)
