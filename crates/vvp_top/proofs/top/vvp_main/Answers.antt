use Rattle.std.proofs.Common.{map, string_bytes}
use Rattle.vvp_top.proofs.MainLemmas.{only-bad_words, only-output, only-store, refused-status, top-complete, top-exact, top-line, top-own, top-prefix}
use Rattle.vvp_top.proofs.top.vvp_main.Goals as goal

pub returns-clause-bad_words : goal.returns-clause-bad_words
returns-clause-bad_words g c = λ one. c.perform-report.ensures.bad_words (only-bad_words c.perform-report.result.outcome _ c.status.ensures one)

pub returns-clause-refused : goal.returns-clause-refused
returns-clause-refused g c = λ none. let r = c.perform-report.ensures.refused none in (refused-status c.perform-report.result.outcome _ c.status.ensures r.0, r.1, r.2)

pub returns-clause-store_fault : goal.returns-clause-store_fault
returns-clause-store_fault g c = λ five. c.perform-report.ensures.store_fault (only-store c.perform-report.result.outcome _ c.status.ensures five)

pub returns-clause-output_fault : goal.returns-clause-output_fault
returns-clause-output_fault g c = λ six. c.perform-report.ensures.output_fault (only-output c.perform-report.result.outcome _ c.status.ensures six)

pub returns-clause-exact : goal.returns-clause-exact
returns-clause-exact g c = top-exact (map string_bytes c.args.words.now) c.perform-report.result _ _ _ _ _ c.status.ensures c.perform-report.ensures.whole

pub returns-clause-prefix : goal.returns-clause-prefix
returns-clause-prefix g c = top-prefix (map string_bytes c.args.words.now) c.perform-report.result _ _ _ _ _ c.status.ensures c.perform-report.ensures.cut

pub returns-clause-own_line : goal.returns-clause-own_line
returns-clause-own_line g c = top-own c.perform-report.result _ _ _ _ _ c.status.ensures c.perform-report.ensures.bare c.say.ensures

pub returns-clause-line : goal.returns-clause-line
returns-clause-line g c =
    top-line (map string_bytes c.args.words.now) c.perform-report.result _ _ _ (g.K.Sink.held c.args.out.now) (g.K.Sink.held c.perform-report.new.out) _ (g.S.Store.files c.perform-report.new.store) _ _
    c.status.ensures c.perform-report.ensures.bare c.perform-report.ensures.whole c.say.ensures

pub returns-clause-complete : goal.returns-clause-complete
returns-clause-complete g c = λ no_store no_out.
    top-complete (map string_bytes c.args.words.now) c.perform-report.result _ _ _ _ _ _ _ c.status.ensures c.perform-report.ensures.whole c.perform-report.ensures.store_fault c.perform-report.ensures.output_fault no_store no_out
