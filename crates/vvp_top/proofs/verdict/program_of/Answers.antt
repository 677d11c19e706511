use Rattle.std.proofs.Common.{◌∙◌, List, subst}
use Rattle.std.specs.Prelude.{Contains}
use Rattle.vvp_edge.specs.declared.store.TheConstants.{MOST_SOURCE}
use Rattle.vvp_lex.specs.declared.types.Stmt.{Stmt}
use Rattle.vvp_top.proofs.VerdictLemmas.{most_source, read-whole, refused-so, verdict-form, verdict-large, verdict-lexical, verdict-linked}
use Rattle.vvp_top.proofs.verdict.program_of.Goals as goal

pub returns-then-source-gt-MOST_SOURCE-clause-refused : goal.returns-then-source-gt-MOST_SOURCE-clause-refused
returns-then-source-gt-MOST_SOURCE-clause-refused c = refused-so _ _ _ (verdict-large c.args.source.now MOST_SOURCE most_source c.if-source-gt-MOST_SOURCE.true) c.refused.ensures

pub returns-in-Err-Refused-clause-refused : goal.returns-in-Err-Refused-clause-refused
returns-in-Err-Refused-clause-refused c =
    let first = rw c.in-Err-Refused.field-0-is at c.in-Err-Refused.ensures.refused in
    let says = rw c.in-Err-Refused.field-0-is at c.refused-in-Err-Refused.ensures in
    refused-so _ _ _ (verdict-lexical c.args.source.now MOST_SOURCE _ most_source c.if-source-gt-MOST_SOURCE.false first) says

-- each of the statements that were cut is one of the file
pub read_statements-requires-clause-given : goal.read_statements-requires-clause-given
read_statements-requires-clause-given c = λ stmt there. subst (λ (all : List Stmt). Contains all stmt) (c.deref.ensures.value ∙ c.in-Ok.ensures.ok.1) there

pub returns-in-Err-Refused-read_statements-clause-refused : goal.returns-in-Err-Refused-read_statements-clause-refused
returns-in-Err-Refused-read_statements-clause-refused c =
    let read = rw c.in-Err-Refused-read_statements.field-0-is at c.in-Err-Refused-read_statements.ensures in
    let says = rw c.in-Err-Refused-read_statements.field-0-is at c.refused-in-Err-Refused-read_statements.ensures in
    refused-so _ _ _ (verdict-form c.args.source.now MOST_SOURCE _ _ most_source c.if-source-gt-MOST_SOURCE.false c.in-Ok.ensures.ok.0 (read-whole c.args.source.now _ _ (c.deref.ensures.value ∙ c.in-Ok.ensures.ok.1) read))
    says

pub link-requires-clause-given : goal.link-requires-clause-given
link-requires-clause-given c = read-whole c.args.source.now _ _ (c.deref.ensures.value ∙ c.in-Ok.ensures.ok.1) c.in-Ok-read_statements.ensures

pub returns-in-Err-Refused-link-clause-refused : goal.returns-in-Err-Refused-link-clause-refused
returns-in-Err-Refused-link-clause-refused c =
    let links = rw c.in-Err-Refused-link.field-0-is at c.in-Err-Refused-link.ensures.answer in
    refused-so _ _ _ (verdict-linked c.args.source.now MOST_SOURCE _ _ most_source c.if-source-gt-MOST_SOURCE.false c.in-Ok.ensures.ok.0
    (read-whole c.args.source.now _ _ (c.deref.ensures.value ∙ c.in-Ok.ensures.ok.1) c.in-Ok-read_statements.ensures) links) c.refused-in-Err-Refused-link.ensures

pub returns-clause-program : goal.returns-clause-program
returns-clause-program c =
    verdict-linked c.args.source.now MOST_SOURCE _ _ most_source c.if-source-gt-MOST_SOURCE.false c.in-Ok.ensures.ok.0
    (read-whole c.args.source.now _ _ (c.deref.ensures.value ∙ c.in-Ok.ensures.ok.1) c.in-Ok-read_statements.ensures) c.in-Ok-link.ensures.answer
