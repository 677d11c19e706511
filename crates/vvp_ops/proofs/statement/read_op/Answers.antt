use Rattle.std.proofs.Common.{◌∙◌}
use Rattle.vvp_ops.specs.Statement.{body_of}
use Rattle.vvp_ops.proofs.StatementLemmas.{All-body, All-body_based, answer_of-body, only_of_answer, none_of_answer}
use Rattle.vvp_ops.proofs.statement.read_op.Goals as goal

pub read_tokens-requires-clause-texts : goal.read_tokens-requires-clause-texts
read_tokens-requires-clause-texts c =
    All-body c.args.src.now c.args.stmt.now c.deref.result.now c.after_label-body.result.now c.requires.given (c.deref.ensures.value ∙ c.in_ok-found.ensures.value) c.after_label-body.ensures

pub returns-clause-answer : goal.returns-clause-answer
returns-clause-answer c =
    answer_of-body c.args.src.now c.args.stmt.now c.deref.result.now c.after_label-body.result.now c.read_tokens.result (c.deref.ensures.value ∙ c.in_ok-found.ensures.value) c.after_label-body.ensures c.read_tokens.ensures

pub returns-clause-spells : goal.returns-clause-spells
returns-clause-spells c =
    only_of_answer c.args.src.now (body_of c.args.src.now c.args.stmt.now) c.args.stmt.now.line c.read_tokens.result (All-body_based c.args.src.now c.args.stmt.now c.requires.given) (returns-clause-answer c)

pub returns-clause-refuses : goal.returns-clause-refuses
returns-clause-refuses c =
    none_of_answer c.args.src.now (body_of c.args.src.now c.args.stmt.now) c.args.stmt.now.line c.read_tokens.result (returns-clause-answer c)
