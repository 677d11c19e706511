use Rattle.std.proofs.Common.{◌≡◌, ◌∙◌, sym, subst}
use Rattle.std.specs.List.{All}
use Rattle.vvp_lex.specs.Statement.{tokens_of}
use Rattle.vvp_lex.specs.Place.{IsTextOf}
use Rattle.vvp_forms.proofs.SpellsLemmas.{only_of_read, none_of_read}
use Rattle.vvp_lex.proofs.TextAtLemmas.{All-tokens_of}
use Rattle.vvp_forms.proofs.read.read_form.Goals as goal

pub form_spelled-requires-clause-texts : goal.form_spelled-requires-clause-texts
form_spelled-requires-clause-texts c =
    let same : c.deref.result.now ≡ tokens_of c.args.src.now c.args.stmt.now = c.deref.ensures.value ∙ c.in_ok-found.ensures.value in
    subst (All (IsTextOf c.args.src.now)) (sym same) (All-tokens_of c.args.src.now c.args.stmt.now c.requires.given)

pub returns-clause-spells : goal.returns-clause-spells
returns-clause-spells c =
    only_of_read c.args.src.now c.args.stmt.now.column_one c.deref.result.now (tokens_of c.args.src.now c.args.stmt.now) c.args.stmt.now.line _ (c.deref.ensures.value ∙ c.in_ok-found.ensures.value) c.form_spelled.ensures

pub returns-clause-refuses : goal.returns-clause-refuses
returns-clause-refuses c =
    none_of_read c.args.src.now c.args.stmt.now.column_one c.deref.result.now (tokens_of c.args.src.now c.args.stmt.now) c.args.stmt.now.line _ (c.deref.ensures.value ∙ c.in_ok-found.ensures.value) c.form_spelled.ensures
