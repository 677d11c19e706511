use Rattle.std.proofs.Common.{List, ap, sym, subst, ◌∙◌}
use Rattle.std.specs.Prelude.{Contains}
use Rattle.vvp_lex.specs.declared.types.Stmt.{Stmt}
use Rattle.sym_link.specs.Spelled.{read_all, statements_read}
use Rattle.sim_core.proofs.tests.linked.Goals as goal

pub read_statements-requires-clause-given : goal.read_statements-requires-clause-given
read_statements-requires-clause-given c = λ stmt h.
    subst (λ (l : List Stmt). Contains l stmt) (c.deref.ensures.value ∙ c.in_ok-found.ensures.ok.1) h

pub link-requires-clause-given : goal.link-requires-clause-given
unfolding statements_read
link-requires-clause-given c =
    ap (read_all c.args.src.now) (sym (c.deref.ensures.value ∙ c.in_ok-found.ensures.ok.1)) ∙ c.in_ok-placed.ensures
