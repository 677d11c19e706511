use Rattle.std.proofs.Common.{◌≡◌, Some, subst, arith}
use Rattle.op_exec.specs.declared.effect.Effect.TheVariants.{Next, Trap}
use Rattle.op_exec.specs.declared.effect.Local.{Local}
use Rattle.sim_core.specs.Parts.{Done, Locally}
use Rattle.sim_core.proofs.StretchLemmas.{place-within, trap-stays}
use Rattle.sim_core.proofs.stretch.go_once.Goals as goal

pub overflow_add-frame : goal.overflow_add-frame
overflow_add-frame g c =
    let words = g.V.Values.words_of c.args.values.now in
    let done : Done c.args.code.now c.args.frame.now c.do_local.new.frame words (Some Next) =
    subst (λ (l : Local). Locally (Done c.args.code.now c.args.frame.now c.do_local.new.frame words) (c.do_local.new.frame ≡ c.args.frame.now) l) c.in-Some-Next.field-0-is c.in-Some-Next.ensures.done in
    let within = place-within c.args.code.now c.args.frame.now c.do_local.new.frame Next words done in
    omega (arith, within, c.requires.few)

pub returns-in-Some-Trap-clause-stays : goal.returns-in-Some-Trap-clause-stays
returns-in-Some-Trap-clause-stays g c = λ none.
    let words = g.V.Values.words_of c.args.values.now in
    let done : Done c.args.code.now c.args.frame.now c.do_local.new.frame words (Some (Trap c.in-Some-Trap._kind)) =
    subst (λ (l : Local). Locally (Done c.args.code.now c.args.frame.now c.do_local.new.frame words) (c.do_local.new.frame ≡ c.args.frame.now) l) c.in-Some-Trap.field-0-is c.in-Some-Trap.ensures.done in
    trap-stays c.args.code.now c.args.frame.now c.do_local.new.frame c.in-Some-Trap._kind words done
