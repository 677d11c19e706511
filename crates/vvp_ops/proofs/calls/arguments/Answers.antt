use Rattle.std.proofs.Common.{◌≡◌, ◌<◌, true, false, List, [], ◌∷◌, ◌++◌, length, drop, Some, None, is_some, sym, ap, ◌∙◌, subst}
use Rattle.std.specs.Option.{option_map}
use Rattle.vvp_lex.specs.declared.types.Name.{Name}
use Rattle.vvp_lex.specs.declared.types.Spanned.{Spanned}
use Rattle.vvp_lex.specs.Place.{mark_at}
use Rattle.vvp_ops.specs.declared.args.Arg.{Arg}
use Rattle.vvp_ops.specs.Arguments.{argument_at, tokens_in}
use Rattle.vvp_ops.specs.Calls.{arguments_of}
use Rattle.vvp_lex.proofs.TextAtLemmas.{texts-after}
use Rattle.vvp_ops.proofs.CallLemmas.{after_arguments, arguments_of-comma, arguments_of-none, arguments_of-end, after_arguments-push, after_arguments-end, arguments-shorter}
use Rattle.vvp_ops.proofs.calls.arguments.Goals as goal

pub argument_at-requires-clause-texts : goal.argument_at-requires-clause-texts
argument_at-requires-clause-texts c =
    texts-after c.args.src.now c.loop-alloc.rest.now _ 1 c.tokens_after-after.ensures c.loop-alloc.invariant.texts

pub returns-in_default : goal.returns-in_default
returns-in_default c =
    let comma : is_some (mark_at c.loop-alloc.rest.now 0 44) ≡ true = cc in
    let read : argument_at c.args.src.now (drop 1 c.loop-alloc.rest.now) ≡ None = ap (argument_at c.args.src.now) (sym c.tokens_after-after.ensures) ∙ sym c.in_ok-arg.ensures ∙ c.in_default.is in
    sym (c.loop-alloc.invariant.reads ∙ ap (option_map (after_arguments c.loop-alloc.args)) (arguments_of-none c.args.src.now c.loop-alloc.rest.now comma read))

pub loop-alloc-smaller : goal.loop-alloc-smaller
loop-alloc-smaller c =
    let comma : is_some (mark_at c.loop-alloc.rest.now 0 44) ≡ true = cc in
    let left : drop (tokens_in c.in-Some.arg) (drop 1 c.loop-alloc.rest.now) ≡ c.tokens_after-rest.result.now = sym (c.tokens_after-rest.ensures ∙ ap (λ n. drop n c.tokens_after-after.result.now) c.tokens.ensures ∙ ap (drop (tokens_in c.in-Some.arg)) c.tokens_after-after.ensures) in
    subst (λ (rest : List Spanned). length rest < length c.loop-alloc.rest.now) left (arguments-shorter c.loop-alloc.rest.now _ comma)

pub loop-alloc-preserved : goal.loop-alloc-preserved
loop-alloc-preserved c =
    let file = c.args.src.now in
    let rest = c.loop-alloc.rest.now in
    let comma : is_some (mark_at rest 0 44) ≡ true = cc in
    let read : argument_at file (drop 1 rest) ≡ Some c.in-Some.arg = ap (argument_at file) (sym c.tokens_after-after.ensures) ∙ sym c.in_ok-arg.ensures ∙ c.in-Some.is in
    let left : drop (tokens_in c.in-Some.arg) (drop 1 rest) ≡ c.tokens_after-rest.result.now = sym (c.tokens_after-rest.ensures ∙ ap (λ n. drop n c.tokens_after-after.result.now) c.tokens.ensures ∙ ap (drop (tokens_in c.in-Some.arg)) c.tokens_after-after.ensures) in
    let pushed : c.loop-alloc.args ++ c.in-Some.arg ∷ [] ≡ c.push.new.self = sym c.in_ok-push.ensures.ok in
    let step = ap (option_map (after_arguments c.loop-alloc.args)) (arguments_of-comma file rest c.in-Some.arg comma read) in
    let more = ap (λ (found : List (Arg Name)). option_map (after_arguments found) (arguments_of file 0 (drop (tokens_in c.in-Some.arg) (drop 1 rest)))) pushed in
    let last = ap (λ (tokens : List Spanned). option_map (after_arguments c.push.new.self) (arguments_of file 0 tokens)) left in
    record {
      texts = texts-after file c.tokens_after-after.result.now _ _ c.tokens_after-rest.ensures (texts-after file rest _ 1 c.tokens_after-after.ensures c.loop-alloc.invariant.texts);
      reads = c.loop-alloc.invariant.reads ∙ step ∙ after_arguments-push c.loop-alloc.args c.in-Some.arg _ ∙ more ∙ last;
    }

pub returns : goal.returns
returns c =
    let over : is_some (mark_at c.loop-alloc.rest.now 0 44) ≡ false = cc in
    sym (c.loop-alloc.invariant.reads ∙ ap (option_map (after_arguments c.loop-alloc.args)) (arguments_of-end c.args.src.now c.loop-alloc.rest.now over) ∙ after_arguments-end c.loop-alloc.args c.loop-alloc.rest.now)
