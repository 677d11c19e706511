use Rattle.std.proofs.Common.{◌≡◌, ◌<◌, true, false, List, ◌∷◌, [], ◌++◌, length, drop, None, Some, sym, ap, ◌∙◌, arith}
use Rattle.std.specs.Option.{option_map}
use Rattle.std.proofs.lemmas.Bool.Decides.{nat_tests}
use Rattle.vvp_lex.specs.declared.types.Name.{Name}
use Rattle.vvp_lex.specs.declared.types.Spanned.{Spanned}
use Rattle.vvp_lex.specs.Place.{word_at, is_mark_at}
use Rattle.vvp_forms.specs.Operands.{symbols_after}
use Rattle.vvp_forms.proofs.PieceLemmas.{after_names, symbols-no_comma, symbols-no_word, symbols-more, after_names-push}
use Rattle.vvp_forms.proofs.pieces.symbols_of.Goals as goal

pub returns-then-not-is_mark_at : goal.returns-then-not-is_mark_at
returns-then-not-is_mark_at c =
    let some : 0 < length c.loop-rest.rest.now = grind (arith, nat_tests) in
    let other : is_mark_at c.loop-rest.rest.now 0 44 ≡ false = cc in
    sym (ap (option_map (after_names c.loop-rest.names)) (symbols-no_comma c.loop-rest.rest.now some other)) ∙ c.loop-rest.invariant

pub returns-in_default-word_at : goal.returns-in_default-word_at
returns-in_default-word_at c =
    let mark : is_mark_at c.loop-rest.rest.now 0 44 ≡ true = cc in
    let none : word_at c.loop-rest.rest.now 1 ≡ None = cc in
    sym (ap (option_map (after_names c.loop-rest.names)) (symbols-no_word c.loop-rest.rest.now mark none)) ∙ c.loop-rest.invariant

pub loop-rest-preserved : goal.loop-rest-preserved
loop-rest-preserved c =
    let rest = c.loop-rest.rest.now in
    let name = c.in-Some-word_at.name in
    let mark : is_mark_at rest 0 44 ≡ true = cc in
    let is : word_at rest 1 ≡ Some name = cc in
    let pushed : c.loop-rest.names ++ name ∷ [] ≡ c.push-in-loop-rest.new.self = sym c.in_ok-push-2.ensures.ok in
    let left : drop 2 rest ≡ c.tokens_after-rest-in-loop-rest.result.now = sym c.tokens_after-rest-in-loop-rest.ensures in
    let step = ap (option_map (after_names c.loop-rest.names)) (symbols-more rest name mark is) ∙ after_names-push c.loop-rest.names name (symbols_after (drop 2 rest)) in
    let more = ap (λ (found : List Name). option_map (after_names found) (symbols_after (drop 2 rest))) pushed in
    let last = ap (λ (tokens : List Spanned). option_map (after_names c.push-in-loop-rest.new.self) (symbols_after tokens)) left in
    sym (step ∙ more ∙ last) ∙ c.loop-rest.invariant
