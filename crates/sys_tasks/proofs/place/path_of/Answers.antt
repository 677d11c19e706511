use Rattle.std.proofs.Common.{◌≡◌, ◌<◌, ◌≤◌, ◌++◌, ◌∷◌, ℕ, List, [], get_or, length, reverse, sym, ap, subst, ◌∙◌, arith}
use Rattle.std.specs.Prelude.{Some, slice_get}
use Rattle.std.proofs.lemmas.List.{get_or_default}
use Rattle.std.proofs.lemmas.Option.{slice_get-get_or}
use Rattle.std.proofs.lemmas.Result.{IfOk-weaker}
use Rattle.sym_link.specs.declared.program.ScopeRow.{ScopeRow}
use Rattle.sys_tasks.specs.Design.{place_of}
use Rattle.sys_tasks.proofs.PathLemmas.{backwards-all, backwards-more, path, path-on, path-root, place-path}
use Rattle.sys_tasks.proofs.place.path_of.Goals as goal

pub loop-at-preserved : goal.loop-at-preserved
loop-at-preserved c =
    let rows = c.args.scopes.now in
    let at = c.loop-at.at in
    let there : at < length rows = c.loop-at.invariant.there in
    let row = get_or rows at c.index-scopes-at-in-loop-at-2.result in
    let here : slice_get rows at ≡ Some row = slice_get-get_or rows at c.index-scopes-at-in-loop-at-2.result there in
    let below : row.parent < at = subst (λ (r : ScopeRow). r.parent < at) (get_or_default rows at c.index-scopes-at.result c.index-scopes-at-in-loop-at-2.result there) c.loop-at-test.true in
    let written = c.loop-at.path.items in
    record {
      there = omega (arith, there, below);
      left = backwards-more (path rows c.args.scope) (path rows row.parent) row.name written c.push.new.self.items
          (c.loop-at.invariant.left ∙ ap (λ (bytes : List ℕ). bytes ++ reverse written) (path-on rows at row here below))
          (c.in_ok-push.ensures.items ∙ ap (λ (bytes : List ℕ). bytes ++ 46 ∷ []) (c.in_ok-add_backwards.ensures ∙ ap (λ (bytes : List ℕ). written ++ reverse bytes)
          (c.as_slice.ensures ∙ ap (λ (r : ScopeRow). r.name) (get_or_default rows at c.index-scopes-at-in-loop-at.result c.index-scopes-at-in-loop-at-2.result there))));
    }

pub returns : goal.returns
returns c =
    let rows = c.args.scopes.now in
    let at = c.loop-at.at in
    let there : at < length rows = c.loop-at.invariant.there in
    let row = get_or rows at c.index-scopes-at.result in
    let here : slice_get rows at ≡ Some row = slice_get-get_or rows at c.index-scopes-at.result there in
    let none = c.loop-at-test.false in
    let written = c.loop-at.path.items in
    let whole : reverse c.add_backwards-2.new.path.items ≡ path rows c.args.scope =
    backwards-all (path rows c.args.scope) row.name written c.add_backwards-2.new.path.items
    (c.loop-at.invariant.left ∙ ap (λ (bytes : List ℕ). bytes ++ reverse written) (path-root rows at row here (omega (arith, none))))
    (c.in_ok-add_backwards-2.ensures ∙ ap (λ (bytes : List ℕ). written ++ reverse bytes) (c.as_slice-2.ensures ∙ ap (λ (r : ScopeRow). r.name) (get_or_default rows at c.index-scopes-at-2.result c.index-scopes-at.result there))) in
    IfOk-weaker c.from_slice.result (λ (bytes : List ℕ). bytes ≡ c.as_slice-3.result.now) (λ (bytes : List ℕ). bytes ≡ (place_of rows c.args.scope).path)
    (λ bytes is. is ∙ c.as_slice-3.ensures.value ∙ c.reverse.ensures.items ∙ whole ∙ sym (place-path rows c.args.scope)) c.from_slice.ensures
