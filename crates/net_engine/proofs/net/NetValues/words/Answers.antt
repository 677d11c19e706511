use Rattle.std.proofs.Common.{◌≡◌, ◌≤◌, List, Some, length, sym, ap, ◌∙◌, subst, arith}
use Rattle.std.specs.List.{AllPairs}
use Rattle.std.proofs.lemmas.Option.{same_Some}
use Rattle.four_state.specs.declared.bits.Bit.{Bit}
use Rattle.net_engine.specs.Net.{words_of}
use Rattle.net_engine.specs.Kept.{NetNow}
use Rattle.net_engine.proofs.ReadLemmas.{words-there, words-levels, count-array, count-one, one-width-array, one-width-one}
use Rattle.net_engine.proofs.net.NetValues.words.Goals as goal

pub kind-requires : goal.kind-requires
kind-requires g c =
    let h : 1 ≤ length (words_of c.self.inside.design c.self.inside.store.values c.args.item) = subst (λ (n : NetNow). 1 ≤ length (words_of n.nodes n.values c.args.item)) (sym c.self.view_is) c.requires in
    words-there c.self.inside.design c.self.inside.store.values c.args.item 0 (omega (arith, h))

pub returns-in-Array-clause-number : goal.returns-in-Array-clause-number
returns-in-Array-clause-number g c =
    count-array c.self.inside.design c.self.inside.store.values c.args.item c.in-Array.words c.self.invariant.0.wide (c.kind.ensures ∙ ap (λ k. Some k) c.in-Array.is) ∙ ap (λ (n : NetNow). length (words_of n.nodes n.values c.args.item)) c.self.view_is

pub returns-in-Array-clause-one_width : goal.returns-in-Array-clause-one_width
returns-in-Array-clause-one_width g c =
    subst (λ (n : NetNow). AllPairs (λ (x y : List Bit). length x ≡ length y) (words_of n.nodes n.values c.args.item)) c.self.view_is
    (one-width-array c.self.inside.design c.self.inside.store.values c.args.item c.in-Array.words c.self.invariant.0.wide (c.kind.ensures ∙ ap (λ k. Some k) c.in-Array.is))

pub returns-in_default : goal.returns-in_default
returns-in_default g c =
    let h : 1 ≤ length (words_of c.self.inside.design c.self.inside.store.values c.args.item) = subst (λ (n : NetNow). 1 ≤ length (words_of n.nodes n.values c.args.item)) (sym c.self.view_is) c.requires in
    let levels = words-levels c.self.inside.design c.self.inside.store.values c.args.item 0 (omega (arith, h)) (λ count e. c.in_default.not-Array count (same_Some _ _ (sym c.kind.ensures ∙ e))) in
    record {
      number = count-one c.self.inside.design c.self.inside.store.values c.args.item levels ∙ ap (λ (n : NetNow). length (words_of n.nodes n.values c.args.item)) c.self.view_is;
      one_width = subst (λ (n : NetNow). AllPairs (λ (x y : List Bit). length x ≡ length y) (words_of n.nodes n.values c.args.item)) c.self.view_is
          (one-width-one c.self.inside.design c.self.inside.store.values c.args.item levels);
    }
