use Rattle.std.proofs.Common.{◌<◌, ◌≤◌, ℕ, Some, length, sym, ap, ◌∙◌, subst}
use Rattle.std.specs.List.{slice_get}
use Rattle.std.proofs.lemmas.Option.{same_Some}
use Rattle.net_engine.specs.Net.{driven_of, words_of, levels_of, seen}
use Rattle.net_engine.specs.Kept.{NetNow}
use Rattle.net_engine.proofs.RootLemmas.{levels-driven}
use Rattle.net_engine.proofs.ReadLemmas.{words-there, words-levels, array-word, read-word, read-value}
use Rattle.net_engine.proofs.net.Net.read.Goals as goal

pub kind-requires : goal.kind-requires
kind-requires g c =
    words-there c.self.inside.design c.self.inside.store.values c.args.item c.args.word (subst (λ (n : NetNow). c.args.word < length (words_of n.nodes n.values c.args.item)) (sym c.self.view_is) c.requires)

pub word-requires : goal.word-requires
word-requires g c =
    array-word c.self.inside.design c.self.inside.store.values c.args.item c.in-Array.words c.args.word (c.kind.ensures ∙ ap (λ k. Some k) c.in-Array.is) (subst (λ (n : NetNow). c.args.word < length (words_of n.nodes n.values c.args.item)) (sym c.self.view_is) c.requires)

pub root-requires : goal.root-requires
root-requires g c =
    words-there c.self.inside.design c.self.inside.store.values c.args.item c.args.word (subst (λ (n : NetNow). c.args.word < length (words_of n.nodes n.values c.args.item)) (sym c.self.view_is) c.requires)

pub bits-requires : goal.bits-requires
bits-requires g c =
    let h = subst (λ (n : NetNow). c.args.word < length (words_of n.nodes n.values c.args.item)) (sym c.self.view_is) c.requires in
    subst (λ (r : ℕ). 1 ≤ length (driven_of c.self.inside.store.values r)) (sym c.root.ensures)
    (levels-driven c.self.inside.design c.self.inside.store.values c.args.item c.self.invariant.0.linked c.self.invariant.0.wide
    (words-levels c.self.inside.design c.self.inside.store.values c.args.item c.args.word h (λ count e. c.in_default.not-Array count (same_Some _ _ (sym c.kind.ensures ∙ e)))))

pub returns-in-Array : goal.returns-in-Array
returns-in-Array g c =
    ap (λ (n : NetNow). slice_get (words_of n.nodes n.values c.args.item) c.args.word) (sym c.self.view_is)
    ∙ read-word c.self.inside.design c.self.inside.store.values c.args.item c.in-Array.words c.args.word c.word.result (c.kind.ensures ∙ ap (λ k. Some k) c.in-Array.is) c.word.ensures

pub returns-in_default : goal.returns-in_default
returns-in_default g c =
    let h = subst (λ (n : NetNow). c.args.word < length (words_of n.nodes n.values c.args.item)) (sym c.self.view_is) c.requires in
    ap (λ (n : NetNow). slice_get (words_of n.nodes n.values c.args.item) c.args.word) (sym c.self.view_is)
    ∙ read-value c.self.inside.design c.self.inside.store.values c.args.item c.args.word c.bits.result h
    (words-levels c.self.inside.design c.self.inside.store.values c.args.item c.args.word h (λ count e. c.in_default.not-Array count (same_Some _ _ (sym c.kind.ensures ∙ e))))
    (c.bits.ensures ∙ ap (λ (r : ℕ). seen (levels_of c.self.inside.store.values r)) c.root.ensures)
