use Rattle.std.proofs.Common.{◌≡◌, Some, List, [], ◌∷◌, ◌++◌, sym, ap, ◌∙◌}
use Rattle.std.specs.List.{slice_get}
use Rattle.four_state.specs.declared.bits.Bit.{Bit}
use Rattle.net_engine.specs.Net.{array_of}
use Rattle.sim_core.proofs.SnapshotLemmas.{take-more, word-within, words-are}
use Rattle.sim_core.proofs.snapshot.copied_words.Goals as goal

pub read-requires : goal.read-requires
read-requires g c = word-within c.args.net.now.nodes c.args.net.now.values c.args.item c.args.words c.words.word c.widths.ensures c.requires c.words-test.true

pub words-preserved : goal.words-preserved
words-preserved g c =
    let array = array_of c.args.net.now.values c.args.item in
    let at : slice_get array c.words.word ≡ Some c.read.result = ap (λ (ws : List (List Bit)). slice_get ws c.words.word) (sym (words-are c.args.net.now.nodes c.args.net.now.values c.args.item c.args.words c.requires)) ∙ c.read.ensures in
    c.in_ok-push.ensures.ok ∙ ap (λ (ws : List (List Bit)). ws ++ c.read.result ∷ []) c.words.invariant ∙ sym (take-more array c.words.word c.read.result at)
