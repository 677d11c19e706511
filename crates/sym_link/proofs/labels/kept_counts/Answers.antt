use Rattle.std.proofs.Common.{List, [], ◌∷◌, ◌++◌, ◌≡◌, ◌+◌, ◌≤◌, length, ap, ◌∙◌, arith}
use Rattle.sym_link.specs.declared.labels.Counts.{Counts}
use Rattle.sym_link.proofs.CountLemmas.{counted-none, kept-all, kept-more, kept-none}
use Rattle.sym_link.proofs.ListLemmas.{push-length}
use Rattle.sym_link.proofs.labels.kept_counts.Goals as goal

pub loop-place-init : goal.loop-place-init
loop-place-init c =
    let only : c.push.new.self.items ≡ c.no_counts-counts.result ∷ [] = c.in_ok-push.ensures.items ∙ ap (λ (l : List Counts). l ++ c.no_counts-counts.result ∷ []) c.in_ok-kept.ensures.items in
    rw only (record {
      within = omega arith;
      len = omega arith;
      counts = counted-none c.args.placed.now c.no_counts-counts.result c.no_counts-counts.ensures;
      each = kept-none c.args.placed.now c.no_counts-counts.result c.no_counts-counts.ensures;
    })

pub loop-place-preserved : goal.loop-place-preserved
loop-place-preserved c =
    let new = c.counts_on-counts.result in
    let room : c.loop-place.place + 8 ≤ length c.args.placed.now = omega (arith, c.loop-place-test.true) in
    let on : c.loop-place.place ≤ c.loop-place.place + 8 = omega arith in
    let is = c.counts_on-counts.ensures c.requires.few on room c.loop-place.invariant.counts in
    let long = push-length c.loop-place.kept.items new in
    rw c.in_ok-push-2.ensures.items (record {
      within = room;
      len = omega (arith, long, c.loop-place.invariant.len);
      counts = is;
      each = kept-more c.args.placed.now c.loop-place.place c.loop-place.kept.items new c.loop-place.invariant.len c.loop-place.invariant.each is;
    })

pub returns : goal.returns
returns c = kept-all c.args.placed.now c.loop-place.place c.loop-place.kept.items c.loop-place.invariant.len (omega (arith, c.loop-place-test.false)) c.loop-place.invariant.each
