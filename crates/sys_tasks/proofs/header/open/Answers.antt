use Rattle.std.proofs.Common.{length, map, ap, ◌∙◌, arith}
use Rattle.std.proofs.lemmas.List.{length-map}
use Rattle.sys_tasks.specs.Design.{width_of}
use Rattle.sys_tasks.specs.Dumped.{dump_scope}
use Rattle.sys_tasks.proofs.HeaderLemmas.{header-few, header-scopes, header-sizes, plane-least, plane-most, replicate-lengths, start-widths}
use Rattle.sys_tasks.proofs.header.open.Goals as goal

pub new-requires-clause-least : goal.new-requires-clause-least
new-requires-clause-least c =
    plane-least c.args.entries.now c.args.scopes.now c.args.precision c.requires.program c.args.chosen.now c.as_slice.result.now c.as_slice-2.result.now c.requires.chosen
    (c.as_slice.ensures.value ∙ c.in_ok-roots.ensures) (c.as_slice-2.ensures.value ∙ c.in_ok-widths.ensures)

pub new-requires-clause-most : goal.new-requires-clause-most
new-requires-clause-most c =
    plane-most c.args.entries.now c.args.scopes.now c.args.precision c.requires.program c.args.chosen.now c.as_slice.result.now c.as_slice-2.result.now c.requires.chosen
    (c.as_slice.ensures.value ∙ c.in_ok-roots.ensures) (c.as_slice-2.ensures.value ∙ c.in_ok-widths.ensures)

pub start-requires-clause-scopes : goal.start-requires-clause-scopes
start-requires-clause-scopes c = λ k d inside.
    let below = header-scopes c.args.entries.now c.args.scopes.now c.args.precision c.requires.program c.args.chosen.now c.as_slice-4.result.now c.requires.chosen (c.as_slice-4.ensures.value ∙ c.in_ok-items.ensures) k d inside in
    let as_many = ap length (c.as_slice-3.ensures.value ∙ c.in_ok-scopes.ensures) ∙ length-map c.args.scopes.now dump_scope in
    omega arith

pub start-requires-clause-few : goal.start-requires-clause-few
start-requires-clause-few c =
    header-few c.args.entries.now c.args.scopes.now c.args.precision c.requires.program c.args.chosen.now c.as_slice-4.result.now c.requires.chosen (c.as_slice-4.ensures.value ∙ c.in_ok-items.ensures)

pub start-requires-clause-sizes : goal.start-requires-clause-sizes
start-requires-clause-sizes c =
    header-sizes c.args.entries.now c.args.scopes.now c.args.precision c.requires.program c.args.chosen.now c.as_slice-4.result.now c.requires.chosen (c.as_slice-4.ensures.value ∙ c.in_ok-items.ensures)

pub returns-clause-writer : goal.returns-clause-writer
returns-clause-writer c = record {
  are_roots = c.in_ok-roots.ensures;
  last_widths =
      start-widths c.args.entries.now c.args.scopes.now c.args.precision c.requires.program c.args.chosen.now c.as_slice-4.result.now c.in_ok-dump.dump c.in_ok-roots.roots.items c.requires.chosen
      (c.as_slice-4.ensures.value ∙ c.in_ok-items.ensures) c.in_ok-dump.ensures.unknown c.in_ok-roots.ensures;
  value_widths =
      ap (map length) c.in_ok-values.ensures ∙ replicate-lengths c.as_slice-2.result.now ∙ c.as_slice-2.ensures.value ∙ c.in_ok-widths.ensures ∙ ap (map (width_of c.args.entries.now)) c.as_slice.ensures.value;
}
