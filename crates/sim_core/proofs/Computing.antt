-- All that the rows compute with.
use Rattle.std.specs.Prelude.{ℕ}
use Rattle.std.specs.Fmt.{digits}
use Rattle.four_state.specs.Planes.{places, low_plane, high_plane}
use Rattle.four_state.specs.Vector.{at_each_place, reduction, part_of, overlaid, copies, equality, number, signed_number}
use Rattle.vec_arith.specs.Arith.{of_integer, ceil_log2, moved_up, moved_down}
use Rattle.strengths.specs.Ends.{lesser_end, greater_end}
use Rattle.strengths.specs.Level.{resolved}
use Rattle.strengths.specs.Moved.{part_or, copies as strengths_copies}
use Rattle.strengths.specs.Planes.{end_at, strength_at, levels, plane_of}
use Rattle.strengths.specs.Resolver.{joined, resolved_by}
use Rattle.strengths.specs.Wired.{wired}
use Rattle.gate_rules.specs.Evaluable.{Fits}
use Rattle.gate_rules.specs.Output.{output}
use Rattle.gate_rules.specs.Rows.{folded, arithmetic_of, comparison, shifted, reduced}
use Rattle.gate_rules.specs.Strong.{starting_levels}
use Rattle.text_format.specs.Text.{style_of, meaning_of, front, text_from}
use Rattle.text_format.specs.Written.{unknown_mark, each_group, without_zeros, decimal_of, decimal_width, time_of, without_nothing, character_of, padded}
use Rattle.value_plane.specs.Differing.{differing_places}
use Rattle.value_plane.specs.Vectors.{vectors}
use Rattle.vcd_write.specs.Chains.{left}
use Rattle.vcd_write.specs.Code.{code}
use Rattle.vcd_write.specs.Header.{time_unit, var_kind, var_line, scope_line, held_by, var_pieces, scope_block, scope_pieces, header_text}
use Rattle.vcd_write.specs.Section.{lines_of, section_text, changes_text, time_text}
use Rattle.vcd_write.specs.Value.{shortest, spelling_text, value_line}
use Rattle.vvp_threads.specs.Kept.{threads_of, keys_of}
use Rattle.vvp_threads.specs.Marks.{marks_of}
use Rattle.sys_tasks.specs.Arguments.{arguments, watched}
use Rattle.sys_tasks.specs.Conditions.{is_task_call, is_function_call}
use Rattle.sys_tasks.specs.Design.{design_of, paths, lineages, place_of}
use Rattle.sys_tasks.specs.Dumped.{chosen_in, dump_items_of, dumped_values}
use Rattle.sys_tasks.specs.Names.{task_of, function_of}
use Rattle.sys_tasks.specs.Phase.{lines_now, strobed, same_values, monitored, dumped, read_only, dump_name}
use Rattle.sys_tasks.specs.Sample.{sample_design, sample_words}
use Rattle.sys_tasks.specs.Tasks.{first_state, first_tasks, called, said_of, answered}
use Rattle.op_exec.specs.ArithmeticRows.{unless_blocked}
use Rattle.op_exec.specs.Calls.{called as op_exec_called}
use Rattle.op_exec.specs.ComparisonRows.{identity, with_equality, with_inequality, with_match}
use Rattle.op_exec.specs.Does.{family_of, stack_does, register_does, arithmetic_does, comparison_does, effect_does, does}
use Rattle.op_exec.specs.EffectRows.{offset_at, delay_at, word_at, joined_last}
use Rattle.op_exec.specs.RegisterRows.{with_number, bit_with_number}
use Rattle.op_exec.specs.Rows.{top_of, two_of, equal_two_of, top_of_width, pushed}
use Rattle.op_exec.specs.StackRows.{joined as op_exec_joined, repeated, part_from, split, popped}
use Rattle.sym_link.specs.Bound.{bound_op}
use Rattle.sym_link.specs.LinkRules.{broken_rule, first_refusal}
use Rattle.sym_link.specs.Meaning.{current_scope, scope_scale, sources_of, gate_of, other_item, item_said, program_of, linked}
use Rattle.sym_link.specs.Operands.{registers_of, flags_of, widths_of}
use Rattle.sym_link.specs.Roots.{readers, fired_with}
use Rattle.sym_link.specs.Sorts.{sort_of}
use Rattle.sym_link.specs.Spelled.{label_of, what_of, placed_of, statements_read}
use Rattle.sym_link.specs.Tasks.{tasks, functions, task_takes, function_takes}
use Rattle.sym_link.specs.Uses.{ports_of, form_use, events_of, op_symbols, args_of}
use Rattle.sym_link.specs.Verdict.{verdict}
use Rattle.sym_link.specs.Walks.{walks_of}
use Rattle.sym_link.specs.Widths.{root_walk, width_walk, declared_width, width_wanted}
use Rattle.net_engine.specs.Delivery.{trigger, delivered, become, write, force, release, mature, eval}
use Rattle.net_engine.specs.Net.{levels_of, words_of, output_of, first_values}
use Rattle.net_engine.specs.Parts.{plane_of as net_engine_plane_of}
use Rattle.net_engine.specs.Readers.{driven_ports, all_readers}

-- named on the `unfolding` line of a row
unfoldable pub computing : ℕ
unfolding digits places low_plane high_plane at_each_place reduction part_of overlaid copies equality number signed_number of_integer ceil_log2 moved_up moved_down lesser_end greater_end resolved part_or strengths_copies end_at strength_at levels plane_of joined resolved_by wired Fits output folded arithmetic_of comparison shifted reduced starting_levels style_of meaning_of front text_from unknown_mark each_group without_zeros decimal_of decimal_width time_of without_nothing character_of padded differing_places vectors left code time_unit var_kind var_line scope_line held_by var_pieces scope_block scope_pieces header_text lines_of section_text changes_text time_text shortest spelling_text value_line threads_of keys_of marks_of arguments watched is_task_call is_function_call design_of paths lineages place_of chosen_in dump_items_of dumped_values task_of function_of lines_now strobed same_values monitored dumped read_only dump_name sample_design sample_words first_state first_tasks called said_of answered unless_blocked op_exec_called identity with_equality with_inequality with_match family_of stack_does register_does arithmetic_does comparison_does effect_does does offset_at delay_at word_at joined_last with_number bit_with_number top_of two_of equal_two_of top_of_width pushed op_exec_joined repeated part_from split popped bound_op broken_rule first_refusal current_scope scope_scale sources_of gate_of other_item item_said program_of linked registers_of flags_of widths_of readers fired_with sort_of label_of what_of placed_of statements_read tasks functions task_takes function_takes ports_of form_use events_of op_symbols args_of verdict walks_of root_walk width_walk declared_width width_wanted trigger delivered become write force release mature eval levels_of words_of output_of first_values net_engine_plane_of driven_ports all_readers
computing = 0
