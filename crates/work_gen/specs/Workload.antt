-- The text of a workload, byte for byte.
use Rattle.std.specs.Prelude.{ℕ, zero, suc, ◌-◌, ◌==◌, List, [], ◌∷◌, ◌++◌, codes, decimal, if◌then◌else◌}
use Rattle.std.specs.List.{flat_map}

-- a byte of a template, or the digits in its place where it is `#`
abbrev pub filled_byte : List ℕ → ℕ → List ℕ
filled_byte digits byte = if byte == 35 then digits else (byte ∷ [])

-- a text in which these digits stand for each `#`
unfoldable pub filled : List ℕ → List ℕ → List ℕ
filled template digits = flat_map (filled_byte digits) template

-- the scope in which all stands
unfoldable pub scope_text : List ℕ
scope_text = codes "S_0 .scope module, \"w\" \"w\" 1 1;\n"

-- A counter of 16 bits that begins at its number and steps at every tick, the gate that compares its two lowest bits, and a net
-- that shows the gate.
unfoldable pub counter_template : List ℕ
counter_template = codes "q_# .var \"q_#\", 15 0;\np_# .part q_#, 0, 1;\nr_# .part q_#, 1, 1;\nx_# .functor XOR 1, p_#, r_#;\ny_# .net \"y_#\", 0 0, x_#;\nT_# ;\n %pushi/vec4 #, 0, 16;\n %store/vec4 q_#, 0, 16;\nL_# ;\n %delay 1, 0;\n %load/vec4 q_#;\n %addi 1, 0, 16;\n %store/vec4 q_#, 0, 16;\n %jmp L_#;\n .thread T_#;\n"

-- the thread that shows a counter and its net after 100 ticks, and ends the run
unfoldable pub end_template : List ℕ
end_template = codes "T_e ;\n %delay 100, 0;\n %vpi_call 1 1 \"$display\", \"%d %b\", q_#, y_# {0 0 0};\n %vpi_call 1 1 \"$finish\" {0 0 0};\n %end;\n .thread T_e;\n"

-- the text of the counter of a number
unfoldable pub counter_text : ℕ → List ℕ
counter_text number = filled counter_template (decimal number)

-- the counters from 0 on, so many
unfoldable pub counters_text : ℕ → List ℕ
counters_text zero = []
counters_text (suc number) = counters_text number ++ counter_text number

-- the end, which shows the counter of a number
unfoldable pub end_text : ℕ → List ℕ
end_text number = filled end_template (decimal number)

-- the workload of a size: the last counter is shown
unfoldable pub workload_text : ℕ → List ℕ
workload_text size = (scope_text ++ counters_text size) ++ end_text (size - 1)
