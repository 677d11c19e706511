-- Gates of one input.
use Rattle.std.specs.Prelude.{Bool, true, false}
use Rattle.vvp_forms.specs.declared.form.Gate.{Gate}
use Rattle.vvp_forms.specs.declared.form.Gate.TheVariants as gate

-- whether a kind makes what it drives of its first port alone, place by place (IEEE 1364-2005, 7.3)
abbrev pub has_one_input : Gate → Bool
has_one_input gate.Buf = true
has_one_input gate.Not = true
has_one_input gate.Bufz = true
has_one_input kind = false
