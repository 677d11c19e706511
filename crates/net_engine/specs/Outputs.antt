-- Which gates are told by bits.
use Rattle.std.specs.Prelude.{◌≡◌, ℕ, false, IsTrue, Option, Some, List, map}
use Rattle.vvp_forms.specs.declared.form.Gate.{Gate}
use Rattle.gate_rules.specs.Ports.{seen_ports, driven_ports}
use Rattle.gate_rules.specs.Strong.{looks, keeps_strong}
use Rattle.sym_link.specs.declared.program.ItemKind.{ItemKind}
use Rattle.sym_link.specs.declared.program.ItemKind.TheVariants.{Functor}
use Rattle.sym_link.specs.declared.program.Source.{Source}
use Rattle.sym_link.specs.Roots.{Node}
use Rattle.net_engine.specs.Net.{NetValues, at_source}

-- The bits that the ports of a gate are seen as tell what it drives: it makes strong bits of strong ones, and it looks at bits
-- alone, or its ports are driven strongly.
abbrev pub AreTelling : List Node → NetValues → Gate → ℕ × ℕ → List Source → Type 0
AreTelling nodes values kind drives sources =
    IsTrue (keeps_strong kind drives.0 drives.1)
    × (looks kind ≡ false → driven_ports 6 6 (seen_ports (map (at_source nodes values) sources)) ≡ map (at_source nodes values) sources)

-- an item is a gate whose ports do so
abbrev pub IsToldByBits : List Node → NetValues → Option ItemKind → Type 0
IsToldByBits nodes values (Some (Functor gate drive ports)) = AreTelling nodes values gate drive ports
IsToldByBits nodes values other = ⊥
