-- Programs whose names a dump can hold.
use Rattle.std.specs.Prelude.{Bool, true, ◌&&◌, ◌||◌, if◌then◌else◌}
use Rattle.std.specs.List.{list_all}
use Rattle.sym_link.specs.declared.program.Item.{Item}
use Rattle.sym_link.specs.declared.program.Program.{Program}
use Rattle.sym_link.specs.declared.program.ScopeRow.{ScopeRow}
use Rattle.sym_link.specs.Sound.{is_net_kind, is_variable_kind}
use Rattle.vcd_law.specs.Own.{is_plain}

-- whether a dump can hold the name of a scope
abbrev pub is_plain_scope : ScopeRow → Bool
is_plain_scope row = is_plain row.name

-- the same of an item, where it is a variable or a net: no dump shows the name of any other
abbrev pub is_plain_item : Item → Bool
is_plain_item item = if is_variable_kind item.what || is_net_kind item.what then is_plain item.name else true

-- whether every scope, variable and net has a name that a dump can hold
abbrev pub plain_names : Program → Bool
plain_names program = list_all is_plain_scope program.scopes && list_all is_plain_item program.items
