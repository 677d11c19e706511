use Rattle.std.proofs.Common.{◌≡◌, map, refl}
use Rattle.vvp_ops.specs.declared.table.TheConstants.{ROWS}
use Rattle.vvp_ops.specs.Table.{rows}

-- the table of the code is the one of the grammar
pub rows-seen : map (λ row. (row.0.now, row.1)) ROWS ≡ rows
unfolding rows
rows-seen = refl
