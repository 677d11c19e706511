-- The words that say a kind.
use Rattle.std.specs.Prelude.{ℕ, List, Option, None, Some, codes, if◌then◌else◌}
use Rattle.std.specs.Str.{bytes_eq}
use Rattle.four_state.specs.declared.items.ResKind.{ResKind}
use Rattle.four_state.specs.declared.items.ResKind.TheVariants as resolver
use Rattle.vvp_forms.specs.declared.form.ScopeKind.{ScopeKind}
use Rattle.vvp_forms.specs.declared.form.ScopeKind.TheVariants as scope
use Rattle.vvp_forms.specs.declared.form.EdgeKind.{EdgeKind}
use Rattle.vvp_forms.specs.declared.form.EdgeKind.TheVariants as edge
use Rattle.vvp_forms.specs.declared.form.StartKind.{StartKind}
use Rattle.vvp_forms.specs.declared.form.StartKind.TheVariants as start
use Rattle.vvp_forms.specs.declared.form.Gate.{Gate}
use Rattle.vvp_forms.specs.declared.form.Gate.TheVariants as gate

unfoldable pub scope_kind : List ℕ → Option ScopeKind
scope_kind word =
    if bytes_eq word (codes "module") then Some scope.Module
    else (if bytes_eq word (codes "task") then Some scope.Task
    else (if bytes_eq word (codes "begin") then Some scope.Begin
    else (if bytes_eq word (codes "fork") then Some scope.Fork
    else (if bytes_eq word (codes "generate") then Some scope.Generate
    else (if bytes_eq word (codes "package") then Some scope.Package
    else None)))))

unfoldable pub functor_type : List ℕ → Option Gate
functor_type word =
    if bytes_eq word (codes "AND") then Some gate.And
    else (if bytes_eq word (codes "OR") then Some gate.Or
    else (if bytes_eq word (codes "XOR") then Some gate.Xor
    else (if bytes_eq word (codes "NAND") then Some gate.Nand
    else (if bytes_eq word (codes "NOR") then Some gate.Nor
    else (if bytes_eq word (codes "XNOR") then Some gate.Xnor
    else (if bytes_eq word (codes "BUF") then Some gate.Buf
    else (if bytes_eq word (codes "NOT") then Some gate.Not
    else (if bytes_eq word (codes "BUFZ") then Some gate.Bufz
    else (if bytes_eq word (codes "BUFT") then Some gate.Buft
    else (if bytes_eq word (codes "MUXZ") then Some gate.Muxz
    else None))))))))))

unfoldable pub resolution : List ℕ → Option ResKind
resolution word =
    if bytes_eq word (codes "tri") then Some resolver.Tri
    else (if bytes_eq word (codes "tri0") then Some resolver.Tri0
    else (if bytes_eq word (codes "tri1") then Some resolver.Tri1
    else (if bytes_eq word (codes "triand") then Some resolver.Triand
    else (if bytes_eq word (codes "trior") then Some resolver.Trior
    else None))))

unfoldable pub edge_kind : List ℕ → Option EdgeKind
edge_kind word =
    if bytes_eq word (codes "posedge") then Some edge.Pos
    else (if bytes_eq word (codes "negedge") then Some edge.Neg
    else (if bytes_eq word (codes "edge") then Some edge.Any
    else (if bytes_eq word (codes "anyedge") then Some edge.Any
    else None)))

unfoldable pub start_kind : List ℕ → Option StartKind
start_kind word =
    if bytes_eq word (codes "$push") then Some start.Push
    else (if bytes_eq word (codes "$init") then Some start.Init
    else None)
