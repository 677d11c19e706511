-- How a design is read.
use Rattle.std.proofs.Common.{◌≡◌, ℕ, ◌+◌, ◌<◌, List, length, get_or, map, slice_get, Some, ap, ◌∙◌, arith}
use Rattle.std.specs.List.{enumerate_from}
use Rattle.std.proofs.lemmas.List.{length-map}
use Rattle.std.proofs.lemmas.List.FromFn.{length-enumerate_from}
use Rattle.std.proofs.lemmas.Option.{slice_get-get_or, get_or_from_slice_get}
use Rattle.sym_link.specs.declared.program.ItemKind.TheVariants.{Named}
use Rattle.sym_link.specs.Roots.{Node}
use Rattle.net_engine.specs.Readers.{listeners_of}
use Rattle.net_engine.proofs.MixLemmas.{map-get, enumerate-get}

pub listeners-length : (lists : List (List ℕ)) (nodes : List Node) (event : ℕ) → lists ≡ map (λ e. listeners_of nodes e.0) (enumerate_from 0 nodes) → event < length nodes → event < length lists
listeners-length lists nodes event are inside = omega (arith, ap length are, length-map (enumerate_from 0 nodes) (λ e. listeners_of nodes e.0), length-enumerate_from 0 nodes, inside)

pub listeners-read : (lists : List (List ℕ)) (nodes : List Node) (event : ℕ) (d : List ℕ) → lists ≡ map (λ e. listeners_of nodes e.0) (enumerate_from 0 nodes) → event < length nodes → get_or lists event d ≡ listeners_of nodes event
listeners-read lists nodes event d are inside =
    let node : Node = get_or nodes event (record { width = 0; what = Named }) in
    let at : slice_get nodes event ≡ Some node = slice_get-get_or nodes event (record { width = 0; what = Named }) inside in
    let number : 0 + event ≡ event = omega arith in
    ap (λ (ls : List (List ℕ)). get_or ls event d) are
    ∙ get_or_from_slice_get (map (λ e. listeners_of nodes e.0) (enumerate_from 0 nodes)) event (listeners_of nodes (0 + event)) d (map-get (λ e. listeners_of nodes e.0) (enumerate_from 0 nodes) event (0 + event, node) (enumerate-get nodes 0 event node at))
    ∙ ap (listeners_of nodes) number
