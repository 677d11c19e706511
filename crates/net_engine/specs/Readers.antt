-- All readers of a design, and the links by which a fan-out knows them.
use Rattle.std.specs.Prelude.{ℕ, Option, Some, None, List, map, filter_map, flat_map}
use Rattle.std.specs.List.{enumerate_from}
use Rattle.port_chain.specs.Link.{InputPort}
use Rattle.port_chain.specs.declared.link.Reader.{Reader}
use Rattle.sym_link.specs.declared.program.Source.{Source}
use Rattle.sym_link.specs.declared.program.Source.TheVariants as source
use Rattle.sym_link.specs.Roots.{Node, Input, root_of, ports_of, readers, listener}

-- an input as a port
abbrev pub port_of : Input → InputPort
port_of input = record { node = input.item; port = input.port }

-- the ports that an item drives, in the order of its readers
unfoldable pub driven_ports : List Node → ℕ → List InputPort
driven_ports nodes item = map port_of (readers nodes item)

-- the reader at a port with a source, where that is an item
abbrev pub reader_of : List Node → ℕ → ℕ → Source → Option Reader
reader_of nodes item port source.Unused = None
reader_of nodes item port (source.Item named) = Some (record { driver = root_of nodes named; link = record { node = item; port = port } })
reader_of nodes item port (source.Fixed bits) = None

-- the same at a port with its number
abbrev pub reader_at : List Node → ℕ → ℕ × Source → Option Reader
reader_at nodes item port = reader_of nodes item port.0 port.1

-- the readers of one item, in the order of its ports
abbrev pub readers_at : List Node → ℕ × Node → List Reader
readers_at nodes item = filter_map (reader_at nodes item.0) (enumerate_from 0 (ports_of item.1.what))

-- all readers, in file order and then in the order of ports
unfoldable pub all_readers : List Node → List Reader
all_readers nodes = flat_map (readers_at nodes) (enumerate_from 0 nodes)

-- the events that list an event, in file order
abbrev pub listeners_of : List Node → ℕ → List ℕ
listeners_of nodes event = filter_map (listener event) (enumerate_from 0 nodes)
