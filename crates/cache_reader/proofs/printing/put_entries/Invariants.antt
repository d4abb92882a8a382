use Rattle.std.proofs.Common.{flat_map, take, Ok}
use Rattle.cache_reader.specs.Cache.{read}
use Rattle.cache_reader.specs.Printed.{entry_line}
use Rattle.cache_reader.specs.Buffers.{Puts}
use Rattle.cache_reader.proofs.printing.put_entries.Given as goal

abbrev pub invariant-loop-index : goal.invariant-loop-index
invariant-loop-index g l =
    Puts (flat_map entry_line (take l.index (read l.view))) l.fn.buffer l.buffer (g.O.Sink.state l.fn.sink) (g.O.Sink.state l.sink) (Ok tt)
