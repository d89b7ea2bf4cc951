-- Public: what a sink in memory holds.
use Rattle.std.specs.Prelude.{ℕ, List}
use Rattle.ass_io.specs.declared.memory_sink.MemorySink.{MemorySink}

-- the bytes that it holds
abbrev pub bytes_of : MemorySink → List ℕ
bytes_of sink = sink.bytes.items

-- the pieces that it was asked to put
abbrev pub asked_of : MemorySink → List (List ℕ)
asked_of sink = sink.asked.pieces
