-- Public: what a sink in memory holds that can be told names.
use Rattle.std.specs.Prelude.{ℕ, Bool, true, false, List, length, Option, Some}
use Rattle.ass_io.specs.Failing.{bytes_in}
use Rattle.ass_io.specs.Sinks.{SinkState}
use Rattle.ass_io.specs.declared.named_memory.NamedMemory.{NamedMemory}
use Rattle.ass_io.specs.declared.named_sink.Making.{Making}
use Rattle.ass_io.specs.declared.named_sink.Making.TheVariants.{Made, Failed}

-- the bytes that it holds
abbrev pub bytes_put : NamedMemory → List ℕ
bytes_put sink = bytes_in sink.sink

-- the names of the files that it made
abbrev pub made_files : NamedMemory → List (List ℕ)
made_files sink = sink.made.pieces

-- what is seen of it
abbrev pub named_memory_state : NamedMemory → SinkState
named_memory_state sink = record { held = Some (bytes_put sink); faults = sink.faults; asked = sink.asked.pieces; made = made_files sink }

-- whether it makes files
abbrev pub makes_files : NamedMemory → Bool
makes_files sink = sink.makes

-- its answer to each name
abbrev pub making_of : Bool → Making
making_of true = Made
making_of false = Failed

-- how many bytes it held before it made the last file
abbrev pub file_place : NamedMemory → Option ℕ
file_place sink = sink.file_at

-- the same after an answer
abbrev pub place_after : Making → Option ℕ → List ℕ → Option ℕ
place_after Made place bytes = Some (length bytes)
place_after _ place bytes = place
