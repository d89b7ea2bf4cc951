-- Public: the shelf and the sink that fail at chosen calls.
use Rattle.std.specs.Prelude.{ℕ, Bool, List}
use Rattle.ass_io.specs.declared.failing_shelf.FailingShelf.{FailingShelf}
use Rattle.ass_io.specs.declared.failing_sink.FailingSink.{FailingSink}
use Rattle.ass_io.specs.declared.memory_shelf.MemoryShelf.{MemoryShelf}
use Rattle.ass_io.specs.MemorySinks.{bytes_of}

-- the shelf that answers the fetches that don't fail
abbrev pub shelf_in : FailingShelf → MemoryShelf
shelf_in shelf = shelf.shelf

-- the numbers, from 1, of the fetches that fail
abbrev pub failing_fetches : FailingShelf → List ℕ
failing_fetches shelf = shelf.plan.fails.items

-- how many fetches there were
abbrev pub fetches_of : FailingShelf → ℕ
fetches_of shelf = shelf.plan.calls

-- the bytes that the sink holds
abbrev pub bytes_in : FailingSink → List ℕ
bytes_in sink = bytes_of sink.sink

-- the numbers, from 1, of the puts that fail
abbrev pub failing_puts : FailingSink → List ℕ
failing_puts sink = sink.plan.fails.items

-- how many puts were asked of it
abbrev pub asked_puts : FailingSink → ℕ
asked_puts sink = sink.plan.calls

-- whether its reader is gone once a put failed
abbrev pub is_closing : FailingSink → Bool
is_closing sink = sink.closes
