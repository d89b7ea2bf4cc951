-- Public: the sink over a standard stream.
use Rattle.std.specs.Prelude.{◌≡◌, Bool, IsTrue}
use Rattle.ass_io.specs.declared.sink.Put.{Put}
use Rattle.ass_io.specs.declared.sink.Put.TheVariants.{Failed}
use Rattle.ass_io.specs.declared.std_sink.StdSink.{StdSink}

-- the stream
abbrev pub stream_of : {W : Type 0} → StdSink W → W
stream_of sink = sink.stream

-- The reader may be gone after `Failed`, and doesn't come back.
abbrev pub IsClosedAfter : Put → Bool → Bool → Type 0
IsClosedAfter Failed before now = IsTrue before → IsTrue now
IsClosedAfter _ before now = now ≡ before
