-- Public: the sink over a standard stream or a real file.
use Rattle.std.specs.Prelude.{◌≡◌, ℕ, List, Option, Some, None, IsSome, ⊤}
use Rattle.std.specs.Io.KnownBytes.{Appends}
use Rattle.ass_io.specs.Sinks.{SinkState}
use Rattle.ass_io.specs.declared.file_sink.FileSink.{FileSink}
use Rattle.ass_io.specs.declared.named_sink.Making.{Making}
use Rattle.ass_io.specs.declared.named_sink.Making.TheVariants.{Made}

-- the names of the files that it made
abbrev pub names_made : {W R F D : Type 0} → FileSink W R F D → List (List ℕ)
names_made sink = sink.made.pieces

-- what is seen of it
abbrev pub file_sink_state : {W R F D : Type 0} → FileSink W R F D → SinkState
file_sink_state sink = record { held = None; faults = sink.faults; asked = sink.asked.pieces; made = names_made sink }

-- the stream that it began with
abbrev pub first_stream : {W R F D : Type 0} → FileSink W R F D → W
first_stream sink = sink.stream

-- the file that it made last
abbrev pub last_file : {W R F D : Type 0} → FileSink W R F D → Option F
last_file sink = sink.file

-- There is a file afterwards where there was one before, and then the stream is as it was.
abbrev pub IsApart : {W F : Type 0} → Option F → Option F → W → W → Type 0
IsApart None None stream now = ⊤
IsApart (Some file) (Some later) stream now = now ≡ stream
IsApart _ _ stream now = ⊥

-- The piece went to the file, and where there is none to the stream: what that holds, where it is told, has the whole piece more.
abbrev pub IsSent : {W F : Type 0} → (W → Option (List ℕ)) → (F → Option (List ℕ)) → Option F → Option F → W → W → List ℕ → Type 0
IsSent stream_bytes file_bytes None later stream now piece = Appends (stream_bytes stream) (stream_bytes now) piece
IsSent stream_bytes file_bytes (Some file) (Some later) stream now piece = Appends (file_bytes file) (file_bytes later) piece
IsSent stream_bytes file_bytes (Some file) None stream now piece = ⊥

-- There is a file after `Made`, and after any other answer it is the one before.
abbrev pub IsFileAfter : {F : Type 0} → Making → Option F → Option F → Type 0
IsFileAfter Made file later = IsSome later
IsFileAfter _ file later = later ≡ file
