-- Public: how one reading follows another, and what a call answers that may find no memory.
use Rattle.std.specs.Prelude.{◌≡◌, ◌≢◌, Result, Ok, Err}
use Rattle.sfnt_font.specs.declared.cause.SfntRefusal.{SfntRefusal}
use Rattle.sfnt_font.specs.declared.cause.SfntRefusal.TheVariants.{OutOfMemory}

-- What is read behind a reading that gave a value; its fault is the fault of both.
abbrev pub then_read : {T U : Type 0} → Result T SfntRefusal → (T → Result U SfntRefusal) → Result U SfntRefusal
then_read (Ok x) next = next x
then_read (Err refusal) next = Err refusal

-- A call answers the reading, or that memory ran out.
abbrev pub Answers : {T : Type 0} → Result T SfntRefusal → Result T SfntRefusal → Type 0
Answers reading (Err OutOfMemory) = Unit {0}
Answers reading answer = answer ≡ reading

-- Memory is wanted only behind a reading that gives a value.
abbrev pub WantsBehind : {T U : Type 0} → Result T SfntRefusal → Result U SfntRefusal → Type 0
WantsBehind (Ok x) answer = Unit {0}
WantsBehind (Err refusal) answer = answer ≢ Err OutOfMemory
