-- Inner: the fields that a call of the crate handles, as plain values.
use Rattle.std.specs.Prelude.{◌≡◌, Result, Ok, Err}
use Rattle.ass_events.specs.declared.event.ChunkRefusal.{ChunkRefusal}
use Rattle.ass_events.specs.declared.event.ChunkRefusal.TheVariants.{Malformed, OutOfMemory}
use Rattle.ass_events.specs.declared.fields.Fields.{Fields}
use Rattle.ass_events.specs.Fields.{FieldValues}

abbrev pub plain : Fields → FieldValues
plain fields = record {
  order = fields.order;
  layer = fields.layer;
  start = fields.start;
  end = fields.end;
  style = fields.style.now;
  name = fields.name.now;
  margin_l = fields.margin_l;
  margin_r = fields.margin_r;
  margin_v = fields.margin_v;
  effect = fields.effect.now;
  text = fields.text.now;
}

-- A call read this of the fields, or found the first that refuses. It takes no memory.
abbrev pub Reads : Result Fields ChunkRefusal → Result FieldValues ChunkRefusal → Type 0
Reads (Ok fields) said = said ≡ Ok (plain fields)
Reads (Err (Malformed field place)) said = said ≡ Err (Malformed field place)
Reads (Err OutOfMemory) said = ⊥
