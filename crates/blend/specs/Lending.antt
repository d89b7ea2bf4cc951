-- Public: what is written behind the bytes that a canvas lends.
use Rattle.std.specs.Prelude.{ℕ, List, length}
use Rattle.std.specs.List.{refill}
use Rattle.std.specs.Borrow.{Lends, MutBor, Fml, Array, u8}
use Rattle.blend.specs.Canvases.{CanvasValue}
use Rattle.blend.specs.contracts.canvas.Canvas.{the_row}

-- a canvas with these bytes, of which there are as many as before
abbrev pub with_bytes : CanvasValue → List ℕ → CanvasValue
with_bytes c bytes = record c { bytes = refill (length c.bytes) c.bytes bytes }

-- the canvas ends with the last bytes behind the reference
abbrev pub LendsPixels : MutBor CanvasValue → MutBor (List ℕ) → Fml
LendsPixels c r = Lends the_row (Array u8 0) c r (with_bytes c.now)
