-- Lemmas on the bytes that a canvas lends.
use Rattle.std.proofs.Common.{◌≡◌, ℕ, List, ◌++◌, length, take, drop, ap}
use Rattle.blend.specs.Canvases.{CanvasValue}
use Rattle.blend.specs.Lending.{with_bytes}

-- a vector of n bytes, written behind a loan
pub lent-bytes : (w h n : ℕ) (items bytes : List ℕ) → n ≡ length items
    → (let c : CanvasValue = record { w = w; h = h; bytes = take n (bytes ++ drop (length bytes) items) } in c) ≡ with_bytes (record { w = w; h = h; bytes = items }) bytes
lent-bytes w h n items bytes e =
    ap (λ (k : ℕ). let c : CanvasValue = record { w = w; h = h; bytes = take k (bytes ++ drop (length bytes) items) } in c) e
