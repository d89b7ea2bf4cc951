-- Margins, edges and corners in the bits that hold them.
use Rattle.std.proofs.Common.{◌≡◌, ℕ, ◌*◌, ◌≤◌, true, false, cond, ℤ, pos, ◌-ℤ◌, ◌*ℤ◌, ◌≤ℤ◌, ap, ap₂, ◌∙◌, arith}
use Rattle.std.specs.Ordering.{int_eq}
use Rattle.std.proofs.lemmas.Int.{ints}
use Rattle.ass_num.specs.Limits.{IsWithin, max_frame_side, max_whole}
use Rattle.ass_num.proofs.LimitLemmas.{IsWithin-wider}
use Rattle.frame_view.specs.FrameViews.{IsLayoutSide}
use Rattle.text_layout.proofs.BitLemmas.{bits_32, bits_64, framed_bits, place_bits, whole_bits}
use Rattle.text_layout.specs.declared.anchors.AnchorSide.{AnchorSide}
use Rattle.text_layout.specs.Anchors.{IsBlockSide, edge_at, event_margin_or, whole_pixels}
use Rattle.text_layout.specs.Limits.{max_anchor, max_framed, max_ground_place, max_block_place, max_script_length}
use Rattle.text_layout.specs.Scales.{pixel}

-- ---- margins

pub margin_within : (event style : ℤ) → IsWithin max_whole event → IsWithin max_whole style → IsWithin max_whole (event_margin_or event style)
margin_within event style h k = elim (int_eq event (pos 0)) as (λ b. IsWithin max_whole (cond b style event)) [ true ↦ k | false ↦ h ]

pub margin_bits : (event style r : ℤ) → IsWithin max_whole event → IsWithin max_whole style → r ≡ event_margin_or (bits_32 event) (bits_32 style)
    → bits_32 r ≡ event_margin_or event style
margin_bits event style r h k is =
    ap bits_32 (is ∙ ap₂ event_margin_or (whole_bits event h) (whole_bits style k)) ∙ whole_bits (event_margin_or event style) (margin_within event style h k)

-- a margin in 64 bits
pub long_bits : (margin r : ℤ) → IsWithin max_whole margin → r ≡ bits_32 margin → bits_64 r ≡ margin
long_bits margin r h is =
    ap bits_64 (is ∙ whole_bits margin h) ∙ place_bits margin (IsWithin-wider max_whole max_block_place margin (omega arith) h)

-- the farthest from 0 that the room between margins is, in script pixels
abbrev pub max_inner : ℕ
max_inner = 8589934592

pub margin_inner : (margin : ℤ) → IsWithin max_whole margin → IsWithin max_inner margin
margin_inner margin h = IsWithin-wider max_whole max_inner margin (omega arith) h

pub pixels_within : (n : ℤ) → IsWithin max_inner n → IsWithin max_script_length (whole_pixels n)
pixels_within n h = (omega (arith, ints), omega (arith, ints))

-- so many script pixels
pub pixels_bits : (n m : ℤ) → IsWithin max_inner n → m ≡ n → bits_64 (pos 1000 *ℤ m) ≡ whole_pixels n
pixels_bits n m h is =
    ap (λ z. bits_64 (whole_pixels z)) is
    ∙ place_bits (whole_pixels n) (IsWithin-wider max_script_length max_block_place (whole_pixels n) (omega arith) (pixels_within n h))

pub inner_within : (res : ℕ) (left right : ℤ) → IsLayoutSide res → IsWithin max_whole left → IsWithin max_whole right → IsWithin max_inner ((pos res -ℤ left) -ℤ right)
inner_within res left right few h k = (omega (arith, ints), omega (arith, ints))

pub inner_bits : (res : ℕ) (left right a b d : ℤ) → IsLayoutSide res → IsWithin max_whole left → IsWithin max_whole right
    → a ≡ pos res → b ≡ bits_32 left → d ≡ bits_32 right → bits_64 (bits_64 (bits_64 a -ℤ bits_64 b) -ℤ bits_64 d) ≡ (pos res -ℤ left) -ℤ right
inner_bits res left right a b d few h k ea eb ed =
    let x : bits_64 a ≡ pos res = ap bits_64 ea ∙ place_bits (pos res) (omega (arith, ints), omega (arith, ints)) in
    let first : bits_64 (bits_64 a -ℤ bits_64 b) ≡ pos res -ℤ left =
    ap bits_64 (ap₂ ◌-ℤ◌ x (long_bits left b h eb)) ∙ place_bits (pos res -ℤ left) (omega (arith, ints), omega (arith, ints)) in
    ap bits_64 (ap₂ ◌-ℤ◌ first (long_bits right d k ed))
    ∙ place_bits ((pos res -ℤ left) -ℤ right) (omega (arith, ints), omega (arith, ints))

-- ---- edges

pub far_within : (side : ℕ) (margin : ℤ) → side ≤ max_frame_side → IsWithin max_framed margin → IsWithin max_ground_place (pos (pixel * side) -ℤ margin)
far_within side margin few h = (omega (arith, ints), omega (arith, ints))

pub far_bits : (side : ℕ) (a margin : ℤ) → side ≤ max_frame_side → a ≡ pos side → IsWithin max_framed margin
    → bits_64 (bits_64 (pos 64 *ℤ bits_64 a) -ℤ bits_64 margin) ≡ pos (pixel * side) -ℤ margin
far_bits side a margin few is h =
    let x : bits_64 a ≡ pos side = ap bits_64 is ∙ place_bits (pos side) (omega (arith, ints), omega (arith, ints)) in
    let y : bits_64 (pos 64 *ℤ bits_64 a) ≡ pos (pixel * side) =
    ap (λ z. bits_64 (pos 64 *ℤ z)) x ∙ place_bits (pos (pixel * side)) (omega (arith, ints), omega (arith, ints)) in
    ap bits_64 (ap₂ ◌-ℤ◌ y (framed_bits margin h))
    ∙ place_bits (pos (pixel * side) -ℤ margin) (IsWithin-wider max_ground_place max_block_place (pos (pixel * side) -ℤ margin) (omega arith) (far_within side margin few h))

pub edge_same : (r near far a b : ℤ) (e f : AnchorSide) → r ≡ edge_at e a b → e ≡ f → a ≡ near → b ≡ far → r ≡ edge_at f near far
edge_same r near far a b e f is p q s = is ∙ ap (λ (edge : AnchorSide). edge_at edge a b) p ∙ ap₂ (edge_at f) q s

-- ---- corners

pub corner_bits : (a r side : ℤ) → IsWithin max_anchor a → IsBlockSide side → pos 0 ≤ℤ r → r ≤ℤ side → bits_64 (bits_64 a -ℤ bits_64 r) ≡ a -ℤ r
corner_bits a r side h k least most =
    let x = place_bits a (IsWithin-wider max_anchor max_block_place a (omega arith) h) in
    let y = place_bits r (omega (arith, ints), omega (arith, ints)) in
    ap bits_64 (ap₂ ◌-ℤ◌ x y) ∙ place_bits (a -ℤ r) (omega (arith, ints), omega (arith, ints))
