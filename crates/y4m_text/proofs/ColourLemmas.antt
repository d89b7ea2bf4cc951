-- The numbers of luma and chroma are bytes.
use Rattle.std.proofs.Common.{◌≡◌, ℕ, ◌+◌, ◌-◌, ◌*◌, ◌<◌, ◌≤◌, ap, arith}
use Rattle.std.proofs.Math.Nat.{mul-le-mul_left, mul-le-mul_right}
use Rattle.ass_script.specs.declared.matrix.ColourRange.{ColourRange}
use Rattle.ass_script.specs.declared.matrix.ColourRange.TheVariants as range
use Rattle.y4m_text.specs.Bounds.{AreClose, AreWeights, IsSpread, IsSumOf}
use Rattle.y4m_text.specs.Colours.{channel_of, chroma_divisor, luma_parts, chroma_weight}
use Rattle.y4m_text.specs.declared.colour.ChromaChannel.{ChromaChannel}
use Rattle.y4m_text.specs.declared.colour.ChromaChannel.TheVariants.{Blue, Red}
use Rattle.y4m_text.specs.declared.colour.Colour.{Colour}
use Rattle.y4m_text.specs.declared.colour.Weights.{Weights}

-- a sum of n colours has at most n times the whole luma
pub parts-most : (w : Weights) (n : ℕ) (c : Colour) → AreWeights w → IsSumOf n c → luma_parts w c ≤ 2550000 * n
parts-most w n c are is =
    let r = mul-le-mul_left w.red is.r in
    let g = mul-le-mul_left w.green is.g in
    let b = mul-le-mul_left w.blue is.b in
    let all : (w.red + w.green + w.blue) * (255 * n) ≡ 10000 * (255 * n) = ap (λ (k : ℕ). k * (255 * n)) are.whole in
    omega arith

-- a channel has its part of the lumas of n colours, and the other two have no more than what it leaves
record IsLumaPart (n channel weight parts : ℕ) : Type 0 where
  least : weight * channel ≤ parts
  most : parts ≤ weight * channel + (10000 - weight) * (255 * n)
  small : channel ≤ 255 * n
  less : weight < 5000

blue-part : (w : Weights) (n : ℕ) (c : Colour) → AreWeights w → IsSumOf n c → IsLumaPart n c.b w.blue (luma_parts w c)
blue-part w n c are is =
    let r = mul-le-mul_left w.red is.r in
    let g = mul-le-mul_left w.green is.g in
    let left : 10000 - w.blue ≡ w.red + w.green = omega (arith, are.whole) in
    record { least = omega arith; most = rw left (omega arith); small = is.b; less = omega (arith, are.whole, are.green) }

red-part : (w : Weights) (n : ℕ) (c : Colour) → AreWeights w → IsSumOf n c → IsLumaPart n c.r w.red (luma_parts w c)
red-part w n c are is =
    let b = mul-le-mul_left w.blue is.b in
    let g = mul-le-mul_left w.green is.g in
    let left : 10000 - w.red ≡ w.green + w.blue = omega (arith, are.whole) in
    record { least = omega arith; most = rw left (omega arith); small = is.r; less = omega (arith, are.whole, are.green) }

channel-part : (which : ChromaChannel) (w : Weights) (n : ℕ) (c : Colour) → AreWeights w → IsSumOf n c → IsLumaPart n (channel_of which c) (chroma_weight which w) (luma_parts w c)
channel-part Blue w n c are is = blue-part w n c are is
channel-part Red w n c are is = red-part w n c are is

-- how far a channel lies from the luma
part-below : (n channel weight parts : ℕ) → IsLumaPart n channel weight parts → parts ≤ 10000 * channel + 255 * (n * (10000 - weight))
part-below n channel weight parts is =
    let most : weight ≤ 10000 = omega (arith, is.less) in
    let p = mul-le-mul_right channel most in
    omega (arith, is.most)

part-above : (n channel weight parts : ℕ) → IsLumaPart n channel weight parts → 10000 * channel ≤ parts + 255 * (n * (10000 - weight))
part-above n channel weight parts is =
    let p = mul-le-mul_left (10000 - weight) is.small in
    let sum : (10000 - weight) + weight ≡ 10000 = omega (arith, is.less) in
    let all : ((10000 - weight) + weight) * channel ≡ 10000 * channel = ap (λ (k : ℕ). k * channel) sum in
    omega (arith, is.least)

module _ (n rest channel parts : ℕ) (below : parts ≤ 10000 * channel + 255 * (n * rest)) (above : 10000 * channel ≤ parts + 255 * (n * rest)) where
  near_limited : AreClose range.Limited (n * (255 * rest)) channel parts
  near_limited = (omega (arith, below), omega (arith, above))

  near_full : AreClose range.Full (n * (2 * rest)) channel parts
  near_full = (omega (arith, below), omega (arith, above))

near : (r : ColourRange) (n channel weight parts : ℕ) → IsLumaPart n channel weight parts → AreClose r (chroma_divisor r n weight) channel parts
near range.Limited n channel weight parts is = near_limited n (10000 - weight) channel parts (part-below n channel weight parts is) (part-above n channel weight parts is)
near range.Full n channel weight parts is = near_full n (10000 - weight) channel parts (part-below n channel weight parts is) (part-above n channel weight parts is)

pub spread : (which : ChromaChannel) (w : Weights) (r : ColourRange) (n divisor : ℕ) (c : Colour) → AreWeights w → n ≤ 4 → IsSumOf n c → 0 < divisor → divisor ≤ 10200000 →
    divisor ≡ chroma_divisor r n (chroma_weight which w) → IsSpread r divisor (channel_of which c) (luma_parts w c)
spread which w r n divisor c are few is some most value =
    let part = channel-part which w n c are is in
    let parts = parts-most w n c are is in
    record { some = some; most = most; small = omega (arith, part.small); few = omega arith; near = rw value (near r n (channel_of which c) (chroma_weight which w) (luma_parts w c) part) }

-- n colours' part of the rest
divisor-most : (n weight : ℕ) → n ≤ 4 → n * (10000 - weight) ≤ 40000
divisor-most n weight few = let p = mul-le-mul_right (10000 - weight) few in omega arith

divisor-some : (n weight : ℕ) → 1 ≤ n → weight < 5000 → 5000 < n * (10000 - weight)
divisor-some n weight some less = let p = mul-le-mul_right (10000 - weight) some in omega arith

module _ (n rest : ℕ) (low : 5000 < n * rest) (high : n * rest ≤ 40000) where
  limited_range : (0 < n * (255 * rest)) × (n * (255 * rest) ≤ 10200000)
  limited_range = (omega (arith, low), omega (arith, high))

  full_range : (0 < n * (2 * rest)) × (n * (2 * rest) ≤ 10200000)
  full_range = (omega (arith, low), omega (arith, high))

pub divisor-range : (r : ColourRange) (n weight : ℕ) → 1 ≤ n → n ≤ 4 → weight < 5000 → (0 < chroma_divisor r n weight) × (chroma_divisor r n weight ≤ 10200000)
divisor-range range.Limited n weight some few less = limited_range n (10000 - weight) (divisor-some n weight some less) (divisor-most n weight few)
divisor-range range.Full n weight some few less = full_range n (10000 - weight) (divisor-some n weight some less) (divisor-most n weight few)

pub sum-four : (n : ℕ) (c : Colour) → n ≤ 4 → IsSumOf n c → IsSumOf 4 c
sum-four n c few is = record { r = omega (arith, is.r); g = omega (arith, is.g); b = omega (arith, is.b) }
