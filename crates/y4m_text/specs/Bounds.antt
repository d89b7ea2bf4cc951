-- Inner: weights of a luma, sums of colours, and what is divided.
use Rattle.std.specs.Prelude.{◌≡◌, ℕ, ◌+◌, ◌*◌, ◌/◌, ◌^◌, ◌<◌, ◌≤◌}
use Rattle.ass_script.specs.declared.matrix.ColourRange.{ColourRange}
use Rattle.ass_script.specs.declared.matrix.ColourRange.TheVariants as range
use Rattle.y4m_text.specs.Colours.{chroma_divisor, chroma_weight}
use Rattle.y4m_text.specs.declared.colour.ChromaScale.{ChromaScale}
use Rattle.y4m_text.specs.declared.colour.Colour.{Colour}
use Rattle.y4m_text.specs.declared.colour.Weights.{Weights}
use Rattle.y4m_text.specs.declared.divisor.Divisor.{Divisor}

-- Together they are the whole luma, and green has more than half.
pub record AreWeights (w : Weights) : Type 0 where
  pub whole : w.red + w.green + w.blue ≡ 10000
  pub green : 5000 < w.green

-- The sum of n colours whose channels are bytes.
pub record IsSumOf (n : ℕ) (c : Colour) : Type 0 where
  pub r : c.r ≤ 255 * n
  pub g : c.g ≤ 255 * n
  pub b : c.b ≤ 255 * n

-- the largest divisor: that of four colours
abbrev pub max_chroma_divisor : ℕ
max_chroma_divisor = 10200000

pub record IsDivisor (d : Divisor) : Type 0 where
  pub some : 0 < d.value
  pub most : d.value ≤ max_chroma_divisor
  pub reciprocal : d.reciprocal ≡ 2 ^ 55 / d.value + 1

pub record IsChromaScale (scale : ChromaScale) : Type 0 where
  pub weights : AreWeights scale.weights
  pub some : 1 ≤ scale.pixels
  pub few : scale.pixels ≤ 4
  pub divisor : IsDivisor scale.divisor
  pub value : scale.divisor.value ≡ chroma_divisor scale.range scale.pixels (chroma_weight scale.which scale.weights)

-- so far a channel, 10000 times, lies from the luma at most
abbrev pub AreClose : ColourRange → ℕ → ℕ → ℕ → Type 0
AreClose range.Limited divisor channel parts = (parts ≤ 10000 * channel + divisor) × (10000 * channel ≤ parts + divisor)
AreClose range.Full divisor channel parts = (2 * parts ≤ 20000 * channel + 255 * divisor) × (20000 * channel ≤ 2 * parts + 255 * divisor)

pub record IsSpread (range : ColourRange) (divisor channel parts : ℕ) : Type 0 where
  pub some : 0 < divisor
  pub most : divisor ≤ max_chroma_divisor
  pub small : channel ≤ 1020
  pub few : parts ≤ 10200000
  pub near : AreClose range divisor channel parts
