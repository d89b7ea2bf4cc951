-- Public: colours of red, green and blue as luma and chroma, by ITU-R BT.601, ITU-R BT.709, SMPTE 240M and FCC, in whole numbers (docs/PICTURES.md).
use Rattle.std.specs.Prelude.{ℕ, ◌+◌, ◌-◌, ◌*◌, ◌/◌, min}
use Rattle.ass_script.specs.declared.matrix.ColourRange.{ColourRange}
use Rattle.ass_script.specs.declared.matrix.ColourRange.TheVariants as range
use Rattle.ass_script.specs.declared.matrix.ColourMatrix.{ColourMatrix}
use Rattle.ass_script.specs.declared.matrix.ColourMatrix.TheVariants as matrix
use Rattle.y4m_text.specs.declared.colour.ChromaChannel.{ChromaChannel}
use Rattle.y4m_text.specs.declared.colour.ChromaChannel.TheVariants.{Blue, Red}
use Rattle.y4m_text.specs.declared.colour.Colour.{Colour}
use Rattle.y4m_text.specs.declared.colour.Weights.{Weights}

-- what each channel has of the luma, in ten thousandths
abbrev pub weights_of : ColourMatrix → Weights
weights_of matrix.Bt601 = record { red = 2990; green = 5870; blue = 1140 }
weights_of matrix.Bt709 = record { red = 2126; green = 7152; blue = 722 }
weights_of matrix.Smpte240m = record { red = 2120; green = 7010; blue = 870 }
weights_of matrix.Fcc = record { red = 3000; green = 5900; blue = 1100 }

-- the luma, 10000 times
abbrev pub luma_parts : Weights → Colour → ℕ
luma_parts w c = w.red * c.r + w.green * c.g + w.blue * c.b

-- n / d to the nearest, and up from the middle
abbrev pub quotient : ℕ → ℕ → ℕ
quotient n d = (n + d / 2) / d

-- The luma of a colour: from 16 to 235 in the limited range, and from 0 to 255 in the full one.
abbrev pub luma : Weights → ColourRange → Colour → ℕ
luma w range.Limited c = quotient (16 * 2550000 + 219 * luma_parts w c) 2550000
luma w range.Full c = quotient (luma_parts w c) 10000

-- the channel that a chroma compares with the luma, and what it has of the luma
abbrev pub channel_of : ChromaChannel → Colour → ℕ
channel_of Blue c = c.b
channel_of Red c = c.r

abbrev pub chroma_weight : ChromaChannel → Weights → ℕ
chroma_weight Blue w = w.blue
chroma_weight Red w = w.red

-- A chroma is 128, and how far the channel lies from the luma to either side: a colour's lie at most 255 times the other weights apart, and
-- then the chroma lies 112 from 128 in the limited range, and 127.5 in the full one. Of n colours together it is that of their mean, so their
-- sum is divided by n times as much. `parts` is a sum of lumas, 10000 times.
abbrev pub chroma_divisor : ColourRange → ℕ → ℕ → ℕ
chroma_divisor range.Limited n weight = n * (255 * (10000 - weight))
chroma_divisor range.Full n weight = n * (2 * (10000 - weight))

abbrev pub chroma_above : ColourRange → ℕ → ℕ → ℕ → ℕ
chroma_above range.Limited divisor channel parts = 128 * divisor + 1120000 * channel - 112 * parts
chroma_above range.Full divisor channel parts = 128 * divisor + 10000 * channel - parts

abbrev pub chroma_by : ColourRange → ℕ → ℕ → ℕ → ℕ
chroma_by range divisor channel parts = min (quotient (chroma_above range divisor channel parts) divisor) 255

-- a chroma of n colours together, of which c is the sum
abbrev pub chroma : ChromaChannel → Weights → ColourRange → ℕ → Colour → ℕ
chroma which w range n c = chroma_by range (chroma_divisor range n (chroma_weight which w)) (channel_of which c) (luma_parts w c)
