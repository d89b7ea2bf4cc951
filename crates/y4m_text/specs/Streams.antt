-- Public: YUV4MPEG2 streams and their frames (docs/PICTURES.md).
use Rattle.std.specs.Prelude.{ℕ, ◌+◌, ◌-◌, ◌*◌, min, List, ◌++◌, codes, map, slice_index}
use Rattle.std.specs.Fmt.{decimal}
use Rattle.std.specs.Int.{div_ceil}
use Rattle.std.specs.List.{flat_map, range_with_len}
use Rattle.ass_num.specs.declared.size.Size.{Size}
use Rattle.ass_script.specs.declared.matrix.ColourRange.{ColourRange}
use Rattle.ass_script.specs.declared.matrix.ColourRange.TheVariants as range
use Rattle.y4m_text.specs.Colours.{chroma, luma, weights_of}
use Rattle.y4m_text.specs.declared.colour.ChromaChannel.{ChromaChannel}
use Rattle.y4m_text.specs.declared.colour.ChromaChannel.TheVariants.{Blue, Red}
use Rattle.y4m_text.specs.declared.colour.Colour.{Colour}
use Rattle.y4m_text.specs.declared.form.Sampling.{Sampling}
use Rattle.y4m_text.specs.declared.form.Sampling.TheVariants as sampling
use Rattle.y4m_text.specs.declared.form.VideoForm.{VideoForm}

abbrev pub sampling_word : Sampling → List ℕ
sampling_word sampling.Yuv444 = codes "444"
sampling_word sampling.Yuv420 = codes "420jpeg"

abbrev pub range_word : ColourRange → List ℕ
range_word range.Limited = codes "LIMITED"
range_word range.Full = codes "FULL"

-- the line before all frames, at so many frames in so many seconds: progressive, with square pixels
abbrev pub stream_head : Size → ℕ → ℕ → VideoForm → List ℕ
stream_head size frames seconds form =
    codes "YUV4MPEG2 W" ++ decimal size.w ++ codes " H" ++ decimal size.h ++ codes " F" ++ decimal frames ++ codes ":" ++ decimal seconds
    ++ codes " Ip A1:1 C" ++ sampling_word form.sampling ++ codes " XCOLORRANGE=" ++ range_word form.colours.range ++ codes "\n"

-- pixel k of a picture of three bytes a pixel
abbrev pub picture_colour : List ℕ → ℕ → Colour
picture_colour pixels k = record { r = slice_index pixels (3 * k); g = slice_index pixels (3 * k + 1); b = slice_index pixels (3 * k + 2) }

-- the pixel in column i and row j, or the nearest one that the picture has
abbrev pub pixel_near : Size → List ℕ → ℕ → ℕ → Colour
pixel_near size pixels i j = picture_colour pixels (size.w * min j (size.h - 1) + min i (size.w - 1))

abbrev pub colour_sum : Colour → Colour → Colour
colour_sum c d = record { r = c.r + d.r; g = c.g + d.g; b = c.b + d.b }

-- the sum of the four pixels of a block, in column i and row j of the blocks of two columns and two rows
abbrev pub block_sum : Size → List ℕ → ℕ → ℕ → Colour
block_sum size pixels i j =
    colour_sum (colour_sum (pixel_near size pixels (2 * i) (2 * j)) (pixel_near size pixels (2 * i + 1) (2 * j)))
    (colour_sum (pixel_near size pixels (2 * i) (2 * j + 1)) (pixel_near size pixels (2 * i + 1) (2 * j + 1)))

-- how many columns or rows of chroma samples there are, by those of the picture
abbrev pub chroma_side : Sampling → ℕ → ℕ
chroma_side sampling.Yuv444 n = n
chroma_side sampling.Yuv420 n = div_ceil n 2

-- of how many pixels a chroma sample is, and the sum of those of the sample in column i and row j
abbrev pub chroma_pixels : Sampling → ℕ
chroma_pixels sampling.Yuv444 = 1
chroma_pixels sampling.Yuv420 = 4

abbrev pub chroma_sum : Sampling → Size → List ℕ → ℕ → ℕ → Colour
chroma_sum sampling.Yuv444 size pixels i j = pixel_near size pixels i j
chroma_sum sampling.Yuv420 size pixels i j = block_sum size pixels i j

abbrev pub chroma_sample : ChromaChannel → VideoForm → Size → List ℕ → ℕ → ℕ → ℕ
chroma_sample which form size pixels j i =
    chroma which (weights_of form.colours.matrix) form.colours.range (chroma_pixels form.sampling) (chroma_sum form.sampling size pixels i j)

-- the planes of a picture, row by row
abbrev pub luma_plane : VideoForm → Size → List ℕ → List ℕ
luma_plane form size pixels =
    map (λ k. luma (weights_of form.colours.matrix) form.colours.range (picture_colour pixels k)) (range_with_len 0 (size.w * size.h))

abbrev pub chroma_row : ChromaChannel → VideoForm → Size → List ℕ → ℕ → List ℕ
chroma_row which form size pixels j = map (chroma_sample which form size pixels j) (range_with_len 0 (chroma_side form.sampling size.w))

abbrev pub chroma_plane : ChromaChannel → VideoForm → Size → List ℕ → List ℕ
chroma_plane which form size pixels = flat_map (chroma_row which form size pixels) (range_with_len 0 (chroma_side form.sampling size.h))

-- a picture as a frame
abbrev pub frame_bytes : VideoForm → Size → List ℕ → List ℕ
frame_bytes form size pixels = codes "FRAME\n" ++ luma_plane form size pixels ++ chroma_plane Blue form size pixels ++ chroma_plane Red form size pixels
