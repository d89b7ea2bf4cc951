-- Public: images, as binary portable pixmaps with a comment (docs/PICTURES.md).
use Rattle.std.specs.Prelude.{ℕ, ℤ, List, ◌++◌, codes}
use Rattle.std.specs.Fmt.{decimal, signed_decimal}

-- the four lines before the pixels: the form, the instant in milliseconds and how many events were known, the size, and the greatest value of a channel
abbrev pub head_bytes : ℕ → ℕ → ℤ → ℕ → List ℕ
head_bytes w h t n =
    codes "P6\n# t=" ++ signed_decimal t ++ codes " n=" ++ decimal n ++ codes "\n" ++ decimal w ++ codes " " ++ decimal h ++ codes "\n255\n"

-- an image of w columns and h rows: its head, and three bytes for each pixel
abbrev pub image_bytes : ℕ → ℕ → List ℕ → ℤ → ℕ → List ℕ
image_bytes w h pixels t n = head_bytes w h t n ++ pixels
