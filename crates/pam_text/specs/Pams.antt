-- Public: pictures with alpha, as portable arbitrary maps with a comment (docs/PICTURES.md).
use Rattle.std.specs.Prelude.{ℕ, ℤ, List, ◌++◌, codes}
use Rattle.std.specs.Fmt.{decimal, signed_decimal}

-- the form, the instant in milliseconds and how many events were known, and the size
abbrev pub pam_sizes : ℕ → ℕ → ℤ → ℕ → List ℕ
pam_sizes w h t n =
    codes "P7\n# t=" ++ signed_decimal t ++ codes " n=" ++ decimal n ++ codes "\nWIDTH " ++ decimal w ++ codes "\nHEIGHT " ++ decimal h ++ codes "\n"

-- what each pixel has, and the end of the head
abbrev pub pam_form : List ℕ
pam_form = codes "DEPTH 4\nMAXVAL 255\nTUPLTYPE RGB_ALPHA\nENDHDR\n"

-- a picture of w columns and h rows: its head, and four bytes for each pixel, red, green, blue and straight alpha
abbrev pub pam_bytes : ℕ → ℕ → List ℕ → ℤ → ℕ → List ℕ
pam_bytes w h pixels t n = pam_sizes w h t n ++ pam_form ++ pixels
