-- Public: what `YCbCr Matrix` says of the video for which a script's colours are.
use Rattle.std.specs.Prelude.{ℕ, if◌then◌else◌, List, codes, Option, Some, None}
use Rattle.std.specs.Option.{option_map, option_map_or, option_or}
use Rattle.ass_num.specs.Blanks.{trimmed}
use Rattle.ass_num.specs.Names.{same_name}
use Rattle.ass_script.specs.declared.matrix.ColourMatrix.{ColourMatrix}
use Rattle.ass_script.specs.declared.matrix.ColourMatrix.TheVariants as matrix
use Rattle.ass_script.specs.declared.matrix.ColourRange.{ColourRange}
use Rattle.ass_script.specs.declared.matrix.ColourRange.TheVariants as range
use Rattle.ass_script.specs.declared.matrix.ScriptMatrix.{ScriptMatrix}
use Rattle.ass_script.specs.declared.matrix.ScriptMatrix.TheVariants.{Unconverted, Unsaid, Video}
use Rattle.ass_script.specs.declared.matrix.VideoColours.{VideoColours}

-- names of matrices, without regard to ASCII case: of the limited range of television, and of the full one of computers
unfoldable pub limited_matrix_named : List ℕ → Option ColourMatrix
limited_matrix_named name =
    if same_name name (codes "TV.601") then Some matrix.Bt601
    else if same_name name (codes "TV.709") then Some matrix.Bt709
    else if same_name name (codes "TV.240M") then Some matrix.Smpte240m
    else if same_name name (codes "TV.FCC") then Some matrix.Fcc
    else None

unfoldable pub full_matrix_named : List ℕ → Option ColourMatrix
full_matrix_named name =
    if same_name name (codes "PC.601") then Some matrix.Bt601
    else if same_name name (codes "PC.709") then Some matrix.Bt709
    else if same_name name (codes "PC.240M") then Some matrix.Smpte240m
    else if same_name name (codes "PC.FCC") then Some matrix.Fcc
    else None

abbrev pub in_range : ColourRange → ColourMatrix → VideoColours
in_range r m = record { matrix = m; range = r }

-- the colours of a video that a name means
unfoldable pub video_colours_named : List ℕ → Option VideoColours
video_colours_named name =
    option_or (option_map (in_range range.Limited) (limited_matrix_named name)) (option_map (in_range range.Full) (full_matrix_named name))

-- what a value says, blanks at its ends aside
unfoldable pub matrix_of : List ℕ → ScriptMatrix
matrix_of value =
    if same_name (trimmed value) (codes "None") then Unconverted
    else option_map_or Video (video_colours_named (trimmed value)) Unsaid
