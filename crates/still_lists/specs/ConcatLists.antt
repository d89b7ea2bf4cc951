-- Public: kept pictures as a list of files that ffmpeg joins (docs/REPORTS.md; the concat demuxer in ffmpeg-formats(1)).
use Rattle.std.specs.Prelude.{ℕ, ◌+◌, ◌-◌, ◌/◌, ◌%◌, ◌==◌, if◌then◌else◌, List, [], ◌∷◌, ◌++◌, codes, decimal, length}
use Rattle.still_lists.specs.declared.entry.StillEntry.{StillEntry}

-- milliseconds in seconds, with three digits behind the point
abbrev pub seconds_digits : ℕ → List ℕ
seconds_digits time = decimal (time / 1000) ++ codes "." ++ decimal (time / 100 % 10) ++ decimal (time / 10 % 10) ++ decimal (time % 10)

-- The file of image k, by the name of its format. ffmpeg shows each image from a multiple of a frame of its file on: a millisecond by this rate, and 40 by default.
abbrev pub file_entry : List ℕ → ℕ → List ℕ
file_entry format k = codes "file image-" ++ decimal k ++ codes "." ++ format ++ codes "\noption framerate 1000\n"

-- the instant at which the first of these images is shown, or the end where there is none
abbrev pub shown_from : List StillEntry → ℕ → ℕ
shown_from [] end = end
shown_from (entry ∷ entries) end = entry.t

abbrev pub duration_line : ℕ → List ℕ
duration_line time = codes "duration " ++ seconds_digits time ++ codes "\n"

-- the files of images, the first of which is image k, and how long each is shown: until the next one is
abbrev pub file_lines : List ℕ → ℕ → List StillEntry → ℕ → List ℕ
file_lines format k [] end = []
file_lines format k (entry ∷ entries) end =
    file_entry format k ++ duration_line (shown_from entries end - entry.t) ++ file_lines format (k + 1) entries end

-- The last file stands there once more: ffmpeg takes no duration behind it for one.
abbrev pub last_again : List ℕ → ℕ → List ℕ
last_again format count = if count == 0 then [] else file_entry format (count - 1)

-- the list
abbrev pub concat_text : List ℕ → List StillEntry → ℕ → List ℕ
concat_text format entries end = codes "ffconcat version 1.0\n" ++ file_lines format 0 entries end ++ last_again format (length entries)
