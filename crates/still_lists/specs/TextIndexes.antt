-- Public: the index of kept pictures as lines of words (docs/PROGRAM.md).
use Rattle.std.specs.Prelude.{ℕ, ◌+◌, List, [], ◌∷◌, ◌++◌, codes, decimal}
use Rattle.frame_change.specs.declared.pixels.Changed.{Changed}
use Rattle.still_lists.specs.declared.entry.StillEntry.{StillEntry}

-- the line on image k, which shows what is shown from the instant t at a place on, and has this box of what changed
abbrev pub still_line : ℕ → ℕ → ℕ → Changed → List ℕ
still_line k place t box =
    codes "image " ++ decimal k ++ codes " place " ++ decimal place ++ codes " t=" ++ decimal t
    ++ codes " box " ++ decimal box.x1 ++ codes " " ++ decimal box.y1 ++ codes " " ++ decimal box.x2 ++ codes " " ++ decimal box.y2 ++ codes "\n"

-- the last line, on how many instants there are, and the end of the last one
abbrev pub end_line : ℕ → ℕ → List ℕ
end_line count to = codes "end place " ++ decimal count ++ codes " t=" ++ decimal to ++ codes "\n"

-- the lines on images, the first of which is image k
abbrev pub entry_lines : ℕ → List StillEntry → List ℕ
entry_lines k [] = []
entry_lines k (entry ∷ entries) = still_line k entry.place entry.t entry.part ++ entry_lines (k + 1) entries

-- the index
abbrev pub words_index : List StillEntry → ℕ → ℕ → List ℕ
words_index entries count end = entry_lines 0 entries ++ end_line count end
