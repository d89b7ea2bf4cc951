-- Public: the index of kept pictures as lines of JSON (docs/REPORTS.md).
use Rattle.std.specs.Prelude.{ℕ, ◌+◌, List, [], ◌∷◌, ◌++◌, codes}
use Rattle.json.specs.Token.{Token, key}
use Rattle.json_lines.specs.Members.{json_line, number_array, number_member, object_of}
use Rattle.frame_change.specs.declared.pixels.Changed.{Changed}
use Rattle.still_lists.specs.declared.entry.StillEntry.{StillEntry}

abbrev pub box_members : Changed → List Token
box_members box = key (codes "box") ∷ number_array (box.x1 ∷ box.y1 ∷ box.x2 ∷ box.y2 ∷ [])

-- image k: what it shows is shown from an instant at a place on, and it changes this box
abbrev pub still_members : ℕ → StillEntry → List Token
still_members k entry =
    number_member (codes "image") k ++ number_member (codes "place") entry.place ++ number_member (codes "t") entry.t ++ box_members entry.part

abbrev pub entry_json : ℕ → StillEntry → List ℕ
entry_json k entry = json_line (object_of (still_members k entry))

-- the lines on images, the first of which is image k
abbrev pub entries_json : ℕ → List StillEntry → List ℕ
entries_json k [] = []
entries_json k (entry ∷ entries) = entry_json k entry ++ entries_json (k + 1) entries

-- the last line, on how many instants there are, and the end of the last one
abbrev pub end_json : ℕ → ℕ → List ℕ
end_json count end = json_line (object_of (number_member (codes "end") count ++ number_member (codes "t") end))

-- the index
abbrev pub json_index : List StillEntry → ℕ → ℕ → List ℕ
json_index entries count end = entries_json 0 entries ++ end_json count end
