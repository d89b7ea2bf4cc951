-- Public: where grapheme clusters end. A text goes on from one hard break or drawing to the next, whatever the states of its characters.
-- (UAX #29, Unicode Text Segmentation, "Grapheme Cluster Boundary Rules".)
use Rattle.std.specs.Prelude.{ℕ, zero, suc, ◌==◌, Bool, true, List, [], ◌∷◌, map, Option, Some, None}
use Rattle.unicode_segmentation.specs.Grapheme.{is_grapheme_break}

-- the characters up to the next hard break or drawing
abbrev pub text_of : List (Option ℕ) → List ℕ
text_of [] = []
text_of (None ∷ _) = []
text_of (Some c ∷ rest) = c ∷ text_of rest

-- For each item whether it ends its cluster: whether the rules put a boundary between the characters up to it, nearest first, and
-- those after it. `before` has those of its text before all of these. A hard break or a drawing counts as a cluster.
abbrev pub ends_behind : List ℕ → List (Option ℕ) → List Bool
ends_behind before [] = []
ends_behind before (None ∷ rest) = true ∷ ends_behind [] rest
ends_behind before (Some c ∷ rest) = is_grapheme_break true (c ∷ before) (text_of rest) ∷ ends_behind (c ∷ before) rest

-- for each item whether it ends its cluster
abbrev pub cluster_ends : List (Option ℕ) → List Bool
cluster_ends chars = ends_behind [] chars

-- the same of a text alone
abbrev pub text_ends : List ℕ → List Bool
text_ends text = cluster_ends (map Some text)

-- of a cluster of n characters the last one ends it
abbrev pub flags_of : ℕ → List Bool
flags_of zero = []
flags_of (suc n) = (n == 0) ∷ flags_of n
