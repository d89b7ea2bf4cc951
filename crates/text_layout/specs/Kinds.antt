-- Public: what an item of a view is for layout: a character or not, and whether a line may be broken at it, or is. A soft break is a
-- hard break in wrap style 2, and a space in the others.
-- (Aegisub tag reference, "\N", "\n", "\h".)
use Rattle.std.specs.Prelude.{ℕ, ◌==◌, if◌then◌else◌, Option, Some, None, List, map}
use Rattle.override_tags.specs.declared.view.Shown.{Shown}
use Rattle.override_tags.specs.declared.view.ShownKind.{ShownKind}
use Rattle.override_tags.specs.declared.view.ShownKind.TheVariants as shown
use Rattle.text_layout.specs.declared.kinds.BreakRole.{BreakRole}
use Rattle.text_layout.specs.declared.kinds.BreakRole.TheVariants.{Word, Space, Break}

-- U+0020
abbrev pub space_char : ℕ
space_char = 32

-- the wrap style in which lines are broken at hard breaks alone
abbrev pub unwrapped : ℕ
unwrapped = 2

-- the character that an item is; none for hard breaks and drawings
abbrev pub char_of : ℕ → ShownKind → Option ℕ
char_of wrap (shown.Char c) = Some c
char_of wrap (shown.Drawing _) = None
char_of wrap shown.Hard = None
char_of wrap shown.Soft = if wrap == unwrapped then None else Some space_char

-- what it is for the breaks of lines
abbrev pub role_of : ℕ → ShownKind → BreakRole
role_of wrap (shown.Char c) = if c == space_char then Space else Word
role_of wrap (shown.Drawing _) = Word
role_of wrap shown.Hard = Break
role_of wrap shown.Soft = if wrap == unwrapped then Break else Space

-- the characters of all items
abbrev pub chars_of : ℕ → List Shown → List (Option ℕ)
chars_of wrap items = map (λ (shown : Shown). char_of wrap shown.kind) items

-- the roles of all items
abbrev pub roles_of : ℕ → List Shown → List BreakRole
roles_of wrap items = map (λ (shown : Shown). role_of wrap shown.kind) items
