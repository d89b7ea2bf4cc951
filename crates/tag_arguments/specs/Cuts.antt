-- Public: where tags and their arguments begin and end.
use Rattle.std.specs.Prelude.{ℕ, ◌+◌, ◌-◌, ◌&&◌, ◌==◌, if◌then◌else◌, List, [], ◌∷◌, take, Option, Some, None, unwrap_or}
use Rattle.std.specs.Option.{option_map}
use Rattle.ass_num.specs.Bytes.{open_paren, close_paren, backslash}
use Rattle.ass_num.specs.Blanks.{trimmed}

-- the text behind a `(` at the front, if one stands there
abbrev pub after_bracket : List ℕ → Option (List ℕ)
after_bracket [] = None
after_bracket (c ∷ text) = if c == open_paren then Some text else None

-- an argument that needs no brackets: without the blanks at both its ends, and then without one `(`
abbrev pub plain_argument : List ℕ → List ℕ
plain_argument text = unwrap_or (after_bracket (trimmed text)) (trimmed text)

-- The depth in parentheses behind a byte: `(` leads one deeper, `)` one less deep, but not below 0.
abbrev pub depth_after : ℕ → ℕ → ℕ
depth_after c depth = if c == open_paren then depth + 1 else (if c == close_paren then depth - 1 else depth)

-- how many bytes of a text, which begins at a depth, stand before the first byte `stop` at depth 0, or before the end
abbrev pub outer_len : ℕ → ℕ → List ℕ → ℕ
outer_len stop depth [] = 0
outer_len stop depth (c ∷ text) = if (c == stop) && (depth == 0) then 0 else 1 + outer_len stop (depth_after c depth) text

-- how long the tag is that begins behind a `\`: it ends before the next `\` outside parentheses, or with the text
abbrev pub tag_len : List ℕ → ℕ
tag_len text = outer_len backslash 0 text

-- What stands in the brackets at the front of a text, up to the matching `)` or the end. There is none without a `(`.
abbrev pub bracketed : List ℕ → Option (List ℕ)
bracketed text = option_map (λ inside. take (outer_len close_paren 0 inside) inside) (after_bracket text)
