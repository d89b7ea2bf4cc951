-- Public: what the calls for the fonts of a handle answer.
use Rattle.std.specs.Prelude.{◌≡◌, ◌≢◌, ◌↔◌, ◌⊎◌, ℕ, ◌+◌, ◌<◌, ◌≤◌, nat_le, if◌then◌else◌, List, [], ◌∷◌, ◌++◌, length, drop, slice_index_or, flat_map, ℤ, Result, Ok, Err}
use Rattle.bdf_font.specs.Files.{IsFontFileAnswer}
use Rattle.bdf_font.specs.Fonts.{FontValue}
use Rattle.bdf_font.specs.Limits.{max_fonts}
use Rattle.bdf_font.specs.Sets.{no_font}
use Rattle.bdf_font.specs.declared.cause.FontFileRefusal.{FontFileRefusal}
use Rattle.embedded_fonts.specs.declared.refusal.EmbeddedRefusal.{EmbeddedRefusal}
use Rattle.player.specs.Added.{AreScriptFontsAdded}
use Rattle.player.specs.Players.{PlayerView}
use Rattle.vimalorua_c.specs.Statuses.{bad_call_status, done_status, embedded_told, font_told, many_fonts_status, out_of_memory_status, told}
use Rattle.vimalorua_c.specs.declared.status.Told.{Told}

-- ---- adding fonts

-- The fonts of a file were put behind the others, and the number of the first and how many they are is told; or nothing changed. No more than 64 fonts stand there.
pub record AreFontsAdded (bytes : List ℕ) (answer : Told) (count : ℕ) (old new : PlayerView) : Type 0 where
  pub full : max_fonts ≤ length old.fonts → answer.status ≡ many_fonts_status
  pub many : answer.status ≡ many_fonts_status
      → (max_fonts ≤ length old.fonts) ⊎ ((fonts : List FontValue) × IsFontFileAnswer bytes (Ok fonts) × (max_fonts < length old.fonts + length fonts))
  pub most : answer.status ≡ many_fonts_status → answer.place ≡ max_fonts
  pub added : answer.status ≡ done_status → (fonts : List FontValue) × IsFontFileAnswer bytes (Ok fonts)
      × (answer.place ≡ length old.fonts) × (count ≡ length fonts) × (length old.fonts + length fonts ≤ max_fonts) × (new ≡ record old { fonts = old.fonts ++ fonts })
  pub else_same : answer.status ≢ done_status → (new ≡ old) × (count ≡ 0)
  pub refused : answer.status ≢ done_status → answer.status ≢ many_fonts_status → answer.status ≢ out_of_memory_status
      → (refusal : FontFileRefusal) × IsFontFileAnswer bytes (Err refusal) × (answer ≡ font_told refusal)

-- what is told where so many fonts of a script were added, of which the first has a number, or why they weren't; and how many they are
abbrev pub held_told : ℕ → Result ℕ EmbeddedRefusal → Told
held_told first (Ok count) = told done_status first
held_told first (Err refusal) = embedded_told refusal

abbrev pub held_count : Result ℕ EmbeddedRefusal → ℕ
held_count (Ok count) = count
held_count (Err refusal) = 0

-- The fonts that a script holds were put behind the others, or why they weren't; and the answer is told.
pub record AreScriptFontsTold (bytes : List ℕ) (answer : Told) (count : ℕ) (old new : PlayerView) : Type 0 where
  pub added : Result ℕ EmbeddedRefusal
  pub is_added : AreScriptFontsAdded bytes old new added
  pub is_told : held_told (length old.fonts) added ≡ answer
  pub is_count : held_count added ≡ count

-- ---- the names of a font

abbrev pub ended_name : List ℕ → List ℕ
ended_name name = name ++ 0 ∷ []

-- the names that a font answers to, its families first, each with a zero byte behind it
abbrev pub ended_names : FontValue → List ℕ
ended_names font = flat_map ended_name font.families ++ flat_map ended_name font.full_names

-- other bytes with these at their front, if there is room for all
abbrev pub placed_where_fit : List ℕ → List ℕ → List ℕ
placed_where_fit bytes out = if nat_le (length bytes) (length out) then bytes ++ drop (length bytes) out else out

-- The names of the font with this number are at the front of the caller's bytes if there is room, and how many bytes they have is told; or there is no such font,
-- or memory ran out, and nothing is told. The player stays as it is.
pub record AreNamesTold (number : ℕ) (before after : List ℕ) (len : ℕ) (status : ℤ) (old new : PlayerView) : Type 0 where
  pub same : new ≡ old
  pub bad : (status ≡ bad_call_status) ↔ (length old.fonts ≤ number)
  pub count : status ≡ done_status → len ≡ length (ended_names (slice_index_or old.fonts number no_font))
  pub written : status ≡ done_status → after ≡ placed_where_fit (ended_names (slice_index_or old.fonts number no_font)) before
  pub else_same : status ≢ done_status → (after ≡ before) × (len ≡ 0)
  pub others : status ≢ done_status → status ≢ bad_call_status → status ≡ out_of_memory_status
