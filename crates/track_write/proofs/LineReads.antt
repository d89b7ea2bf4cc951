-- What the lines of a written script say.
use Rattle.std.proofs.Common.{◌≡◌, ℕ, zero, suc, ◌+◌, ◌-◌, false, cond, eqb, ◌&&◌, List, [], ◌∷◌, ◌++◌, length, get_or, take, drop, refl, ap, ◌∙◌}
use Rattle.std.specs.Prelude.{codes}
use Rattle.std.specs.List.{prefix_len, suffix_len}
use Rattle.ass_num.specs.Numerals.{is_blank}
use Rattle.ass_script.specs.Lines.{Line, is_bracketed, is_heading, section_named, info_key_named, style_key_named, event_key_named, keyed_line, line_in}
use Rattle.ass_script.specs.declared.lines.Section.{Section}
use Rattle.ass_script.specs.declared.lines.Section.TheVariants as section
use Rattle.ass_script.specs.declared.lines.Version.TheVariants.{V4Plus}
use Rattle.ass_script.specs.declared.lines.Key.{Key}
use Rattle.ass_script.specs.declared.lines.Key.TheVariants as key
use Rattle.ass_num.specs.Blanks.{past_blanks, before_blanks, trimmed}

abbrev pub said : Key → List ℕ → Line
said k value = record { key = k; value = value }

-- ---- headings

pub info_heading : line_in section.Other (codes "[Script Info]") ≡ said (key.Heading section.Info) []
unfolding is_heading trimmed past_blanks before_blanks section_named
info_heading = refl

pub styles_heading : line_in section.Info (codes "[V4+ Styles]") ≡ said (key.Heading (section.Styles V4Plus)) []
unfolding is_heading trimmed past_blanks before_blanks section_named
styles_heading = refl

pub events_heading : line_in (section.Styles V4Plus) (codes "[Events]") ≡ said (key.Heading section.Events) []
unfolding is_heading trimmed past_blanks before_blanks section_named
events_heading = refl

-- ---- other lines

no_bracket : (k c : ℕ) (cs : List ℕ) → eqb c 91 ≡ false → is_bracketed (take k (c ∷ cs)) ≡ false
no_bracket zero c cs other = refl
no_bracket (suc k) c cs other = ap (λ b. b && eqb (get_or (take (suc k) (c ∷ cs)) (length (take (suc k) (c ∷ cs)) - 1) 0) 93) other

no_heading : (c : ℕ) (cs : List ℕ) → is_blank c ≡ false → eqb c 91 ≡ false → is_heading (c ∷ cs) ≡ false
unfolding is_heading trimmed past_blanks before_blanks
no_heading c cs no_blank other =
    ap (λ b. is_bracketed (before_blanks (drop (cond b (1 + prefix_len is_blank cs) 0) (c ∷ cs)))) no_blank ∙ no_bracket (length (c ∷ cs) - suffix_len is_blank (c ∷ cs)) c cs other

keyed : (s : Section) (c : ℕ) (cs : List ℕ) → is_blank c ≡ false → eqb c 91 ≡ false → line_in s (c ∷ cs) ≡ keyed_line s (c ∷ cs)
keyed s c cs no_blank other = ap (λ b. cond b (said (key.Heading (section_named (trimmed (c ∷ cs)))) []) (keyed_line s (c ∷ cs))) (no_heading c cs no_blank other)

-- a key and what stands behind its colon
type_keyed : keyed_line section.Info (codes "ScriptType: v4.00+") ≡ said key.Other (codes " v4.00+")
unfolding keyed_line trimmed past_blanks before_blanks info_key_named
type_keyed = refl

pub type_line : line_in section.Info (codes "ScriptType: v4.00+") ≡ said key.Other (codes " v4.00+")
type_line = keyed section.Info 83 (codes "criptType: v4.00+") refl refl ∙ type_keyed

width_keyed : (v : List ℕ) → keyed_line section.Info (codes "PlayResX: " ++ v) ≡ said key.ResX (32 ∷ v)
unfolding keyed_line trimmed past_blanks before_blanks info_key_named
width_keyed v = refl

pub width_line : (v : List ℕ) → line_in section.Info (codes "PlayResX: " ++ v) ≡ said key.ResX (32 ∷ v)
width_line v = keyed section.Info 80 (codes "layResX: " ++ v) refl refl ∙ width_keyed v

height_keyed : (v : List ℕ) → keyed_line section.Info (codes "PlayResY: " ++ v) ≡ said key.ResY (32 ∷ v)
unfolding keyed_line trimmed past_blanks before_blanks info_key_named
height_keyed v = refl

pub height_line : (v : List ℕ) → line_in section.Info (codes "PlayResY: " ++ v) ≡ said key.ResY (32 ∷ v)
height_line v = keyed section.Info 80 (codes "layResY: " ++ v) refl refl ∙ height_keyed v

wrap_keyed : (v : List ℕ) → keyed_line section.Info (codes "WrapStyle: " ++ v) ≡ said key.Wrap (32 ∷ v)
unfolding keyed_line trimmed past_blanks before_blanks info_key_named
wrap_keyed v = refl

pub wrap_line : (v : List ℕ) → line_in section.Info (codes "WrapStyle: " ++ v) ≡ said key.Wrap (32 ∷ v)
wrap_line v = keyed section.Info 87 (codes "rapStyle: " ++ v) refl refl ∙ wrap_keyed v

scaled_keyed : (v : List ℕ) → keyed_line section.Info (codes "ScaledBorderAndShadow: " ++ v) ≡ said key.Scaled (32 ∷ v)
unfolding keyed_line trimmed past_blanks before_blanks info_key_named
scaled_keyed v = refl

pub scaled_said : (v : List ℕ) → line_in section.Info (codes "ScaledBorderAndShadow: " ++ v) ≡ said key.Scaled (32 ∷ v)
scaled_said v = keyed section.Info 83 (codes "caledBorderAndShadow: " ++ v) refl refl ∙ scaled_keyed v

matrix_keyed : (v : List ℕ) → keyed_line section.Info (codes "YCbCr Matrix: " ++ v) ≡ said key.Matrix (32 ∷ v)
unfolding keyed_line trimmed past_blanks before_blanks info_key_named
matrix_keyed v = refl

pub matrix_said : (v : List ℕ) → line_in section.Info (codes "YCbCr Matrix: " ++ v) ≡ said key.Matrix (32 ∷ v)
matrix_said v = keyed section.Info 89 (codes "CbCr Matrix: " ++ v) refl refl ∙ matrix_keyed v

style_keyed : (v : List ℕ) → keyed_line (section.Styles V4Plus) (codes "Style: " ++ v) ≡ said (key.Style V4Plus) (32 ∷ v)
unfolding keyed_line trimmed past_blanks before_blanks style_key_named
style_keyed v = refl

pub style_said : (v : List ℕ) → line_in (section.Styles V4Plus) (codes "Style: " ++ v) ≡ said (key.Style V4Plus) (32 ∷ v)
style_said v = keyed (section.Styles V4Plus) 83 (codes "tyle: " ++ v) refl refl ∙ style_keyed v

style_format_keyed : (v : List ℕ) → keyed_line (section.Styles V4Plus) (codes "Format: " ++ v) ≡ said (key.StyleFormat V4Plus) (32 ∷ v)
unfolding keyed_line trimmed past_blanks before_blanks style_key_named
style_format_keyed v = refl

pub style_format_said : (v : List ℕ) → line_in (section.Styles V4Plus) (codes "Format: " ++ v) ≡ said (key.StyleFormat V4Plus) (32 ∷ v)
style_format_said v = keyed (section.Styles V4Plus) 70 (codes "ormat: " ++ v) refl refl ∙ style_format_keyed v

event_format_keyed : (v : List ℕ) → keyed_line section.Events (codes "Format: " ++ v) ≡ said key.EventFormat (32 ∷ v)
unfolding keyed_line trimmed past_blanks before_blanks event_key_named
event_format_keyed v = refl

pub event_format_said : (v : List ℕ) → line_in section.Events (codes "Format: " ++ v) ≡ said key.EventFormat (32 ∷ v)
event_format_said v = keyed section.Events 70 (codes "ormat: " ++ v) refl refl ∙ event_format_keyed v

dialogue_keyed : (v : List ℕ) → keyed_line section.Events (codes "Dialogue: " ++ v) ≡ said key.Dialogue (32 ∷ v)
unfolding keyed_line trimmed past_blanks before_blanks event_key_named
dialogue_keyed v = refl

pub dialogue_said : (v : List ℕ) → line_in section.Events (codes "Dialogue: " ++ v) ≡ said key.Dialogue (32 ∷ v)
dialogue_said v = keyed section.Events 68 (codes "ialogue: " ++ v) refl refl ∙ dialogue_keyed v
