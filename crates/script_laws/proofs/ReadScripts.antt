-- What is read keeps its ranges line by line, so what a text spells is a script.
use Rattle.std.proofs.Common.{◌≡◌, ℕ, ◌*◌, ◌/◌, ◌<◌, ◌≤◌, min, max, Bool, true, false, cond, eqb, leb, ◌&&◌, List, [], ◌∷◌, ◌++◌, length, Option, Some, None, Ok, Err, ℤ, pos, negsuc, refl, subst, arith, ◌∙◌, length-append}
use Rattle.std.specs.Prelude.{IfSome, is_some, option_and_then}
use Rattle.std.specs.List.{All}
use Rattle.std.specs.Option.{option_map_or}
use Rattle.std.specs.Str.{IsUtf8}
use Rattle.std.specs.Str.Lines.{lines}
use Rattle.std.specs.Str.Lossy.{utf8_valid_len}
use Rattle.std.proofs.lemmas.Bool.Decides.{nat_tests}
use Rattle.std.proofs.lemmas.List.Elements.{All-head, All-nil, All-push, All-tail}
use Rattle.ass_num.specs.Wholes.{whole_of}
use Rattle.ass_script.specs.Fields.{ends_in_text, event_fields_of, usual_event_fields}
use Rattle.ass_script.specs.Limits.{max_canvas_side, max_lines, max_styles}
use Rattle.ass_script.specs.Lines.{line_in}
use Rattle.ass_script.specs.Ranges.{IsCanvasSide, IsHeaderLines, IsScript, IsScriptHeader, IsScriptReading, IsStyle}
use Rattle.ass_script.specs.Scripts.{ScriptValue, canvas_height, canvas_side_in, canvas_side_of, lines_of, script_of, script_of_lines, width_of, wrap_in, wrap_style_of}
use Rattle.ass_script.specs.Styles.{style_of}
use Rattle.ass_script.specs.Walk.{fields_of, header_lines_after, key_step, keyed_step, line_step, made_header, made_script, no_script_lines, script_said, walked}
use Rattle.ass_script.specs.Words.{past_mark}
use Rattle.ass_script.specs.declared.header_lines.HeaderLines.{HeaderLines}
use Rattle.ass_script.specs.declared.lines.Key.{Key}
use Rattle.ass_script.specs.declared.lines.Key.TheVariants as key
use Rattle.ass_script.specs.declared.lines.Version.{Version}
use Rattle.ass_script.specs.declared.lines.Version.TheVariants.{V4, V4Plus}
use Rattle.ass_script.specs.declared.reading.Reading.{Reading}
use Rattle.ass_script.specs.declared.refusal.ScriptRefusal.{ScriptRefusal}
use Rattle.ass_script.specs.declared.refusal.ScriptRefusal.TheVariants as refusal
use Rattle.ass_script.specs.declared.script.EventField.{EventField}
use Rattle.ass_script.proofs.WalkLemmas.{read_is}
use Rattle.script_laws.proofs.StyleRanges.{style_sound}
use Rattle.script_laws.proofs.TextCuts.{lines_utf8, value_utf8, whole_utf8}

-- ---- the header

side_in_range : (z : ℤ) → IfSome (canvas_side_in z) IsCanvasSide
side_in_range (negsuc n) = tt
side_in_range (pos n) = cases (leb 1 n) (leb n max_canvas_side) refl refl
  where
    cases : (some small : Bool) → leb 1 n ≡ some → leb n max_canvas_side ≡ small → IfSome (cond (some && small) (Some n) None) IsCanvasSide
    cases true true low high = (grind (arith, nat_tests), grind (arith, nat_tests))
    cases true false low high = tt
    cases false small low high = tt

side_sound : (value : List ℕ) → IfSome (canvas_side_of value) IsCanvasSide
unfolding canvas_side_of
side_sound value = cases (whole_of value)
  where
    cases : (o : Option ℤ) → IfSome (option_and_then canvas_side_in o) IsCanvasSide
    cases None = tt
    cases (Some z) = side_in_range z

wrap_sound : (value : List ℕ) → wrap_style_of value ≤ 3
unfolding wrap_style_of
wrap_sound value = cases (whole_of value)
  where
    small : (n : ℕ) (b : Bool) → leb n 3 ≡ b → cond b n 0 ≤ 3
    small n true e = grind (arith, nat_tests)
    small n false e = omega arith

    cases : (o : Option ℤ) → option_map_or wrap_in o 0 ≤ 3
    cases None = omega arith
    cases (Some (pos n)) = small n (leb n 3) refl
    cases (Some (negsuc n)) = omega arith

header_kept : (k : Key) (value : List ℕ) (h : HeaderLines) → IsHeaderLines h → IsHeaderLines (header_lines_after k value h)
header_kept key.ResX value h is = record { width = side_sound value; height = is.height; wrap = is.wrap }
header_kept key.ResY value h is = record { width = is.width; height = side_sound value; wrap = is.wrap }
header_kept key.Wrap value h is = record { width = is.width; height = is.height; wrap = wrap_sound value }
header_kept _ value h is = record { width = is.width; height = is.height; wrap = is.wrap }

width_sound : (x y : Option ℕ) → IfSome x IsCanvasSide → IfSome y IsCanvasSide → IsCanvasSide (width_of x y)
width_sound (Some n) y first second = first
width_sound None (Some n) first second = cases (eqb n 1024)
  where
    cases : (b : Bool) → IsCanvasSide (cond b 1280 (min (n * 4 / 3) max_canvas_side))
    cases true = (omega arith, omega arith)
    cases false = (omega (arith, second.0), omega arith)
width_sound None None first second = (omega arith, omega arith)

height_sound : (x y : Option ℕ) → IfSome x IsCanvasSide → IfSome y IsCanvasSide → IsCanvasSide (canvas_height x y)
height_sound (Some m) (Some n) first second = second
height_sound None (Some n) first second = second
height_sound (Some n) None first second = cases (eqb n 1280)
  where
    cases : (b : Bool) → IsCanvasSide (cond b 1024 (max (n * 3 / 4) 1))
    cases true = (omega arith, omega arith)
    cases false = (omega arith, omega (arith, first.1))
height_sound None None first second = (omega arith, omega arith)

header_sound : (h : HeaderLines) → IsHeaderLines h → IsScriptHeader (made_header h)
header_sound h is = record { width = width_sound h.res_x h.res_y is.width is.height; height = height_sound h.res_x h.res_y is.width is.height; wrap = is.wrap }

-- ---- a line

sound_if : (b : Bool) (r next : Reading) → (b ≡ true → IsScriptReading r) → (b ≡ false → IsScriptReading next) → IsScriptReading (cond b r next)
sound_if true r next first second = first refl
sound_if false r next first second = second refl

-- one more stands at the end, where there is room
one_more_fits : {X : Type 0} (most : ℕ) (xs : List X) (x : X) → leb most (length xs) ≡ false → length (xs ++ x ∷ []) ≤ most
one_more_fits most xs x e =
    let below : length xs < most = grind (arith, nat_tests) in
    omega (arith, length-append xs (x ∷ []), below)

style_kept : (version : Version) (value : List ℕ) (r : Reading) → IsUtf8 value → IsScriptReading r → IsScriptReading (key_step (key.Style version) value r)
style_kept version value r utf8 is =
    let style = style_of version (fields_of version r) value in
    sound_if (leb max_styles (length r.styles)) (record r { refusal = Some (refusal.TooManyStyles max_styles) }) (record r { styles = r.styles ++ style ∷ [] })
    (λ full. assumption)
    (λ room. assumption (All-push IsStyle r.styles style is.styles (style_sound version (fields_of version r) value utf8), one_more_fits max_styles r.styles style room))

dialogue_kept : (value : List ℕ) (r : Reading) → IsUtf8 value → IsScriptReading r → IsScriptReading (key_step key.Dialogue value r)
dialogue_kept value r utf8 is =
    sound_if (leb max_lines (length r.lines)) (record r { refusal = Some (refusal.TooManyLines max_lines) }) (record r { lines = r.lines ++ value ∷ [] })
    (λ full. assumption)
    (λ room. assumption (All-push IsUtf8 r.lines value is.lines utf8, one_more_fits max_lines r.lines value room))

format_kept : (value : List ℕ) (r : Reading) → IsScriptReading r → IsScriptReading (key_step key.EventFormat value r)
format_kept value r is = sound_if (ends_in_text (event_fields_of value)) (record r { format = Some (event_fields_of value) }) r (λ text. assumption) (λ other. is)

header_line_kept : (k : Key) (value : List ℕ) (r : Reading) → IsScriptReading r → IsScriptReading (record r { header = header_lines_after k value r.header })
header_line_kept k value r is = assumption (header_kept k value r.header is.header)

key_kept : (k : Key) (value : List ℕ) (r : Reading) → IsUtf8 value → IsScriptReading r → IsScriptReading (key_step k value r)
key_kept (key.StyleFormat V4) value r utf8 is = assumption
key_kept (key.StyleFormat V4Plus) value r utf8 is = assumption
key_kept (key.Style version) value r utf8 is = style_kept version value r utf8 is
key_kept key.EventFormat value r utf8 is = format_kept value r is
key_kept key.Dialogue value r utf8 is = dialogue_kept value r utf8 is
key_kept (key.Heading s) value r utf8 is = is
key_kept key.Other value r utf8 is = is
key_kept key.ResX value r utf8 is = header_line_kept key.ResX value r is
key_kept key.ResY value r utf8 is = header_line_kept key.ResY value r is
key_kept key.Wrap value r utf8 is = header_line_kept key.Wrap value r is
key_kept key.Scaled value r utf8 is = header_line_kept key.Scaled value r is
key_kept key.Matrix value r utf8 is = header_line_kept key.Matrix value r is

keyed_kept : (k : Key) (value : List ℕ) (r : Reading) → IsUtf8 value → IsScriptReading r → IsScriptReading (keyed_step k value r)
keyed_kept (key.Heading s) value r utf8 is = assumption
keyed_kept k value r utf8 is = sound_if (is_some r.refusal) r (key_step k value r) (λ refused. is) (λ on. key_kept k value r utf8 is)

-- ---- all lines

walked_kept : (texts : List (List ℕ)) (r : Reading) → All IsUtf8 texts → IsScriptReading r → IsScriptReading (walked texts r)
unfolding walked
walked_kept [] r each is = is
walked_kept (text ∷ texts) r each is =
    let line = line_in r.section text in
    walked_kept texts (line_step text r) (All-tail IsUtf8 text texts each) (keyed_kept line.key line.value r (value_utf8 r.section text (All-head IsUtf8 text texts each)) is)

first_sound : IsScriptReading no_script_lines
first_sound = record { header = record { width = tt; height = tt; wrap = omega arith }; styles = All-nil IsStyle; few_styles = omega arith; format = tt; lines = All-nil IsUtf8; few_lines = omega arith }

-- ---- the script

ends_in_text_said : (given : Option (List EventField)) (version : Version) → IfSome given (λ fields. ends_in_text fields ≡ true) → ends_in_text (option_map_or (λ fields. fields) given (usual_event_fields version)) ≡ true
ends_in_text_said None V4 text = refl
ends_in_text_said None V4Plus text = refl
ends_in_text_said (Some fields) version text = text

said_sound : (r : Reading) → IsScriptReading r → IsScript (script_said r)
said_sound r is = record {
  header = header_sound r.header is.header;
  styles = is.styles;
  few_styles = is.few_styles;
  format = ends_in_text_said r.format _ is.format;
  lines = is.lines;
  few_lines = is.few_lines;
}

made_sound : (r : Reading) (script : ScriptValue) → IsScriptReading r → made_script r ≡ Ok script → IsScript script
made_sound r script is e = cases r.headings.events r.refusal e
  where
    cases : (b : Bool) (o : Option ScriptRefusal) → cond b (option_map_or Err o (Ok (script_said r))) (Err refusal.NoEvents) ≡ Ok script → IsScript script
    cases true None e = let same : script_said r ≡ script = cc in subst IsScript same (said_sound r is)
    cases true (Some why) e = absurd cc
    cases false o e = absurd cc

pub script_read : (bytes : List ℕ) (script : ScriptValue) → script_of bytes ≡ Ok script → IsScript script
script_read bytes script e = cases (eqb (utf8_valid_len bytes) (length bytes)) refl e
  where
    cases : (b : Bool) → eqb (utf8_valid_len bytes) (length bytes) ≡ b → cond b (script_of_lines (lines_of bytes)) (Err (refusal.NotUtf8 (utf8_valid_len bytes))) ≡ Ok script → IsScript script
    cases true valid e =
        let utf8 : IsUtf8 bytes = whole_utf8 bytes (grind (arith, nat_tests)) in
        let texts = lines (past_mark bytes) in
        made_sound (walked texts no_script_lines) script (walked_kept texts no_script_lines (lines_utf8 bytes utf8) first_sound) (read_is texts ∙ e)
    cases false valid e = absurd cc
