-- The styles of a script that a text spells are such as a line can say.
use Rattle.std.proofs.Common.{◌≡◌, ℕ, ◌+◌, ◌-◌, Bool, true, false, cond, eqb, leb, not, List, [], ◌∷◌, ◌++◌, length, get_or, set, take, Option, Some, None, Ok, Err, refl, sym, ◌∙◌, subst, arith}
use Rattle.std.specs.Prelude.{codes, is_some}
use Rattle.std.specs.List.{All, slice_split, onto_first, list_all, list_any, position_or_len, before_first, after_first}
use Rattle.std.specs.Option.{option_map_or}
use Rattle.std.specs.Str.Lossy.{utf8_valid_len}
use Rattle.std.specs.Str.Lines.{strip_carriage_return, lines_of_parts, lines}
use Rattle.std.proofs.Math.Nat.{mod-lt}
use Rattle.std.proofs.lemmas.List.Elements.{All-nil, All-cons, All-head, All-tail, All-push, All-take, All-drop, All-set, All-weaker}
use Rattle.std.proofs.lemmas.List.Sums.{AllPass-from_list_all}
use Rattle.ass_num.specs.Colours.{colour_of}
use Rattle.ass_num.specs.declared.colour.Rgba.{Rgba}
use Rattle.ass_script.specs.Fields.{event_fields_of, ends_in_text}
use Rattle.ass_script.specs.Limits.{max_lines, max_styles}
use Rattle.ass_script.specs.Lines.{Line, is_heading, is_comment, section_named, keyed_line, line_in, key_named}
use Rattle.ass_script.specs.Numbers.{style_colour_of}
use Rattle.ass_script.specs.Styles.{bare_style, colours_with, with_field, with_fields, style_of}
use Rattle.ass_script.specs.Scripts.{ScriptValue, script_of_lines, script_of, lines_of}
use Rattle.ass_script.specs.Walk.{fields_of, key_step, keyed_step, line_step, walked, no_script_lines, script_said, made_script}
use Rattle.ass_script.specs.Words.{is_comma, is_colon, past_mark}
use Rattle.ass_script.specs.declared.lines.Key.{Key}
use Rattle.ass_script.specs.declared.lines.Key.TheVariants as key
use Rattle.ass_script.specs.declared.lines.Section.{Section}
use Rattle.ass_script.specs.declared.lines.Version.{Version}
use Rattle.ass_script.specs.declared.lines.Version.TheVariants.{V4, V4Plus}
use Rattle.ass_script.specs.declared.reading.Reading.{Reading}
use Rattle.ass_script.specs.declared.refusal.ScriptRefusal.{ScriptRefusal}
use Rattle.ass_script.specs.declared.refusal.ScriptRefusal.TheVariants as refusal
use Rattle.ass_script.specs.declared.style.Style.{Style}
use Rattle.ass_script.specs.declared.style_field.StyleField.{StyleField}
use Rattle.ass_script.specs.declared.style_field.StyleField.TheVariants as style
use Rattle.ass_script.proofs.WalkLemmas.{read_is}
use Rattle.ass_events.proofs.PieceLemmas.{EachPlain, pieces_plain}
use Rattle.ass_num.specs.Blanks.{past_blanks, before_blanks, trimmed}
use Rattle.ass_num.proofs.TrimmedLemmas.{trimmed-trimmed, All-trimmed}
use Rattle.track_write.specs.Ranges.{IsPlain, IsByteColour, IsSpelledStyle}
use Rattle.track_write.specs.Texts.{is_line_feed}
use Rattle.track_write.proofs.LineCuts.{EachField}

abbrev NoFeed : ℕ → Type 0
NoFeed c = is_line_feed c ≡ false

-- ---- parts of a text

first_kept : (P : ℕ → Type 0) (x : ℕ) (parts : List (List ℕ)) → P x → EachField P parts → EachField P (onto_first x parts)
first_kept P x [] first each = (All-cons P x [] first (All-nil P), tt)
first_kept P x (part ∷ parts) first each = (All-cons P x part first each.0, each.1)

-- what holds of all bytes holds of those of each part
parts_kept : (P : ℕ → Type 0) (p : ℕ → Bool) (text : List ℕ) → All P text → EachField P (slice_split p text)
parts_kept P p [] all = (All-nil P, tt)
parts_kept P p (x ∷ xs) all =
    let rest = parts_kept P p xs (All-tail P x xs all) in
    elim (p x) as (λ b. EachField P (cond b ([] ∷ slice_split p xs) (onto_first x (slice_split p xs)))) [
      | true ↦ (All-nil P, rest)
      | false ↦ first_kept P x (slice_split p xs) (All-head P x xs all) rest
    ]

-- no part between line feeds has one
parts_fed : (text : List ℕ) → EachField NoFeed (slice_split is_line_feed text)
parts_fed [] = (All-nil NoFeed, tt)
parts_fed (x ∷ xs) =
    elim (is_line_feed x) as (λ b. is_line_feed x ≡ b → EachField NoFeed (cond b ([] ∷ slice_split is_line_feed xs) (onto_first x (slice_split is_line_feed xs)))) [
      | true ↦ λ same. (All-nil NoFeed, parts_fed xs)
      | false ↦ λ differs. first_kept NoFeed x (slice_split is_line_feed xs) differs (parts_fed xs)
    ] refl

stripped_fed : (line : List ℕ) → All NoFeed line → All NoFeed (strip_carriage_return line)
stripped_fed line all = elim (eqb (get_or line (length line - 1) 0) 13) as (λ b. All NoFeed (cond b (take (length line - 1) line) line)) [ true ↦ All-take NoFeed (length line - 1) line all | false ↦ all ]

lines_fed_of : (parts : List (List ℕ)) → EachField NoFeed parts → EachField NoFeed (lines_of_parts parts)
lines_fed_of [] each = tt
lines_fed_of (x ∷ []) each = elim (eqb (length x) 0) as (λ b. EachField NoFeed (cond b [] (x ∷ []))) [ true ↦ tt | false ↦ (each.0, tt) ]
lines_fed_of (x ∷ (y ∷ more)) each = (stripped_fed x each.0, lines_fed_of (y ∷ more) each.1)

lines_fed : (text : List ℕ) → EachField NoFeed (lines text)
lines_fed text = lines_fed_of (slice_split is_line_feed text) (parts_fed text)

-- ---- a Style line

colour_bytes : (n : ℕ) → IsByteColour (colour_of n)
colour_bytes n = record { r = mod-lt n (omega arith); g = mod-lt _ (omega arith); b = mod-lt _ (omega arith); a = mod-lt _ (omega arith) }

colours_kept : (k : ℕ) (colours : List Rgba) (text : List ℕ) → All IsByteColour colours → All IsByteColour (colours_with k colours text)
colours_kept k colours text all =
    elim (style_colour_of text) as (λ o. All IsByteColour (option_map_or (λ n. set colours k (colour_of n)) o colours)) [ Some n ↦ All-set IsByteColour colours k (colour_of n) (colour_bytes n) all | None ↦ all ]

field_kept : (f : StyleField) (text : List ℕ) (s : Style) → IsPlain text → IsSpelledStyle s → IsSpelledStyle (with_field f text s)
field_kept style.Name text s plain is = record { name = plain; font = is.font; colours = is.colours }
field_kept style.Font text s plain is = record { name = is.name; font = plain; colours = is.colours }
field_kept style.PrimaryColour text s plain is = record { name = is.name; font = is.font; colours = colours_kept 0 s.colours text is.colours }
field_kept style.SecondaryColour text s plain is = record { name = is.name; font = is.font; colours = colours_kept 1 s.colours text is.colours }
field_kept style.OutlineColour text s plain is = record { name = is.name; font = is.font; colours = colours_kept 2 s.colours text is.colours }
field_kept style.BackColour text s plain is = record { name = is.name; font = is.font; colours = colours_kept 3 s.colours text is.colours }
field_kept _ text s plain is = record { name = is.name; font = is.font; colours = is.colours }

fields_kept : (fields : List StyleField) (pieces : List (List ℕ)) (s : Style) → EachPlain pieces → EachField NoFeed pieces → IsSpelledStyle s → IsSpelledStyle (with_fields fields pieces s)
fields_kept [] pieces s plain fed is = is
fields_kept (f ∷ fields) [] s plain fed is = is
fields_kept (f ∷ fields) (piece ∷ pieces) s plain fed is =
    fields_kept fields pieces (with_field f (trimmed piece) s) plain.1 fed.1
    (field_kept f (trimmed piece) s (record { no_comma = All-trimmed (λ c. is_comma c ≡ false) piece plain.0; no_line_feed = All-trimmed NoFeed piece fed.0; bare = trimmed-trimmed piece }) is)

four : (a b c d : Rgba) → IsByteColour a → IsByteColour b → IsByteColour c → IsByteColour d → All IsByteColour (a ∷ b ∷ c ∷ d ∷ [])
four a b c d ia ib ic id =
    All-cons IsByteColour a (b ∷ c ∷ d ∷ []) ia (All-cons IsByteColour b (c ∷ d ∷ []) ib (All-cons IsByteColour c (d ∷ []) ic (All-cons IsByteColour d [] id (All-nil IsByteColour))))

plain_of : (text : List ℕ) → list_all (λ c. not (is_comma c)) text ≡ true → list_all (λ c. not (is_line_feed c)) text ≡ true → trimmed text ≡ text → IsPlain text
plain_of text comma feed bare = record {
  no_comma = All-weaker (λ c. not (is_comma c) ≡ true) (λ c. is_comma c ≡ false) (λ c e. turned (is_comma c) e) text (AllPass-from_list_all (λ c. not (is_comma c)) text comma);
  no_line_feed = All-weaker (λ c. not (is_line_feed c) ≡ true) (λ c. is_line_feed c ≡ false) (λ c e. turned (is_line_feed c) e) text (AllPass-from_list_all (λ c. not (is_line_feed c)) text feed);
  bare = bare;
}
  where
    turned : (b : Bool) → not b ≡ true → b ≡ false
    turned true e = sym e
    turned false e = refl

bare_kept : (version : Version) → IsSpelledStyle (bare_style version)
unfolding trimmed past_blanks before_blanks
bare_kept V4Plus = record {
  name = plain_of (codes "Default") refl refl refl;
  font = plain_of [] refl refl refl;
  colours = four (colour_of 0x00FF_FFFF) (colour_of 0x0000_FFFF) (colour_of 0) (colour_of 0x8000_0000) (colour_bytes 0x00FF_FFFF) (colour_bytes 0x0000_FFFF) (colour_bytes 0) (colour_bytes 0x8000_0000);
}
bare_kept V4 = record {
  name = plain_of (codes "Default") refl refl refl;
  font = plain_of [] refl refl refl;
  colours = four (colour_of 0x00FF_FFFF) (colour_of 0x0000_FFFF) (colour_of 0x8000_0000) (colour_of 0x8000_0000) (colour_bytes 0x00FF_FFFF) (colour_bytes 0x0000_FFFF) (colour_bytes 0x8000_0000) (colour_bytes 0x8000_0000);
}

style_kept : (version : Version) (fields : List StyleField) (value : List ℕ) → All NoFeed value → IsSpelledStyle (style_of version fields value)
style_kept version fields value fed = fields_kept fields (slice_split is_comma value) (bare_style version) (pieces_plain value) (parts_kept NoFeed is_comma value fed) (bare_kept version)

-- ---- a line

value_kept : (s : Section) (text : List ℕ) → All NoFeed text → All NoFeed (line_in s text).value
unfolding keyed_line
value_kept s text fed = cases (is_heading text) (is_comment text) (list_any is_colon text) (key.Heading (section_named (trimmed text))) (key_named s (trimmed (before_first is_colon text)))
  where
    cases : (a b c : Bool) (h k : Key) → All NoFeed (cond {A = Line} a (record { key = h; value = [] }) (cond {A = Line} b (record { key = key.Other; value = [] }) (cond {A = Line} c (record { key = k; value = after_first is_colon text }) (record { key = key.Other; value = [] })))).value
    cases true b c h k = All-nil NoFeed
    cases false true c h k = All-nil NoFeed
    cases false false true h k = All-drop NoFeed (position_or_len is_colon text + 1) text fed
    cases false false false h k = All-nil NoFeed

kept_if : (b : Bool) (r next : Reading) → All IsSpelledStyle r.styles → All IsSpelledStyle next.styles → All IsSpelledStyle (cond b r next).styles
kept_if true r next first second = first
kept_if false r next first second = second

key_kept : (k : Key) (value : List ℕ) (r : Reading) → All NoFeed value → All IsSpelledStyle r.styles → All IsSpelledStyle (key_step k value r).styles
key_kept (key.StyleFormat V4) value r fed all = all
key_kept (key.StyleFormat V4Plus) value r fed all = all
key_kept (key.Style version) value r fed all =
    kept_if (leb max_styles (length r.styles)) (record r { refusal = Some (refusal.TooManyStyles max_styles) }) (record r { styles = r.styles ++ style_of version (fields_of version r) value ∷ [] })
    all (All-push IsSpelledStyle r.styles (style_of version (fields_of version r) value) all (style_kept version (fields_of version r) value fed))
key_kept key.EventFormat value r fed all = kept_if (ends_in_text (event_fields_of value)) (record r { format = Some (event_fields_of value) }) r all all
key_kept key.Dialogue value r fed all = kept_if (leb max_lines (length r.lines)) (record r { refusal = Some (refusal.TooManyLines max_lines) }) (record r { lines = r.lines ++ value ∷ [] }) all all
key_kept (key.Heading s) value r fed all = all
key_kept key.Other value r fed all = all
key_kept key.ResX value r fed all = all
key_kept key.ResY value r fed all = all
key_kept key.Wrap value r fed all = all
key_kept key.Scaled value r fed all = all
key_kept key.Matrix value r fed all = all

keyed_kept : (k : Key) (value : List ℕ) (r : Reading) → All NoFeed value → All IsSpelledStyle r.styles → All IsSpelledStyle (keyed_step k value r).styles
keyed_kept (key.Heading s) value r fed all = all
keyed_kept (key.StyleFormat version) value r fed all = kept_if (is_some r.refusal) r (key_step (key.StyleFormat version) value r) all (key_kept (key.StyleFormat version) value r fed all)
keyed_kept (key.Style version) value r fed all = kept_if (is_some r.refusal) r (key_step (key.Style version) value r) all (key_kept (key.Style version) value r fed all)
keyed_kept key.EventFormat value r fed all = kept_if (is_some r.refusal) r (key_step key.EventFormat value r) all (key_kept key.EventFormat value r fed all)
keyed_kept key.Dialogue value r fed all = kept_if (is_some r.refusal) r (key_step key.Dialogue value r) all (key_kept key.Dialogue value r fed all)
keyed_kept key.Other value r fed all = kept_if (is_some r.refusal) r (key_step key.Other value r) all (key_kept key.Other value r fed all)
keyed_kept key.ResX value r fed all = kept_if (is_some r.refusal) r (key_step key.ResX value r) all (key_kept key.ResX value r fed all)
keyed_kept key.ResY value r fed all = kept_if (is_some r.refusal) r (key_step key.ResY value r) all (key_kept key.ResY value r fed all)
keyed_kept key.Wrap value r fed all = kept_if (is_some r.refusal) r (key_step key.Wrap value r) all (key_kept key.Wrap value r fed all)
keyed_kept key.Scaled value r fed all = kept_if (is_some r.refusal) r (key_step key.Scaled value r) all (key_kept key.Scaled value r fed all)
keyed_kept key.Matrix value r fed all = kept_if (is_some r.refusal) r (key_step key.Matrix value r) all (key_kept key.Matrix value r fed all)

-- ---- all lines

walked_kept : (texts : List (List ℕ)) (r : Reading) → EachField NoFeed texts → All IsSpelledStyle r.styles → All IsSpelledStyle (walked texts r).styles
unfolding walked
walked_kept [] r fed all = all
walked_kept (text ∷ texts) r fed all =
    walked_kept texts (line_step text r) fed.1 (keyed_kept (line_in r.section text).key (line_in r.section text).value r (value_kept r.section text fed.0) all)

made_kept : (r : Reading) (script : ScriptValue) → All IsSpelledStyle r.styles → made_script r ≡ Ok script → All IsSpelledStyle script.styles
made_kept r script all e = cases r.headings.events r.refusal e
  where
    cases : (b : Bool) (o : Option ScriptRefusal) → cond b (option_map_or Err o (Ok (script_said r))) (Err refusal.NoEvents) ≡ Ok script → All IsSpelledStyle script.styles
    cases true None e = let same : script_said r ≡ script = cc in subst (λ (s : ScriptValue). All IsSpelledStyle s.styles) same all
    cases true (Some why) e = absurd (cc)
    cases false o e = absurd (cc)

pub read_spelled : (bytes : List ℕ) (script : ScriptValue) → script_of bytes ≡ Ok script → All IsSpelledStyle script.styles
read_spelled bytes script e = cases (eqb (utf8_valid_len bytes) (length bytes)) e
  where
    cases : (b : Bool) → cond b (script_of_lines (lines_of bytes)) (Err (refusal.NotUtf8 (utf8_valid_len bytes))) ≡ Ok script → All IsSpelledStyle script.styles
    cases true e =
        let texts = lines (past_mark bytes) in
        made_kept (walked texts no_script_lines) script (walked_kept texts no_script_lines (lines_fed (past_mark bytes)) (All-nil IsSpelledStyle)) (read_is texts ∙ e)
    cases false e = absurd (cc)
