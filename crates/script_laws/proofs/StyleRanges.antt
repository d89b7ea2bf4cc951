-- The ranges of the styles that Style lines spell.
use Rattle.std.proofs.Common.{◌≡◌, ◌⊎◌, inl, inr, ℕ, ◌+◌, ◌-◌, ◌/◌, ◌%◌, ◌<◌, ◌≤◌, Bool, true, false, cond, eqb, ltb, leb, ◌&&◌, List, [], ◌∷◌, length, set, Option, Some, None, ℤ, pos, negsuc, refl, arith, ◌∙◌}
use Rattle.std.specs.Prelude.{IfSome, codes}
use Rattle.std.specs.Int.{int_max}
use Rattle.std.specs.List.{All, list_all, slice_split}
use Rattle.std.specs.Option.{option_map_or}
use Rattle.std.specs.Ordering.{int_eq}
use Rattle.std.specs.Str.{IsUtf8}
use Rattle.std.proofs.lemmas.Bool.{and_parts}
use Rattle.std.proofs.lemmas.Bool.Decides.{nat_tests}
use Rattle.std.proofs.lemmas.Int.{ints, clamps}
use Rattle.std.proofs.lemmas.List.{length-set}
use Rattle.std.proofs.lemmas.List.Elements.{All-head, All-tail, All-weaker}
use Rattle.std.proofs.lemmas.List.Sums.{AllPass-from_list_all}
use Rattle.std.proofs.lemmas.Str.{IsUtf8-from_ascii, IsUtf8-nil}
use Rattle.std.proofs.lemmas.Str.Ascii.{IsAscii-from_all}
use Rattle.ass_num.specs.Colours.{colour_of}
use Rattle.ass_num.specs.Limits.{IsHeldLength, IsHeldNumber, IsWithin, max_held, max_whole}
use Rattle.ass_num.specs.Wholes.{whole_of}
use Rattle.ass_num.specs.declared.colour.Rgba.{Rgba}
use Rattle.ass_num.specs.Blanks.{trimmed}
use Rattle.ass_num.proofs.TrimmedLemmas.{trimmed_utf8}
use Rattle.ass_script.specs.Numbers.{milli_of, style_colour_of}
use Rattle.ass_script.specs.Ranges.{IsStyle}
use Rattle.ass_script.specs.Styles.{alignment_in, bare_style, border_style_or, built_in_style, colours_with, margin_or, milli_or, old_alignment, old_alignment_in, size_or, style_of, with_field, with_fields}
use Rattle.ass_script.specs.Words.{is_comma}
use Rattle.ass_script.specs.declared.lines.Version.{Version}
use Rattle.ass_script.specs.declared.lines.Version.TheVariants.{V4, V4Plus}
use Rattle.ass_script.specs.declared.style.Style.{Style}
use Rattle.ass_script.specs.declared.style_field.StyleField.{StyleField}
use Rattle.ass_script.specs.declared.style_field.StyleField.TheVariants as field
use Rattle.script_laws.proofs.NumberRanges.{milli_held, whole_within}
use Rattle.script_laws.proofs.TextCuts.{cut_utf8}

-- ---- what is put in the place of a value

milli_kept : (old : ℤ) (text : List ℕ) → IsHeldNumber old → IsHeldNumber (milli_or old text)
milli_kept old text is = cases (milli_of text) (milli_held text)
  where
    cases : (o : Option ℤ) → IfSome o IsHeldNumber → IsHeldNumber (option_map_or (λ n. n) o old)
    cases None held = is
    cases (Some n) held = held

size_kept : (old : ℤ) (text : List ℕ) → IsHeldLength old → IsHeldLength (size_or old text)
size_kept old text is = cases (milli_of text) (milli_held text)
  where
    cases : (o : Option ℤ) → IfSome o IsHeldNumber → IsHeldLength (option_map_or (λ n. int_max (pos 0) n) o old)
    cases None held = is
    cases (Some n) held = (omega (arith, ints, clamps, held.0, held.1), omega (arith, ints, clamps, held.0, held.1))

margin_kept : (old : ℤ) (text : List ℕ) → IsWithin max_whole old → IsWithin max_whole (margin_or old text)
margin_kept old text is = cases (whole_of text) (whole_within text)
  where
    cases : (o : Option ℤ) → IfSome o (IsWithin max_whole) → IsWithin max_whole (option_map_or (λ n. n) o old)
    cases None within = is
    cases (Some n) within = within

abbrev IsBorderStyle : ℕ → Type 0
IsBorderStyle n = (n ≡ 1) ⊎ (n ≡ 3)

border_kept : (old : ℕ) (text : List ℕ) → IsBorderStyle old → IsBorderStyle (border_style_or old text)
border_kept old text is = cases (milli_of text)
  where
    box : (b : Bool) → IsBorderStyle (cond b 3 1)
    box true = inr refl
    box false = inl refl

    cases : (o : Option ℤ) → IsBorderStyle (option_map_or (λ n. cond (int_eq n (pos 3000)) 3 1) o old)
    cases None = is
    cases (Some n) = box (int_eq n (pos 3000))

colours_kept : (k : ℕ) (colours : List Rgba) (text : List ℕ) → length colours ≡ 4 → length (colours_with k colours text) ≡ 4
colours_kept k colours text four = cases (style_colour_of text)
  where
    cases : (o : Option ℕ) → length (option_map_or (λ n. set colours k (colour_of n)) o colours) ≡ 4
    cases None = four
    cases (Some n) = length-set colours k (colour_of n) ∙ four

-- ---- alignments

abbrev IsAlignment : ℕ → Type 0
IsAlignment n = (1 ≤ n) × (n ≤ 9)

between : (low n high : ℕ) → (leb low n && leb n high) ≡ true → (low ≤ n) × (n ≤ high)
between low n high e = (grind (arith, nat_tests), grind (arith, nat_tests))

aligned_if : (b : Bool) (x y : ℕ) → (b ≡ true → IsAlignment x) → IsAlignment y → IsAlignment (cond b x y)
aligned_if true x y first second = first refl
aligned_if false x y first second = second

thousands : (n : ℕ) → (eqb (n % 1000) 0 && (leb 1000 n && leb n 9000)) ≡ true → IsAlignment (n / 1000)
thousands n e =
    let b = between 1000 n 9000 (and_parts (eqb (n % 1000) 0) (leb 1000 n && leb n 9000) e).1 in
    (omega (arith, b.0), omega (arith, b.1))

new_aligned : (z : ℤ) → IsAlignment (alignment_in z)
new_aligned (pos n) = aligned_if (eqb (n % 1000) 0 && (leb 1000 n && leb n 9000)) (n / 1000) 2 (λ e. thousands n e) (omega arith, omega arith)
new_aligned (negsuc n) = (omega arith, omega arith)

old_aligned : (k : ℕ) → IsAlignment (old_alignment k)
old_aligned k =
    aligned_if (leb 1 k && leb k 3) k _ (λ e. let b = between 1 k 3 e in (b.0, omega (arith, b.1)))
    (aligned_if (leb 5 k && leb k 7) (k + 2) _ (λ e. let b = between 5 k 7 e in (omega (arith, b.0), omega (arith, b.1)))
    (aligned_if (leb 9 k && leb k 11) (k - 5) 2 (λ e. let b = between 9 k 11 e in (omega (arith, b.0), omega (arith, b.1))) (omega arith, omega arith)))

old_aligned_in : (z : ℤ) → IsAlignment (old_alignment_in z)
old_aligned_in (pos n) = aligned_if (eqb (n % 1000) 0) (old_alignment (n / 1000)) 2 (λ e. old_aligned (n / 1000)) (omega arith, omega arith)
old_aligned_in (negsuc n) = (omega arith, omega arith)

put_aligned : (read : ℤ → ℕ) → ((z : ℤ) → IsAlignment (read z)) → (old : ℕ) (text : List ℕ) → 1 ≤ old → old ≤ 9 → IsAlignment (option_map_or read (milli_of text) old)
put_aligned read each old text some most = cases (milli_of text)
  where
    cases : (o : Option ℤ) → IsAlignment (option_map_or read o old)
    cases None = (some, most)
    cases (Some z) = each z

-- ---- a Style line

ascii_utf8 : (text : List ℕ) → list_all (λ c. ltb c 128) text ≡ true → IsUtf8 text
ascii_utf8 text e =
    IsUtf8-from_ascii text (IsAscii-from_all text (All-weaker (λ (c : ℕ). ltb c 128 ≡ true) (λ (c : ℕ). c < 128) (λ c below. grind (arith, nat_tests)) text (AllPass-from_list_all (λ c. ltb c 128) text e)))

length_held : (n : ℕ) → n ≤ max_held → IsHeldLength (pos n)
length_held n small = (omega (arith, ints), omega (arith, ints))

zero_held : IsHeldNumber (pos 0)
zero_held = (omega (arith, ints), omega (arith, ints))

margin_within : IsWithin max_whole (pos 20)
margin_within = (omega (arith, ints), omega (arith, ints))

built_in_sound : IsStyle built_in_style
built_in_sound = record {
  name = ascii_utf8 (codes "Default") refl;
  font = IsUtf8-nil;
  size = length_held 18000 (omega arith);
  colours = refl;
  scale_x = length_held 100000 (omega arith);
  scale_y = length_held 100000 (omega arith);
  spacing = zero_held;
  angle = zero_held;
  border_style = inl refl;
  outline = length_held 2000 (omega arith);
  shadow = length_held 2000 (omega arith);
  some_alignment = omega arith;
  alignment = omega arith;
  margin_l = margin_within;
  margin_r = margin_within;
  margin_v = margin_within;
}

bare_sound : (version : Version) → IsStyle (bare_style version)
bare_sound V4Plus = built_in_sound
bare_sound V4 = assumption built_in_sound

field_sound : (f : StyleField) (text : List ℕ) (s : Style) → IsUtf8 text → IsStyle s → IsStyle (with_field f text s)
field_sound field.Size text s utf8 is = assumption (size_kept s.size text is.size)
field_sound field.PrimaryColour text s utf8 is = assumption (colours_kept 0 s.colours text is.colours)
field_sound field.SecondaryColour text s utf8 is = assumption (colours_kept 1 s.colours text is.colours)
field_sound field.OutlineColour text s utf8 is = assumption (colours_kept 2 s.colours text is.colours)
field_sound field.BackColour text s utf8 is = assumption (colours_kept 3 s.colours text is.colours)
field_sound field.ScaleX text s utf8 is = assumption (size_kept s.scale_x text is.scale_x)
field_sound field.ScaleY text s utf8 is = assumption (size_kept s.scale_y text is.scale_y)
field_sound field.Spacing text s utf8 is = assumption (milli_kept s.spacing text is.spacing)
field_sound field.Angle text s utf8 is = assumption (milli_kept s.angle text is.angle)
field_sound field.BorderStyle text s utf8 is = assumption (border_kept s.border_style text is.border_style)
field_sound field.Outline text s utf8 is = assumption (size_kept s.outline text is.outline)
field_sound field.Shadow text s utf8 is = assumption (size_kept s.shadow text is.shadow)
field_sound field.Alignment text s utf8 is = assumption (put_aligned alignment_in new_aligned s.alignment text is.some_alignment is.alignment)
field_sound field.OldAlignment text s utf8 is = assumption (put_aligned old_alignment_in old_aligned_in s.alignment text is.some_alignment is.alignment)
field_sound field.MarginL text s utf8 is = assumption (margin_kept s.margin_l text is.margin_l)
field_sound field.MarginR text s utf8 is = assumption (margin_kept s.margin_r text is.margin_r)
field_sound field.MarginV text s utf8 is = assumption (margin_kept s.margin_v text is.margin_v)
field_sound _ text s utf8 is = assumption

fields_sound : (fields : List StyleField) (pieces : List (List ℕ)) (s : Style) → All IsUtf8 pieces → IsStyle s → IsStyle (with_fields fields pieces s)
fields_sound [] pieces s utf8 is = is
fields_sound (f ∷ fields) [] s utf8 is = is
fields_sound (f ∷ fields) (piece ∷ pieces) s utf8 is =
    fields_sound fields pieces (with_field f (trimmed piece) s) (All-tail IsUtf8 piece pieces utf8)
    (field_sound f (trimmed piece) s (trimmed_utf8 piece (All-head IsUtf8 piece pieces utf8)) is)

pub style_sound : (version : Version) (fields : List StyleField) (value : List ℕ) → IsUtf8 value → IsStyle (style_of version fields value)
style_sound version fields value utf8 = fields_sound fields (slice_split is_comma value) (bare_style version) (cut_utf8 44 value (omega arith) utf8) (bare_sound version)
