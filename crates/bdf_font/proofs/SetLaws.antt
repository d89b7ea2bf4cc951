-- What a set of fonts finds: among bitmaps what it found by names alone, and of a family the nearest font.
use Rattle.std.proofs.Common.{◌≡◌, ℕ, zero, suc, ◌+◌, ◌<◌, Bool, true, false, ◌||◌, cond, List, [], ◌∷◌, length, All, Option, Some, None, refl, ap, ap₂, sym, ◌∙◌, subst, arith, pos}
use Rattle.std.proofs.Math.Bool.{or-false}
use Rattle.std.specs.Prelude.{nat_lt, slice_index_or, IfSome, option_map, option_and_then}
use Rattle.std.specs.Int.{abs_diff}
use Rattle.std.specs.Option.{option_map_or, option_or}
use Rattle.std.proofs.lemmas.Bool.Decides.{nat_tests}
use Rattle.std.proofs.lemmas.List.Elements.{All-nil, All-head, All-tail, All-get_or}
use Rattle.std.proofs.lemmas.Option.{slice_get-get_or}
use Rattle.ass_num.specs.Names.{same_name}
use Rattle.bdf_font.specs.declared.glyphs.FontGlyph.{FontGlyph}
use Rattle.bdf_font.specs.declared.sets.Candidate.{Candidate}
use Rattle.bdf_font.specs.declared.sets.GlyphPlace.{GlyphPlace}
use Rattle.bdf_font.specs.Fonts.{FontValue, glyph_of, place_of, place_of_default, regular_weight}
use Rattle.bdf_font.specs.Laws.{BitmapsAreFoundByName, BitmapsKeepTheirGlyphs, LinesSpellBitmapFonts}
use Rattle.bdf_font.specs.Sets.{AreBitmapFonts, IsBitmapFont, IsFoundByName, asked_name, candidate_place, glyph_elsewhere, has_full_name, has_outlines, is_among, is_missing_at, is_of_family}
use Rattle.bdf_font.specs.Sets.{mapped_from, mapped_place, name_distance, named_from, nearer, nearest_from, no_font, glyph_place_in, slant_of, style_distance, unless_missing, wanted_slant, wanted_weight, without_at}
use Rattle.bdf_font.proofs.BitmapFonts.{all_bitmaps}
use Rattle.bdf_font.proofs.SetLemmas.{place_within}

-- ---- sets of bitmaps: names

no_full_name : (name : List ℕ) (font : FontValue) → IsFoundByName font → has_full_name name font ≡ false
no_full_name name font is = ap (is_among (asked_name name font)) is.full_names

-- the family of a bitmap is its name, as it is asked for
family_is_name : (name : List ℕ) (font : FontValue) → IsFoundByName font → is_of_family name font ≡ same_name font.name name
family_is_name name font is =
    ap₂ is_among (ap (λ b. cond b (without_at name) name) is.is_outline) is.families ∙ or-false (same_name font.name name)

-- how far each bitmap is
bitmap_distance : Bool → Bool → ℕ
bitmap_distance bold italic = abs_diff regular_weight (wanted_weight bold) + abs_diff (slant_of false) (wanted_slant italic)

distance_is : (name : List ℕ) (bold italic : Bool) (font : FontValue) → IsFoundByName font →
    name_distance name bold italic font ≡ cond (same_name font.name name) (Some (bitmap_distance bold italic)) None
unfolding bitmap_distance
distance_is name bold italic font is =
    ap (λ b. cond b (Some (style_distance bold italic font)) (cond (has_full_name name font) (Some 0) None)) (family_is_name name font is)
    ∙ (ap (λ b. cond (same_name font.name name) (Some (style_distance bold italic font)) (cond b (Some 0) None)) (no_full_name name font is)
    ∙ ap₂ (λ weight slanted. cond (same_name font.name name) (Some (abs_diff weight (wanted_weight bold) + abs_diff (slant_of slanted) (wanted_slant italic))) None) is.weight is.slanted)

-- A candidate at this place, and as far as this.
record AreTied (d k : ℕ) (o : Option Candidate) : Type 0 where
  place : candidate_place o ≡ k
  distance : IfSome o (λ candidate. candidate.distance ≡ d)

not_less : (a b : ℕ) → a ≡ b → nat_lt a b ≡ false
not_less a b e = grind (arith, nat_tests, e)

first_tied : (d n : ℕ) (o : Option Candidate) → IfSome o (λ candidate. candidate.distance ≡ d) → nearer (Some (record { place = n; distance = d })) o ≡ Some (record { place = n; distance = d })
first_tied d n None h = refl
first_tied d n (Some candidate) h = ap (λ b. cond b (Some candidate) (Some (record { place = n; distance = d }))) (not_less candidate.distance d h)

tied_step : (d n k : ℕ) (b : Bool) (o : Option Candidate) → AreTied d k o →
    AreTied d (cond b n k) (nearer (option_map (λ (distance : ℕ). record { place = n; distance = distance }) (cond b (Some d) None)) o)
tied_step d n k true o h = subst (λ (o : Option Candidate). AreTied d n o) (sym (first_tied d n o h.distance)) (record { place = refl; distance = refl })
tied_step d n k false o h = h

tied : (name : List ℕ) (bold italic : Bool) (n : ℕ) (fonts : List FontValue) → AreBitmapFonts fonts →
    AreTied (bitmap_distance bold italic) (named_from n name fonts) (nearest_from name bold italic n fonts)
tied name bold italic n [] h = record { place = refl; distance = tt }
tied name bold italic n (font ∷ fonts) h =
    let is = All-head IsBitmapFont font fonts h in
    let d = bitmap_distance bold italic in
    subst (λ (o : Option ℕ). AreTied d (cond (same_name font.name name) n (named_from (n + 1) name fonts))
    (nearer (option_map (λ (distance : ℕ). record { place = n; distance = distance }) o) (nearest_from name bold italic (n + 1) fonts))) (sym (distance_is name bold italic font is.by_name))
    (tied_step d n (named_from (n + 1) name fonts) (same_name font.name name) (nearest_from name bold italic (n + 1) fonts) (tied name bold italic (n + 1) fonts (All-tail IsBitmapFont font fonts h)))

pub found_by_name : BitmapsAreFoundByName
found_by_name fonts h name bold italic = (tied name bold italic 0 fonts h).place

-- ---- sets of bitmaps: glyphs

none_missing : (glyphs : List FontGlyph) (o : Option ℕ) → All (λ (glyph : FontGlyph). glyph.missing ≡ false) glyphs → IfSome o (λ k. k < length glyphs) →
    option_and_then (unless_missing glyphs) o ≡ o
none_missing glyphs None h inside = refl
none_missing [] (Some k) h inside = absurd (omega (arith, inside))
none_missing (first ∷ glyphs) (Some k) h inside =
    let is : is_missing_at (first ∷ glyphs) k ≡ false =
    ap (λ o. option_map_or (λ (glyph : FontGlyph). glyph.missing) o true) (slice_get-get_or (first ∷ glyphs) k first inside)
    ∙ All-get_or (λ (glyph : FontGlyph). glyph.missing ≡ false) (first ∷ glyphs) k first inside h in
    ap (λ b. cond b None (Some k)) is

own_glyph : (number : ℕ) (o p : Option ℕ) → option_or (glyph_place_in number o) (glyph_place_in number (option_or o p)) ≡ glyph_place_in number (option_or o p)
own_glyph number (Some k) p = refl
own_glyph number None p = refl

no_outlines : (fonts : List FontValue) → AreBitmapFonts fonts → has_outlines fonts ≡ false
no_outlines [] h = refl
no_outlines (font ∷ fonts) h =
    let is = All-head IsBitmapFont font fonts h in
    ap₂ (λ a b. a || b) is.by_name.is_outline (no_outlines fonts (All-tail IsBitmapFont font fonts h))

-- none of the glyphs of a font of a set is drawn for missing characters
none_missing_in : (fonts : List FontValue) (number : ℕ) → AreBitmapFonts fonts → All (λ (glyph : FontGlyph). glyph.missing ≡ false) (slice_index_or fonts number no_font).glyphs
none_missing_in [] number h = All-nil (λ (glyph : FontGlyph). glyph.missing ≡ false)
none_missing_in (font ∷ fonts) zero h = (All-head IsBitmapFont font fonts h).mapped
none_missing_in (font ∷ fonts) (suc number) h = none_missing_in fonts number (All-tail IsBitmapFont font fonts h)

pub keep_glyphs : BitmapsKeepTheirGlyphs
keep_glyphs fonts h number c =
    let font = slice_index_or fonts number no_font in
    let found = place_of font.glyphs (pos c) in
    let mapped : mapped_place font c ≡ found = none_missing font.glyphs found (none_missing_in fonts number h) (place_within font.glyphs (pos c)) in
    let elsewhere : glyph_elsewhere fonts c ≡ None = ap (λ b. cond b (mapped_from c 0 fonts) None) (no_outlines fonts h) in
    ap₂ (λ (o : Option ℕ) (p : Option GlyphPlace). option_or (glyph_place_in number o) (option_or p (glyph_place_in number (glyph_of font c)))) mapped elsewhere
    ∙ own_glyph number found (place_of_default font.default_char font.glyphs)

-- ---- what lines spell

pub lines_spell : LinesSpellBitmapFonts
lines_spell lines font is =
    subst IsBitmapFont (sym is.said) (record {
      by_name = record { families = refl; full_names = refl; weight = refl; slanted = refl; is_outline = refl };
      mapped = all_bitmaps (λ (glyph : FontGlyph). glyph.missing ≡ false) (λ code advance pixels. refl) is.blocks;
    })
