-- Sets of fonts: the places that a name and a character find lie in the set.
use Rattle.std.proofs.Common.{◌≡◌, ℕ, zero, suc, ◌+◌, ◌<◌, ◌≤◌, Bool, true, false, cond, List, [], ◌∷◌, length, Option, Some, None, refl, ap, sym, ◌∙◌, subst, arith, zero-add, ℤ, pos, negsuc}
use Rattle.std.specs.Prelude.{nat_lt, slice_index_or, IfSome, option_map, option_and_then}
use Rattle.std.specs.Option.{option_or}
use Rattle.std.specs.Ordering.{int_eq}
use Rattle.std.proofs.lemmas.Bool.Decides.{nat_tests}
use Rattle.bdf_font.specs.declared.glyphs.FontGlyph.{FontGlyph}
use Rattle.bdf_font.specs.declared.sets.Candidate.{Candidate}
use Rattle.bdf_font.specs.declared.sets.GlyphPlace.{GlyphPlace}
use Rattle.bdf_font.specs.Fonts.{FontValue, glyph_of, place_from, place_of}
use Rattle.bdf_font.specs.Sets.{IsGlyphPlaceIn, candidate_at, candidate_place, font_chosen, glyph_elsewhere, has_outlines, is_missing_at, name_distance}
use Rattle.bdf_font.specs.Sets.{mapped_from, mapped_place, nearer, nearest_from, no_font, glyph_place_in, set_glyph_of, unless_missing}
use Rattle.bdf_font.proofs.PlaceLemmas.{first_within, glyph_within}

-- ---- the font of a name

-- what holds of both holds of the nearer
pub nearer_of : (P : Candidate → Type 0) (first second : Option Candidate) → IfSome first P → IfSome second P → IfSome (nearer first second) P
nearer_of P None second a b = b
nearer_of P (Some x) None a b = a
nearer_of P (Some x) (Some y) a b = either (nat_lt y.distance x.distance)
  where
    either : (c : Bool) → IfSome (cond c (Some y) (Some x)) P
    either true = b
    either false = a

pub nearer_none : (o : Option Candidate) → nearer o None ≡ o
nearer_none None = refl
nearer_none (Some candidate) = refl

-- of three it doesn't matter which two come first
pub nearer_assoc : (a b c : Option Candidate) → nearer a (nearer b c) ≡ nearer (nearer a b) c
nearer_assoc None b c = refl
nearer_assoc (Some x) None c = refl
nearer_assoc (Some x) (Some y) None = nearer_none_both (nat_lt y.distance x.distance)
  where
    nearer_none_both : (q : Bool) → cond q (Some y) (Some x) ≡ nearer (cond q (Some y) (Some x)) None
    nearer_none_both true = refl
    nearer_none_both false = refl
nearer_assoc (Some x) (Some y) (Some z) = cases (nat_lt z.distance y.distance) (nat_lt y.distance x.distance) refl refl
  where
    cases : (p q : Bool) → nat_lt z.distance y.distance ≡ p → nat_lt y.distance x.distance ≡ q →
        nearer (Some x) (cond p (Some z) (Some y)) ≡ nearer (cond q (Some y) (Some x)) (Some z)
    cases true true e f =
        let far : nat_lt z.distance x.distance ≡ true = grind (arith, nat_tests, e, f) in
        ap (λ b. cond b (Some z) (Some x)) far ∙ sym (ap (λ b. cond b (Some z) (Some y)) e)
    cases true false e f = refl
    cases false true e f = ap (λ b. cond b (Some y) (Some x)) f ∙ sym (ap (λ b. cond b (Some z) (Some y)) e)
    cases false false e f =
        let far : nat_lt z.distance x.distance ≡ false = grind (arith, nat_tests, e, f) in
        ap (λ b. cond b (Some y) (Some x)) f ∙ sym (ap (λ b. cond b (Some z) (Some x)) far)

nearest_within : (name : List ℕ) (bold italic : Bool) (n : ℕ) (fonts : List FontValue) → IfSome (nearest_from name bold italic n fonts) (λ candidate. candidate.place < n + length fonts)
nearest_within name bold italic n [] = tt
nearest_within name bold italic n (font ∷ fonts) =
    nearer_of (λ candidate. candidate.place < n + suc (length fonts)) (candidate_at name bold italic n font) (nearest_from name bold italic (n + 1) fonts)
    (here (name_distance name bold italic font)) (later (nearest_from name bold italic (n + 1) fonts) (nearest_within name bold italic (n + 1) fonts))
  where
    here : (o : Option ℕ) → IfSome {T = Candidate} (option_map (λ (distance : ℕ). record { place = n; distance = distance }) o) (λ candidate. candidate.place < n + suc (length fonts))
    here (Some distance) = omega arith
    here None = tt

    later : (o : Option Candidate) → IfSome o (λ candidate. candidate.place < (n + 1) + length fonts) → IfSome o (λ candidate. candidate.place < n + suc (length fonts))
    later (Some candidate) inside = omega (arith, inside)
    later None inside = tt

pub chosen_within : (name : List ℕ) (bold italic : Bool) (fonts : List FontValue) → 0 < length fonts → font_chosen name bold italic fonts < length fonts
chosen_within name bold italic fonts some = cases (nearest_from name bold italic 0 fonts) (nearest_within name bold italic 0 fonts)
  where
    cases : (o : Option Candidate) → IfSome o (λ candidate. candidate.place < 0 + length fonts) → candidate_place o < length fonts
    cases (Some candidate) within = omega (arith, within)
    cases None within = some

-- ---- the glyph of a character

pub place_within : (glyphs : List FontGlyph) (code : ℤ) → IfSome (place_of glyphs code) (λ k. k < length glyphs)
place_within glyphs code = unless (int_eq code (negsuc 0)) (place_from 0 code glyphs) (first_within code glyphs)
  where
    unless : (b : Bool) (o : Option ℕ) → IfSome o (λ k. k < length glyphs) → IfSome (cond b None o) (λ k. k < length glyphs)
    unless true o inside = tt
    unless false o inside = inside

pub mapped_within : (font : FontValue) (c : ℕ) → IfSome (mapped_place font c) (λ k. k < length font.glyphs)
mapped_within font c = unless (place_of font.glyphs (pos c)) (place_within font.glyphs (pos c))
  where
    cases : (b : Bool) (k : ℕ) → k < length font.glyphs → IfSome (cond b None (Some k)) (λ k. k < length font.glyphs)
    cases true k inside = tt
    cases false k inside = inside

    unless : (o : Option ℕ) → IfSome o (λ k. k < length font.glyphs) → IfSome (option_and_then (unless_missing font.glyphs) o) (λ k. k < length font.glyphs)
    unless (Some k) inside = cases (is_missing_at font.glyphs k) k inside
    unless None inside = tt

-- From a place on these are the fonts of a set.
pub record StandFrom (all : List FontValue) (n : ℕ) (fonts : List FontValue) : Type 0 where
  pub at : (k : ℕ) → slice_index_or all (n + k) no_font ≡ slice_index_or fonts k no_font
  pub few : n + length fonts ≤ length all

pub stand_next : (all : List FontValue) (n : ℕ) (font : FontValue) (fonts : List FontValue) → StandFrom all n (font ∷ fonts) → StandFrom all (n + 1) fonts
stand_next all n font fonts h = record {
  at = λ k. ap (λ i. slice_index_or all i no_font) (omega arith) ∙ h.at (suc k);
  few = omega (arith, h.few);
}

pub stand_first : (all : List FontValue) (n : ℕ) (font : FontValue) (fonts : List FontValue) → StandFrom all n (font ∷ fonts) → slice_index_or all n no_font ≡ font
stand_first all n font fonts h = ap (λ i. slice_index_or all i no_font) (omega arith) ∙ h.at zero

pub stand_all : (fonts : List FontValue) → StandFrom fonts 0 fonts
stand_all fonts = record { at = λ k. ap (λ i. slice_index_or fonts i no_font) (zero-add k); few = omega arith }

placed_within : (fonts : List FontValue) (number : ℕ) (o : Option ℕ) → number < length fonts → IfSome o (λ k. k < length (slice_index_or fonts number no_font).glyphs) →
    IfSome (glyph_place_in number o) (IsGlyphPlaceIn fonts)
placed_within fonts number (Some k) less inside = (less, inside)
placed_within fonts number None less inside = tt

or_within : (P : GlyphPlace → Type 0) (o p : Option GlyphPlace) → IfSome o P → IfSome p P → IfSome (option_or o p) P
or_within P (Some found) p inside other = inside
or_within P None p inside other = other

mapped_from_within : (all : List FontValue) (c n : ℕ) (fonts : List FontValue) → StandFrom all n fonts → IfSome (mapped_from c n fonts) (IsGlyphPlaceIn all)
mapped_from_within all c n [] h = tt
mapped_from_within all c n (font ∷ fonts) h =
    let within : IfSome (mapped_place font c) (λ k. k < length (slice_index_or all n no_font).glyphs) =
    subst (λ (own : FontValue). IfSome (mapped_place font c) (λ k. k < length own.glyphs)) (sym (stand_first all n font fonts h)) (mapped_within font c) in
    or_within (IsGlyphPlaceIn all) (glyph_place_in n (mapped_place font c)) (mapped_from c (n + 1) fonts)
    (placed_within all n (mapped_place font c) (omega (arith, h.few)) within) (mapped_from_within all c (n + 1) fonts (stand_next all n font fonts h))

pub elsewhere_within : (fonts : List FontValue) (c : ℕ) → IfSome (glyph_elsewhere fonts c) (IsGlyphPlaceIn fonts)
elsewhere_within fonts c = unless (has_outlines fonts) (mapped_from c 0 fonts) (mapped_from_within fonts c 0 fonts (stand_all fonts))
  where
    unless : (b : Bool) (o : Option GlyphPlace) → IfSome o (IsGlyphPlaceIn fonts) → IfSome (cond b o None) (IsGlyphPlaceIn fonts)
    unless true o inside = inside
    unless false o inside = tt

pub set_glyph_within : (fonts : List FontValue) (number c : ℕ) → number < length fonts → IfSome (set_glyph_of fonts number c) (IsGlyphPlaceIn fonts)
set_glyph_within fonts number c less =
    let font = slice_index_or fonts number no_font in
    or_within (IsGlyphPlaceIn fonts) (glyph_place_in number (mapped_place font c)) (option_or (glyph_elsewhere fonts c) (glyph_place_in number (glyph_of font c)))
    (placed_within fonts number (mapped_place font c) less (mapped_within font c))
    (or_within (IsGlyphPlaceIn fonts) (glyph_elsewhere fonts c) (glyph_place_in number (glyph_of font c)) (elsewhere_within fonts c)
    (placed_within fonts number (glyph_of font c) less (glyph_within font c)))
