-- The nearest of the fonts that answer to a name.
use Rattle.std.proofs.Common.{◌≡◌, ℕ, zero, suc, ◌+◌, ◌<◌, ◌≤◌, Bool, true, false, cond, List, [], ◌∷◌, length, Option, Some, None, refl, ap, sym, ◌∙◌, subst, arith}
use Rattle.std.specs.Prelude.{nat_lt, slice_index_or, option_map, unwrap_or, IsSome}
use Rattle.std.specs.List.{Any}
use Rattle.std.proofs.lemmas.Bool.Decides.{nat_tests}
use Rattle.std.proofs.lemmas.List.{get_or_default}
use Rattle.bdf_font.specs.declared.sets.Candidate.{Candidate}
use Rattle.bdf_font.specs.Fonts.{FontValue}
use Rattle.bdf_font.specs.Laws.{IsNearest, NearestIsFound}
use Rattle.bdf_font.specs.Sets.{candidate_place, font_chosen, name_distance, nearer, nearest_from, no_font}

some_is : (a b : ℕ) → Some a ≡ Some b → a ≡ b
some_is a b e = ap (λ (o : Option ℕ). unwrap_or o 0) e

less_is : (a b : ℕ) → nat_lt a b ≡ true → a < b
less_is a b e = grind (arith, nat_tests, e)

less_isnt : (a b : ℕ) → nat_lt a b ≡ false → b ≤ a
less_isnt a b e = grind (arith, nat_tests, e)

module _ (name : List ℕ) (bold italic : Bool) where
  -- the font at a place is as far as this
  abbrev IsFar : List FontValue → ℕ → ℕ → Type 0
  IsFar fonts k far = name_distance name bold italic (slice_index_or fonts k no_font) ≡ Some far

  -- The nearest of fonts whose first has the place n, and where it stands among them.
  record IsNearestAt (n : ℕ) (fonts : List FontValue) (candidate : Candidate) : Type 0 where
    k : ℕ
    place : candidate.place ≡ n + k
    within : k < length fonts
    found : IsFar fonts k candidate.distance
    nearest : (j far : ℕ) → j < length fonts → IsFar fonts j far → candidate.distance ≤ far
    first : (j far : ℕ) → j < k → IsFar fonts j far → candidate.distance < far

  abbrev IsNearestOf : ℕ → List FontValue → Option Candidate → Type 0
  IsNearestOf n fonts (Some candidate) = IsNearestAt n fonts candidate
  IsNearestOf n fonts None = (j far : ℕ) → j < length fonts → IsFar fonts j far → ⊥

  -- the first font answers to the name, and no other is nearer
  first_nearest : (n : ℕ) (font : FontValue) (fonts : List FontValue) (distance : ℕ) → name_distance name bold italic font ≡ Some distance →
      ((j far : ℕ) → j < length fonts → IsFar fonts j far → distance ≤ far) → IsNearestAt n (font ∷ fonts) (record { place = n; distance = distance })
  first_nearest n font fonts distance is others = record {
    k = zero;
    place = omega arith;
    within = omega arith;
    found = is;
    nearest = least;
    first = λ j far less own. absurd (omega (arith, less));
  }
    where
      least : (j far : ℕ) → j < suc (length fonts) → IsFar (font ∷ fonts) j far → distance ≤ far
      least zero far less own = omega (arith, some_is distance far (sym is ∙ own))
      least (suc j) far less own = others j far (omega (arith, less)) own

  -- the nearest of the others is nearer than the first font, or that doesn't answer
  later_nearest : (n : ℕ) (font : FontValue) (fonts : List FontValue) (candidate : Candidate) → ((far : ℕ) → name_distance name bold italic font ≡ Some far → candidate.distance < far) →
      IsNearestAt (n + 1) fonts candidate → IsNearestAt n (font ∷ fonts) candidate
  later_nearest n font fonts candidate nearer_than h = record {
    k = suc h.k;
    place = omega (arith, h.place);
    within = omega (arith, h.within);
    found = h.found;
    nearest = least;
    first = before;
  }
    where
      least : (j far : ℕ) → j < suc (length fonts) → IsFar (font ∷ fonts) j far → candidate.distance ≤ far
      least zero far less own = omega (arith, nearer_than far own)
      least (suc j) far less own = h.nearest j far (omega (arith, less)) own

      before : (j far : ℕ) → j < suc h.k → IsFar (font ∷ fonts) j far → candidate.distance < far
      before zero far less own = nearer_than far own
      before (suc j) far less own = h.first j far (omega (arith, less)) own

  nearest_step : (n : ℕ) (font : FontValue) (fonts : List FontValue) (own : Option ℕ) (o : Option Candidate) → name_distance name bold italic font ≡ own → IsNearestOf (n + 1) fonts o →
      IsNearestOf n (font ∷ fonts) (nearer (option_map (λ (distance : ℕ). record { place = n; distance = distance }) own) o)
  nearest_step n font fonts (Some distance) None e h = first_nearest n font fonts distance e (λ j far less is. absurd (h j far less is))
  nearest_step n font fonts (Some distance) (Some candidate) e h = either (nat_lt candidate.distance distance) refl
    where
      either : (c : Bool) → nat_lt candidate.distance distance ≡ c → IsNearestOf n (font ∷ fonts) (cond c (Some candidate) (Some (record { place = n; distance = distance })))
      either true less = later_nearest n font fonts candidate (λ far own. omega (arith, less_is candidate.distance distance less, some_is distance far (sym e ∙ own))) h
      either false more = first_nearest n font fonts distance e (λ j far less is. omega (arith, less_isnt candidate.distance distance more, h.nearest j far less is))
  nearest_step n font fonts None (Some candidate) e h = later_nearest n font fonts candidate (λ far own. absurd cc) h
  nearest_step n font fonts None None e h = none
    where
      none : (j far : ℕ) → j < suc (length fonts) → IsFar (font ∷ fonts) j far → ⊥
      none zero far less own = absurd cc
      none (suc j) far less own = h j far (omega (arith, less)) own

  nearest_is : (n : ℕ) (fonts : List FontValue) → IsNearestOf n fonts (nearest_from name bold italic n fonts)
  nearest_is n [] = λ j far less own. absurd (omega (arith, less))
  nearest_is n (font ∷ fonts) = nearest_step n font fonts (name_distance name bold italic font) (nearest_from name bold italic (n + 1) fonts) refl (nearest_is (n + 1) fonts)

  -- where a font answers to the name
  answers : (fonts : List FontValue) (o : Option Candidate) → IsNearestOf 0 fonts o → (k far : ℕ) → k < length fonts → IsFar fonts k far →
      IsNearest name bold italic fonts (candidate_place o)
  answers fonts None h k far less own = absurd (h k far less own)
  answers fonts (Some candidate) h k far less own =
      let at : candidate.place ≡ h.k = omega (arith, h.place) in
      subst (λ (place : ℕ). IsNearest name bold italic fonts place) (sym at)
      (record { within = h.within; distance = candidate.distance; found = h.found; nearest = h.nearest; first = h.first })

  some_far : (o : Option ℕ) → IsSome o → (far : ℕ) × (o ≡ Some far)
  some_far (Some far) is = (far, refl)
  some_far None is = absurd cc

  pub nearest_answers : (fonts : List FontValue) → Any (λ font. IsSome (name_distance name bold italic font)) fonts → IsNearest name bold italic fonts (font_chosen name bold italic fonts)
  nearest_answers fonts (k, font, less, at, is) =
      let own : slice_index_or fonts k no_font ≡ font = get_or_default fonts k no_font font less ∙ at in
      let far = some_far (name_distance name bold italic font) is in
      answers fonts (nearest_from name bold italic 0 fonts) (nearest_is 0 fonts) k far.0 less (ap (name_distance name bold italic) own ∙ far.1)

pub nearest_found : NearestIsFound
nearest_found fonts name bold italic has = nearest_answers name bold italic fonts has
