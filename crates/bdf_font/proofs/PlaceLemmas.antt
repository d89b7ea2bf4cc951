-- The places of glyphs by their codes: sorted, and found by halving.
use Rattle.std.proofs.Common.{◌≡◌, ℕ, suc, ◌+◌, ◌<◌, ◌≤◌, ◌⊎◌, inl, inr, le_refl, List, [], ◌∷◌, length, get_or, Bool, true, false, cond, not, ◌&&◌, filter, Option, Some, None, refl, ap, sym, ◌∙◌, arith, subst, zero-add, ℤ, pos, negsuc, ◌≤ℤ◌, ◌<ℤ◌}
use Rattle.std.specs.Prelude.{int_lt, IfSome}
use Rattle.std.specs.Option.{option_or}
use Rattle.std.specs.List.Sorted.{IsPartitionPoint, IsPartitionedBy, IsStableByKey, ties}
use Rattle.std.specs.Ordering.{int_cmp, int_eq, is_lt, is_eq}
use Rattle.std.specs.declared.cmp.Ordering.TheVariants.{Less, Equal, Greater}
use Rattle.std.proofs.lemmas.Bool.{cases_lt}
use Rattle.std.proofs.lemmas.Int.{ints}
use Rattle.std.proofs.lemmas.Cmp.{int_cmp_total}
use Rattle.std.proofs.lemmas.List.Sorted.{sorted_far, ranks_by}
use Rattle.std.proofs.lemmas.List.Recursion.{found_at, found_nowhere}
use Rattle.bdf_font.specs.declared.glyphs.FontGlyph.{FontGlyph}
use Rattle.bdf_font.specs.Fonts.{FontValue, place_from, place_of_default, glyph_of}
use Rattle.bdf_font.specs.Places.{entries_from, first_at, IsInCodeOrder, IsIndex}

first_at-entries : (n : ℕ) (code : ℤ) (glyphs : List FontGlyph) → first_at code (entries_from n glyphs) ≡ place_from n code glyphs
first_at-entries n code [] = refl
first_at-entries n code (g ∷ glyphs) = ap (cond (int_eq g.code code) (Some n)) (first_at-entries (n + 1) code glyphs)

abbrev first_of : List (ℤ × ℕ) → Option ℕ
first_of [] = None
first_of (entry ∷ entries) = Some entry.1

abbrev lt_key : ℤ × ℕ → ℤ × ℕ → Bool
lt_key a b = is_lt (int_cmp a.0 b.0)

-- what ties with a code is what has it
ties_is : (a b : ℤ) → (not (is_lt (int_cmp a b)) && not (is_lt (int_cmp b a))) ≡ int_eq b a
ties_is a b = cases (int_lt a b) (int_lt b a)
  where
    cases : (p q : Bool) → (not (is_lt (cond p Less (cond q Greater Equal))) && not (is_lt (cond q Less (cond p Greater Equal)))) ≡ is_eq (cond q Less (cond p Greater Equal))
    cases true true = refl
    cases true false = refl
    cases false true = refl
    cases false false = refl

first_at-ties : (code : ℤ) (entries : List (ℤ × ℕ)) → first_at code entries ≡ first_of (filter (ties lt_key (code, 0)) entries)
first_at-ties code [] = refl
first_at-ties code (entry ∷ entries) =
    ap (cond (int_eq entry.0 code) (Some entry.1)) (first_at-ties code entries)
    ∙ (cases (int_eq entry.0 code) (filter (ties lt_key (code, 0)) entries)
    ∙ ap (λ b. first_of (cond b (entry ∷ filter (ties lt_key (code, 0)) entries) (filter (ties lt_key (code, 0)) entries))) (sym (ties_is code entry.0)))
  where
    cases : (b : Bool) (rest : List (ℤ × ℕ)) → cond b (Some entry.1) (first_of rest) ≡ first_of (cond b (entry ∷ rest) rest)
    cases true rest = refl
    cases false rest = refl

-- a stable sort keeps the first place of each code
pub index_sorted : (glyphs : List FontGlyph) (sorted : List (ℤ × ℕ)) → IsInCodeOrder sorted → IsStableByKey (λ entry. entry.0) int_cmp (entries_from 0 glyphs) sorted → IsIndex sorted glyphs
index_sorted glyphs sorted order stable = record {
  in_order = order;
  known = λ code.
      first_at-ties code sorted
      ∙ (ap first_of (stable (code, 0))
      ∙ (sym (first_at-ties code (entries_from 0 glyphs))
      ∙ first_at-entries 0 code glyphs));
}

-- ---- halving

lt_is : (a b : ℤ) → is_lt (int_cmp a b) ≡ int_lt a b
lt_is a b = cases (int_lt a b) (int_lt b a)
  where
    cases : (p q : Bool) → is_lt (cond p Less (cond q Greater Equal)) ≡ p
    cases true q = refl
    cases false true = refl
    cases false false = refl

eq_is : (a b : ℤ) → int_eq a b ≡ (not (int_lt a b) && not (int_lt b a))
eq_is a b = cases (int_lt a b) (int_lt b a)
  where
    cases : (p q : Bool) → is_eq (cond p Less (cond q Greater Equal)) ≡ (not p && not q)
    cases true q = refl
    cases false true = refl
    cases false false = refl

-- no code is below one that stands before it
rises : (entries : List (ℤ × ℕ)) → IsInCodeOrder entries → (i j : ℕ) (d : ℤ × ℕ) → i ≤ j → j < length entries → int_lt (get_or entries j d).0 (get_or entries i d).0 ≡ false
rises entries order i j d le room =
    sym (lt_is (get_or entries j d).0 (get_or entries i d).0) ∙ sorted_far lt_key (ranks_by int_cmp_total (λ entry. entry.0)) entries order i j d le room

below_too : (a b c : ℤ) → int_lt b a ≡ false → int_lt b c ≡ true → int_lt a c ≡ true
below_too a b c h k = grind (arith, ints)

above_too : (a b c : ℤ) → int_lt b a ≡ false → int_lt c a ≡ true → int_lt c b ≡ true
above_too a b c h k = grind (arith, ints)

pub is_parted : (entries : List (ℤ × ℕ)) (code : ℤ) → IsInCodeOrder entries → IsPartitionedBy (λ entry. int_lt entry.0 code) entries
is_parted entries code order i j d le room below = below_too (get_or entries i d).0 (get_or entries j d).0 code (rises entries order i j d le room) below

eq_below : (a b : ℤ) → int_lt a b ≡ true → int_eq a b ≡ false
eq_below a b h = eq_is a b ∙ ap (λ p. not p && not (int_lt b a)) h

eq_above : (a b : ℤ) → int_lt b a ≡ true → int_eq a b ≡ false
eq_above a b h = eq_is a b ∙ (ap (λ p. not (int_lt a b) && not p) h ∙ none (int_lt a b))
  where
    none : (p : Bool) → (not p && false) ≡ false
    none true = refl
    none false = refl

meets : (a b : ℤ) → int_lt a b ≡ false → a ≤ℤ b → int_eq a b ≡ true
meets a b h le = eq_is a b ∙ (ap (λ p. not p && not (int_lt b a)) h ∙ ap not (not_above a b le))
  where
    not_above : (a b : ℤ) → a ≤ℤ b → int_lt b a ≡ false
    not_above a b le = grind (arith, ints)

is_above : (a b : ℤ) → a <ℤ b → int_lt a b ≡ true
is_above a b h = grind (arith, ints)

-- where the code stands at the place that halving gives
pub first_at-there : (entries : List (ℤ × ℕ)) (code : ℤ) (at : ℕ) (d : ℤ × ℕ) → at < length entries → IsPartitionPoint (λ entry. int_lt entry.0 code ≡ true) (λ entry. int_lt entry.0 code ≡ false) entries at →
    (get_or entries at d).0 ≤ℤ code → first_at code entries ≡ Some (get_or entries at d).1
first_at-there entries code at d room point le =
    found_at (first_at code) (λ entry. int_eq entry.0 code) (λ entry. Some entry.1) None refl (λ entry rest. refl) entries at d room
    (λ k less. eq_below (get_or entries k d).0 code (point.0 k d (omega arith) less)) (meets (get_or entries at d).0 code (point.1 at d (le_refl at) room) le)

-- where it doesn't
pub first_at-nowhere : (entries : List (ℤ × ℕ)) (code : ℤ) (at : ℕ) (d : ℤ × ℕ) → IsInCodeOrder entries → IsPartitionPoint (λ entry. int_lt entry.0 code ≡ true) (λ entry. int_lt entry.0 code ≡ false) entries at →
    (at < length entries → code <ℤ (get_or entries at d).0) → first_at code entries ≡ None
first_at-nowhere entries code at d order point other =
    found_nowhere (first_at code) (λ entry. int_eq entry.0 code) (λ entry. Some entry.1) None refl (λ entry rest. refl) entries d (λ k room. sides k room (cases_lt k at))
  where
    sides : (k : ℕ) → k < length entries → (k < at) ⊎ (at ≤ k) → int_eq (get_or entries k d).0 code ≡ false
    sides k room (inl less) = eq_below (get_or entries k d).0 code (point.0 k d (omega arith) less)
    sides k room (inr more) =
        let above = is_above code (get_or entries at d).0 (other (omega arith)) in
        eq_above (get_or entries k d).0 code (above_too (get_or entries at d).0 (get_or entries k d).0 code (rises entries order at k d more room) above)

-- ---- the places that are found lie among the glyphs

from_within : (n : ℕ) (code : ℤ) (glyphs : List FontGlyph) → IfSome (place_from n code glyphs) (λ k. k < n + length glyphs)
from_within n code [] = tt
from_within n code (g ∷ glyphs) = either (int_eq g.code code) (place_from (n + 1) code glyphs) (from_within (n + 1) code glyphs)
  where
    either : (b : Bool) (o : Option ℕ) → IfSome o (λ k. k < (n + 1) + length glyphs) → IfSome (cond b (Some n) o) (λ k. k < n + suc (length glyphs))
    either true o inside = omega arith
    either false (Some k) inside = omega arith
    either false None inside = tt

pub first_within : (code : ℤ) (glyphs : List FontGlyph) → IfSome (place_from 0 code glyphs) (λ k. k < length glyphs)
first_within code glyphs =
    let P : ℕ → Type 0 = λ m. IfSome (place_from 0 code glyphs) (λ k. k < m) in
    subst P (zero-add (length glyphs)) (from_within 0 code glyphs)

default_within : (code : Option ℤ) (glyphs : List FontGlyph) → IfSome (place_of_default code glyphs) (λ k. k < length glyphs)
default_within None glyphs = tt
default_within (Some code) glyphs = unless (int_eq code (negsuc 0)) (place_from 0 code glyphs) (first_within code glyphs)
  where
    unless : (b : Bool) (o : Option ℕ) → IfSome o (λ k. k < length glyphs) → IfSome (cond b None o) (λ k. k < length glyphs)
    unless true o inside = tt
    unless false o inside = inside

pub glyph_within : (font : FontValue) (c : ℕ) → IfSome (glyph_of font c) (λ k. k < length font.glyphs)
glyph_within font c = cases (int_eq (pos c) (negsuc 0)) (place_from 0 (pos c) font.glyphs) (place_of_default font.default_char font.glyphs) (first_within (pos c) font.glyphs) (default_within font.default_char font.glyphs)
  where
    cases : (b : Bool) (o p : Option ℕ) → IfSome o (λ k. k < length font.glyphs) → IfSome p (λ k. k < length font.glyphs) → IfSome (option_or (cond b None o) p) (λ k. k < length font.glyphs)
    cases true o p first second = second
    cases false (Some k) p first second = first
    cases false None p first second = second
