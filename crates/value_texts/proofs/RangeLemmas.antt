-- What texts say is within its limits.
use Rattle.std.proofs.Common.{◌≡◌, ℕ, ◌≤◌, ◌&&◌, Bool, true, false, cond, List, Option, Some, None, nat_le, [], ◌∷◌, ◌==◌, ℤ, refl, arith, leb-true}
use Rattle.std.specs.Prelude.{IfSome, neg_ℤ, option_and_then, option_map, pos, unwrap_or}
use Rattle.std.specs.List.{after_first, before_first, list_any}
use Rattle.std.proofs.lemmas.Int.{ints}
use Rattle.ass_num.specs.Limits.{IsWithin, max_frame_side, max_instant}
use Rattle.ass_num.specs.declared.size.Size.{Size}
use Rattle.ass_script.specs.Words.{is_comma}
use Rattle.frame_rate.specs.Rates.{IsFrameRate, max_rate_frames, step_rate}
use Rattle.frame_rate.specs.declared.rate.FrameRate.{FrameRate}
use Rattle.frame_view.specs.FrameViews.{IsAspect, IsContentRect, IsStorage}
use Rattle.frame_view.specs.Limits.{max_aspect_parts, max_layout_side}
use Rattle.value_texts.specs.Values.{IsNumberBetween, aspect_in, column_in, content_in, frames_or, is_slash, is_x, number_in, number_within, pixel_in, rate_in, rate_of, rate_parted, rect_at, rect_behind, shape_in, sides_in, size_in, size_within}
use Rattle.value_texts.proofs.TextLemmas.{both}

picked : (least most : ℕ) (number : Option ℕ) → IfSome (option_and_then (λ n. cond (nat_le least n && nat_le n most) (Some n) None) number) (IsNumberBetween least most)
picked least most None = tt
picked least most (Some n) = cases (nat_le least n && nat_le n most) refl
  where
    cases : (b : Bool) → nat_le least n && nat_le n most ≡ b → IfSome (cond b (Some n) None) (IsNumberBetween least most)
    cases true e = let parts = both _ _ e in (leb-true _ _ parts.0, leb-true _ _ parts.1)
    cases false e = tt

-- a number of a text is between its limits
pub within : (least most : ℕ) (text : List ℕ) → IfSome (number_within least most text) (IsNumberBetween least most)
within least most text = picked least most (number_in text)

pub or_absent : {A : Type 0} (P : A → Type 0) (found : Option A) (absent : A) → P absent → IfSome found P → P (unwrap_or found absent)
or_absent P None absent h found = h
or_absent P (Some x) absent h found = found

pub given : {A B : Type 0} (P : B → Type 0) (f : A → Option B) (x : Option A) → ((a : A) → IfSome (f a) P) → IfSome (option_and_then f x) P
given P f None h = tt
given P f (Some a) h = h a

-- and so is the number of an argument
pub between : (least most : ℕ) (text : Option (List ℕ)) (absent : ℕ) → least ≤ absent → absent ≤ most → IsNumberBetween least most (unwrap_or (option_and_then (number_within least most) text) absent)
between least most text absent low high =
    or_absent (IsNumberBetween least most) (option_and_then (number_within least most) text) absent (low, high) (given (IsNumberBetween least most) (number_within least most) text (within least most))

abbrev pub AreSides : ℕ → Size → Type 0
AreSides most size = IsNumberBetween 1 most size.w × IsNumberBetween 1 most size.h

sides : (most : ℕ) (w h : Option ℕ) → IfSome w (IsNumberBetween 1 most) → IfSome h (IsNumberBetween 1 most)
    → IfSome (option_and_then (λ w. option_map (λ h. record { w = w; h = h }) h) w) (AreSides most)
sides most None h wide high = tt
sides most (Some w) None wide high = tt
sides most (Some w) (Some h) wide high = (wide, high)

-- a size of a text has sides up to the most
pub sides_within : (most : ℕ) (text : List ℕ) → IfSome (size_within most text) (AreSides most)
sides_within most text = cases (list_any is_x text)
  where
    cases : (b : Bool) → IfSome (cond b (sides_in most (before_first is_x text) (after_first is_x text)) None) (AreSides most)
    cases true = sides most (number_within 1 most (before_first is_x text)) (number_within 1 most (after_first is_x text)) (within 1 most (before_first is_x text)) (within 1 most (after_first is_x text))
    cases false = tt

pub storage_within : (size : Option Size) → IfSome size (AreSides max_layout_side) → IfSome size IsStorage
storage_within None h = tt
storage_within (Some size) h = record { wide = h.0; high = h.1 }

shape : (wide high : Option ℕ) → IfSome wide (IsNumberBetween 1 max_aspect_parts) → IfSome high (IsNumberBetween 1 max_aspect_parts)
    → IfSome (option_and_then (λ n. option_map (λ d. record { wide = n; high = d }) high) wide) IsAspect
shape None high h k = tt
shape (Some n) None h k = tt
shape (Some n) (Some d) h k = record { some_wide = h.0; some_high = k.0; wide = h.1; high = k.1 }

pub aspect_within : (text : List ℕ) → IfSome (aspect_in text) IsAspect
aspect_within text = cases (list_any is_slash text)
  where
    cases : (b : Bool) → IfSome (cond b (shape_in (before_first is_slash text) (after_first is_slash text)) None) IsAspect
    cases true = shape (number_within 1 max_aspect_parts (before_first is_slash text)) (number_within 1 max_aspect_parts (after_first is_slash text)) (within 1 max_aspect_parts (before_first is_slash text)) (within 1 max_aspect_parts (after_first is_slash text))
    cases false = tt

-- a rate of a text has frames and takes time
rate_within_of : (frames seconds : Option ℕ) → IfSome frames (IsNumberBetween 1 max_rate_frames) → IfSome seconds (IsNumberBetween 1 max_rate_frames)
    → IfSome (option_and_then (λ n. option_map (λ d. record { frames = n; seconds = d }) seconds) frames) IsFrameRate
rate_within_of None seconds h k = tt
rate_within_of (Some n) None h k = tt
rate_within_of (Some n) (Some d) h k = record { some = omega (arith, h.0); most = h.1; time = omega (arith, k.0); longest = omega (arith, k.1) }

parted_within : (text : List ℕ) → IfSome (rate_parted text) IsFrameRate
parted_within text = cases (list_any is_slash text)
  where
    cases : (b : Bool) → IfSome (cond b (rate_of (before_first is_slash text) (after_first is_slash text)) None) IsFrameRate
    cases true = rate_within_of (number_within 1 max_rate_frames (before_first is_slash text)) (number_within 1 max_rate_frames (after_first is_slash text)) (within 1 max_rate_frames (before_first is_slash text)) (within 1 max_rate_frames (after_first is_slash text))
    cases false = tt

frames_or_within : (n : Option ℕ) (parted : Option FrameRate) → IfSome n (IsNumberBetween 1 max_rate_frames) → IfSome parted IsFrameRate → IfSome (frames_or n parted) IsFrameRate
frames_or_within None parted h k = k
frames_or_within (Some n) parted h k = record { some = omega (arith, h.0); most = h.1; time = omega arith; longest = omega arith }

pub rate_within : (text : List ℕ) → IfSome (rate_in text) IsFrameRate
rate_within text = frames_or_within (number_within 1 max_rate_frames text) (rate_parted text) (within 1 max_rate_frames text) (parted_within text)

pub step_within : (n : ℕ) → IsNumberBetween 1 max_instant n → IsFrameRate (step_rate n)
step_within n h = record { some = omega arith; most = omega arith; time = omega (arith, h.0); longest = h.1 }

-- a place of a text lies in the frame or as far around it
below_zero : (n : Option ℕ) → IfSome n (IsNumberBetween 0 max_frame_side) → IfSome (option_map neg_ℤ (option_map (λ n. pos n) n)) (IsWithin max_frame_side)
below_zero None h = tt
below_zero (Some n) h = (omega (arith, ints, h.1), omega (arith, ints, h.1))

from_zero : (n : Option ℕ) → IfSome n (IsNumberBetween 0 max_frame_side) → IfSome (option_map (λ n. pos n) n) (IsWithin max_frame_side)
from_zero None h = tt
from_zero (Some n) h = (omega (arith, ints, h.1), omega (arith, ints, h.1))

pixel_within : (text : List ℕ) → IfSome (pixel_in text) (IsWithin max_frame_side)
pixel_within [] = tt
pixel_within (c ∷ text) = cases (c == 45)
  where
    cases : (b : Bool) → IfSome (cond b (option_map neg_ℤ (column_in text)) (column_in (c ∷ text))) (IsWithin max_frame_side)
    cases true = below_zero (number_within 0 max_frame_side text) (within 0 max_frame_side text)
    cases false = from_zero (number_within 0 max_frame_side (c ∷ text)) (within 0 max_frame_side (c ∷ text))

rect_within : (left top : Option ℤ) (size : Option Size) → IfSome left (IsWithin max_frame_side) → IfSome top (IsWithin max_frame_side) → IfSome size (AreSides max_frame_side)
    → IfSome (rect_at left top size) IsContentRect
rect_within None top size h k l = tt
rect_within (Some x) None size h k l = tt
rect_within (Some x) (Some y) None h k l = tt
rect_within (Some x) (Some y) (Some s) h k l = record { left = h; top = k; some_column = l.0.0; some_row = l.1.0; wide = l.0.1; high = l.1.1 }

behind_within : (left : Option ℤ) (text : List ℕ) → IfSome left (IsWithin max_frame_side) → IfSome (rect_behind left text) IsContentRect
behind_within left text h = cases (list_any is_comma text)
  where
    cases : (b : Bool) → IfSome (cond b (rect_at left (pixel_in (before_first is_comma text)) (size_in (after_first is_comma text))) None) IsContentRect
    cases true = rect_within left (pixel_in (before_first is_comma text)) (size_in (after_first is_comma text)) h (pixel_within (before_first is_comma text)) (sides_within max_frame_side (after_first is_comma text))
    cases false = tt

pub content_within : (text : List ℕ) → IfSome (content_in text) IsContentRect
content_within text = cases (list_any is_comma text)
  where
    cases : (b : Bool) → IfSome (cond b (rect_behind (pixel_in (before_first is_comma text)) (after_first is_comma text)) None) IsContentRect
    cases true = behind_within (pixel_in (before_first is_comma text)) (after_first is_comma text) (pixel_within (before_first is_comma text))
    cases false = tt
