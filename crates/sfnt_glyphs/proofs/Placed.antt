-- Points placed one after another, and cut into contours one after another.
use Rattle.std.proofs.Common.{◌≡◌, ℕ, ◌+◌, ◌<◌, ◌≤◌, min, List, [], ◌∷◌, ◌++◌, length, take, drop, get_or, Option, Some, None, sym, ap, ◌∙◌, append_assoc}
use Rattle.std.specs.Prelude.{option_and_then}
use Rattle.std.proofs.lemmas.List.{at_drop_more, at_drop_all, take_min, drop_min, append-nil}
use Rattle.outline_points.specs.declared.glyph_point.GlyphPoint.{GlyphPoint}
use Rattle.sfnt_glyphs.specs.declared.points.Placing.{Placing}
use Rattle.sfnt_glyphs.specs.Glyphs.{placed_glyph_point, placed_points, cut_contours}

placed-step : (placing : Placing) (points front : List GlyphPoint) (k : ℕ) (p : GlyphPoint) (next : Option GlyphPoint) → k < length points → next ≡ placed_glyph_point placing (get_or points k p) →
    option_and_then (λ q. placed_points placing (drop (k + 1) points) (front ++ q ∷ [])) next ≡ placed_points placing (drop k points) front
placed-step placing points front k p next less here =
    ap (λ o. option_and_then (λ q. placed_points placing (drop (k + 1) points) (front ++ q ∷ [])) o) here
    ∙ sym (at_drop_more (λ ps. placed_points placing ps front) points k p less)

pub placed-next : (placing : Placing) (points front : List GlyphPoint) (k : ℕ) (p q : GlyphPoint) → k < length points → Some q ≡ placed_glyph_point placing (get_or points k p) →
    placed_points placing (drop (k + 1) points) (front ++ q ∷ []) ≡ placed_points placing (drop k points) front
placed-next placing points front k p q less here = placed-step placing points front k p (Some q) less here

pub placed-far : (placing : Placing) (points front : List GlyphPoint) (k : ℕ) (p : GlyphPoint) → k < length points → None ≡ placed_glyph_point placing (get_or points k p) → placed_points placing (drop k points) front ≡ None
placed-far placing points front k p less here = sym (placed-step placing points front k p None less here)

pub placed-all : (placing : Placing) (points front : List GlyphPoint) (k : ℕ) → length points ≤ k → placed_points placing (drop k points) front ≡ Some front
placed-all placing points front k whole = at_drop_all (λ ps. placed_points placing ps front) points k whole

pub cut-next : (sizes : List ℕ) (contours : List (List GlyphPoint)) (rest : List GlyphPoint) (k n : ℕ) → k < length sizes → n ≡ min (get_or sizes k 0) (length rest) →
    (contours ++ take n rest ∷ []) ++ cut_contours (drop (k + 1) sizes) (drop n rest) ≡ contours ++ cut_contours (drop k sizes) rest
cut-next sizes contours rest k n less count =
    rw (count, take_min (get_or sizes k 0) rest, drop_min (get_or sizes k 0) rest)
    (append_assoc contours (take (get_or sizes k 0) rest ∷ []) (cut_contours (drop (k + 1) sizes) (drop (get_or sizes k 0) rest))
    ∙ ap (λ cs. contours ++ cs) (sym (at_drop_more (λ ns. cut_contours ns rest) sizes k 0 less)))

pub cut-all : (sizes : List ℕ) (contours : List (List GlyphPoint)) (rest : List GlyphPoint) (k : ℕ) → length sizes ≤ k → contours ++ cut_contours (drop k sizes) rest ≡ contours
cut-all sizes contours rest k whole = ap (λ cs. contours ++ cs) (at_drop_all (λ ns. cut_contours ns rest) sizes k whole) ∙ append-nil contours
