-- The rings of a key are those of an outline: their points are held.
use Rattle.std.proofs.Common.{ℕ, Bool, true, false, ℤ, pos, neg_ℤ, ◌+ℤ◌, ◌-ℤ◌, List, [], ◌∷◌, ◌++◌, All, get_or, map, flat_map, Option, Some, None, arith}
use Rattle.std.specs.Prelude.{if◌then◌else◌, slice_get}
use Rattle.std.specs.List.{range_with_len}
use Rattle.std.proofs.lemmas.Int.{ints}
use Rattle.std.proofs.lemmas.List.Elements.{All-nil, All-cons, All-append, All-map}
use Rattle.ass_num.specs.Bitmaps.{pixel_is_set}
use Rattle.ass_num.specs.Limits.{IsWithin, IsOutline, IsOutlinePoint, max_coordinate}
use Rattle.ass_num.specs.declared.geometry.Point.{Point}
use Rattle.ass_num.specs.declared.geometry.Matrix.{Matrix}
use Rattle.bdf_font.specs.Fonts.{FontValue}
use Rattle.bdf_font.specs.GlyphRings.{bar_rings, bitmap_of, rings_of_glyph, shape_rings}
use Rattle.bdf_font.specs.declared.glyphs.FontGlyph.{FontGlyph}
use Rattle.bdf_font.specs.declared.glyphs.GlyphShape.{GlyphShape}
use Rattle.bdf_font.specs.declared.glyphs.GlyphShape.TheVariants as shape
use Rattle.sfnt_font.specs.declared.numbers.Bar.{Bar}
use Rattle.mask_keys.specs.declared.outline_key.OutlineKey.{OutlineKey}
use Rattle.mask_keys.specs.declared.outline_key.OutlineKey.TheVariants.{Glyph, Drawing, Box}
use Rattle.outline_points.specs.Boxes.{box_corners, box_ring}
use Rattle.outline_points.specs.Contours.{bold_shift, contour_points, contour_ring, moved_rings}
use Rattle.outline_points.specs.CubicContours.{moved_stroke_rings, points_from, stroke_ring}
use Rattle.outline_points.specs.Drawings.{drawing_rings}
use Rattle.outline_points.specs.Glyphs.{Bitmap, quad, pixel_quad, set_quads, pixel_quads, row_quads, bitmap_quads, bar_quad, scaled_pixel, glyph_point}
use Rattle.outline_points.specs.Placing.{held_coordinate, outline_point, shifted_point, turned_point}
use Rattle.outline_points.specs.declared.glyph_point.GlyphPoint.{GlyphPoint}
use Rattle.outline_points.specs.declared.stroke.Stroke.{Stroke}
use Rattle.mask_keys.specs.Outlines.{rings_of, found_glyph_rings, found_font_rings}

coordinate_within : (z : ℤ) → IsWithin max_coordinate (held_coordinate z)
coordinate_within z = (grind (arith, ints), grind (arith, ints))

point_within : (turn : ℤ) (p : Point) → IsOutlinePoint (outline_point turn p)
point_within turn p = record { x = coordinate_within (turned_point turn p).x; y = coordinate_within (turned_point turn p).y }

-- points that are all placed
placed_points : {X : Type 0} (f : X → Point) → ((x : X) → IsOutlinePoint (f x)) → (xs : List X) → All IsOutlinePoint (map f xs)
placed_points f each xs = All-map IsOutlinePoint f xs (λ k d l. each _)

placed_rings : (f : Point → Point) → ((p : Point) → IsOutlinePoint (f p)) → (rings : List (List Point)) → IsOutline (map (map f) rings)
placed_rings f each rings = All-map (All IsOutlinePoint) (map f) rings (λ k d l. placed_points f each _)

-- rings of one list after another
flat_rings : {X : Type 0} (f : X → List (List Point)) → ((x : X) → IsOutline (f x)) → (xs : List X) → IsOutline (flat_map f xs)
flat_rings f each [] = All-nil (All IsOutlinePoint)
flat_rings f each (x ∷ xs) = All-append (All IsOutlinePoint) (f x) (flat_map f xs) (each x) (flat_rings f each xs)

quad_outline : (m : Matrix) (left top right bottom : ℤ) → All IsOutlinePoint (quad m left top right bottom)
quad_outline m left top right bottom =
    let at : (a b : ℤ) → IsOutlinePoint (glyph_point m a b) = λ a b. point_within m.turn (scaled_pixel m a b) in
    All-cons IsOutlinePoint (glyph_point m left top) (glyph_point m right top ∷ glyph_point m right bottom ∷ glyph_point m left bottom ∷ []) (at left top)
    (All-cons IsOutlinePoint (glyph_point m right top) (glyph_point m right bottom ∷ glyph_point m left bottom ∷ []) (at right top)
    (All-cons IsOutlinePoint (glyph_point m right bottom) (glyph_point m left bottom ∷ []) (at right bottom)
    (All-cons IsOutlinePoint (glyph_point m left bottom) [] (at left bottom) (All-nil IsOutlinePoint))))

one_ring : (ring : List Point) → All IsOutlinePoint ring → IsOutline (ring ∷ [])
one_ring ring h = All-cons (All IsOutlinePoint) ring [] h (All-nil (All IsOutlinePoint))

maybe_ring : (b : Bool) (ring : List Point) → All IsOutlinePoint ring → IsOutline (if b then ring ∷ [] else [])
maybe_ring true ring h = one_ring ring h
maybe_ring false ring h = All-nil (All IsOutlinePoint)

set_outline : (m : Matrix) (bold : Bool) (a b : ℤ) → IsOutline (set_quads m bold a b)
set_outline m bold a b =
    All-cons (All IsOutlinePoint) (pixel_quad m a b) (if bold then pixel_quad m (a +ℤ pos 1) b ∷ [] else []) (quad_outline m a b (a +ℤ pos 1) (b +ℤ pos 1))
    (maybe_ring bold (pixel_quad m (a +ℤ pos 1) b) (quad_outline m (a +ℤ pos 1) b ((a +ℤ pos 1) +ℤ pos 1) (b +ℤ pos 1)))

maybe_rings : (b : Bool) (rings : List (List Point)) → IsOutline rings → IsOutline (if b then rings else [])
maybe_rings true rings h = h
maybe_rings false rings h = All-nil (All IsOutlinePoint)

pixel_outline : (m : Matrix) (bold : Bool) (bitmap : Bitmap) (j i : ℕ) → IsOutline (pixel_quads m bold bitmap j i)
pixel_outline m bold bitmap j i =
    maybe_rings (pixel_is_set bitmap.w bitmap.bits i j) (set_quads m bold (bitmap.x +ℤ pos i) (neg_ℤ ((bitmap.y +ℤ pos bitmap.h) -ℤ pos j)))
    (set_outline m bold (bitmap.x +ℤ pos i) (neg_ℤ ((bitmap.y +ℤ pos bitmap.h) -ℤ pos j)))

row_outline : (m : Matrix) (bold : Bool) (bitmap : Bitmap) (j : ℕ) → IsOutline (row_quads m bold bitmap j)
row_outline m bold bitmap j = flat_rings (pixel_quads m bold bitmap j) (pixel_outline m bold bitmap j) (range_with_len 0 bitmap.w)

bitmap_outline : (m : Matrix) (bold : Bool) (bitmap : Bitmap) → IsOutline (bitmap_quads m bold bitmap)
bitmap_outline m bold bitmap = flat_rings (row_quads m bold bitmap) (row_outline m bold bitmap) (range_with_len 0 bitmap.h)

moved_outline : (m : Matrix) (shift : ℤ) (contours : List (List GlyphPoint)) → IsOutline (moved_rings m shift contours)
moved_outline m shift contours = All-map (All IsOutlinePoint) (contour_ring m shift) contours (λ k d l. placed_points (outline_point m.turn) (point_within m.turn) (contour_points m shift (get_or contours k d)))

moved_strokes_outline : (m : Matrix) (shift : ℤ) (contours : List (List Stroke)) → IsOutline (moved_stroke_rings m shift contours)
moved_strokes_outline m shift contours =
    All-map (All IsOutlinePoint) (stroke_ring m shift) contours (λ k d l. placed_points (outline_point m.turn) (point_within m.turn) (points_from m shift (record { x = pos 0; y = pos 0 }) (get_or contours k d)))

shape_outline : (m : Matrix) (bold : Bool) (step : ℤ) (s : GlyphShape) → IsOutline (shape_rings m bold step s)
shape_outline m bold step (shape.Pixels pixels) = bitmap_outline m bold (bitmap_of pixels)
shape_outline m bold step (shape.Contours contours) =
    All-append (All IsOutlinePoint) (moved_rings m (pos 0) contours) (if bold then moved_rings m (bold_shift m step) contours else []) (moved_outline m (pos 0) contours)
    (maybe_rings bold (moved_rings m (bold_shift m step) contours) (moved_outline m (bold_shift m step) contours))
shape_outline m bold step (shape.Strokes contours) =
    All-append (All IsOutlinePoint) (moved_stroke_rings m (pos 0) contours) (if bold then moved_stroke_rings m (bold_shift m step) contours else []) (moved_strokes_outline m (pos 0) contours)
    (maybe_rings bold (moved_stroke_rings m (bold_shift m step) contours) (moved_strokes_outline m (bold_shift m step) contours))

bar_outline : (m : Matrix) (wanted : Bool) (advance : ℤ) (bar : Option Bar) → IsOutline (bar_rings m wanted advance bar)
bar_outline m false advance bar = All-nil (All IsOutlinePoint)
bar_outline m true advance None = All-nil (All IsOutlinePoint)
bar_outline m true advance (Some bar) = one_ring (bar_quad m advance bar.top bar.size) (quad_outline m (pos 0) bar.top advance (bar.top +ℤ bar.size))

glyph_outline : (m : Matrix) (bold underline strikeout : Bool) (font : FontValue) (g : FontGlyph) → IsOutline (rings_of_glyph m bold underline strikeout font g)
glyph_outline m bold underline strikeout font g =
    let rings = shape_rings m bold font.bold_step g.shape in
    let first = bar_rings m underline g.advance font.underline in
    let second = bar_rings m strikeout g.advance font.strikeout in
    All-append (All IsOutlinePoint) (rings ++ first) second
    (All-append (All IsOutlinePoint) rings first (shape_outline m bold font.bold_step g.shape) (bar_outline m underline g.advance font.underline))
    (bar_outline m strikeout g.advance font.strikeout)

found_glyph_outline : (m : Matrix) (bold underline strikeout : Bool) (font : FontValue) (found : Option FontGlyph) → IsOutline (found_glyph_rings m bold underline strikeout font found)
found_glyph_outline m bold underline strikeout font None = All-nil (All IsOutlinePoint)
found_glyph_outline m bold underline strikeout font (Some g) = glyph_outline m bold underline strikeout font g

found_font_outline : (m : Matrix) (bold underline strikeout : Bool) (glyph : ℕ) (found : Option FontValue) → IsOutline (found_font_rings m bold underline strikeout glyph found)
found_font_outline m bold underline strikeout glyph None = All-nil (All IsOutlinePoint)
found_font_outline m bold underline strikeout glyph (Some font) = found_glyph_outline m bold underline strikeout font (slice_get font.glyphs glyph)

pub rings_outline : (fonts : List FontValue) (key : OutlineKey) → IsOutline (rings_of fonts key)
rings_outline fonts (Glyph font glyph m bold underline strikeout) = found_font_outline m bold underline strikeout glyph (slice_get fonts font)
rings_outline fonts (Drawing path m shift) = placed_rings (λ p. outline_point m.turn (shifted_point shift p)) (λ p. point_within m.turn (shifted_point shift p)) (drawing_rings m path.segs)
rings_outline fonts (Box w h turn) = one_ring (box_ring w h turn) (placed_points (outline_point turn) (point_within turn) (box_corners w h))
