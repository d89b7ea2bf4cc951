-- Whether a glyph leaves something, and the mark of a drawing that has vertices.
use Rattle.std.proofs.Common.{◌≡◌, refl, ap, ◌∙◌, Some, List, [], ◌∷◌, length, inl, inr, ℕ, ◌<◌, ℤ, true, false, not, ◌||◌, arith}
use Rattle.std.specs.List.{slice_get}
use Rattle.std.specs.Option.{option_map_or}
use Rattle.std.proofs.lemmas.Option.{slice_get_cases}
use Rattle.ass_num.specs.declared.geometry.Matrix.{Matrix}
use Rattle.ass_num.specs.declared.geometry.Path.{Path}
use Rattle.ass_num.specs.declared.geometry.Point.{Point}
use Rattle.ass_num.specs.declared.geometry.Seg.{Seg}
use Rattle.bdf_font.specs.declared.glyphs.FontGlyph.{FontGlyph}
use Rattle.mask_keys.specs.declared.outline_key.OutlineKey.TheVariants.{Drawing}
use Rattle.override_tags.specs.declared.view.State.{State}
use Rattle.text_layout.specs.Extents.{drawn_extent}
use Rattle.text_layout.specs.Scales.{drawing_matrix}
use Rattle.text_layout.specs.declared.extents.Extent.{Extent}
use Rattle.event_draws.specs.Marks.{drawing_mark, drawing_shift, is_marked, point_above}
use Rattle.event_draws.specs.declared.marks.Mark.{Mark}
use Rattle.event_draws.specs.declared.stage.Stage.{Stage}

pub marked_is : (state : State) (glyphs : List FontGlyph) (place : ℕ) → place < length glyphs
    → (state.underline || state.strikeout) || not (option_map_or (λ (glyph : FontGlyph). glyph.blank) (slice_get glyphs place) true)
    ≡ option_map_or (is_marked state) (slice_get glyphs place) false
marked_is state glyphs place within = elim (slice_get_cases glyphs place).1 [
  | inl g ↦ rw g.2 refl
  | inr past ↦ absurd (omega (arith, within, past.0))
]

pub mark_is : (stage : Stage) (state : State) (pen : Point) (path : Path) (segs : List Seg) (copy : Path) (m : Matrix) (extent : Extent) (shift : ℤ) (top : Point)
    → (segs ≡ [] → ⊥) → copy ≡ path → m ≡ drawing_matrix stage.scales state → extent ≡ drawn_extent m segs → shift ≡ drawing_shift state m.uy → top ≡ point_above pen extent.ascent
    → Some (let mark : Mark = record { outline = Drawing copy m shift; pen = top } in mark) ≡ drawing_mark stage state pen path segs
mark_is stage state pen path [] copy m extent shift top some a b d e f = absurd (some refl)
mark_is stage state pen path (s ∷ segs) copy m extent shift top some a b d e f =
    let made = λ (p : Path) (z : Matrix) (down : ℤ) (at : Point). let mark : Mark = record { outline = Drawing p z down; pen = at } in Some mark in
    let matrix = drawing_matrix stage.scales state in
    let moved : shift ≡ drawing_shift state matrix.uy = e ∙ ap (λ (z : Matrix). drawing_shift state z.uy) b in
    let above : top ≡ point_above pen (drawn_extent matrix (s ∷ segs)).ascent = f ∙ ap (λ (x : Extent). point_above pen x.ascent) (d ∙ ap (λ (z : Matrix). drawn_extent z (s ∷ segs)) b) in
    ap (λ (p : Path). made p m shift top) a
    ∙ ap (λ (z : Matrix). made path z shift top) b
    ∙ ap (λ (down : ℤ). made path matrix down top) moved
    ∙ ap (λ (at : Point). made path matrix (drawing_shift state matrix.uy) at) above
