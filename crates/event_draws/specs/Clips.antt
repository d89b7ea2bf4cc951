-- Public: where the draws of an event may show.
-- (Aegisub tag reference, "\clip".)
use Rattle.std.specs.Prelude.{ℕ, Bool, List, [], ◌∷◌, Option, Some, None, slice_index_or, ℤ, pos}
use Rattle.ass_num.specs.declared.geometry.Path.{Path}
use Rattle.draw_numbers.specs.Clips.{clip_bound}
use Rattle.frame_view.specs.declared.scales.Scales.{Scales}
use Rattle.mask_keys.specs.declared.composite_key.CompositeKey.{CompositeKey}
use Rattle.mask_keys.specs.declared.outline_key.OutlineKey.TheVariants.{Drawing}
use Rattle.mask_keys.specs.declared.plans.Clip.{Clip}
use Rattle.mask_keys.specs.declared.plans.Clip.TheVariants as clip
use Rattle.override_tags.specs.declared.tag.ClipTag.{ClipTag}
use Rattle.override_tags.specs.declared.tag.ClipTag.TheVariants as clip_tag
use Rattle.text_layout.specs.Scales.{clip_matrix}

-- the mask of a drawing at a level: one part at the ground's corner
abbrev pub drawn_clip_key : Scales → Path → ℕ → CompositeKey
drawn_clip_key scales path level = record {
  parts =
      record {
        mask = record { outline = Drawing path (clip_matrix scales level) (pos 0); rx = 0; ry = 0; px = 0; py = 0; edges = 0; blur = 0 };
        dx = pos 0;
        dy = pos 0;
      }
      ∷ [];
}

-- the bound of a rectangle in thousandths at place k of its four
abbrev pub corner_at : List ℤ → ℕ → ℤ
corner_at corners k = slice_index_or corners k (pos 0)

-- the clip by a rectangle: left, top, right and bottom in thousandths of script pixels
abbrev pub rect_clip : Scales → List ℤ → Bool → Clip
rect_clip scales corners inverse =
    clip.Rect (clip_bound scales.ground_rect.left (corner_at corners 0) scales.canvas.x) (clip_bound scales.ground_rect.top (corner_at corners 1) scales.canvas.y)
    (clip_bound scales.ground_rect.left (corner_at corners 2) scales.canvas.x) (clip_bound scales.ground_rect.top (corner_at corners 3) scales.canvas.y) inverse

-- the clip of the tags of an event
abbrev pub clip_by : Scales → Option ClipTag → Clip
clip_by scales None = clip.Free
clip_by scales (Some (clip_tag.Rect corners inverse)) = rect_clip scales corners inverse
clip_by scales (Some (clip_tag.Drawn path level inverse)) = clip.Drawn (drawn_clip_key scales path level) scales.ground_rect.left scales.ground_rect.top inverse
