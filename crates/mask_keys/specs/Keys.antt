-- Public: which keys are valid. `glyphs` has the number of glyphs of each font, in the order of the fonts. These are conditions of calls.
use Rattle.std.specs.Prelude.{ℕ, ℤ, ◌<◌, ◌≤◌, List, length, slice_index, All}
use Rattle.ass_num.specs.Limits.{IsWithin}
use Rattle.ass_num.specs.Paths.{IsPath}
use Rattle.ass_num.specs.declared.geometry.Matrix.{Matrix}
use Rattle.ass_num.specs.declared.geometry.Path.{Path}
use Rattle.outline_points.specs.Limits.{max_length}
use Rattle.outline_points.specs.Placing.{IsMatrix}
use Rattle.mask_keys.specs.declared.outline_key.OutlineKey.{OutlineKey}
use Rattle.mask_keys.specs.declared.outline_key.OutlineKey.TheVariants.{Glyph, Drawing, Box}
use Rattle.mask_keys.specs.declared.mask_key.MaskKey.{MaskKey}
use Rattle.mask_keys.specs.declared.region_key.RegionKey.{RegionKey}
use Rattle.mask_keys.specs.declared.composite_key.Part.{Part}
use Rattle.mask_keys.specs.declared.composite_key.CompositeKey.{CompositeKey}
use Rattle.mask_keys.specs.declared.plans.Clip.{Clip}
use Rattle.mask_keys.specs.declared.plans.Clip.TheVariants.{Drawn}
use Rattle.mask_keys.specs.declared.plans.Draw.{Draw}

-- the largest radius of a border, in samples
abbrev pub max_border : ℕ
max_border = 1600

-- how many samples a pixel has in a row
abbrev pub samples_across : ℕ
samples_across = 16

-- the most passes of softening
abbrev pub max_passes : ℕ
max_passes = 127

-- the largest radius of a blur, in pixels
abbrev pub max_blur_radius : ℕ
max_blur_radius = 100

-- the farthest that a mask is moved within a composite, in pixels
abbrev pub max_part_offset : ℕ
max_part_offset = 20480

-- there is such a glyph
pub record IsValidGlyph (glyphs : List ℕ) (font glyph : ℕ) (m : Matrix) : Type 0 where
  pub in_fonts : font < length glyphs
  pub in_font : glyph < slice_index glyphs font
  pub matrix : IsMatrix m

-- the path is valid; the matrix may slant, and turn by any angle
pub record IsValidDrawing (path : Path) (m : Matrix) (shift : ℤ) : Type 0 where
  pub segments : IsPath path.segs
  pub matrix : IsMatrix m
  pub shifted : IsWithin max_length shift

pub record IsValidBox (w h : ℤ) : Type 0 where
  pub width : IsWithin max_length w
  pub height : IsWithin max_length h

abbrev pub IsValidOutline : List ℕ → OutlineKey → Type 0
IsValidOutline glyphs (Glyph font glyph m _ _ _) = IsValidGlyph glyphs font glyph m
IsValidOutline glyphs (Drawing path m shift) = IsValidDrawing path m shift
IsValidOutline glyphs (Box w h _) = IsValidBox w h

-- the region that a mask is made of: its outline, widened by its radii
abbrev pub region_key : MaskKey → RegionKey
region_key key = record { outline = key.outline; rx = key.rx; ry = key.ry }

-- the region that it is widened from
abbrev pub unwidened : RegionKey → RegionKey
unwidened key = record { outline = key.outline; rx = 0; ry = 0 }

pub record IsValidRegion (glyphs : List ℕ) (key : RegionKey) : Type 0 where
  pub outline : IsValidOutline glyphs key.outline
  pub rx : key.rx ≤ max_border
  pub ry : key.ry ≤ max_border

-- the numbers of a mask's key
pub record HasMaskRanges (key : MaskKey) : Type 0 where
  pub rx : key.rx ≤ max_border
  pub ry : key.ry ≤ max_border
  pub px : key.px < samples_across
  pub py : key.py < samples_across
  pub edges : key.edges ≤ max_passes
  pub blur : key.blur ≤ max_blur_radius

pub record IsValidMask (glyphs : List ℕ) (key : MaskKey) : Type 0 where
  pub outline : IsValidOutline glyphs key.outline
  pub ranges : HasMaskRanges key

pub record IsValidPart (glyphs : List ℕ) (part : Part) : Type 0 where
  pub mask : IsValidMask glyphs part.mask
  pub dx : IsWithin max_part_offset part.dx
  pub dy : IsWithin max_part_offset part.dy

pub record IsValidComposite (glyphs : List ℕ) (key : CompositeKey) : Type 0 where
  pub parts : All (IsValidPart glyphs) key.parts

-- the key of a drawn clip is
abbrev pub IsValidClip : List ℕ → Clip → Type 0
IsValidClip glyphs (Drawn key _ _ _) = IsValidComposite glyphs key
IsValidClip glyphs _ = Unit {0}

pub record IsValidDraw (glyphs : List ℕ) (draw : Draw) : Type 0 where
  pub key : IsValidComposite glyphs draw.key
  pub clip : IsValidClip glyphs draw.clip

-- the keys of all draws are
abbrev pub IsValidPlan : List ℕ → List Draw → Type 0
IsValidPlan glyphs draws = All (IsValidDraw glyphs) draws
