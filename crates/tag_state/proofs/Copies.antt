-- A clone of a path or a clip is what it was.
use Rattle.std.proofs.Common.{arith, ◌≡◌}
use Rattle.std.proofs.lemmas.List.Elements.{same_from_all_zip}
use Rattle.ass_num.specs.declared.geometry.Path.{Path}
use Rattle.ass_num.specs.declared.geometry.Seg.{Seg}
use Rattle.ass_num.specs.declared.geometry.Seg.TheVariants.{Spline}
use Rattle.ass_num.specs.contracts.geometry.PathClone.TheImpl as path
use Rattle.ass_num.specs.contracts.geometry.SegClone.TheImpl as seg
use Rattle.override_tags.specs.declared.tag.ClipTag.{ClipTag}
use Rattle.override_tags.specs.declared.tag.ClipTag.TheVariants.{Drawn}
use Rattle.override_tags.specs.contracts.tag.ClipTagClone.TheImpl as clip

seg_same : (a b : Seg) → seg.by_variants a b → b ≡ a
seg_same (Spline a s) (Spline b t) c = grind (arith, c.0.2, c.0.3, same_from_all_zip _ c.0.0.items.items c.0.1.items.items c.0.4.0 (λ x y h. grind arith), c.1)
seg_same a b c = grind arith

pub path_same : (a b : Path) → (path.is_clone-value).it a b → b ≡ a
path_same a b c = grind (arith, c.2, c.3, same_from_all_zip _ c.0.items.items c.1.items.items c.4.0 seg_same)

pub clip_tag_same : (a b : ClipTag) → clip.by_variants a b → b ≡ a
clip_tag_same (Drawn p m i) (Drawn q n j) c = let same : q ≡ p = path_same p q c.0 in grind (arith, same, c.1)
clip_tag_same a b c = grind arith
