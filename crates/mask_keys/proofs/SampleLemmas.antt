-- The samples of a key's region.
use Rattle.std.proofs.Common.{◌≡◌, ℕ, ◌≤◌, Bool, true, false, ℤ, pos, ◌+ℤ◌, negsuc, unsigned_abs, List, refl, sym, ◌∙◌, arith}
use Rattle.std.proofs.lemmas.Int.{ints}
use Rattle.ass_num.specs.Limits.{IsWithin, IsOutline, max_sample}
use Rattle.ass_num.specs.Regions.{RegionValue, member}
use Rattle.ass_num.specs.Winding.{inside}
use Rattle.ass_num.specs.declared.geometry.Point.{Point}
use Rattle.mask_keys.specs.Keys.{max_border}
use Rattle.region_rows.specs.Widened.{in_widened}
use Rattle.region_rows.proofs.WidenedLemmas.{in_widened-along, in_widened-found}
use Rattle.mask_keys.specs.Regions.{region_within, outline_region, widened_region}
use Rattle.sample_region.specs.Limits.{max_inside}
use Rattle.mask_keys.proofs.EdgeLemmas.{inside_near}
use Rattle.mask_keys.proofs.RegionLemmas.{region_within-has, region_within-near}

-- a region within a limit has all samples that pass, where none passes farther out
pub region_within-all : (limit : ℕ) (has : ℤ → ℤ → Bool) → ((i j : ℤ) → has i j ≡ true → IsWithin limit i × IsWithin limit j) → (i j : ℤ) → member (region_within limit has).top (region_within limit has).rows i j ≡ has i j
region_within-all limit has near i j = by_test (member (region_within limit has).top (region_within limit has).rows i j) (has i j) refl refl
  where
    by_test : (a b : Bool) → member (region_within limit has).top (region_within limit has).rows i j ≡ a → has i j ≡ b → member (region_within limit has).top (region_within limit has).rows i j ≡ has i j
    by_test true b e f = let p = region_within-near limit has i j e in region_within-has limit has i j p.0 p.1
    by_test false true e f = let p = near i j f in region_within-has limit has i j p.0 p.1
    by_test false false e f = e ∙ sym f

pub outline_region-has : (rings : List (List Point)) → IsOutline rings → (i j : ℤ) → member (outline_region rings).top (outline_region rings).rows i j ≡ inside rings i j
outline_region-has rings near = region_within-all max_inside (inside rings) (inside_near rings near)

moved_within : (i a : ℤ) (rx : ℕ) → unsigned_abs a ≤ rx → rx ≤ max_border → IsWithin max_inside (i +ℤ a) → IsWithin max_sample i
moved_within i (pos n) rx l m w = let u = w.0 in let v = w.1 in (omega (arith, ints), omega (arith, ints))
moved_within i (negsuc n) rx l m w = let u = w.0 in let v = w.1 in (omega (arith, ints), omega (arith, ints))

pub widened_region-has : (rx ry : ℕ) (rings : List (List Point)) → rx ≤ max_border → ry ≤ max_border → IsOutline rings → (i j : ℤ) → member (widened_region rx ry (outline_region rings)).top (widened_region rx ry (outline_region rings)).rows i j ≡ in_widened (inside rings) rx ry i j
widened_region-has rx ry rings across down near i j =
    let r : RegionValue = outline_region rings in
    let same : (u v : ℤ) → member r.top r.rows u v ≡ inside rings u v = outline_region-has rings near in
    region_within-all max_sample (in_widened (member r.top r.rows) rx ry)
    (λ u v h.
    let p = in_widened-found (member r.top r.rows) rx ry u v h in
    let s = inside_near rings near (u +ℤ p.0) (v +ℤ p.1) (sym (same (u +ℤ p.0) (v +ℤ p.1)) ∙ p.3) in
    (moved_within u p.0 rx p.2.across across s.0, moved_within v p.1 ry p.2.down down s.1))
    i j
    ∙ in_widened-along (member r.top r.rows) (inside rings) same rx ry i j
