-- A region that is widened by nothing stays.
use Rattle.std.proofs.Common.{◌≡◌, ℕ, ◌≤◌, Bool, true, ℤ, pos, ◌+ℤ◌, sym, ap, ◌∙◌, arith}
use Rattle.std.proofs.lemmas.Int.{ints}
use Rattle.ass_num.specs.Limits.{IsRegionWithin, max_sample}
use Rattle.ass_num.specs.Regions.{RegionValue, is_canonical, member}
use Rattle.ass_num.proofs.LimitLemmas.{IsWithin-wider, member_near, within_from}
use Rattle.region_rows.specs.Widened.{some_within, in_widened}
use Rattle.mask_keys.specs.Regions.{widened_region}
use Rattle.sample_region.specs.Limits.{max_inside}
use Rattle.mask_keys.proofs.RegionLemmas.{region_is}

in_widened-zero : (has : ℤ → ℤ → Bool) (i j : ℤ) → in_widened has 0 0 i j ≡ has i j
unfolding in_widened some_within
in_widened-zero has i j =
    let e : i +ℤ pos 0 ≡ i = omega (arith, ints) in
    let f : j +ℤ pos 0 ≡ j = omega (arith, ints) in
    ap (λ z. has z (j +ℤ pos 0)) e ∙ ap (has i) f

pub region_wider : (limit more : ℕ) (r : RegionValue) → limit ≤ more → is_canonical r.top r.rows ≡ true → IsRegionWithin limit r.top r.rows → IsRegionWithin more r.top r.rows
region_wider limit more r l canonical within =
    within_from more r.top r.rows canonical
    (λ i j m. let p = member_near limit r.top r.rows i j within m in (IsWithin-wider limit more i l p.0, IsWithin-wider limit more j l p.1))

pub widened_by_nothing : (r : RegionValue) → is_canonical r.top r.rows ≡ true → IsRegionWithin max_inside r.top r.rows → r ≡ widened_region 0 0 r
widened_by_nothing r canonical within =
    region_is max_sample (in_widened (member r.top r.rows) 0 0) r canonical (region_wider max_inside max_sample r (omega arith) canonical within)
    (λ i j. sym (in_widened-zero (member r.top r.rows) i j))
