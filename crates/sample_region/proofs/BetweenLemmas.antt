-- Heights that lie around points.
use Rattle.std.proofs.Common.{ℕ, ◌+◌, ◌<◌, ℤ, ◌≤ℤ◌, arith, List, length, All, take, get_or}
use Rattle.std.proofs.lemmas.Int.{ints}
use Rattle.std.proofs.lemmas.List.Elements.{All-more, All-weaker}
use Rattle.sample_region.specs.Heights.{IsHeightBetween}
use Rattle.ass_num.specs.declared.geometry.Point.{Point}

IsHeightBetween-wider : (low high low' high' : ℤ) → low' ≤ℤ low → high ≤ℤ high' → (p : Point) → IsHeightBetween low high p → IsHeightBetween low' high' p
IsHeightBetween-wider low high low' high' l h p b = let x = b.0 in let y = b.1 in (omega (arith, ints), omega (arith, ints))

pub between_more : (low high low' high' : ℤ) (ring : List Point) (k : ℕ) (d : Point) → k < length ring → low' ≤ℤ low → high ≤ℤ high' → IsHeightBetween low' high' (get_or ring k d) → All (IsHeightBetween low high) (take k ring) → All (IsHeightBetween low' high') (take (k + 1) ring)
between_more low high low' high' ring k d b l h p a = All-more (IsHeightBetween low' high') ring k d b (All-weaker (IsHeightBetween low high) (IsHeightBetween low' high') (IsHeightBetween-wider low high low' high' l h) (take k ring) a) p

pub all_between_more : (low high low' high' : ℤ) (rings : List (List Point)) (k : ℕ) (d : List Point) → k < length rings → low' ≤ℤ low → high ≤ℤ high' → All (IsHeightBetween low' high') (get_or rings k d) → All (All (IsHeightBetween low high)) (take k rings) → All (All (IsHeightBetween low' high')) (take (k + 1) rings)
all_between_more low high low' high' rings k d b l h p a =
    All-more (All (IsHeightBetween low' high')) rings k d b
    (All-weaker (All (IsHeightBetween low high)) (All (IsHeightBetween low' high')) (λ ring. All-weaker (IsHeightBetween low high) (IsHeightBetween low' high') (IsHeightBetween-wider low high low' high' l h) ring) (take k rings) a) p
