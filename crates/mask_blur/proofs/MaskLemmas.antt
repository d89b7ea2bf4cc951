-- Masks show their values.
use Rattle.std.proofs.Common.{inl, inr, pos, ◌+ℤ◌, ◌-ℤ◌, sym, arith}
use Rattle.std.proofs.lemmas.Int.{ints}
use Rattle.ass_num.specs.Masks.{MaskValue, value_at}
use Rattle.ass_num.proofs.MaskLemmas.{offset_inside, offset_left, offset_above}
use Rattle.mask_blur.specs.Shown.{Shows}

pub mask_shows : (m : MaskValue) → Shows (value_at m) m.x m.y m.w m.h m.bytes
mask_shows m = record {
  inside = record { cells = λ i j a b. sym (offset_inside m ((m.x +ℤ pos i) -ℤ m.x) ((m.y +ℤ pos j) -ℤ m.y) i j (omega (arith, ints)) (omega (arith, ints)) a b) };
  outside = record {
    rows = λ y. record {
      before = λ x out. offset_left m (x -ℤ m.x) (y -ℤ m.y) (inl (omega (arith, ints)));
      behind = λ x out. offset_left m (x -ℤ m.x) (y -ℤ m.y) (inr (omega (arith, ints)));
    };
    columns = λ x. record {
      before = λ y out. offset_above m (x -ℤ m.x) (y -ℤ m.y) (inl (omega (arith, ints)));
      behind = λ y out. offset_above m (x -ℤ m.x) (y -ℤ m.y) (inr (omega (arith, ints)));
    };
  };
}
