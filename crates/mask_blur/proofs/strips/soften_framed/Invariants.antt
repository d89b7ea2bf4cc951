use Rattle.std.proofs.Common.{◌≡◌, ℕ, ◌-◌, ◌*◌, ℤ, length}
use Rattle.mask_blur.specs.Frames.{IsFramed}
use Rattle.mask_blur.specs.Shown.{Shows}
use Rattle.mask_blur.specs.Softening.{softened}
use Rattle.mask_blur.proofs.strips.soften_framed.Given as goal

abbrev pub invariant-loop-k : goal.invariant-loop-k
invariant-loop-k l = (length l.now.items ≡ l.h * l.w) × (length l.next.items ≡ l.h * l.w)
    × IsFramed l.w l.h (l.n - l.k) l.now.items
    × IsFramed l.w l.h (l.n - l.k) l.next.items
    × ((f : ℤ → ℤ → ℕ) (x y : ℤ) → Shows f x y l.w l.h l.initial.now.items → Shows (softened l.k f) x y l.w l.h l.now.items)
