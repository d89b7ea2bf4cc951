use Rattle.std.proofs.Common.{◌≡◌, ℕ, ◌+◌, ◌*◌, ◌<◌, ◌≤◌, length, get_or}
use Rattle.mask_blur.specs.Frames.{IsSoftenedTo}
use Rattle.mask_blur.proofs.strips.soften_strip.Given as goal

abbrev pub invariant-loop-q : goal.invariant-loop-q
invariant-loop-q l = (length l.last ≡ 16) × (length l.both ≡ 16) × (length l.to ≡ length l.initial.to)
    × ((b : ℕ) → b < 16 → get_or l.last b 0 ≤ 1020)
    × ((b : ℕ) → b < 16 → get_or l.both b 0 ≤ 2048)
    × IsSoftenedTo l.w l.h l.m l.at (l.m + 2 * l.q) l.from l.initial.to l.to l.last l.both
