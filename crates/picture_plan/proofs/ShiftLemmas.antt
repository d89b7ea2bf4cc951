-- An event is moved no farther than its draws may be.
use Rattle.std.proofs.Common.{ℤ, arith}
use Rattle.ass_num.specs.Limits.{IsWithin}
use Rattle.ass_num.proofs.LimitLemmas.{IsWithin-wider}
use Rattle.event_draws.specs.Limits.{max_down}
use Rattle.event_places.specs.Limits.{max_shift}

pub down_within : (shift : ℤ) → IsWithin max_shift shift → IsWithin max_down shift
down_within shift h = IsWithin-wider max_shift max_down shift (omega arith) h
