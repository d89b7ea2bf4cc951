-- The end of the last instant.
use Rattle.std.proofs.Common.{◌≡◌, ℕ, ◌<◌, ◌≤◌, inl, inr, arith}
use Rattle.std.proofs.lemmas.Bool.{cases_lt}
use Rattle.ass_num.specs.Limits.{max_instant}
use Rattle.frame_rate.specs.Instants.{AreInstants, rated_instant}
use Rattle.frame_rate.specs.Rates.{frame_instant, frames_before}
use Rattle.frame_rate.specs.declared.instants.Instants.{Instants}
use Rattle.frame_rate.proofs.RateLemmas.{counted_frames_come_before}
use Rattle.still_images.specs.Stills.{end_instant}

module _ (instants : Instants) (are : AreInstants instants) where
  before_last : instants.count < frames_before instants.rate instants.from max_instant → rated_instant instants instants.count < max_instant
  before_last more = (counted_frames_come_before instants.rate instants.from max_instant instants.count are.rate.some are.rate.time).0 more

  pub next_within : instants.count < frames_before instants.rate instants.from max_instant → frame_instant instants.rate instants.from instants.count ≤ max_instant
  next_within more = omega (arith, before_last more)

  pub next_comes : (t : ℕ) → instants.count < frames_before instants.rate instants.from max_instant → t ≡ frame_instant instants.rate instants.from instants.count → t ≡ end_instant instants
  next_comes t more is = omega (arith, before_last more, is)

  pub none_comes : frames_before instants.rate instants.from max_instant ≤ instants.count → max_instant ≡ end_instant instants
  none_comes past = elim (cases_lt (rated_instant instants instants.count) max_instant) [
    | inl less ↦ absurd (omega (arith, past, (counted_frames_come_before instants.rate instants.from max_instant instants.count are.rate.some are.rate.time).1 less))
    | inr not ↦ omega (arith, not)
  ]
