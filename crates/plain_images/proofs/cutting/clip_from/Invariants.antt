use Rattle.std.proofs.Common.{◌≡◌, ℕ, ◌+◌, ◌-◌, ◌*◌, ◌<◌, ◌≤◌, if◌then◌else◌, length, slice_index}
use Rattle.blend.specs.Blending.{by_255}
use Rattle.plain_images.proofs.cutting.clip_from.Given as goal

abbrev pub invariant-loop-k : goal.invariant-loop-k
invariant-loop-k l = record {
  same : (k : ℕ) → k < l.start → slice_index l.bytes k ≡ slice_index l.initial.bytes k;
  clipped : (k : ℕ) → k < l.k → slice_index l.bytes (l.start + k) ≡ by_255 (slice_index l.initial.bytes (l.start + k) * (if l.inverse then 255 - slice_index l.over k else slice_index l.over k));
  rest : (k : ℕ) → l.k ≤ k → k < length l.over → slice_index l.bytes (l.start + k) ≡ slice_index l.initial.bytes (l.start + k);
}
