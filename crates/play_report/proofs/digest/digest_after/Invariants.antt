use Rattle.std.proofs.Common.{◌≡◌, drop}
use Rattle.play_report.specs.Digests.{digest_after}
use Rattle.play_report.proofs.digest.digest_after.Given as goal

abbrev pub invariant-loop-byte : goal.invariant-loop-byte
invariant-loop-byte l = digest_after l.digest (drop l.byte-index l.bytes) ≡ digest_after l.before l.bytes
