-- Public: the digest of a selftest's images.
use Rattle.std.specs.Prelude.{ℕ, ◌+◌, ◌*◌, ◌%◌, List, fold}

-- one byte more
abbrev pub digest_step : ℕ → ℕ → ℕ
digest_step digest byte = (digest * 31 + byte) % 4294967296

-- bytes behind others that have this digest; no bytes have 0
abbrev pub digest_after : ℕ → List ℕ → ℕ
digest_after digest bytes = fold digest_step digest bytes
