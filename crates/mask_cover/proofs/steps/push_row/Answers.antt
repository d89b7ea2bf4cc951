use Rattle.std.proofs.Common.{◌≡◌, ◌+◌, pos, ◌+ℤ◌, [], ◌∷◌, ◌++◌, get_or, w16, to_z, of_z, refl, sym, arith, rules}
use Rattle.std.proofs.lemmas.Int.{ints}
use Rattle.mask_cover.proofs.RowLemmas.{row_push, byte_same}
use Rattle.mask_cover.proofs.StepLemmas.{sum_first-none, sum_first-next}
use Rattle.mask_cover.specs.Steps.{sum_first}
use Rattle.mask_cover.proofs.steps.push_row.Goals as goal

pub loop-c-init : goal.loop-c-init
loop-c-init c = (sym (sum_first-none c.args.steps.now), record { count = omega arith; kept = λ k h. refl; row = λ k h. absurd (omega arith) }, rw (sum_first-none c.args.steps.now) refl)

pub overflow_add-count : goal.overflow_add-count
overflow_add-count c =
    let next = sum_first-next c.args.steps.now c.loop-c.c in
    let now = c.requires.counts c.loop-c.c in
    let samples_after = c.requires.counts (c.loop-c.c + 1) in
    omega (arith, ints, next, now.0, now.1, samples_after.0, samples_after.1, c.loop-c.invariant.0)

pub next_byte-byte-requires-clause-low : goal.next_byte-byte-requires-clause-low
next_byte-byte-requires-clause-low c =
    let next = sum_first-next c.args.steps.now c.loop-c.c in
    let now = c.requires.counts c.loop-c.c in
    let samples_after = c.requires.counts (c.loop-c.c + 1) in
    omega (arith, ints, next, now.0, now.1, samples_after.0, samples_after.1, c.loop-c.invariant.0)

pub next_byte-byte-requires-clause-high : goal.next_byte-byte-requires-clause-high
next_byte-byte-requires-clause-high c =
    let next = sum_first-next c.args.steps.now c.loop-c.c in
    let now = c.requires.counts c.loop-c.c in
    let samples_after = c.requires.counts (c.loop-c.c + 1) in
    omega (arith, ints, next, now.0, now.1, samples_after.0, samples_after.1, c.loop-c.invariant.0)

-- a step of 0 leaves the sum, and so the byte
pub next_byte-byte-requires-clause-same : goal.next_byte-byte-requires-clause-same
next_byte-byte-requires-clause-same c = λ zero.
    let next = sum_first-next c.args.steps.now c.loop-c.c in
    let now = c.requires.counts c.loop-c.c in
    let here : to_z w16 (of_z w16 (to_z w16 c.loop-c.count-bits +ℤ to_z w16 (of_z w16 (get_or c.args.steps.now c.loop-c.c (pos 0))))) ≡ sum_first c.args.steps.now c.loop-c.c = omega (arith, ints, next, now.0, now.1, zero, c.loop-c.invariant.0) in
    rw here c.loop-c.invariant.2

pub loop-c-preserved : goal.loop-c-preserved
loop-c-preserved c =
    let next = sum_first-next c.args.steps.now c.loop-c.c in
    let now = c.requires.counts c.loop-c.c in
    let samples_after = c.requires.counts (c.loop-c.c + 1) in
    let pushed : c.push.new.self.items ≡ c.loop-c.bytes.items ++ c.next_byte-byte.result ∷ [] = search rules in (
      omega (arith, ints, next, now.0, now.1, samples_after.0, samples_after.1, c.loop-c.invariant.0),
      rw pushed (row_push c.args.steps.now c.loop-c.c c.next_byte-byte.result c.args.bytes.now.items c.loop-c.bytes.items c.loop-c.invariant.1
          (byte_same (to_z w16 (of_z w16 (to_z w16 c.loop-c.count-bits +ℤ to_z w16 (of_z w16 (get_or c.args.steps.now c.loop-c.c (pos 0)))))) c.next_byte-byte.result (sum_first c.args.steps.now (c.loop-c.c + 1)) c.next_byte-byte.ensures (omega (arith, ints, next, now.0, now.1, samples_after.0, samples_after.1, c.loop-c.invariant.0)))),
      byte_same (to_z w16 (of_z w16 (to_z w16 c.loop-c.count-bits +ℤ to_z w16 (of_z w16 (get_or c.args.steps.now c.loop-c.c (pos 0)))))) c.next_byte-byte.result (sum_first c.args.steps.now (c.loop-c.c + 1)) c.next_byte-byte.ensures (omega (arith, ints, next, now.0, now.1, samples_after.0, samples_after.1, c.loop-c.invariant.0)),
    )
