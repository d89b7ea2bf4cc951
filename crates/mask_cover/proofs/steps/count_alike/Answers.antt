use Rattle.std.proofs.Common.{◌+◌, ◌≡◌, ◌<◌, ◌≤◌, ⊎_elim, ap, arith, [], get_or}
use Rattle.std.proofs.lemmas.Bool.{cases_lt}
use Rattle.mask_cover.proofs.RowLemmas.{alike_if}
use Rattle.mask_cover.proofs.steps.count_alike.Goals as goal

pub loop-n-init : goal.loop-n-init
loop-n-init c = record { low = omega arith; high = omega arith; alike = λ m l. let zero : c.args.k + m ≡ c.args.k = omega arith in ap (λ n. get_or c.args.rows.now n []) zero }

pub loop-n-preserved : goal.loop-n-preserved
loop-n-preserved c =
    let more = alike_if c.get.result.now c.get-in-loop-n.result.now c.ne.result c.ne.ensures c.if-ne.false in
    record {
      low = omega (arith, c.loop-n.invariant.low);
      high = omega (arith, c.loop-n-test.true);
      alike = λ m l. ⊎_elim
          (λ (a : m < c.loop-n.n). c.loop-n.invariant.alike m a)
          (λ (a : c.loop-n.n ≤ m). let here : m ≡ c.loop-n.n = omega arith in rw (here, ← c.get.ensures, ← c.get-in-loop-n.ensures) more)
          (cases_lt m c.loop-n.n);
    }
