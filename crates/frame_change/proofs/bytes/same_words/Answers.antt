use Rattle.std.proofs.Common.{◌+◌, arith}
use Rattle.frame_change.proofs.WordLemmas.{same_on, word_same}
use Rattle.frame_change.proofs.bytes.same_words.Goals as goal

pub loop-i-preserved : goal.loop-i-preserved
loop-i-preserved c =
    let a = c.args.a.now in
    let b = c.args.b.now in
    let i = c.loop-i.i in
    record {
      within = omega (arith, c.loop-i-test.true);
      same = same_on a b 0 i (i + 8) c.loop-i.invariant.same
          (word_same a b i c.word.result c.word-in-loop-i.result (omega (arith, c.loop-i-test.true)) (omega (arith, c.loop-i-test.true, c.requires)) (λ k. (c.type_inv.a k).fits) (λ k. (c.type_inv.b k).fits) c.word.ensures c.word-in-loop-i.ensures c.if-word.true);
    }
