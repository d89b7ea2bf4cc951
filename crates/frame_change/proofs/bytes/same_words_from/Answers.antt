use Rattle.std.proofs.Common.{◌≡◌, ℕ, ◌+◌, ◌-◌, length, sym, subst, arith}
use Rattle.frame_change.specs.Rows.{AreSame}
use Rattle.frame_change.proofs.WordLemmas.{same_on, word_same}
use Rattle.frame_change.proofs.bytes.same_words_from.Goals as goal

pub loop-end-preserved : goal.loop-end-preserved
loop-end-preserved c =
    let a = c.args.a.now in
    let b = c.args.b.now in
    let i = c.loop-end.end - 8 in
    let back : i + 8 ≡ c.loop-end.end = omega (arith, c.loop-end-test.true) in
    let P : ℕ → Type 0 = λ n. AreSame a b n (length a) in
    record {
      within = omega (arith, c.loop-end.invariant.within);
      same = same_on a b i (i + 8) (length a)
          (word_same a b i c.word.result c.word-in-loop-end.result (omega (arith, back, c.loop-end.invariant.within)) (omega (arith, back, c.loop-end.invariant.within, c.requires)) (λ k. (c.type_inv.a k).fits) (λ k. (c.type_inv.b k).fits) c.word.ensures c.word-in-loop-end.ensures c.if-word.true)
          (subst P (sym back) c.loop-end.invariant.same);
    }
