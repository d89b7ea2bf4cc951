use Rattle.std.proofs.Common.{rules, arith, ◌≡◌, ◌∙◌, ap, sym, length, vec_len, get_or, to_z, w64}
use Rattle.std.proofs.lemmas.Int.{to_z-of_z}
use Rattle.line_layout.proofs.TableLemmas.{Pens-push, Pens-skip, Pens-all, item-fits, next-fits}
use Rattle.line_layout.proofs.pens.pens_of.Goals as goal
use Rattle.line_layout.proofs.pens.pens_of.Goals.{then-len-spaces+then-spaces-len+in_ok-push, else-len-spaces, else-len-spaces-via-then-len-spaces+else-spaces-len, else-len-spaces-via-else-len-spaces}

pub overflow_add-pen : goal.overflow_add-pen
overflow_add-pen c =
    rw (to_z-of_z w64 _ (item-fits c.args.widths.now c.args.spaces.now c.loop-k.k c.requires c.loop-k-test.true))
    (next-fits c.args.widths.now c.args.spaces.now _ c.loop-k.k c.requires c.loop-k-test.true c.loop-k.invariant.here)

pub loop-k-preserved : goal.loop-k-preserved
loop-k-preserved c =
    let ws = c.args.widths.now in
    let s = c.args.spaces.now in
    let k = c.loop-k.k in
    let at = to_z w64 c.loop-k.pen-bits in
    let n : vec_len c.loop-k.pens ≡ length c.loop-k.pens.items = search rules in
    let m : c.len.result ≡ length c.loop-k.pens.items = c.len.ensures ∙ n in
    rw (to_z-of_z w64 _ (item-fits ws s k c.requires c.loop-k-test.true), to_z-of_z w64 _ (next-fits ws s at k c.requires c.loop-k-test.true c.loop-k.invariant.here))
    (elim c.if-len-spaces.branch [
      | then-len-spaces+then-spaces-len+in_ok-push w ↦
          let a = w.if-len-spaces.true in
          let q = ap (λ j. get_or s j 0) (sym n ∙ sym w.len-then-len-spaces.ensures) ∙ w.if-spaces-len.true in
          rw (w.pens-is, w.in_ok-push.ensures.items)
          (Pens-push ws s c.loop-k.pens.items at k c.requires c.loop-k-test.true (omega (arith, a, m)) q c.loop-k.invariant)
      | else-len-spaces w ↦
          rw w.pens-is (Pens-skip ws s c.loop-k.pens.items at k c.loop-k-test.true
          (λ l e. elim w.else-len-spaces.branch [
            | else-len-spaces-via-then-len-spaces+else-spaces-len v ↦ v.if-spaces-len.false (ap (λ j. get_or s j 0) (v.len-then-len-spaces.ensures ∙ n) ∙ e)
            | else-len-spaces-via-else-len-spaces v ↦ let a = v.if-len-spaces.false in omega (arith, a, m, l)
          ])
          c.loop-k.invariant)
    ])

pub returns : goal.returns
returns c =
    let l = c.loop-k-test.false in
    let h = c.loop-k.auto.k-end in
    rw c.in_ok-push-2.ensures.items (Pens-all c.args.widths.now c.args.spaces.now c.loop-k.pens.items _ c.loop-k.k (omega arith) c.requires c.loop-k.invariant)
