use Rattle.std.proofs.Common.{◌≡◌, ℕ, ◌+◌, ◌*◌, ◌<◌, List, true, false, arith, ap, ◌∙◌, sym}
use Rattle.font_bytes.specs.Bytes.{u16_at}
use Rattle.sfnt_font.specs.Names.{is_name, record_name}
use Rattle.sfnt_font.proofs.Steps.{found_with, name-found, names-full, record-passed, record-there}
use Rattle.sfnt_font.proofs.names.ranked_names.Goals as goal
use Rattle.sfnt_font.proofs.names.ranked_names.Goals.{then-len-most+then-is_name+in_ok-record_name+in_ok-push, else-len-most, else-len-most-via-then-len-most+else-is_name, else-len-most-via-else-len-most}

pub loop-k-preserved : goal.loop-k-preserved
loop-k-preserved c =
    let spell : ℕ → List ℕ = record_name c.args.bytes.now c.args.names in
    let first = c.args.names.place + 6 in
    let n = u16_at c.args.bytes.now (c.args.names.place + 2) in
    let k = c.loop-k.k in
    let less : k < n = omega (arith, c.loop-k-test.true, c.u16_at-k-end.ensures) in
    elim c.if-len-most.branch [
      | then-len-most+then-is_name+in_ok-record_name+in_ok-push w ↦
          let is : is_name c.args.bytes.now c.args.names c.args.kind c.args.rank (first + 12 * k) ≡ true =
          ap (λ k. is_name c.args.bytes.now c.args.names c.args.kind c.args.rank (first + 12 * k)) (sym c.from.ensures) ∙ (sym w.is_name.ensures ∙ w.if-is_name.true) in
          let name : w.as_slice.result.now ≡ spell (first + 12 * k) =
          w.as_slice.ensures ∙ (w.in_ok-record_name.ensures ∙ ap (λ k. spell (first + 12 * k)) c.from.ensures) in
          rw (w.found-is, w.in_ok-push.ensures.ok)
          (name-found spell c.args.most c.loop-k.found (first + 12 * k) w.as_slice.result.now _ _ (omega (arith, w.if-len-most.true, c.len.ensures)) name
          (record-there c.args.bytes.now c.args.names c.args.kind c.args.rank first n k less is) ∙ c.loop-k.invariant)
      | else-len-most w ↦ elim w.else-len-most.branch [
        | else-len-most-via-then-len-most+else-is_name v ↦
            let fails : is_name c.args.bytes.now c.args.names c.args.kind c.args.rank (first + 12 * k) ≡ false =
            ap (λ k. is_name c.args.bytes.now c.args.names c.args.kind c.args.rank (first + 12 * k)) (sym c.from.ensures) ∙ (sym v.is_name.ensures ∙ v.if-is_name.false) in
            rw (w.found-is)
            (ap (found_with spell c.args.most c.loop-k.found) (sym (record-passed c.args.bytes.now c.args.names c.args.kind c.args.rank first n k less fails)) ∙ c.loop-k.invariant)
        | else-len-most-via-else-len-most v ↦
            rw (w.found-is) (names-full spell c.args.most c.loop-k.found _ _ (omega (arith, v.if-len-most.false, c.len.ensures)) ∙ c.loop-k.invariant)
      ]
    ]
