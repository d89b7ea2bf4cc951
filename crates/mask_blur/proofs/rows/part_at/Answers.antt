use Rattle.std.proofs.Common.{◌+◌, get_or, inl, inr, ◌∙◌, arith, length-set, get_or-set_same, get_or-set_other}
use Rattle.std.proofs.lemmas.Bool.{cases_eq}
use Rattle.mask_blur.proofs.rows.part_at.Goals as goal

pub loop-i-preserved : goal.loop-i-preserved
loop-i-preserved c =
    let i = c.loop-i.i in
    let byte = get_or c.args.bytes.now (c.args.start + i) 0 in (
      length-set c.loop-i.part i byte ∙ c.loop-i.invariant.0,
      λ j less. elim (cases_eq j i) [
        | inl same ↦ rw same (get_or-set_same c.loop-i.part i byte 0 (omega (arith, c.loop-i.invariant.0, less, same)))
        | inr other ↦ get_or-set_other c.loop-i.part i j byte 0 other ∙ c.loop-i.invariant.1 j (omega (arith, less, other))
      ],
    )

pub returns : goal.returns
returns c = λ i h. c.loop-i.invariant.1 i (omega (arith, h))
