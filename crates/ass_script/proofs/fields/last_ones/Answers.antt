use Rattle.std.proofs.Common.{◌≡◌, ◌++◌, ℕ, length, take, drop, sym, ap, ◌∙◌}
use Rattle.std.proofs.Math.Seq.{take-append_seam}
use Rattle.ass_script.specs.Fields.{last_ones}
use Rattle.ass_script.proofs.LastOnes.{length-last_ones}
use Rattle.ass_script.proofs.fields.last_ones.Goals as goal

pub returns : goal.returns
returns g c =
    let number = g.F.Field.number_of in
    let new = c.keep_last.new.fields in
    let count : c.args.fields.len ≡ length new = sym (ap length c.keep_last.ensures ∙ (length-last_ones number c.args.other c.as_mut_slice.result.now ∙ c.as_mut_slice.ensures.len)) in
    let rest = drop (length new) c.args.fields.items in
    c.from_vec.ensures ∙ (ap (λ (n : ℕ). take n (new ++ rest)) count ∙ (take-append_seam new rest ∙ (c.keep_last.ensures ∙ ap (last_ones number c.args.other) c.as_mut_slice.ensures.value)))
