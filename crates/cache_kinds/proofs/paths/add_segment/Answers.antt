use Rattle.std.proofs.Common.{◌≡◌, List, sym, ap, ◌∙◌, subst}
use Rattle.std.specs.List.{flat_map}
use Rattle.ass_num.specs.declared.geometry.Point.{Point}
use Rattle.ass_num.specs.declared.geometry.Seg.{Seg}
use Rattle.flight_cache.specs.Meaning.{mixed, mixed_all}
use Rattle.mask_keys.specs.Numbers.{length_word, point_numbers, seg_numbers}
use Rattle.cache_kinds.proofs.MixedLemmas.{mixed_spline}
use Rattle.cache_kinds.proofs.paths.add_segment.Goals as goal

pub returns-in-Spline : goal.returns-in-Spline
returns-in-Spline c =
    let P : Seg → Type 0 = λ seg. c.add_flag.new.sum ≡ mixed_all c.args.sum.now (seg_numbers seg) in
    let counted = ap (λ (z : List Point). mixed c.add-in-Spline.new.self (length_word z)) c.as_slice.ensures in
    let pointed = ap (λ z. mixed_all c.add_length.new.sum (flat_map point_numbers z)) c.as_slice-in-Spline.ensures in
    subst P (sym c.in-Spline.is)
    (mixed_spline c.args.sum.now c.add-in-Spline.new.self c.add_length.new.sum c.add_points.new.sum c.add_flag.new.sum c.in-Spline.controls c.in-Spline.closed
    c.add-in-Spline.ensures (c.add_length.ensures ∙ counted) (c.add_points.ensures ∙ pointed) c.add_flag.ensures)
