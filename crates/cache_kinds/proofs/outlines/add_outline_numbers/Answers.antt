use Rattle.std.proofs.Common.{◌≡◌, List, w64, sym, ap, ◌∙◌, subst, rules}
use Rattle.std.proofs.lemmas.Int.{to_z-of_z}
use Rattle.std.specs.Int.RustNames.{FitsSigned}
use Rattle.std.specs.List.{flat_map}
use Rattle.ass_num.specs.declared.geometry.Path.{Path}
use Rattle.ass_num.specs.declared.geometry.Seg.{Seg}
use Rattle.flight_cache.specs.Meaning.{mixed, mixed_all}
use Rattle.mask_keys.specs.declared.outline_key.OutlineKey.{OutlineKey}
use Rattle.mask_keys.specs.Numbers.{length_word, outline_numbers, seg_numbers, word_of}
use Rattle.cache_kinds.proofs.MixedLemmas.{mixed_drawing}
use Rattle.cache_kinds.proofs.outlines.add_outline_numbers.Goals as goal

pub returns-in-Drawing : goal.returns-in-Drawing
returns-in-Drawing c =
    let P : OutlineKey → Type 0 = λ key. c.add_word.new.sum ≡ mixed_all c.args.sum.now (outline_numbers key) in
    let segs : Path → List Seg = λ path. path.segs in
    let counted = ap (λ (z : List Seg). mixed c.add-in-Drawing.new.self (length_word z)) (c.as_slice.ensures ∙ ap segs c.deref.ensures) in
    let named = ap (λ z. mixed_all c.add_length.new.sum (flat_map seg_numbers z)) (c.as_slice-in-Drawing.ensures ∙ ap segs c.deref-in-Drawing.ensures) in
    let fits : FitsSigned w64 c.in-Drawing.shift = search rules in
    let shifted = ap (λ z. mixed c.add_matrix-in-Drawing.new.sum (word_of z)) (to_z-of_z w64 c.in-Drawing.shift fits) in
    subst P (sym c.in-Drawing.is)
    (mixed_drawing c.args.sum.now c.add-in-Drawing.new.self c.add_length.new.sum c.add_segments.new.sum c.add_matrix-in-Drawing.new.sum c.add_word.new.sum
    c.in-Drawing.path c.in-Drawing.m c.in-Drawing.shift
    c.add-in-Drawing.ensures (c.add_length.ensures ∙ counted) (c.add_segments.ensures ∙ named) c.add_matrix-in-Drawing.ensures (c.add_word.ensures ∙ shifted))
