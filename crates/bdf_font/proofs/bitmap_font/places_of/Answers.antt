use Rattle.std.proofs.Common.{rules, subst}
use Rattle.std.specs.List.Sorted.{IsStableByKey}
use Rattle.std.specs.Ordering.{int_cmp}
use Rattle.std.proofs.lemmas.List.Sorted.{answers_always}
use Rattle.bdf_font.proofs.PlaceLemmas.{index_sorted}
use Rattle.bdf_font.proofs.bitmap_font.places_of.Goals as goal

pub returns : goal.returns
returns c =
    let sorted = c.in_ok-sort_by_key.ensures.sorted (λ entry. entry.0) (answers_always _ _ _ (λ f a r g called. search rules)) in
    let stable = c.sort_by_key.ensures.stable (λ entry. entry.0) (answers_always _ _ _ (λ f a r g called. search rules)) in
    index_sorted c.args.glyphs.now c.sort_by_key.new.self.items sorted
    (subst (λ entries. IsStableByKey (λ entry. entry.0) int_cmp entries c.sort_by_key.new.self.items) c.in_ok-places.ensures stable)
