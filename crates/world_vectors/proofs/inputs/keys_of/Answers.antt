use Rattle.std.proofs.Common.{◌≡◌, subst, sym}
use Rattle.std.proofs.lemmas.List.{take_all}
use Rattle.std.specs.List.{All}
use Rattle.mask_keys.specs.Keys.{IsValidComposite}
use Rattle.mask_keys.specs.Outlines.{glyph_counts}
use Rattle.mask_keys.specs.PlanKeys.{plan_keys}
use Rattle.mask_keys.proofs.PlanKeyLemmas.{plan_keys-valid}
use Rattle.world_vectors.proofs.inputs.keys_of.Goals as goal

pub returns : goal.returns
returns c =
    let glyphs = glyph_counts c.args.fonts.now.fonts in
    let items = c.as_slice-key-items in
    let all = take_all c.loop-key.key-index items.result.now c.loop-key-test.false in
    let are : c.loop-key.copies.items ≡ plan_keys c.args.draws.now = rw (all, items.ensures.value, c.in_ok-keys.ensures) at c.loop-key.invariant in
    subst (All (IsValidComposite glyphs)) (sym are) (plan_keys-valid glyphs c.args.draws.now c.requires)
