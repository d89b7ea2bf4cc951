use Rattle.std.proofs.Common.{◌≡◌, ℕ, List, All, length, take, drop, sym, ap, ◌∙◌, subst, arith}
use Rattle.std.proofs.lemmas.List.{length-take, take_all}
use Rattle.std.specs.Arc.{arc_value}
use Rattle.mask_keys.specs.Keys.{IsValidComposite}
use Rattle.mask_keys.specs.declared.composite_key.CompositeKey.{CompositeKey}
use Rattle.mask_keys.specs.Outlines.{glyph_counts}
use Rattle.mask_caches.specs.Aheads.{AheadView}
use Rattle.mask_caches.specs.Keeping.{unkept_in}
use Rattle.mask_caches.proofs.ahead.Ahead.warm.Goals as goal

pub warm_from-pass-requires-clause-keys : goal.warm_from-pass-requires-clause-keys
warm_from-pass-requires-clause-keys g c =
    subst (λ (keys : List CompositeKey). All (IsValidComposite (glyph_counts (arc_value c.args.caches.now.fonts).fonts)) keys) (sym c.as_slice-keys.ensures.keys)
    (subst (λ (ahead : AheadView). All (IsValidComposite (glyph_counts (arc_value c.args.caches.now.fonts).fonts)) ahead.keys) (sym c.self.view_is) c.requires.keys)

pub returns-clause-unkept : goal.returns-clause-unkept
returns-clause-unkept g c =
    let e = c.warm_from-pass.ensures in
    let left : List CompositeKey = drop c.self.inside.place c.as_slice-keys.result.now in
    let whole : c.warm_from-pass.result.1.count ≡ c.min-count.result = omega (arith, e.within, c.if-warmed-count.false) in
    let cut : take c.warm_from-pass.result.1.count (take c.min-count.result left) ≡ take c.min-count.result left = take_all _ _ (omega (arith, whole, length-take c.min-count.result left)) in
    let long : length c.as_slice-keys.result.now ≡ length c.self.inside.keys.keys = ap length c.as_slice-keys.ensures.keys in
    let keys : length c.self.inside.keys.keys ≡ length c.args.self.now.keys = ap (λ (ahead : AheadView). length ahead.keys) c.self.view_is in
    let place : c.self.inside.place ≡ c.args.self.now.place = ap (λ (ahead : AheadView). ahead.place) c.self.view_is in
    rw (← c.self.view_is, ← c.as_slice-keys.ensures.keys) (e.unkept ∙ ap (unkept_in c.args.caches.now.composites.tag c.args.budgets.now) (cut ∙ ap (λ (m : ℕ). take m left) (omega (arith, c.min-count.ensures, c.left.ensures.left, long, keys, place))))
