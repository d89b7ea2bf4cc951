use Rattle.std.proofs.Common.{◌≡◌, ℕ, ◌<◌, Option, length, take, rules, arith, refl, sym, ap, ◌∙◌, subst}
use Rattle.std.specs.Arc.{arc_value}
use Rattle.mask_keys.specs.Keys.{IsValidComposite}
use Rattle.mask_keys.specs.Outlines.{glyph_counts}
use Rattle.mask_caches.specs.Keeping.{unkept_in, unkept_then}
use Rattle.mask_caches.proofs.Keeping.{unkept-more}
use Rattle.mask_caches.proofs.KeysWarmed.{all-warmed, before-then, none-warmed, one-failed, one-more}
use Rattle.mask_caches.proofs.warming.warm_keys.Goals as goal

pub warm_key-next-requires-clause-key : goal.warm_key-next-requires-clause-key
warm_key-next-requires-clause-key g c =
    subst (IsValidComposite (glyph_counts (arc_value c.args.caches.now.fonts).fonts)) (sym c.key-item.is) (c.requires.keys c.loop-key.key-index c.key-item.result c.loop-key-test.true)

pub loop-key-init : goal.loop-key-init
loop-key-init g c = record { of = c.requires.pass; count = refl; unkept = refl; were = none-warmed c.args.caches.now c.args.pass }

pub loop-key-preserved : goal.loop-key-preserved
loop-key-preserved g c =
    let there : c.loop-key.key-index < length c.args.keys.now = search rules in
    let v = rw c.in-Ok.is at c.warm_key-next.ensures.visit in
    let kept = c.loop-key.invariant in
    let before = unkept_in c.args.caches.now.composites.tag c.args.budgets.now (take c.loop-key.key-index c.args.keys.now) in
    let seen = rw c.in-Ok.is at c.warm_key-next.ensures.unkept in
    record {
      of = c.warm_key-next.ensures.pass;
      count = omega (arith, kept.count);
      unkept = c.first_unkept-unkept.ensures ∙ (ap (λ (o : Option ℕ). unkept_then o c.loop-key.count c.in-Ok.is_unkept) kept.unkept
          ∙ (ap (λ (n : ℕ). unkept_then before n c.in-Ok.is_unkept) kept.count ∙ (ap (unkept_then before c.loop-key.key-index) seen
          ∙ sym (unkept-more c.args.caches.now.composites.tag c.args.budgets.now c.args.keys.now c.loop-key.key-index c.key-item.result there c.key-item.is))));
      were = one-more c.args.caches.now c.args.pass c.args.keys.now c.loop-key.key-index c.key-item.result c.loop-key.pass c.warm_key-next.result.0 v.0 there c.key-item.is kept.were v.1 v.2 v.3 c.warm_key-next.ensures.holds;
    }

pub returns-in-Err : goal.returns-in-Err
returns-in-Err g c =
    let there : c.loop-key.key-index < length c.args.keys.now = search rules in
    let v = rw c.in-Err.is at c.warm_key-next.ensures.visit in
    let kept = c.loop-key.invariant in
    let before = c.args.pass in
    let mid = c.loop-key.pass in
    let after = c.warm_key-next.result.0 in
    record {
      pass = c.warm_key-next.ensures.pass;
      unkept = rw kept.count kept.unkept;
      warmed = one-failed c.args.caches.now before c.args.keys.now c.loop-key.key-index c.loop-key.count c.key-item.result mid after v.0 there c.key-item.is kept.count kept.were v.1 v.2 v.4;
      holds = before-then c.args.caches.now before mid after kept.were.holds c.warm_key-next.ensures.holds;
      within = omega (arith, kept.count, there);
    }

pub returns : goal.returns
returns g c =
    let whole : c.loop-key.key-index ≡ length c.args.keys.now = search rules in
    let kept = c.loop-key.invariant in
    record {
      pass = kept.of;
      unkept = rw kept.count kept.unkept;
      warmed = all-warmed c.args.caches.now c.args.pass c.args.keys.now c.loop-key.key-index c.loop-key.count c.loop-key.pass whole kept.count kept.were;
      holds = kept.were.holds;
      within = omega (arith, kept.count, whole);
    }
