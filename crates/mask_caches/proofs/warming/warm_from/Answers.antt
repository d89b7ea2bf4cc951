use Rattle.std.proofs.Common.{drop}
use Rattle.std.proofs.lemmas.List.Elements.{All-drop, All-take}
use Rattle.std.specs.Arc.{arc_value}
use Rattle.mask_keys.specs.Keys.{IsValidComposite}
use Rattle.mask_keys.specs.Outlines.{glyph_counts}
use Rattle.mask_caches.proofs.warming.warm_from.Goals as goal

pub warm_keys-requires-clause-keys : goal.warm_keys-requires-clause-keys
warm_keys-requires-clause-keys g c =
    rw (c.split_at-2.ensures.front, c.split_at.ensures.back)
    (All-take (IsValidComposite (glyph_counts (arc_value c.args.caches.now.fonts).fonts)) c.args.count (drop c.args.place c.args.keys.now)
    (All-drop (IsValidComposite (glyph_counts (arc_value c.args.caches.now.fonts).fonts)) c.args.place c.args.keys.now c.requires.keys))

pub returns-clause-unkept : goal.returns-clause-unkept
returns-clause-unkept g c = rw (← c.split_at.ensures.back, ← c.split_at-2.ensures.front) c.warm_keys.ensures.unkept
