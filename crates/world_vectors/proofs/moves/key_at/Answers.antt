use Rattle.std.proofs.Common.{◌<◌, length, rules, subst, sym}
use Rattle.mask_keys.specs.Keys.{IsValidComposite}
use Rattle.mask_keys.specs.Outlines.{glyph_counts}
use Rattle.world_vectors.specs.Given.{fonts_in}
use Rattle.world_vectors.proofs.moves.key_at.Goals as goal

pub returns : goal.returns
returns c =
    let within : c.args.i < length c.args.inputs.now.keys.items = search rules in
    subst (IsValidComposite (glyph_counts (fonts_in c.args.inputs.now))) (sym c.index.ensures) (c.requires.keys c.args.i c.index.result.now within)
