use Rattle.std.proofs.Common.{All, subst}
use Rattle.bdf_font.specs.declared.sets.FontSet.{FontSet}
use Rattle.mask_keys.specs.Keys.{IsValidComposite}
use Rattle.mask_keys.specs.Outlines.{glyph_counts}
use Rattle.world_vectors.proofs.inputs.inputs_of.Goals as goal

pub returns : goal.returns
returns c =
    record {
      script = c.in_ok-script.ensures.script;
      short = c.in_ok-script.ensures.short;
      fonts = c.in_ok-fonts.ensures;
      size = c.requires.size;
      keys = subst (λ (set : FontSet). All (IsValidComposite (glyph_counts set.fonts)) c.in_ok-keys.keys.items) c.deref-2.ensures c.in_ok-keys.ensures;
    }

pub keys_at-requires-clause-setting : goal.keys_at-requires-clause-setting
keys_at-requires-clause-setting c =
    record { script = rw c.deref.ensures c.in_ok-script.ensures.script; fonts = rw c.deref-2.ensures c.in_ok-fonts.ensures; frame = c.plain.ensures.range c.requires.size }
