use Rattle.std.proofs.Common.{rules}
use Rattle.text_layout.proofs.ScaleLemmas.{pixels_within}
use Rattle.text_layout.proofs.metrics.scaled_pixels.Goals as goal

pub returns-clause-value : goal.returns-clause-value
returns-clause-value c = search rules

pub returns-clause-within : goal.returns-clause-within
returns-clause-within c = rw (returns-clause-value c) (pixels_within c.args.pixels c.args.scale c.requires.pixels c.requires.scale)
