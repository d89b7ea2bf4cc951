use Rattle.alpha_canvas.proofs.RowLemmas.{written}
use Rattle.alpha_canvas.proofs.tile.write.Goals as goal

pub returns : goal.returns
returns c = written c.args.bytes.now c.args.k c.args.pixel c.requires
