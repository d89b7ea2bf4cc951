use Rattle.std.proofs.Common.{arith}
use Rattle.alpha_canvas.proofs.TileLemmas.{blank-pixels}
use Rattle.alpha_canvas.proofs.tile.write_tile.Goals as goal

pub returns-else-any : goal.returns-else-any
returns-else-any c =
    blank-pixels c.args.form c.args.pixels.now c.fill.new.self _ (c.fill.ensures.after (λ y e. e)) (omega (arith, c.fill.auto.self, c.requires.bytes)) (c.requires.clear c.if-any.false)
