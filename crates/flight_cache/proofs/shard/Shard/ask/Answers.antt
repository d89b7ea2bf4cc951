use Rattle.std.proofs.Common.{[], ◌∙◌, subst}
use Rattle.turn_cell.proofs.Passes.{Follows_trans, IsOf-Follows}
use Rattle.flight_cache.specs.Answers.{IsAskedAtTurn}
use Rattle.flight_cache.proofs.Asking.{gives-nothing, asked-later}
use Rattle.flight_cache.proofs.shard.Shard.ask.Goals as goal

pub returns-in-Ok-answer-clause-asked : goal.returns-in-Ok-answer-clause-asked
returns-in-Ok-answer-clause-asked g c =
    asked-later g.M.Key.PartialEq.eq g.M.Made.meaning c.args.self.now c.args.pass c.loop.waiting c.ask_once-pass.result.0 c.args.key.now c.in-Ok-answer.asked c.loop.invariant.3
    (subst (λ (k : g.row.M-Key.Denot). IsAskedAtTurn g.M.Key.PartialEq.eq g.M.Made.meaning c.args.self.now c.loop.waiting k c.ask_once-pass.result.0 c.in-Ok-answer.asked) c.loop.invariant.4 (rw c.in-Ok-answer.is at c.ask_once-pass.ensures.asked))

pub loop-preserved : goal.loop-preserved
loop-preserved g c =
    let again = rw c.in-Err.is at c.ask_once-pass.ensures.again in
    let f = Follows_trans c.args.pass c.loop.waiting c.ask_once-pass.result.0 [] [] c.loop.invariant.3 (gives-nothing g.M.Key.PartialEq.eq g.M.Made.meaning c.args.self.now c.loop.waiting c.ask_once-pass.result.0 again.2) in
    (tt, tt, IsOf-Follows c.args.self.now c.args.pass c.ask_once-pass.result.0 [] c.requires.cell f, f, again.0 ∙ c.loop.invariant.4, again.1)
