use Rattle.std.proofs.Common.{List, ℕ, [], ◌∷◌, ◌∙◌, subst}
use Rattle.play_rounds.specs.Outputs.{ArePut}
use Rattle.play_rounds.proofs.Puts.{nothing_cut, one_put}
use Rattle.play_command.proofs.playing.put_stream_head.Goals as goal

pub returns-in-Ok : goal.returns-in-Ok
returns-in-Ok g c =
    subst (λ (piece : List ℕ). ArePut (piece ∷ []) c.put.result (g.F.Sink.state c.args.frames.now) (g.F.Sink.state c.put.new.self)) (c.as_bytes.ensures.value ∙ c.in-Ok.ensures)
    (one_put c.put.result c.as_bytes.result.now _ _ c.put.ensures)

pub returns-in-Err : goal.returns-in-Err
returns-in-Err g c = let state = g.F.Sink.state c.args.frames.now in (0, nothing_cut state state state)
