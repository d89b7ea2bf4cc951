use Rattle.std.proofs.Common.{ℕ, ◌≤◌, arith, refl, subst, sym}
use Rattle.track_history.specs.Calls.{history_of}
use Rattle.play_workers.specs.Stages.{play_on}
use Rattle.play_rounds.specs.Rounds.{worker_roles}
use Rattle.play_rounds.specs.declared.ends.Stop.TheVariants as stop
use Rattle.play_rounds.proofs.Bounds.{as_many}
use Rattle.play_rounds.proofs.Few.{round_few}
use Rattle.play_rounds.proofs.Plays.{round_cut, round_plays, stops_now}
use Rattle.play_rounds.proofs.rounds.one_round.Goals as goal

pub count_repeated-requires : goal.count_repeated-requires
count_repeated-requires g c =
    let long = as_many c.args.workers.now c.play_round-first.new.workers c.play_round-first.ensures.roles in
    round_few c.args.stage.now c.args.round c.args.first c.play_round-first.new.workers c.play_round-first.result c.requires.stage c.play_round-first.ensures.round (let few = c.requires.few in omega (arith, long, few))

pub returns-in-Done-clause-few : goal.returns-in-Done-clause-few
returns-in-Done-clause-few g c =
    let long = as_many c.args.workers.now c.play_round-first.new.workers c.play_round-first.ensures.roles in
    subst (λ (n : ℕ). n ≤ 4294967295) (sym c.count_repeated.ensures)
    (round_few c.args.stage.now c.args.round c.args.first c.play_round-first.new.workers c.play_round-first.result c.requires.stage c.play_round-first.ensures.round (let few = c.requires.few in omega (arith, long, few)))

pub returns-then-not-are_fine-clause-stopped : goal.returns-then-not-are_fine-clause-stopped
returns-then-not-are_fine-clause-stopped g c = stops_now (g.F.Sink.state c.args.frames.now) (play_on c.args.stage.now) (worker_roles c.args.workers.now) c.args.round (history_of c.args.first.track.seen)

pub returns-in-Done-clause-played : goal.returns-in-Done-clause-played
returns-in-Done-clause-played g c =
    rw c.count_repeated.ensures (round_plays (g.F.Sink.state c.args.frames.now) (g.F.Sink.state c.put_images.new.frames) c.args.stage.now c.args.round c.args.first c.play_round-first.new.workers c.play_round-first.result (worker_roles c.args.workers.now)
    c.requires.stage c.requires.home c.play_round-first.ensures.round c.play_round-first.ensures.roles (c.if-not-are_fine.ensures.0 refl) (rw c.in-Done.is at c.put_images.ensures))

pub returns-in-Failed-clause-stopped : goal.returns-in-Failed-clause-stopped
returns-in-Failed-clause-stopped g c =
    round_cut (g.F.Sink.state c.args.frames.now) (g.F.Sink.state c.put_images.new.frames) c.args.stage.now c.args.round c.args.first c.play_round-first.new.workers c.play_round-first.result (worker_roles c.args.workers.now)
    c.requires.stage c.requires.home c.play_round-first.ensures.round c.play_round-first.ensures.roles (c.if-not-are_fine.ensures.0 refl) stop.WriteFault (rw c.in-Failed.is at c.put_images.ensures)

pub returns-in-OutOfMemory-clause-stopped : goal.returns-in-OutOfMemory-clause-stopped
returns-in-OutOfMemory-clause-stopped g c =
    round_cut (g.F.Sink.state c.args.frames.now) (g.F.Sink.state c.put_images.new.frames) c.args.stage.now c.args.round c.args.first c.play_round-first.new.workers c.play_round-first.result (worker_roles c.args.workers.now)
    c.requires.stage c.requires.home c.play_round-first.ensures.round c.play_round-first.ensures.roles (c.if-not-are_fine.ensures.0 refl) stop.OutOfMemory (rw c.in-OutOfMemory.is at c.put_images.ensures)
