use Rattle.std.proofs.Common.{Err, refl, subst}
use Rattle.ass_io.specs.Fetches.{fetch_change}
use Rattle.play_command.proofs.ReadLemmas.{all_playable}
use Rattle.play_command.specs.PlayRuns.{AreFetchedUnless, AreReadUnless}
use Rattle.play_command.proofs.reading.play_inputs.Goals as goal

pub returns-in-Some-clause-read : goal.returns-in-Some-clause-read
returns-in-Some-clause-read g c =
    subst (λ refusal. AreReadUnless refusal (g.S.Shelf.told c.args.shelf.now) c.args.script.now c.args.fonts.now (Err c.in-Some.status)) c.in-Some.ensures refl

pub returns-in-None-clause-read : goal.returns-in-None-clause-read
returns-in-None-clause-read g c =
    subst (λ refusal. AreReadUnless refusal (g.S.Shelf.told c.args.shelf.now) c.args.script.now c.args.fonts.now c.read_inputs.result) c.in-None.ensures c.read_inputs.ensures.read

pub returns-in-Some-clause-fetched : goal.returns-in-Some-clause-fetched
returns-in-Some-clause-fetched g c =
    let log = g.S.Shelf.log c.args.shelf.now in
    subst (λ refusal. AreFetchedUnless refusal c.args.script.now c.args.fonts.now (fetch_change log log) (Err c.in-Some.status)) c.in-Some.ensures (refl, refl)

pub returns-in-None-clause-fetched : goal.returns-in-None-clause-fetched
returns-in-None-clause-fetched g c =
    let log = fetch_change (g.S.Shelf.log c.args.shelf.now) (g.S.Shelf.log c.read_inputs.new.shelf) in
    subst (λ refusal. AreFetchedUnless refusal c.args.script.now c.args.fonts.now log c.read_inputs.result) c.in-None.ensures c.read_inputs.ensures.fetched

pub returns-in-None-clause-playable : goal.returns-in-None-clause-playable
returns-in-None-clause-playable g c =
    all_playable c.lines_fit_their_text.ensures (g.S.Shelf.told c.args.shelf.now) c.args.job.now c.args.script.now c.args.fonts.now c.read_inputs.result c.requires c.in-None.ensures
    c.read_inputs.ensures.read c.read_inputs.ensures.script c.read_inputs.ensures.fonts
