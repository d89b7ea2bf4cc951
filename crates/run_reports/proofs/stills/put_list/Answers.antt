use Rattle.std.proofs.Common.{ℕ, List, Option, refl, subst, sym}
use Rattle.ass_io.specs.declared.sink.Put.TheVariants.{Done}
use Rattle.run_reports.specs.StillTales.{IsListPut}
use Rattle.run_reports.proofs.stills.put_list.Goals as goal

pub returns-in-Some : goal.returns-in-Some
returns-in-Some g c =
    subst (λ (list : Option (List ℕ)). IsListPut list c.args.job.now c.args.entries.now c.put_wanted.result (g.I.Sink.state c.args.index.now) (g.I.Sink.state c.put_wanted.new.index)) (sym c.in-Some.is) c.put_wanted.ensures

pub returns-in-None : goal.returns-in-None
returns-in-None g c =
    let state = g.I.Sink.state c.args.index.now in
    subst (λ (list : Option (List ℕ)). IsListPut list c.args.job.now c.args.entries.now Done state state) (sym c.in-None.is) (refl, refl)
