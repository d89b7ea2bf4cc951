use Rattle.std.proofs.Common.{ℕ, List, Option, refl, subst, sym}
use Rattle.ass_io.specs.Outputs.{IsMakingAnswered}
use Rattle.ass_io.specs.declared.named_sink.Making.TheVariants.{Made}
use Rattle.run_reports.specs.AskedRuns.{IsFileBegun}
use Rattle.run_reports.proofs.run.begin.Goals as goal

pub returns-in-Some : goal.returns-in-Some
returns-in-Some g c =
    let old = g.O.Sink.state c.args.output.now in
    let new = g.O.Sink.state c.make.new.self in
    subst (λ (named : Option (List ℕ)). IsFileBegun named c.make.result old new) (sym c.in-Some.is)
    (subst (λ (name : List ℕ). IsMakingAnswered name c.make.result old new) c.as_str.ensures c.make.ensures)

pub returns-in-None : goal.returns-in-None
returns-in-None g c =
    let state = g.O.Sink.state c.args.output.now in
    subst (λ (named : Option (List ℕ)). IsFileBegun named Made state state) (sym c.in-None.is) (refl, refl)
