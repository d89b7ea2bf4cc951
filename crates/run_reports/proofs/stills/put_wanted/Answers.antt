use Rattle.std.proofs.Common.{◌≡◌, ◌∙◌, ℕ, List, ap, inl, string_bytes, subst}
use Rattle.ass_io.specs.Sinks.{IsPutAnswered}
use Rattle.still_lists.specs.ConcatLists.{concat_text}
use Rattle.run_reports.specs.StillTales.{format_name, list_of}
use Rattle.run_reports.proofs.stills.put_wanted.Goals as goal

pub returns-in-Ok : goal.returns-in-Ok
returns-in-Ok g c =
    let entries = c.args.entries.now in
    let same : string_bytes c.in-Ok.text ≡ list_of c.args.job.now entries =
    c.in-Ok.ensures ∙ (ap (λ (name : List ℕ). concat_text name entries c.end_instant-end.result) c.format_name.ensures
    ∙ ap (λ (end : ℕ). concat_text (format_name c.args.job.now.format) entries end) c.end_instant-end.ensures) in
    inl (subst (λ (piece : List ℕ). IsPutAnswered piece c.put.result (g.I.Sink.state c.args.index.now) (g.I.Sink.state c.put.new.self)) (c.as_bytes.ensures.value ∙ same) c.put.ensures)
