use Rattle.std.proofs.Common.{◌≡◌, Ok, Err, ap, rules, subst}
use Rattle.run_status.proofs.OwnLemmas.{script_asked}
use Rattle.ass_io.specs.Fetches.{fetch_change}
use Rattle.run_status.specs.Fetches.{IsFileFetched}
use Rattle.run_status.specs.Files.{AsksBytes, AsksScript, MayBeHeld, ScriptAsked}
use Rattle.run_status.specs.declared.status.Status.TheVariants as status
use Rattle.run_status.proofs.AskedLemmas.{refused}
use Rattle.run_status.proofs.FetchLemmas.{fetched_on}
use Rattle.run_status.proofs.files.fetch_script.Goals as goal

pub returns-clause-read : goal.returns-clause-read
returns-clause-read g c =
    script_asked c.args.source.now.own_fonts c.args.source.now.name (MayBeHeld (g.S.Shelf.told c.args.shelf.now c.args.source.now.name)) c.as_slice.result.now c.script_in.result (search rules)
    c.script_in.ensures.asked

pub returns-clause-fetched : goal.returns-clause-fetched
returns-clause-fetched g c =
    let name = c.args.source.now.name in
    let log = fetch_change (g.S.Shelf.log c.args.shelf.now) (g.S.Shelf.log c.fetch_file.new.shelf) in
    let same : c.in_ok-bytes.bytes ≡ c.as_slice.result.now = search rules in
    fetched_on (AsksScript c.args.source.now.own_fonts name) name log (AsksBytes name) (Ok c.as_slice.result.now) c.script_in.result
    (λ e. absurd cc) (λ may h. script_asked c.args.source.now.own_fonts name may c.as_slice.result.now c.script_in.result h c.script_in.ensures.asked)
    (subst (λ bytes. IsFileFetched (AsksBytes name) name log (Ok bytes)) same c.in_ok-bytes.ensures.fetched)

pub returns-in_err-bytes-clause-fetched : goal.returns-in_err-bytes-clause-fetched
returns-in_err-bytes-clause-fetched g c =
    let name = c.args.source.now.name in
    let why = c.in_err-bytes.field-0.0 in
    let same : c.from_residual.result ≡ Err why = search rules in
    rw same
    (fetched_on (AsksScript c.args.source.now.own_fonts name) name (fetch_change (g.S.Shelf.log c.args.shelf.now) (g.S.Shelf.log c.fetch_file.new.shelf)) (AsksBytes name) (Err why) (Err why)
    (λ e. let wanting : why ≡ status.OutOfMemory = cc in ap Err wanting) (λ may h. refused (ScriptAsked c.args.source.now.own_fonts) name may why h) c.in_err-bytes.ensures.fetched)
