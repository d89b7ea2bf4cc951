use Rattle.std.proofs.Common.{◌≡◌, Ok, Err, ap, rules}
use Rattle.run_status.proofs.AskedLemmas.{font_asked, refused}
use Rattle.ass_io.specs.Fetches.{fetch_change}
use Rattle.run_status.specs.Files.{AsksBytes, AsksFonts, FontsAsked, MayBeHeld}
use Rattle.run_status.specs.declared.status.Status.TheVariants as status
use Rattle.run_status.proofs.FetchLemmas.{fetched_on}
use Rattle.run_status.proofs.files.fetch_fonts.Goals as goal

pub returns-in-Ok-clause-read : goal.returns-in-Ok-clause-read
returns-in-Ok-clause-read g c =
    font_asked c.args.index c.args.name.now (MayBeHeld (g.S.Shelf.told c.args.shelf.now c.args.name.now)) c.in_ok-bytes.bytes (Ok c.in-Ok.fonts)
    (search rules) c.in-Ok.ensures.answer

pub returns-in-Err-clause-read : goal.returns-in-Err-clause-read
returns-in-Err-clause-read g c =
    rw c.font_status.ensures
    (font_asked c.args.index c.args.name.now (MayBeHeld (g.S.Shelf.told c.args.shelf.now c.args.name.now)) c.in_ok-bytes.bytes (Err c.in-Err.refusal)
    (search rules) c.in-Err.ensures.answer)

pub returns-in-Ok-clause-fetched : goal.returns-in-Ok-clause-fetched
returns-in-Ok-clause-fetched g c =
    let name = c.args.name.now in
    fetched_on (AsksFonts c.args.index name) name (fetch_change (g.S.Shelf.log c.args.shelf.now) (g.S.Shelf.log c.fetch_file.new.shelf)) (AsksBytes name) (Ok c.in_ok-bytes.bytes) (Ok c.in-Ok.fonts)
    (λ e. absurd cc) (λ may h. font_asked c.args.index name may c.in_ok-bytes.bytes (Ok c.in-Ok.fonts) h c.in-Ok.ensures.answer) c.in_ok-bytes.ensures.fetched

pub returns-in-Err-clause-fetched : goal.returns-in-Err-clause-fetched
returns-in-Err-clause-fetched g c =
    let name = c.args.name.now in
    rw c.font_status.ensures
    (fetched_on (AsksFonts c.args.index name) name (fetch_change (g.S.Shelf.log c.args.shelf.now) (g.S.Shelf.log c.fetch_file.new.shelf)) (AsksBytes name) (Ok c.in_ok-bytes.bytes) _
    (λ e. absurd cc) (λ may h. font_asked c.args.index name may c.in_ok-bytes.bytes (Err c.in-Err.refusal) h c.in-Err.ensures.answer) c.in_ok-bytes.ensures.fetched)

pub returns-in_err-bytes-clause-fetched : goal.returns-in_err-bytes-clause-fetched
returns-in_err-bytes-clause-fetched g c =
    let name = c.args.name.now in
    let why = c.in_err-bytes.field-0.0 in
    let same : c.from_residual.result ≡ Err why = search rules in
    rw same
    (fetched_on (AsksFonts c.args.index name) name (fetch_change (g.S.Shelf.log c.args.shelf.now) (g.S.Shelf.log c.fetch_file.new.shelf)) (AsksBytes name) (Err why) (Err why)
    (λ e. let wanting : why ≡ status.OutOfMemory = cc in ap Err wanting) (λ may h. refused (FontsAsked c.args.index) name may why h) c.in_err-bytes.ensures.fetched)
