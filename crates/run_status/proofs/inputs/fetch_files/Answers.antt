use Rattle.std.proofs.Common.{◌≡◌, ◌≢◌, Err, Ok, inl, refl, rules, subst}
use Rattle.run_status.specs.Inputs.{AreFontsRead, told_of}
use Rattle.run_status.specs.declared.status.Status.TheVariants.{OutOfMemory as memory_status}
use Rattle.run_status.proofs.FontLemmas.{fonts_refused, no_fonts}
use Rattle.run_status.proofs.FetchLemmas.{files_fetched, fonts_stopped, script_stopped}
use Rattle.run_status.proofs.inputs.fetch_files.Goals as goal

pub returns-in_err-read-clause-read : goal.returns-in_err-read-clause-read
returns-in_err-read-clause-read g c =
    let same : c.from_residual.result ≡ Err c.in_err-read.field-0.0 = search rules in
    rw same (inl c.in_err-read.ensures.read)

pub returns-clause-read : goal.returns-clause-read
returns-clause-read g c =
    (c.in_ok-read.read, c.in_ok-read.ensures.read, refl, subst (λ told. AreFontsRead told c.args.fonts.now c.in_ok-read.read.fonts (Ok c.in_ok-fonts.fonts)) c.fetch_script.ensures.kept (c.in_ok-fonts.ensures.read (λ e. cc)))

pub returns-in_err-fonts-clause-read : goal.returns-in_err-fonts-clause-read
returns-in_err-fonts-clause-read g c =
    let same : c.from_residual-in_err-fonts.result ≡ Err c.in_err-fonts.field-0.0 = search rules in
    let why = c.in_err-fonts.field-0.0 in
    rw same
    (fonts_refused (told_of (g.S.Shelf.told c.args.shelf.now)) c.args.script.now c.args.fonts.now c.in_ok-read.read why c.in_ok-read.ensures.read
    (subst (λ told. no_fonts why ≢ no_fonts memory_status → AreFontsRead told c.args.fonts.now c.in_ok-read.read.fonts (Err why)) c.fetch_script.ensures.kept c.in_err-fonts.ensures.read))

pub returns-in_err-read-clause-fetched : goal.returns-in_err-read-clause-fetched
returns-in_err-read-clause-fetched g c =
    let why = c.in_err-read.field-0.0 in
    let same : c.from_residual.result ≡ Err why = search rules in
    rw same
    (script_stopped c.args.script.now c.args.fonts.now (g.S.Shelf.log c.args.shelf.now) (g.S.Shelf.log c.fetch_script.new.shelf) why c.in_err-read.ensures.fetched)

pub returns-clause-fetched : goal.returns-clause-fetched
returns-clause-fetched g c =
    files_fetched c.args.script.now c.args.fonts.now (g.S.Shelf.log c.args.shelf.now) (g.S.Shelf.log c.fetch_script.new.shelf) (g.S.Shelf.log c.fetch_all_fonts.new.shelf) c.in_ok-read.read _
    c.in_ok-read.ensures.fetched refl c.in_ok-fonts.ensures.fetched

pub returns-in_err-fonts-clause-fetched : goal.returns-in_err-fonts-clause-fetched
returns-in_err-fonts-clause-fetched g c =
    let why = c.in_err-fonts.field-0.0 in
    let same : c.from_residual-in_err-fonts.result ≡ Err why = search rules in
    rw same
    (fonts_stopped c.args.script.now c.args.fonts.now (g.S.Shelf.log c.args.shelf.now) (g.S.Shelf.log c.fetch_script.new.shelf) (g.S.Shelf.log c.fetch_all_fonts.new.shelf) c.in_ok-read.read why
    c.in_ok-read.ensures.fetched c.in_err-fonts.ensures.fetched)
