use Rattle.std.proofs.Common.{◌≡◌, ◌∙◌, ◌++◌, ◌+◌, All, length, arith, Err, refl, rules, inl, subst, sym}
use Rattle.std.proofs.lemmas.List.Elements.{All-append, All-nil}
use Rattle.bdf_font.specs.Ranges.{IsFont}
use Rattle.run_status.proofs.FontLemmas.{read_more, read_none, stopped}
use Rattle.ass_io.specs.Fetches.{fetch_change}
use Rattle.run_status.specs.declared.status.Status.TheVariants.{OutOfMemory as memory_status}
use Rattle.run_status.proofs.FetchLemmas.{fetched_many, fetched_more, fetched_none, fetched_stopped, fetched_without_memory}
use Rattle.run_status.proofs.inputs.fetch_all_fonts.Goals as goal

pub loop-index-init : goal.loop-index-init
loop-index-init g c = record {
  told = refl;
  faults = refl;
  found = read_none _ _ _ c.new-all.ensures.items;
  each = subst (All IsFont) (sym c.new-all.ensures.items) (All-nil IsFont);
  fetched = fetched_none c.args.names.now (g.S.Shelf.log c.args.shelf.now) _ c.new-all.ensures.items;
}

pub returns-in_err-file-clause-read : goal.returns-in_err-file-clause-read
returns-in_err-file-clause-read g c =
    let kept = c.loop-index.invariant in
    let why = c.in_err-file.field-0.0 in
    let same : c.from_residual.result ≡ Err why = search rules in
    rw same
    (λ other. inl (stopped (g.S.Shelf.told c.args.shelf.now) (g.S.Shelf.told c.loop-index.shelf) c.args.names.now kept.found.files c.loop-index.index why kept.told kept.found.count c.loop-index-test.true kept.found.first c.in_err-file.ensures.read))

pub loop-index-preserved : goal.loop-index-preserved
loop-index-preserved g c =
    let kept = c.loop-index.invariant in
    let file = c.in_ok-file.file in
    let more : c.append_fonts.new.all.items ≡ c.loop-index.all.items ++ file = c.in_ok-append_fonts.ensures in
    record {
      told = c.fetch_fonts_at.ensures.kept ∙ kept.told;
      faults = c.in_ok-file.ensures.counted ∙ kept.faults;
      found = read_more (g.S.Shelf.told c.args.shelf.now) (g.S.Shelf.told c.loop-index.shelf) c.args.names.now c.loop-index.index c.loop-index.all.items c.append_fonts.new.all.items file kept.told kept.found c.in_ok-file.ensures.read more;
      each = subst (All IsFont) (sym more) (All-append IsFont c.loop-index.all.items file kept.each c.in_ok-file.ensures.fonts);
      fetched = fetched_more c.args.names.now c.loop-index.index (g.S.Shelf.log c.args.shelf.now) (g.S.Shelf.log c.loop-index.shelf) (g.S.Shelf.log c.fetch_fonts_at.new.shelf) c.loop-index-test.true
          c.loop-index.all.items c.append_fonts.new.all.items file kept.fetched c.in_ok-file.ensures.fetched more;
    }

pub returns-clause-fonts : goal.returns-clause-fonts
returns-clause-fonts g c =
    let at = c.loop-index in
    let put = c.in_ok-append_fonts-2.ensures in
    let whole = c.from_vec.ensures in
    let made : c.from_vec.result ≡ at.all.items ++ c.args.own = cc in
    subst (All IsFont) (sym made) (All-append IsFont at.all.items c.args.own at.invariant.each c.requires)

pub returns-in_err-file-clause-fetched : goal.returns-in_err-file-clause-fetched
returns-in_err-file-clause-fetched g c =
    let why = c.in_err-file.field-0.0 in
    let same : c.from_residual.result ≡ Err why = search rules in
    rw same
    (fetched_stopped c.args.names.now c.loop-index.index (g.S.Shelf.log c.args.shelf.now) (g.S.Shelf.log c.loop-index.shelf) (g.S.Shelf.log c.fetch_fonts_at.new.shelf) c.loop-index-test.true
    c.loop-index.all.items c.args.own why c.loop-index.invariant.fetched c.in_err-file.ensures.fetched)

pub returns-in_err-append_fonts-clause-fetched : goal.returns-in_err-append_fonts-clause-fetched
returns-in_err-append_fonts-clause-fetched g c =
    let before = g.S.Shelf.log c.args.shelf.now in
    let next = g.S.Shelf.log c.fetch_fonts_at.new.shelf in
    let at = c.loop-index in
    let file = c.in_ok-file.file in
    let same : c.from_residual-in_err-append_fonts.result ≡ Err memory_status = search rules in
    rw same
    (fetched_without_memory c.args.names.now c.args.own (fetch_change before next) (at.index + 1) (at.all.items ++ file)
    (fetched_more c.args.names.now at.index before (g.S.Shelf.log at.shelf) next c.loop-index-test.true at.all.items (at.all.items ++ file) file at.invariant.fetched c.in_ok-file.ensures.fetched refl))

pub returns-then-len-gt-MAX_FONTS-clause-fetched :
    goal.returns-then-len-gt-MAX_FONTS-clause-fetched
returns-then-len-gt-MAX_FONTS-clause-fetched g c =
    let at = c.loop-index in
    let many = c.if-len-gt-MAX_FONTS.true in
    let all = c.append_fonts-2.new.all.items in
    let size : c.len.result ≡ length all = search rules in
    fetched_many c.args.names.now c.args.own (fetch_change (g.S.Shelf.log c.args.shelf.now) (g.S.Shelf.log at.shelf)) at.index at.all.items at.invariant.fetched all
    (omega (arith, c.loop-index-test.false, at.auto.index-end)) c.in_ok-append_fonts-2.ensures (omega (arith, many, size))
