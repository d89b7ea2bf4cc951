use Rattle.std.proofs.Common.{rules, arith, SFits, to_z, of_z, w64, true, false}
use Rattle.std.proofs.lemmas.Int.{to_z-of_z}
use Rattle.line_layout.proofs.FillLemmas.{filled-IsOutermost}
use Rattle.line_layout.proofs.BestLemmas.{outermost-IsBest}
use Rattle.line_layout.proofs.breaks.choose_breaks.Goals as goal
use Rattle.line_layout.proofs.breaks.choose_breaks.Goals.{then-style-eq0+in_ok-fill-2, else-style-eq0+in_ok-fill_back}

pub returns-clause-greatest : goal.returns-clause-greatest
returns-clause-greatest c = λ e.
    let ws = c.args.widths.now in
    let s = c.args.spaces.now in
    let max = to_z w64 (of_z w64 c.args.max) in
    let limit = c.in_ok-limit.limit in
    let f : SFits w64 limit = search rules in
    elim c.if-style-eq0.branch [
      | then-style-eq0+in_ok-fill-2 w ↦
          rw w.places-is
          (rw (to_z-of_z w64 c.args.max c.ranges.max) at
          (outermost-IsBest ws s max limit true _ _ c.requires.paragraph c.in_ok-fill.ensures c.in_ok-limit.ensures
          (filled-IsOutermost ws s limit _ c.requires.paragraph (rw (to_z-of_z w64 limit f) at w.in_ok-fill-2.ensures))))
      | else-style-eq0+in_ok-fill_back w ↦ absurd (w.if-style-eq0.false e)
    ]

pub returns-clause-least : goal.returns-clause-least
returns-clause-least c = λ e.
    let ws = c.args.widths.now in
    let s = c.args.spaces.now in
    let max = to_z w64 (of_z w64 c.args.max) in
    let limit = c.in_ok-limit.limit in
    let f : SFits w64 limit = search rules in
    elim c.if-style-eq0.branch [
      | then-style-eq0+in_ok-fill-2 w ↦ let a = w.if-style-eq0.true in absurd (omega (arith, a, e))
      | else-style-eq0+in_ok-fill_back w ↦
          rw w.places-is
          (rw (to_z-of_z w64 c.args.max c.ranges.max) at
          (outermost-IsBest ws s max limit false _ _ c.requires.paragraph c.in_ok-fill.ensures c.in_ok-limit.ensures
          (rw (to_z-of_z w64 limit f) at w.in_ok-fill_back.ensures)))
    ]
