use Rattle.std.proofs.Common.{◌<◌, ◌+◌, ◌-◌, ◌*◌, ◌/◌, length, refl, arith}
use Rattle.frame_change.proofs.BoxLemmas.{some_column, rows_within, last_rows, least_is}
use Rattle.frame_change.proofs.pixels.changed_box.Goals as goal

pub changed_columns-x1-requires-clause-within : goal.changed_columns-x1-requires-clause-within
changed_columns-x1-requires-clause-within c =
    let size = c.args.size.now in
    let a = c.args.a.now in
    let first = c.first_change-first.result in
    let last = c.last_change.result in
    let inside : first < length a = omega (arith, c.if-first-a.false, c.first_change-first.ensures.within) in
    let rows = last_rows size a c.args.b.now c.requires.a first last (some_column size a first c.requires.a inside) inside
    c.first_change-first.ensures.same (c.first_change-first.ensures.differs inside) c.last_change.ensures.within c.last_change.ensures.same c.last_change.ensures.differs in
    omega (arith, rows_within size.w size.h ((last - 1) / (3 * size.w) + 1) rows, c.requires.a)

pub returns-clause-some : goal.returns-clause-some
returns-clause-some c =
    let size = c.args.size.now in
    let a = c.args.a.now in
    let first = c.first_change-first.result in
    let last = c.last_change.result in
    let inside : first < length a = omega (arith, c.if-first-a.false, c.first_change-first.ensures.within) in
    least_is size a c.args.b.now c.requires.a first last (some_column size a first c.requires.a inside) inside
    c.first_change-first.ensures.same (c.first_change-first.ensures.differs inside) c.last_change.ensures.within c.last_change.ensures.same c.last_change.ensures.differs
    c.changed_columns-x1.result.0 c.changed_columns-x1.result.1 c.changed_columns-x1.ensures _ refl refl refl refl
