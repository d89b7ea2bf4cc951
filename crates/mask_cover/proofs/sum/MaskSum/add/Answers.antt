use Rattle.std.proofs.Common.{◌≡◌, ℕ, ◌+◌, ◌*◌, ◌≤◌, ◌==◌, true, ℤ, pos, ◌+ℤ◌, List, length, get_or, Fits, w8, w32, sym, ap, ◌∙◌, subst, arith, rules}
use Rattle.std.proofs.Math.Nat.{mul-le-mul_left}
use Rattle.std.proofs.lemmas.Int.{ints}
use Rattle.std.proofs.lemmas.List.{with_items_is}
use Rattle.std.specs.Int.RustNames.{FitsSigned}
use Rattle.std.specs.Vec.{with_items}
use Rattle.ass_num.specs.Masks.{MaskValue}
use Rattle.mask_cover.specs.Rows.{AddsCells}
use Rattle.mask_cover.specs.Sums.{AddsMask}
use Rattle.ass_num.proofs.MaskLemmas.{mask_length, no_pixels}
use Rattle.mask_cover.proofs.ExtentLemmas.{placed}
use Rattle.mask_cover.proofs.RowSums.{add_is, add_none, sum_more}
use Rattle.mask_cover.proofs.sum.MaskSum.add.Goals as goal

pub returns-then-is_empty-clause-sum : goal.returns-then-is_empty-clause-sum
returns-then-is_empty-clause-sum c =
    let m : MaskValue = c.args.mask.now in
    let p : MaskValue × ℤ × ℤ = (m, c.args.dx, c.args.dy) in
    let old : MaskValue = record { x = c.self.inside.x; y = c.self.inside.y; w = c.self.inside.w; h = c.self.inside.h; bytes = c.self.inside.bytes.items } in
    let none : (length m.bytes == 0) ≡ true = ap (λ z. length z == 0) (sym c.bytes.ensures.bytes) ∙ sym c.is_empty.ensures ∙ c.if-is_empty.true in
    let kept : (with_items c.self.inside.bytes c.as_mut_slice-sums.result.now).items ≡ c.as_mut_slice-sums.result.now = with_items_is c.self.inside.bytes c.as_mut_slice-sums.result.now (omega arith) in
    let fits : (k : ℕ) → Fits w8 (get_or c.as_mut_slice-sums.result.now k 0) = λ k. search rules in
    let small : (k : ℕ) → get_or old.bytes k 0 ≤ 255 = λ k. let f = fits k in let e = ap (λ z. get_or z k 0) c.as_mut_slice-sums.ensures.value in omega (arith, e, f) in
    let B : List ℕ → Type 0 = λ z. AddsMask p c.args.self.now (record { x = c.self.inside.x; y = c.self.inside.y; w = c.self.inside.w; h = c.self.inside.h; bytes = z }) in
    let Q : MaskValue → Type 0 = λ z. AddsMask p z old in
    λ parts before. sum_more parts p c.args.self.now _ (subst B (sym (kept ∙ c.as_mut_slice-sums.ensures.value)) (subst Q c.self.view_is (add_none p old (no_pixels m c.bytes.ensures.canonical none).w small))) before

pub place_in-column-requires : goal.place_in-column-requires
place_in-column-requires c =
    let moved = placed _ c.args.dx c.args.dy _ _ _ _ c.self.view_is c.bytes.ensures.canonical c.bytes.ensures.bytes c.is_empty.ensures c.if-is_empty.false c.requires in
    let left : FitsSigned w32 c.self.inside.x = search rules in
    let by : FitsSigned w32 c.args.dx = search rules in
    let x : FitsSigned w32 c.x.result = search rules in
    omega (arith, ints, moved.left, c.x.ensures)

pub place_in-row-requires : goal.place_in-row-requires
place_in-row-requires c =
    let moved = placed _ c.args.dx c.args.dy _ _ _ _ c.self.view_is c.bytes.ensures.canonical c.bytes.ensures.bytes c.is_empty.ensures c.if-is_empty.false c.requires in
    let top : FitsSigned w32 c.self.inside.y = search rules in
    let by : FitsSigned w32 c.args.dy = search rules in
    let y : FitsSigned w32 c.y.result = search rules in
    omega (arith, ints, moved.top, c.y.ensures)

pub add_rows-requires-clause-columns : goal.add_rows-requires-clause-columns
add_rows-requires-clause-columns c =
    let moved = placed _ c.args.dx c.args.dy _ _ _ _ c.self.view_is c.bytes.ensures.canonical c.bytes.ensures.bytes c.is_empty.ensures c.if-is_empty.false c.requires in
    let left : FitsSigned w32 c.self.inside.x = search rules in
    let by : FitsSigned w32 c.args.dx = search rules in
    let x : FitsSigned w32 c.x.result = search rules in
    omega (arith, ints, moved.right, c.x.ensures, c.place_in-column.ensures)

pub add_rows-requires-clause-rows : goal.add_rows-requires-clause-rows
add_rows-requires-clause-rows c =
    let moved = placed _ c.args.dx c.args.dy _ _ _ _ c.self.view_is c.bytes.ensures.canonical c.bytes.ensures.bytes c.is_empty.ensures c.if-is_empty.false c.requires in
    let top : FitsSigned w32 c.self.inside.y = search rules in
    let by : FitsSigned w32 c.args.dy = search rules in
    let y : FitsSigned w32 c.y.result = search rules in
    let fits : c.place_in-row.result + c.args.mask.now.h ≤ c.self.inside.h = omega (arith, ints, moved.bottom, c.y.ensures, c.place_in-row.ensures) in
    let size : length c.as_mut_slice-sums.result.now ≡ c.self.inside.w * c.self.inside.h = ap length c.as_mut_slice-sums.ensures.value ∙ mask_length (record { x = c.self.inside.x; y = c.self.inside.y; w = c.self.inside.w; h = c.self.inside.h; bytes = c.self.inside.bytes.items }) c.self.invariant in
    omega (arith, size, mul-le-mul_left c.self.inside.w fits)

pub returns-clause-sum : goal.returns-clause-sum
returns-clause-sum c =
    let m : MaskValue = c.args.mask.now in
    let p : MaskValue × ℤ × ℤ = (m, c.args.dx, c.args.dy) in
    let old : MaskValue = record { x = c.self.inside.x; y = c.self.inside.y; w = c.self.inside.w; h = c.self.inside.h; bytes = c.self.inside.bytes.items } in
    let moved = placed m c.args.dx c.args.dy old _ _ _ c.self.view_is c.bytes.ensures.canonical c.bytes.ensures.bytes c.is_empty.ensures c.if-is_empty.false c.requires in
    let left : FitsSigned w32 c.self.inside.x = search rules in
    let top : FitsSigned w32 c.self.inside.y = search rules in
    let across : FitsSigned w32 c.args.dx = search rules in
    let down : FitsSigned w32 c.args.dy = search rules in
    let x : FitsSigned w32 c.x.result = search rules in
    let y : FitsSigned w32 c.y.result = search rules in
    let column : m.x +ℤ c.args.dx ≡ c.self.inside.x +ℤ pos c.place_in-column.result = omega (arith, ints, c.x.ensures, c.place_in-column.ensures) in
    let row : m.y +ℤ c.args.dy ≡ c.self.inside.y +ℤ pos c.place_in-row.result = omega (arith, ints, c.y.ensures, c.place_in-row.ensures) in
    let r = moved.right in
    let b = moved.bottom in
    let bytes : List ℕ = c.add_rows.new.sums in
    let C : List ℕ → Type 0 = λ z. AddsCells m c.self.inside.w c.place_in-column.result c.place_in-row.result m.h z bytes in
    let new : MaskValue = record { x = c.self.inside.x; y = c.self.inside.y; w = c.self.inside.w; h = c.self.inside.h; bytes = bytes } in
    let Q : MaskValue → Type 0 = λ z. AddsMask p z new in
    let kept : (with_items c.self.inside.bytes bytes).items ≡ bytes = with_items_is c.self.inside.bytes bytes (omega arith) in
    let B : List ℕ → Type 0 = λ z. AddsMask p c.args.self.now (record { x = c.self.inside.x; y = c.self.inside.y; w = c.self.inside.w; h = c.self.inside.h; bytes = z }) in
    λ parts before. sum_more parts p c.args.self.now _ (subst B (sym kept) (subst Q c.self.view_is (add_is p old bytes c.place_in-column.result c.place_in-row.result column row (omega (arith, ints, column, r)) (omega (arith, ints, row, b)) c.self.invariant
    (subst C c.as_mut_slice-sums.ensures.value c.add_rows.ensures)))) before
