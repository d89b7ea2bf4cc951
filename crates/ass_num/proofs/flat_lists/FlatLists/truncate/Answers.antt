use Rattle.std.proofs.Common.{arith, ◌≡◌, sym, length, take, length-take}
use Rattle.ass_num.specs.Pieces.{start}
use Rattle.ass_num.proofs.PiecesLemmas.{count_within, start-above, take-pieces, IsCut-take}
use Rattle.ass_num.proofs.flat_lists.FlatLists.truncate.Goals as goal

pub start-end-requires : goal.start-end-requires
start-end-requires g c = rw c.as_slice.ensures.value (count_within c.self.inside.ends.items c.self.inside.items.items _ c.args.count c.self.view_is c.requires)

pub invariant_of-self : goal.invariant_of-self
invariant_of-self g c =
    let l = count_within c.self.inside.ends.items c.self.inside.items.items _ c.args.count c.self.view_is c.requires in
    let e : c.start-end.result ≡ start 0 c.self.inside.ends.items c.args.count = rw c.as_slice.ensures.value at c.start-end.ensures in
    let a = start-above 0 c.self.inside.ends.items c.args.count (length c.self.inside.items.items) l c.self.invariant in
    let k : length (take (start 0 c.self.inside.ends.items c.args.count) c.self.inside.items.items) ≡ start 0 c.self.inside.ends.items c.args.count = omega (arith, a, length-take (start 0 c.self.inside.ends.items c.args.count) c.self.inside.items.items) in
    rw (c.truncate.ensures.items, c.truncate-2.ensures.items, e, k) (IsCut-take 0 c.self.inside.ends.items (length c.self.inside.items.items) c.args.count l c.self.invariant)

pub returns : goal.returns
returns g c =
    let l = count_within c.self.inside.ends.items c.self.inside.items.items _ c.args.count c.self.view_is c.requires in
    let e : c.start-end.result ≡ start 0 c.self.inside.ends.items c.args.count = rw c.as_slice.ensures.value at c.start-end.ensures in
    rw (c.truncate.ensures.items, c.truncate-2.ensures.items, ← c.self.view_is) (sym (take-pieces 0 c.self.inside.ends.items c.self.inside.items.items c.args.count c.start-end.result l c.self.invariant (omega (arith, e))))
