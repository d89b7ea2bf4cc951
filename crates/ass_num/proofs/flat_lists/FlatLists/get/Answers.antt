use Rattle.std.proofs.Common.{rules, arith, ◌∙◌, ◌≡◌, length, vec_len}
use Rattle.ass_num.proofs.PiecesLemmas.{place_within, piece_ends, piece_is}
use Rattle.ass_num.proofs.flat_lists.FlatLists.get.Goals as goal

pub start-requires : goal.start-requires
start-requires g c =
    let l = place_within c.self.inside.ends.items c.self.inside.items.items _ c.args.k c.self.view_is c.requires in
    rw c.as_slice-ends.ensures.value (omega (arith, l))

pub overflow_add-k : goal.overflow_add-k
overflow_add-k g c =
    let l = place_within c.self.inside.ends.items c.self.inside.items.items _ c.args.k c.self.view_is c.requires in
    let n : vec_len c.self.inside.ends ≡ length c.self.inside.ends.items = search rules in
    search (rules, l, n)

pub start-requires-2 : goal.start-requires-2
start-requires-2 g c =
    let l = place_within c.self.inside.ends.items c.self.inside.items.items _ c.args.k c.self.view_is c.requires in
    rw c.as_slice-ends.ensures.value (omega (arith, l))

pub part-requires-clause-ascends : goal.part-requires-clause-ascends
part-requires-clause-ascends g c =
    let l = place_within c.self.inside.ends.items c.self.inside.items.items _ c.args.k c.self.view_is c.requires in
    rw (c.start.ensures, c.start-2.ensures, c.as_slice-ends.ensures.value) (piece_ends c.self.inside.ends.items (length c.self.inside.items.items) c.args.k c.self.invariant l).0

pub part-requires-clause-within : goal.part-requires-clause-within
part-requires-clause-within g c =
    let l = place_within c.self.inside.ends.items c.self.inside.items.items _ c.args.k c.self.view_is c.requires in
    rw (c.start-2.ensures, c.as_slice-ends.ensures.value, c.as_slice.ensures.value) (piece_ends c.self.inside.ends.items (length c.self.inside.items.items) c.args.k c.self.invariant l).1

pub returns : goal.returns
returns g c =
    let l = place_within c.self.inside.ends.items c.self.inside.items.items _ c.args.k c.self.view_is c.requires in
    c.part.ensures ∙ piece_is c.self.inside.ends.items c.self.inside.items.items c.args.k _ _ _ _ c.self.view_is l (rw c.as_slice-ends.ensures.value at c.start-2.ensures) (rw c.as_slice-ends.ensures.value at c.start.ensures) c.as_slice.ensures.value
