use Rattle.std.proofs.Common.{rules, arith, ◌∙◌, ◌≡◌, ◌++◌, length, vec_len, length-append}
use Rattle.ass_num.proofs.PiecesLemmas.{IsCut-push, pieces-push}
use Rattle.ass_num.proofs.flat_lists.FlatLists.push.Goals as goal

pub invariant_of-self-in-Ok : goal.invariant_of-self-in-Ok
invariant_of-self-in-Ok g c =
    let n : vec_len c.extend_from_slice.new.self ≡ length c.extend_from_slice.new.self.items = search rules in
    let e : c.len.result ≡ length c.extend_from_slice.new.self.items = c.len.ensures ∙ n in
    let x : c.extend_from_slice.new.self.items ≡ c.self.inside.items.items ++ c.args.list.now = c.in_ok-extend_from_slice.ensures.items in
    rw (c.in-Ok.ensures.items, e, x) (IsCut-push 0 c.self.inside.ends.items (length c.self.inside.items.items) (length (c.self.inside.items.items ++ c.args.list.now)) c.self.invariant (omega (arith, length-append c.self.inside.items.items c.args.list.now)))

pub returns-in-Ok-clause-ok : goal.returns-in-Ok-clause-ok
returns-in-Ok-clause-ok g c =
    let n : vec_len c.extend_from_slice.new.self ≡ length c.extend_from_slice.new.self.items = search rules in
    let e : c.len.result ≡ length c.extend_from_slice.new.self.items = c.len.ensures ∙ n in
    let x : c.extend_from_slice.new.self.items ≡ c.self.inside.items.items ++ c.args.list.now = c.in_ok-extend_from_slice.ensures.items in
    rw (c.in-Ok.ensures.items, e, x, ← c.self.view_is) (pieces-push 0 c.self.inside.ends.items c.self.inside.items.items c.args.list.now (length (c.self.inside.items.items ++ c.args.list.now)) c.self.invariant (omega arith))
