use Rattle.std.proofs.Common.{rules, ◌≡◌, pos, refl, slice_index_or, FitsSigned, w64, to_z-of_z}
use Rattle.event_instants.specs.Instants.{moved, nth}
use Rattle.tag_state.proofs.choices.corners_moved.Goals as goal

pub returns : goal.returns
returns c =
    let o0 : FitsSigned w64 (slice_index_or c.args.old.now 0 (pos 0)) = search rules in
    let o1 : FitsSigned w64 (slice_index_or c.args.old.now 1 (pos 0)) = search rules in
    let o2 : FitsSigned w64 (slice_index_or c.args.old.now 2 (pos 0)) = search rules in
    let o3 : FitsSigned w64 (slice_index_or c.args.old.now 3 (pos 0)) = search rules in
    let n0 : FitsSigned w64 (slice_index_or c.args.new.now 0 (pos 0)) = search rules in
    let n1 : FitsSigned w64 (slice_index_or c.args.new.now 1 (pos 0)) = search rules in
    let n2 : FitsSigned w64 (slice_index_or c.args.new.now 2 (pos 0)) = search rules in
    let n3 : FitsSigned w64 (slice_index_or c.args.new.now 3 (pos 0)) = search rules in
    let r0 : FitsSigned w64 c.moved.result = search rules in
    let r1 : FitsSigned w64 c.moved-2.result = search rules in
    let r2 : FitsSigned w64 c.moved-3.result = search rules in
    let r3 : FitsSigned w64 c.moved-4.result = search rules in
    let m0 : c.moved.result ≡ moved (nth c.args.old.now 0) (nth c.args.new.now 0) c.args.weight = rw (to_z-of_z o0, to_z-of_z n0) at c.moved.ensures.value in
    let m1 : c.moved-2.result ≡ moved (nth c.args.old.now 1) (nth c.args.new.now 1) c.args.weight = rw (to_z-of_z o1, to_z-of_z n1) at c.moved-2.ensures.value in
    let m2 : c.moved-3.result ≡ moved (nth c.args.old.now 2) (nth c.args.new.now 2) c.args.weight = rw (to_z-of_z o2, to_z-of_z n2) at c.moved-3.ensures.value in
    let m3 : c.moved-4.result ≡ moved (nth c.args.old.now 3) (nth c.args.new.now 3) c.args.weight = rw (to_z-of_z o3, to_z-of_z n3) at c.moved-4.ensures.value in
    rw (to_z-of_z r0, to_z-of_z r1, to_z-of_z r2, to_z-of_z r3, m0, m1, m2, m3) refl
