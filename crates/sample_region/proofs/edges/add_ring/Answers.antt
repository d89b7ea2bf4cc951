use Rattle.std.proofs.Common.{refl, sym, ap, ◌∙◌, ◌≡◌, ◌++◌, ◌-◌, List, length, take, drop, get_or, pos, flat_map}
use Rattle.std.proofs.lemmas.List.{take_rest}
use Rattle.ass_num.specs.Winding.{line, edges}
use Rattle.ass_num.specs.declared.geometry.Point.{Point}
use Rattle.sample_region.specs.Edges.{down_from}
use Rattle.sample_region.proofs.EdgeLemmas.{line_more, line_all, ring_of}
use Rattle.sample_region.proofs.edges.add_ring.Goals as goal

abbrev rest : List Point → List Point
rest ring = take (length ring - 1) (drop 1 ring)

abbrev none : Point
none = record { x = pos 0; y = pos 0 }

abbrev first : List Point → Point
first ring = get_or ring 0 none

pub loop-p-preserved : goal.loop-p-preserved
loop-p-preserved c =
    let p = get_or (rest c.args.ring.now) c.loop-p.p-index none in
    rw c.in_ok-add_edge.ensures (line_more c.loop-p.list.items c.loop-p.last (first c.args.ring.now) (rest c.args.ring.now) c.loop-p.p-index none p c.loop-p-test.true refl ∙ c.loop-p.invariant)

pub returns : goal.returns
returns c =
    let whole : edges c.args.ring.now ≡ line (first c.args.ring.now) (rest c.args.ring.now) (first c.args.ring.now) =
    ap edges (ring_of c.args.ring.now none c.in-len1-up.len_at_least) ∙ ap (λ r. line (first c.args.ring.now) r (first c.args.ring.now)) (sym (take_rest c.args.ring.now 1)) in
    let e : c.loop-p.list.items ++ down_from (c.loop-p.last, first c.args.ring.now) ≡ c.args.list.now.items ++ flat_map down_from (edges c.args.ring.now) =
    line_all c.loop-p.list.items c.loop-p.last (first c.args.ring.now) (rest c.args.ring.now) c.loop-p.p-index c.loop-p-test.false ∙ c.loop-p.invariant ∙ ap (λ es. c.args.list.now.items ++ flat_map down_from es) (sym whole) in
    rw e at c.add_edge-2.ensures
