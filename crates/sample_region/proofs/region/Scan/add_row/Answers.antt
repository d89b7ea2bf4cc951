use Rattle.std.proofs.Common.{arith, ◌+ℤ◌, ◌-ℤ◌, ◌≡◌, pos, to_z-of_z}
use Rattle.std.proofs.lemmas.Int.{ints}
use Rattle.ass_num.specs.Winding.{place}
use Rattle.sample_region.specs.Carried.{live_edges}
use Rattle.sample_region.specs.Crossings.{is_inside}
use Rattle.sample_region.proofs.SteadyLemmas.{swept_later}
use Rattle.sample_region.proofs.region.Scan.add_row.Goals as goal

pub returns : goal.returns
returns c =
    let reached = rw (to_z-of_z c.ranges.j) at c.in_ok-find_row.ensures.reached in
    let steady = rw (to_z-of_z c.ranges.j) at c.in_ok-find_row.ensures.steady in
    let row = rw (to_z-of_z c.ranges.j) at c.in_ok-find_row.ensures.row in
    let carried = rw (to_z-of_z c.ranges.j) at c.in_ok-find_row.ensures.carried in
    let here : (c.args.j +ℤ pos 1) -ℤ pos 1 ≡ c.args.j = omega (arith, ints) in
    record {
      reached = swept_later (place c.args.j) (place (c.args.j +ℤ pos 1)) c.args.edges.now c.find_row.new.self.sweep.begun (live_edges c.find_row.new.self.sweep.active.items) reached (omega (arith, ints));
      steady = λ k l s. steady k (omega (arith, ints)) s;
      carried = rw here carried;
      grown = c.in_ok-add.ensures (is_inside c.args.edges.now) c.args.j (rw c.find_row.ensures.growth c.requires.rows.grown) (rw c.as_slice.ensures.value row);
    }
