use Rattle.std.proofs.Common.{arith, rules, ap, ◌≡◌, pos, ◌+ℤ◌, ◌-ℤ◌, FitsSigned, w32, to_z-of_z}
use Rattle.std.proofs.lemmas.Int.{ints}
use Rattle.std.proofs.lemmas.Result.{on_ok_weaker}
use Rattle.border_region.specs.declared.ellipse.Ellipse.{Ellipse}
use Rattle.border_region.proofs.HeldLemmas.{held_more, strip_near, IsStripOf}
use Rattle.border_region.proofs.wide_strips.StripFinder.add_strip.Goals as goal
use Rattle.border_region.proofs.wide_strips.StripFinder.add_strip.Goals.{After-first_reached-first}

pub first_reached-first-requires-clause-low : goal.first_reached-first-requires-clause-low
first_reached-first-requires-clause-low c =
    let f : FitsSigned w32 c.top.result = search rules in
    rw (to_z-of_z f, c.top.ensures) c.requires.within.above

pub first_reached-first-requires-clause-high : goal.first_reached-first-requires-clause-high
first_reached-first-requires-clause-high c =
    let f : FitsSigned w32 c.top.result = search rules in
    let below = c.requires.within.below in
    let row = c.requires.row in
    rw (to_z-of_z f, c.top.ensures) (omega (arith, ints, below, row))

pub first_reached-first-requires-clause-down : goal.first_reached-first-requires-clause-down
first_reached-first-requires-clause-down c =
    let down : c.widen.new.self.ellipse.ry ≡ c.args.self.now.ellipse.ry = ap (λ (e : Ellipse). e.ry) c.in_ok-widen.ensures.ellipse in
    let few = c.requires.found.ready.falling.few in
    let count = c.requires.found.ready.widths.count in
    rw down (omega (arith, few, count))

-- where the widened strip begins
begins : (c : After-first_reached-first) → c.first_reached-first.result ≡ (c.args.region.now.top +ℤ pos c.args.k) -ℤ pos c.args.self.now.ellipse.ry
begins c =
    let f : FitsSigned w32 c.top.result = search rules in
    let down : c.widen.new.self.ellipse.ry ≡ c.args.self.now.ellipse.ry = ap (λ (e : Ellipse). e.ry) c.in_ok-widen.ensures.ellipse in
    rw (to_z-of_z f, c.top.ensures, down) at c.first_reached-first.ensures

-- the ellipse and the profile stay, and the strip that was found is the one that was widened
strip : (c : After-first_reached-first) → IsStripOf c.args.region.now c.args.self.now.ellipse.rx c.args.self.now.ellipse.ry c.args.self.now.ellipse.half_widths.items c.args.k c.args.n c.args.self.now.profile.items c.find.new.self.lefts.items
    c.find.new.self.rights.items c.widen.new.self.runs.items
strip c =
    let r = c.requires.found.ready in
    record { half_widths = r.widths; falling = r.falling; is_profile = r.profile; strip = c.in_ok-find.ensures.strip; wide = c.in_ok-widen.ensures.runs }

pub add-requires-clause-low : goal.add-requires-clause-low
add-requires-clause-low c =
    let a = (goal.at.add-requires-clause-low c).After-first_reached-first in
    let e = c.args.self.now.ellipse in
    let near = strip_near c.args.region.now e.rx e.ry e.half_widths.items c.args.k c.args.n c.args.self.now.profile.items c.find.new.self.lefts.items c.find.new.self.rights.items c.widen.new.self.runs.items c.requires.within (strip a) in
    let f : FitsSigned w32 c.first_reached-first.result = search rules in
    rw (to_z-of_z f, begins a) near.0

pub add-requires-clause-high : goal.add-requires-clause-high
add-requires-clause-high c =
    let a = (goal.at.add-requires-clause-high c).After-first_reached-first in
    let e = c.args.self.now.ellipse in
    let near = strip_near c.args.region.now e.rx e.ry e.half_widths.items c.args.k c.args.n c.args.self.now.profile.items c.find.new.self.lefts.items c.find.new.self.rights.items c.widen.new.self.runs.items c.requires.within (strip a) in
    let f : FitsSigned w32 c.first_reached-first.result = search rules in
    rw (to_z-of_z f, begins a, c.as_slice.ensures.value) near.1

pub returns : goal.returns
returns c =
    let a = (goal.at.returns c).After-first_reached-first in
    let found = c.requires.found in
    let r = found.ready in
    let e = c.args.self.now.ellipse in
    let near = strip_near c.args.region.now e.rx e.ry e.half_widths.items c.args.k c.args.n c.args.self.now.profile.items c.find.new.self.lefts.items c.find.new.self.rights.items c.widen.new.self.runs.items c.requires.within (strip a) in
    let f : FitsSigned w32 c.first_reached-first.result = search rules in
    let same = c.in_ok-widen.ensures.ellipse in
    let added = rw (to_z-of_z f, begins a, c.as_slice.ensures.value, c.in_ok-widen.ensures.wide) at c.add.ensures in
    on_ok_weaker c.add.result
    (λ more. record {
      ready = record { across = ap (λ (x : Ellipse). x.rx) same; down = ap (λ (x : Ellipse). x.ry) same; widths = rw same r.widths; falling = rw same r.falling; profile = rw (same, c.in_ok-widen.ensures.profile) r.profile };
      holds = rw (same, more.spans_are, more.runs_are) (held_more c.args.region.now e.rx e.ry e.half_widths.items c.args.k c.args.n c.args.self.now.profile.items c.find.new.self.lefts.items c.find.new.self.rights.items c.widen.new.self.runs.items
          c.args.self.now.wide.spans.items c.args.self.now.wide.runs (strip a) near.0 near.1 found.holds);
    })
    added
