use Rattle.border_region.proofs.wide_strips.StripFinder.new.Goals as goal

pub returns-clause-ready : goal.returns-clause-ready
returns-clause-ready c =
    let e = c.in_ok-ellipse.ensures in
    record { across = e.rx; down = e.ry; widths = e.widths; falling = e.falling; profile = rw c.as_slice.ensures.value at c.in_ok-profile.ensures }
