use Rattle.renderer.proofs.Together.{joined-of}
use Rattle.renderer.proofs.renderer.Renderer.join.Goals as goal

pub returns : goal.returns
returns c =
    let e = c.join-track.ensures in let f = c.join-caches.ensures in
    let of = rw (← c.self.view_is, ← c.pass.view_is) at c.requires.passes.0 in
    rw (← c.self.view_is, ← c.pass.view_is, ← c.other.view_is) (record {
      is_of = record { track = joined-of c.self.inside.track c.pass.inside.track c.other.inside.track c.join-track.result of.track e.pass; caches = f.pass };
      track = record { is = e.pass; begins = e.begins.0; begins_other = e.begins.1; own = e.mine; itself = e.itself };
      caches = f.joined;
    })
