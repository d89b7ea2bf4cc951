use Rattle.std.proofs.Common.{FitsSigned, rules, to_z-of_z, w64}
use Rattle.play_workers.proofs.Painted.{canvas_pixels, pixmap_written}
use Rattle.play_workers.proofs.images.pixmap_of.Goals as goal

pub ppm_bytes_in-requires : goal.ppm_bytes_in-requires
ppm_bytes_in-requires g c = canvas_pixels c.args.frame.now c.in_ok-canvas.canvas _ c.in_ok-canvas.ensures.canvas c.pixels.ensures.count

pub returns : goal.returns
returns g c =
    let fits : FitsSigned w64 c.args.frame.now.t = search rules in
    pixmap_written c.args.frame.now c.in_ok-canvas.canvas c.pixels.result.now c.ppm_bytes_in.result c.in_ok-canvas.ensures.canvas c.pixels.ensures.bytes (rw (to_z-of_z fits) at c.ppm_bytes_in.ensures)
