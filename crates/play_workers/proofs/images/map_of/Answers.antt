use Rattle.std.proofs.Common.{FitsSigned, arith, rules, to_z-of_z, w64}
use Rattle.play_workers.proofs.Painted.{map_written}
use Rattle.play_workers.proofs.images.map_of.Goals as goal

pub pam_bytes_in-requires : goal.pam_bytes_in-requires
pam_bytes_in-requires g c = let many = c.in_ok-pixels.ensures.pixels.count in omega (arith, many)

pub returns : goal.returns
returns g c =
    let fits : FitsSigned w64 c.args.frame.now.t = search rules in
    map_written c.args.frame.now c.in_ok-pixels.pixels.items c.pam_bytes_in.result c.in_ok-pixels.ensures.pixels (rw (to_z-of_z fits, c.as_slice.ensures.value) at c.pam_bytes_in.ensures)
