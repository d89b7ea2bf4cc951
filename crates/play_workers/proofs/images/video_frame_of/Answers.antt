use Rattle.play_workers.proofs.Painted.{canvas_pixels, video_written}
use Rattle.play_workers.proofs.images.video_frame_of.Goals as goal

pub frame_bytes_in-requires-clause-bytes : goal.frame_bytes_in-requires-clause-bytes
frame_bytes_in-requires-clause-bytes g c = canvas_pixels c.args.frame.now c.in_ok-canvas.canvas _ c.in_ok-canvas.ensures.canvas c.pixels.ensures.count

pub returns : goal.returns
returns g c =
    video_written c.args.form c.args.frame.now c.in_ok-canvas.canvas c.pixels.result.now c.frame_bytes_in.result c.in_ok-canvas.ensures.canvas c.pixels.ensures.bytes c.frame_bytes_in.ensures
