use Rattle.generated_script.proofs.GridLemmas.{blank_bitmap}
use Rattle.generated_script.proofs.font.blank.Goals as goal

pub of_pixels-requires : goal.of_pixels-requires
of_pixels-requires c = rw c.new.ensures blank_bitmap
