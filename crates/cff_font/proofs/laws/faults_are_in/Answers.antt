use Rattle.cff_font.proofs.TableFaults.{faults-in}
use Rattle.cff_font.proofs.laws.faults_are_in.Goals as goal

pub returns : goal.returns
returns c = faults-in
