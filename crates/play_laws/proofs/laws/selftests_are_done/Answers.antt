use Rattle.play_laws.proofs.SelftestEnds.{all_accepted, all_done}
use Rattle.play_laws.proofs.laws.selftests_are_done.Goals as goal

pub returns-clause-done : goal.returns-clause-done
returns-clause-done c = let law = c.generated_scripts_are_read.ensures in all_done law.read law.events law.fits

pub returns-clause-report : goal.returns-clause-report
returns-clause-report c = let law = c.generated_scripts_are_read.ensures in all_accepted law.read law.events law.fits
