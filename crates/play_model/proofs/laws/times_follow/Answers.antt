use Rattle.play_model.proofs.MoreTimes.{dead_before, entries_many, flushes_many, image_stays, images_follow, stopped_front, time_more, times_closed}
use Rattle.play_model.proofs.laws.times_follow.Goals as goal

pub returns-clause-dead : goal.returns-clause-dead
returns-clause-dead c play times all = (dead_before times, entries_many play times all, flushes_many play times all)

pub returns-clause-history : goal.returns-clause-history
returns-clause-history c first times time = (time_more times time, times_closed first times)

pub returns-clause-stays : goal.returns-clause-stays
returns-clause-stays c play history more q i bytes image = image_stays play history more q i bytes image

pub returns-clause-images : goal.returns-clause-images
returns-clause-images c play times last images next are all firsts few = images_follow play times last images next are all firsts few

pub returns-clause-stopped : goal.returns-clause-stopped
returns-clause-stopped c play times last rounds cut images next each fewer fed are all firsts few =
    stopped_front play times last images next are all firsts few rounds cut each fewer fed
