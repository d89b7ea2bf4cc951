-- Each grammar by the places of its parts.
use Rattle.ass_num.proofs.OneReading.{one_milli, one_whole, one_marked, one_style_colour, one_time}
use Rattle.ass_num.proofs.readings.one_reading.Goals as goal

pub returns-clause-milli : goal.returns-clause-milli
returns-clause-milli c = one_milli

pub returns-clause-whole : goal.returns-clause-whole
returns-clause-whole c = one_whole

pub returns-clause-colour : goal.returns-clause-colour
returns-clause-colour c = one_marked 32

pub returns-clause-alpha : goal.returns-clause-alpha
returns-clause-alpha c = one_marked 8

pub returns-clause-style_colour : goal.returns-clause-style_colour
returns-clause-style_colour c = one_style_colour

pub returns-clause-time : goal.returns-clause-time
returns-clause-time c = one_time
