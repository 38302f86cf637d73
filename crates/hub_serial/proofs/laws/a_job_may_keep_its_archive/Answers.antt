use Rattle.hub_serial.proofs.Held.{asks_by_its_start, items_by_its_start, marks_by_its_start}
use Rattle.hub_serial.proofs.laws.a_job_may_keep_its_archive.Goals as goal

pub returns-clause-asks : goal.returns-clause-asks
returns-clause-asks c = λ Ps P j js w facts is free d. asks_by_its_start Ps facts P j is js w free d

pub returns-clause-items : goal.returns-clause-items
returns-clause-items c = λ Ps P j js w facts is free d. items_by_its_start Ps facts P j is js w free d

pub returns-clause-marks : goal.returns-clause-marks
returns-clause-marks c = λ Ps P j js w facts is free d. marks_by_its_start Ps facts P j is js w free d
