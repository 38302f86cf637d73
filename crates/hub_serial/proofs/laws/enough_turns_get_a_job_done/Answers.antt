use Rattle.hub_serial.proofs.Lone.{enough}
use Rattle.hub_serial.proofs.laws.enough_turns_get_a_job_done.Goals as goal

pub returns : goal.returns
returns c = λ Ps P j n w is facts fresh left right l. enough P facts j Ps is w fresh.log fresh.done left right n l
