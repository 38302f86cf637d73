use Rattle.hub_starter.proofs.Lines.{jobs_apart, none_breaks}
use Rattle.hub_starter.proofs.laws.jobs_without_a_line_do_not_clash.Goals as goal

pub returns-clause-clash : goal.returns-clause-clash
returns-clause-clash c = λ S es i j valid apart decided off none.
    jobs_apart c.certificates_make_a_set_safe.ensures S es valid apart decided i j off none

pub returns-clause-breach : goal.returns-clause-breach
returns-clause-breach c = λ S es valid apart decided none.
    none_breaks c.certificates_make_a_set_safe.ensures S es valid apart decided none
