use Rattle.hub_cert.proofs.Alike.{Laws}
use Rattle.hub_cert.proofs.Certified.{made-safe}
use Rattle.hub_cert.proofs.laws.certified_sets_are_safe.Goals as goal

pub returns : goal.returns
returns c =
    let laws : Laws = record { same = c.stages_go_on_alike.ensures.same; reached = c.stages_go_on_alike.ensures.reached; allowed = c.stages_go_on_alike.ensures.allowed; goes_on = c.what_is_kept_goes_on_alike.ensures.same; tells = c.what_is_kept_tells_what_matches.ensures; alike = c.stages_tell_broken_texts.ensures.alike; longer = c.broken_texts_stay_broken.ensures.longer; whole = c.broken_texts_stay_broken.ensures.whole; path = c.broken_texts_stay_broken.ensures.path; unreached = c.broken_texts_stay_broken.ensures.reached } in
    λ S cs profiles apart are. made-safe laws S cs profiles apart are
