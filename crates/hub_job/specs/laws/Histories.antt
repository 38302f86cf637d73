-- A history with one more entry.
use Rattle.std.proofs.Common.{◌≡◌, List, [], ◌∷◌, ◌++◌, refl}
use Rattle.std.specs.Prelude.{slice_get}
use Rattle.hub_path.specs.Path.{Path}
use Rattle.hub_profile.specs.Parts.{Parts}
use Rattle.hub_tree.specs.Tree.{Replica}
use Rattle.hub_job.specs.declared.log.Entry.{Entry}
use Rattle.hub_job.specs.Machine.{after}
use Rattle.hub_job.specs.History.{replay, IsAnswerOf, IsLegal}

pub replay-push : (m : Replica) (h : List Entry) (e : Entry)
    → replay m (h ++ e ∷ []) ≡ after (replay m h) e.op
replay-push m [] e = refl
replay-push m (x ∷ h) e = replay-push (after m x.op) h e

pub legal-push : (Ps : List Parts) (r : Path) (m : Replica) (h : List Entry) (e : Entry)
    → IsLegal Ps r m h → IsAnswerOf r (replay m h) e (slice_get Ps e.job)
    → IsLegal Ps r m (h ++ e ∷ [])
legal-push Ps r m [] e legal is = (is, tt)
legal-push Ps r m (x ∷ h) e legal is = (legal.0, legal-push Ps r (after m x.op) h e legal.1 is)
