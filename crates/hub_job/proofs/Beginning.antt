-- A job that has asked nothing yet.
use Rattle.std.proofs.Common.{◌≡◌, true, false, not, List, [], ◌∷◌, find, Option, Some, None, refl}
use Rattle.std.proofs.lemmas.Bool.{false_from_ne_true}
use Rattle.hub_path.specs.Path.{Path}
use Rattle.hub_path.specs.declared.side.Side.TheVariants.{Left, Right}
use Rattle.hub_profile.specs.Parts.{Parts}
use Rattle.hub_reach.specs.Reach.{reach}
use Rattle.hub_tree.specs.Tree.{Archive}
use Rattle.hub_reconcile.specs.Picture.{needed, was_seen}
use Rattle.hub_job.specs.declared.op.Next.{Next}
use Rattle.hub_job.specs.declared.op.Next.TheVariants.{Finished}
use Rattle.hub_job.specs.Job.{missing, look_or, step_or_end, next}

no_look : (ps : List Path) → find (λ p. not (was_seen [] p)) ps ≡ None → ps ≡ []
no_look [] e = refl
no_look (p ∷ ps) e = cc

none_missing : (n : Next) (o : Option Path) → look_or Left n o ≡ Finished → o ≡ None
none_missing n None e = refl
none_missing n (Some p) e = cc

none_needed : (P : Parts) (O : Archive) → next P O [] ≡ Finished → needed P [] ≡ []
unfolding next
none_needed P O done = no_look (needed P []) (none_missing (look_or Right (step_or_end P O []) (missing P [] Right)) (missing P [] Left) done)

pub reaches_nothing : (P : Parts) (O : Archive) (q : Path) → (reach P q ≡ true → needed P [] ≡ [] → ⊥) → next P O [] ≡ Finished → reach P q ≡ false
reaches_nothing P O q looks done = false_from_ne_true (reach P q) (λ h. looks h (none_needed P O done))
