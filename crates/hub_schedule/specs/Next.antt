-- What a job leaves to the archive of its pair of roots, as contracts see it.
use Rattle.std.specs.Prelude.{Option}
use Rattle.hub_profile.specs.Parts.{Parts}
use Rattle.hub_tree.specs.Tree.{Archive}

-- Its profile, the archive at the opening, and the next archive if it is finished.
pub record NextValue : Type 0 where
  pub profile : Parts
  pub opening : Archive
  pub next : Option Archive
