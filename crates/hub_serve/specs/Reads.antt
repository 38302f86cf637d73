-- What is known of the reads of an input.
use Rattle.std.specs.Prelude.{◌≡◌, ℕ, ◌+◌, Bool}
use Rattle.hub_text.specs.declared.watched.Watched.{Watched}
use Rattle.hub_bundle.specs.declared.input.TheConstants.{READ_TURNS}

-- How many reads of an input were made before and after, whether one of them had met its end before
-- and after, and whether one has failed.
pub record Reads : Type 0 where
  pub before : ℕ
  pub after : ℕ
  pub was_at_end : Bool
  pub at_end : Bool
  pub failed : Bool

-- What is known of the reads between two states of a watched input.
abbrev pub reads_between : {D : Type 0} → Watched D → Watched D → Reads
reads_between old new = record {
  before = old.reads;
  after = new.reads;
  was_at_end = old.at_end;
  at_end = new.at_end;
  failed = new.failed;
}

-- As many reads as are allowed were made, and none of them met the end.
abbrev pub AreSpent : Reads → Type 0
AreSpent r = (r.after ≡ r.before + READ_TURNS) × (r.at_end ≡ r.was_at_end)
