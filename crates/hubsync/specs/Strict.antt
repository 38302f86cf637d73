-- What `--strict` changes.
use Rattle.std.specs.Prelude.{◌≡◌, ◌==◌, ◌&&◌, if◌then◌else◌, ℕ, Bool}

-- The status for the status of an answer, by whether `--strict` is given and whether a yes may
-- mislead.
abbrev pub strict_status_of : Bool → Bool → ℕ → ℕ
strict_status_of is_strict misleads status =
    if (misleads && is_strict) && (status == 0) then 1 else status

-- The status is that of the answer, or with `--strict` 1 for a 0 that may mislead. Whether it may is
-- the remarks' to say, of which nothing is proved.
pub record Strictly (is_strict : Bool) (answers : ℕ → Type 0) (status : ℕ) : Type 0 where
  pub misleads : Bool
  pub plain : ℕ
  pub answered : answers plain
  pub status_is : status ≡ strict_status_of is_strict misleads plain
