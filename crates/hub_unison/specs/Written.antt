-- Profiles as their lines say them to Unison.
use Rattle.std.specs.Prelude.{◌≡◌, ℕ, List, length, map, slice_get, Some, chars}
use Rattle.std.specs.List.{filter}
use Rattle.hub_text.specs.Lines.{lines_of}
use Rattle.hub_profile.specs.Parts.{Parts}
use Rattle.hub_unison.specs.Lines.{LineText, line_spec, sets, ignore_names, ignorenot_names, partial_names}

-- What hubsync reads of a profile, and the lines that Unison matches paths by: the `ignore` lines,
-- the `ignorenot` lines, and those that bar changes on some paths, each in their order. Of the parts
-- the specifications aren't looked at. A line that bars changes does so at the side, and of the
-- kind, of the bar at its place.
pub record Written : Type 0 where
  pub parts : Parts
  pub ignore : List LineText
  pub ignorenot : List LineText
  pub partial : List LineText

-- The lines spell what the parts specify, one by one.
pub record IsWrittenAs (W : Written) (P : Parts) : Type 0 where
  pub parts : W.parts ≡ P
  pub ignore : map line_spec W.ignore ≡ map Some P.ignore
  pub ignorenot : map line_spec W.ignorenot ≡ map Some P.ignorenot
  pub partial : map line_spec W.partial ≡ map (λ b. Some b.spec) P.partial

-- The same of some profiles, one each.
pub record AreWrittenAs (Ws : List Written) (Ps : List Parts) : Type 0 where
  pub count : length Ws ≡ length Ps
  pub each : (i : ℕ) (W : Written) → slice_get Ws i ≡ Some W
      → (P : Parts) × (slice_get Ps i ≡ Some P) × IsWrittenAs W P

-- The lines of a text that set a preference with one of these names, as they stand.
abbrev pub lines_setting : List (List ℕ) → List ℕ → List LineText
lines_setting names cs = filter (sets names) (map (λ l. l.text) (lines_of cs))

-- The profile P of a text in UTF-8.
abbrev pub written_of : Parts → List ℕ → Written
written_of P bytes = record {
  parts = P;
  ignore = lines_setting ignore_names (chars bytes);
  ignorenot = lines_setting ignorenot_names (chars bytes);
  partial = lines_setting partial_names (chars bytes);
}
