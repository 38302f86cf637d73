-- Clashes with what a profile reaches or passes through.
use Rattle.std.specs.Prelude.{Bool, ◌&&◌, ◌||◌, ◌==◌, ◌++◌, length, IsTrue}
use Rattle.std.specs.List.{list_any}
use Rattle.hub_path.specs.Path.{Path, is_over}
use Rattle.hub_profile.specs.Parts.{Parts}
use Rattle.hub_reach.specs.Reach.{reach, write}

-- A profile keeps its whole replica, and so passes through its root where anything is reached below.
abbrev pub keeps_all : Parts → Bool
keeps_all P = list_any (λ v. length v == 0) P.paths

-- P writes a path at its root r over one that Q reaches at its root s, or over s itself, if Q keeps its
-- whole replica.
abbrev pub WritesOverAt : Parts → Parts → Path → Path → Type 0
WritesOverAt P Q r s =
    (p q : Path) × IsTrue (is_over (r ++ p) (s ++ q)) × IsTrue (write P r p)
    × IsTrue (reach Q q || (length q == 0 && keeps_all Q))
