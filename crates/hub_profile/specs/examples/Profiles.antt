-- Profiles of the worked examples here and in the crates above.
use Rattle.std.specs.Prelude.{ℕ, List, [], ◌∷◌, None, codes}
use Rattle.hub_path.specs.Path.{Path, path_of}
use Rattle.hub_profile.specs.Parts.{Parts}
use Rattle.hub_profile.specs.Protection.{no_bars}

abbrev pub hub : Path
hub = path_of (codes "srv/hub")

abbrev pub s1 : Path
s1 = path_of (codes "srv/s1")

abbrev pub s2 : Path
s2 = path_of (codes "srv/s2")

-- The profile of that name and that kept value between two roots, with no other preference.
abbrev pub between : List ℕ → Path → Path → Path → Parts
between name left right path =
    record {
      name = name;
      roots = left ∷ right ∷ [];
      paths = path ∷ [];
      ignore = [];
      ignorenot = [];
      force = None;
      prefer = None;
      bars = no_bars ∷ no_bars ∷ [];
      partial = [];
    }

-- The profile of a kept value between the hub and s1, with the kept value as its name.
abbrev pub of_kept : List ℕ → Parts
of_kept t = between t hub s1 (path_of t)
