-- What holds of the roots and of the kept values of each profile.
use Rattle.std.specs.Prelude.{Bool, not, ◌&&◌, ◌==◌, List, length}
use Rattle.std.specs.List.{list_all}
use Rattle.hub_path.specs.Path.{Path, is_place, none_over}

-- A profile has two roots, and neither is over the other.
abbrev pub are_roots : List Path → Bool
are_roots rs = length rs == 2 && list_all is_place rs && none_over rs

-- It has a kept value, each is a path or the empty one, and none is over another.
abbrev pub are_kept : List Path → Bool
are_kept ps = not (length ps == 0) && list_all is_place ps && none_over ps
