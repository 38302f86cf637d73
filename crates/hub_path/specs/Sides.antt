-- The two sides.
use Rattle.std.specs.Prelude.{Bool, true, false}
use Rattle.hub_path.specs.declared.side.Side.{Side}
use Rattle.hub_path.specs.declared.side.Side.TheVariants.{Left, Right}

abbrev pub other : Side → Side
other Left = Right
other Right = Left

abbrev pub is_same_side : Side → Side → Bool
is_same_side Left Left = true
is_same_side Left Right = false
is_same_side Right Left = false
is_same_side Right Right = true
