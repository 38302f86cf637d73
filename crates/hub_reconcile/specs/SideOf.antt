-- What belongs to a side.
use Rattle.hub_path.specs.declared.side.Side.{Side}
use Rattle.hub_path.specs.declared.side.Side.TheVariants.{Left, Right}

-- Of what the left and the right side have, that of a side.
abbrev pub of_side : {T : Type 0} → T → T → Side → T
of_side a b Left = a
of_side a b Right = b
