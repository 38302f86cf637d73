-- The bytes of a text in blocks.
use Rattle.std.specs.Prelude.{ℕ, List}
use Rattle.std.specs.List.{flat_map}
use Rattle.hub_report.specs.declared.blocks.Blocks.{Blocks}

abbrev pub bytes_in : Blocks → List ℕ
bytes_in t = flat_map (λ b. b.items) t.blocks.items
