use Rattle.std.proofs.Common.{◌≡◌, ◌++◌, length, drop, chars, string_bytes, encode_utf8_all}
use Rattle.std.specs.List.{flat_map}
use Rattle.hub_folded.specs.Table.{folded_character}
use Rattle.hub_folded.proofs.fold.fold_name.Given as goal

abbrev pub invariant-loop-c : goal.invariant-loop-c
invariant-loop-c l =
    string_bytes l.folded ++ encode_utf8_all (flat_map folded_character (drop (length l.yielded) (chars l.name)))
    ≡ encode_utf8_all (flat_map folded_character (chars l.name))
