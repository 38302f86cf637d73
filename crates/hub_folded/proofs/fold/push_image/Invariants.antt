use Rattle.std.proofs.Common.{◌≡◌, ◌++◌, take, string_bytes, encode_utf8_all}
use Rattle.hub_folded.specs.Table.{image_in}
use Rattle.hub_folded.proofs.fold.push_image.Given as goal

abbrev pub invariant-loop-c : goal.invariant-loop-c
invariant-loop-c l =
    string_bytes l.text ≡ string_bytes l.initial.text ++ encode_utf8_all (image_in (take l.c-index l.image))
