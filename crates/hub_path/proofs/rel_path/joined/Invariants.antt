use Rattle.std.proofs.Common.{◌≡◌, string_bytes, encode_utf8_all, take}
use Rattle.hub_path.specs.Path.{text_of}
use Rattle.hub_path.proofs.rel_path.joined.Given as goal

abbrev pub invariant-loop-i : goal.invariant-loop-i
invariant-loop-i l = string_bytes l.text ≡ encode_utf8_all (text_of (take l.i l.names))
