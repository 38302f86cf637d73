use Rattle.std.proofs.Common.{◌≡◌, length, drop, chars}
use Rattle.hub_fronts.specs.Fronts as fronts
use Rattle.hub_fronts.proofs.fronts.begins_like.Given as goal

abbrev pub invariant-loop-character : goal.invariant-loop-character
invariant-loop-character l =
    fronts.begins_like l.rest (drop (length l.yielded) (chars l.text)) ≡ fronts.begins_like l.parts (chars l.text)
