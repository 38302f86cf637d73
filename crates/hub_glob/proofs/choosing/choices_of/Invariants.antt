use Rattle.std.proofs.Common.{◌≡◌, drop}
use Rattle.hub_glob.specs.Glob.{choices}
use Rattle.hub_glob.specs.forms.Choosing.{each_with_each}
use Rattle.hub_glob.proofs.choosing.choices_of.Given as goal

abbrev pub invariant-loop-part : goal.invariant-loop-part
invariant-loop-part l = each_with_each l.choices.items (choices (drop l.part-index l.parts)) ≡ choices l.parts
