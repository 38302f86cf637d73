use Rattle.std.proofs.Common.{◌≡◌, take}
use Rattle.hub_glob.specs.forms.Choosing.{each_with_each}
use Rattle.hub_glob.proofs.choosing.each_with_each.Given as goal

abbrev pub invariant-loop-front : goal.invariant-loop-front
invariant-loop-front l = l.all.items ≡ each_with_each (take l.front-index l.fronts) l.backs
