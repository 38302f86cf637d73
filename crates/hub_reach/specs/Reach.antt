-- Which paths a profile reaches, and which changes it may make where.
use Rattle.std.specs.Prelude.{Bool, not, ◌&&◌, ◌||◌, IsTrue}
use Rattle.std.specs.List.{list_any}
use Rattle.hub_path.specs.Path.{Path, is_over, is_path, prefixes}
use Rattle.hub_path.specs.declared.side.Side.{Side}
use Rattle.hub_path.specs.declared.side.Side.TheVariants.{Left, Right}
use Rattle.hub_glob.specs.Glob.{matches}
pub use Rattle.hub_profile.specs.Parts.{has_root}
use Rattle.hub_profile.specs.Parts.{Parts, some_passes, at_side, is_root_at}
use Rattle.hub_profile.specs.declared.bars.Bars.{Bars}
use Rattle.hub_profile.specs.declared.partial.Partial.{Partial}
use Rattle.hub_profile.specs.declared.verb.Verb.{Verb}
use Rattle.hub_profile.specs.declared.verb.Verb.TheVariants.{Create, Update, Delete}

-- A path is ignored if it matches `ignore` and doesn't match `ignorenot`.
abbrev pub is_ignored : Parts → Path → Bool
is_ignored P q =
    list_any (λ s. matches s q) P.ignore && not (list_any (λ s. matches s q) P.ignorenot)

-- No path from s down to p is ignored. What stands over s isn't looked at.
abbrev pub is_open : Parts → Path → Path → Bool
is_open P s p = not (list_any (λ q. is_over s q && is_ignored P q) (prefixes p))

-- A profile reaches a path at or below a kept value if nothing from the kept value down to the path
-- is ignored. It reaches paths alone, so not the whole replica.
unfoldable pub reach : Parts → Path → Bool
reach P p = is_path p && list_any (λ s. is_over s p && is_open P s p) P.paths

-- A profile passes through p if it reaches a path that p is over.
abbrev pub PassesThrough : Parts → Path → Type 0
PassesThrough P p = (q : Path) × IsTrue (is_over p q && reach P q)

-- The profile's `force` names this root: all differences are resolved in favour of it.
abbrev pub is_forced_root : Parts → Path → Bool
is_forced_root P r = some_passes (is_root_at P r) P.force

-- Whether bars forbid a change of that kind.
abbrev pub covers : Verb → Bars → Bool
covers Create bars = bars.create
covers Update bars = bars.update
covers Delete bars = bars.delete

-- The root of that side is this one, and the bars on it forbid the change.
abbrev pub is_barred_at : Parts → Path → Verb → Side → Bool
is_barred_at P r verb side = is_root_at P r side && some_passes (covers verb) (at_side P.bars side)

-- Bars of the profile on this root forbid the change.
abbrev pub is_barred : Parts → Path → Verb → Bool
is_barred P r verb = is_barred_at P r verb Left || is_barred_at P r verb Right

-- Whether a change of that kind is allowed at a root: nothing is changed at the forced root, and
-- nothing that bars on the root forbid. `prefer` forbids nothing. At a root that isn't the
-- profile's nothing is forbidden.
abbrev pub may : Parts → Path → Verb → Bool
may P r verb = not (is_forced_root P r || is_barred P r verb)

-- A partial bar forbids the change on a path of this root: it is on the root, and its specification
-- matches the path.
abbrev pub is_partly_barred_by : Parts → Path → Verb → Path → Partial → Bool
is_partly_barred_by P r verb p b = is_root_at P r b.side && covers verb b.bars && matches b.spec p

-- Some partial bar forbids it. None does at the whole replica: no specification matches that.
abbrev pub is_partly_barred : Parts → Path → Path → Verb → Bool
is_partly_barred P r p verb = list_any (is_partly_barred_by P r verb p) P.partial

-- Whether a change of that kind is allowed at a path of the root: it is allowed at the root, and no
-- partial bar forbids it at the path.
abbrev pub may_at : Parts → Path → Path → Verb → Bool
may_at P r p verb = may P r verb && not (is_partly_barred P r p verb)

-- Some change is allowed at the root, whatever the partial bars.
abbrev pub writes : Parts → Path → Bool
writes P r = has_root P r && (may P r Create || may P r Update || may P r Delete)

-- A profile writes at a path of its root if some change is allowed there.
abbrev pub writes_at : Parts → Path → Path → Bool
writes_at P r p =
    has_root P r && (may_at P r p Create || may_at P r p Update || may_at P r p Delete)

-- It writes a path of its root if it writes at the path and reaches it.
abbrev pub write : Parts → Path → Path → Bool
write P r p = writes_at P r p && reach P p
