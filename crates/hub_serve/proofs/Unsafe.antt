-- A set for which the check tells an overlap or a breach is not safe.
use Rattle.std.proofs.Common.{◌≡◌, ◌↔◌, ℕ, true, Some}
use Rattle.std.specs.Prelude.{IsTrue, Contains, slice_get}
use Rattle.std.proofs.lemmas.Option.{slice_get_within, get_or_from_slice_get}
use Rattle.hub_path.specs.Path.{Path}
use Rattle.hub_cert.specs.Aim.{Aim, shows}
use Rattle.hub_cert.specs.Goals.{aim_of, goals, is_goal}
use Rattle.hub_cert.specs.Set.{Members, IsSafeSet}
use Rattle.hub_cert.specs.declared.fault.CheckFault.TheVariants as fault
use Rattle.hub_cert.specs.declared.goal.Goal.{Goal}
use Rattle.hub_cert.specs.declared.goal.Place.{Place}
use Rattle.hub_search.specs.Search.{IsFirstFault}

-- All listed goals are the set's.
abbrev pub Listed : Type 0
Listed = (S : Members) (g : Goal) → IsTrue (is_goal S g) ↔ Contains (goals S) g

-- A path that shows what a goal has to rule out makes the set unsafe.
abbrev pub ShownUnsafe : Type 0
ShownUnsafe = (S : Members) (g : Goal) (a : Aim) (p : Path) → IsTrue (is_goal S g) → aim_of S g ≡ Some a → shows a p ≡ true → IsSafeSet S → ⊥

-- The goal at a place of the list is the set's.
listed-at : Listed → (S : Members) (n : ℕ) (g : Goal) → slice_get (goals S) n ≡ Some g → IsTrue (is_goal S g)
listed-at listed S n g e = (listed S g).1 (n, slice_get_within (goals S) n g e, get_or_from_slice_get (goals S) n g g e)

pub overlap-unsafe : Listed → ShownUnsafe → (S : Members) (w o : ℕ) (place : Place) (held path : Path) → IsFirstFault S (fault.Overlap w o place held path) → IsSafeSet S → ⊥
overlap-unsafe listed unsafe S w o place held path f sure =
    unsafe S f.own f.aim path (listed-at listed S f.number f.own f.at) f.is_aim f.tells.1.shown sure

pub breach-unsafe : Listed → ShownUnsafe → (S : Members) (p k : ℕ) (path : Path) → IsFirstFault S (fault.Breach p k path) → IsSafeSet S → ⊥
breach-unsafe listed unsafe S p k path f sure =
    unsafe S f.own f.aim path (listed-at listed S f.number f.own f.at) f.is_aim f.tells.1 sure
