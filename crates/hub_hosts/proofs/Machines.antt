-- Roots here of a profile of a machine.
use Rattle.std.proofs.Common.{◌≡◌, ◌∙◌, ◌==◌, ◌&&◌, ◌||◌, ℕ, Bool, true, false, not, cond, List, [], ◌∷◌, ◌++◌, Option, Some, None, codes, refl, sym, ap, append_assoc, arith}
use Rattle.std.specs.Prelude.{is_some}
use Rattle.std.specs.Option.{option_map}
use Rattle.std.proofs.lemmas.Bool.{or_parts}
use Rattle.std.proofs.lemmas.Grind.{common_steps}
use Rattle.hub_hosts.specs.Drives.{begins_with_drive, below_of}
use Rattle.hub_hosts.specs.Remotes.{base_for, has_machine, is_absolute, is_local, local, local_of, path_of, path_of_local, remote_at, remote_for, remote_in, remote_of, remote_on, without_port}
use Rattle.hub_hosts.specs.Table.{Row, slash}
use Rattle.hub_hosts.specs.Words.{before, begins_with, from_first, is_one_of}

-- A root that is one here is on the machine.
on-machine : (machine root : List ℕ) → is_local root ≡ true → remote_for (Some machine) root ≡ Some (remote_on machine root)
on-machine machine root h = ap (λ b. cond b (Some (remote_on machine root)) (remote_of root)) h

-- Behind a name without a slash.
other_byte : (c : ℕ) → c == 47 ≡ false → is_one_of slash c ≡ false
other_byte c h = grind arith

from_slash : (name rest : List ℕ) → is_one_of name 47 ≡ false → from_first slash (name ++ 47 ∷ rest) ≡ 47 ∷ rest
from_slash [] rest h = refl
from_slash (c ∷ cs) rest h =
    let parts = or_parts (c == 47) (is_one_of cs 47) h in
    ap (λ b. cond b (c ∷ cs ++ 47 ∷ rest) (from_first slash (cs ++ 47 ∷ rest))) (other_byte c parts.0) ∙ from_slash cs rest parts.1

before_end : (name end : List ℕ) → before (name ++ end) end ≡ name
before_end name end = grind (arith, common_steps)

absolute : (machine root : List ℕ) → is_absolute root ≡ true → remote_at machine (47 ∷ root) ≡ remote_on machine root
absolute machine root h =
    ap (λ b. record { name = without_port machine; is_in_home = not b; below = below_of root }) h

local-absolute : (root : List ℕ) → is_local root ≡ true → is_absolute root ≡ true
local-absolute root h = by (begins_with slash root) (begins_with (codes "//") root) (begins_with_drive root) h
  where
    by : (s t d : Bool) → (s && not t) || d ≡ true → s || d ≡ true
    by true t d k = refl
    by false t d k = k

pub as_by_ssh : (machine root : List ℕ) → is_one_of machine 47 ≡ false → is_local root ≡ true
    → remote_for (Some machine) root ≡ remote_of (codes "ssh://" ++ machine ++ slash ++ root)
as_by_ssh machine root h k =
    let behind = from_slash machine root h in
    let text = machine ++ 47 ∷ root in
    let same : remote_in text ≡ remote_on machine root =
    ap (λ path. remote_at (before text path) path) behind
    ∙ (ap (λ name. remote_at name (47 ∷ root)) (before_end machine (47 ∷ root))
    ∙ absolute machine root (local-absolute root k)) in
    on-machine machine root k ∙ (ap Some (sym same) ∙ ap (λ t. Some (remote_in t)) (sym (append_assoc machine slash root)))

some-twice : {X Y Z : Type 0} (f : Y → Z) (g : X → Y) (o : Option X) → is_some o ≡ true → is_some (option_map f (option_map g o)) ≡ true
some-twice f g None h = cc
some-twice f g (Some x) h = refl

pub known_machine : (rows : List Row) (machine root : List ℕ) → has_machine rows machine ≡ true → is_local root ≡ true
    → is_some (path_of rows (Some machine) root) ≡ true
known_machine rows machine root h k =
    ap (λ o. is_some (option_map path_of_local (local_of rows root o))) (on-machine machine root k)
    ∙ some-twice path_of_local (λ base. local base (remote_on machine root).below) (base_for rows (remote_on machine root)) h
