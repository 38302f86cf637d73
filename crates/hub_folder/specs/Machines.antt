-- The machines whose profiles operands name.
use Rattle.std.specs.Prelude.{ℕ, Bool, false, not, ◌==◌, ◌&&◌, nat_lt, List, [], ◌∷◌, length, Option, Some, None, if◌then◌else◌}
use Rattle.std.specs.List.{after_first, before_first, find, list_any, position_or_len}
use Rattle.std.specs.Option.{option_map, option_or}
use Rattle.std.specs.Str.{str_eq_ignore_ascii_case}
use denote.Ref.{Bor}

abbrev pub is_equals : ℕ → Bool
is_equals b = b == 61

abbrev pub has_equals : List ℕ → Bool
has_equals operand = nat_lt (position_or_len is_equals operand) (length operand)

-- The name of a machine isn't empty and has no `/`.
abbrev pub has_slash : List ℕ → Bool
has_slash name = list_any (λ b. b == 47) name

abbrev pub is_machine : List ℕ → Bool
is_machine name = not (length name == 0) && not (has_slash name)

-- An operand `NAME=OPERAND` has the profiles of a machine: the name of one stands before its first
-- `=`.
abbrev pub names_machine : List ℕ → Bool
names_machine operand = has_equals operand && is_machine (before_first is_equals operand)

-- The machine, if it names one,
abbrev pub machine_of : List ℕ → Option (List ℕ)
machine_of operand =
    if names_machine operand then Some (before_first is_equals operand) else None

-- and the path of the file or folder.
abbrev pub source_of : List ℕ → List ℕ
source_of operand = if names_machine operand then after_first is_equals operand else operand

-- Names are compared without regard to the case of ASCII letters.
abbrev pub is_same_machine : Option (List ℕ) → Option (List ℕ) → Bool
is_same_machine (Some one) (Some other) = str_eq_ignore_ascii_case one other
is_same_machine _ _ = false

abbrev pub share_machine : List ℕ → List ℕ → Bool
share_machine one other = is_same_machine (machine_of one) (machine_of other)

-- The second operand of a machine: the next one of the machine of the first operand whose machine a
-- later one has, too.
abbrev pub second_machine : List (List ℕ) → Option (List ℕ)
second_machine [] = None
second_machine (o ∷ os) = option_or (find (share_machine o) os) (second_machine os)

-- A borrowed name, if there is one.
abbrev pub machine_in : Option (Bor (List ℕ)) → Option (List ℕ)
machine_in machine = option_map (λ name. name.now) machine
