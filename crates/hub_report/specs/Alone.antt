-- The lines of profiles that run alone, since hubsync can't read them.
use Rattle.std.specs.Prelude.{ℕ, ◌-◌, ◌==◌, ◌||◌, Bool, List, [], ◌∷◌, ◌++◌, length, slice_get, if◌then◌else◌, codes, encode_utf8_all, unwrap_or}
use Rattle.std.specs.List.{flat_map}
use Rattle.std.specs.Fmt.{decimal}
use Rattle.hub_path.specs.Path.{Name}
use Rattle.hub_profile.specs.declared.rule.Rule.{Rule}
use Rattle.hub_report.specs.Faults.{profile_fault_name}
use Rattle.hub_report.specs.Plan.{run_alone}
use Rattle.hub_report.specs.Refusal.{joined}
use Rattle.hub_report.specs.declared.plan.Roster.{Roster}
use Rattle.hub_report.specs.declared.plan.Unread.{Unread}

-- The name of the profile of that number, from 1 on, as it is written.
abbrev pub name_of : List Name → ℕ → List ℕ
name_of names n = encode_utf8_all (unwrap_or (slice_get names (n - 1)) [])

-- That no other profile may run beside one of this name, and why it isn't read.
abbrev pub alone_line : List ℕ → Unread → List ℕ
alone_line name u =
    joined (codes "alone " ∷ name ∷ codes "\nwhy line " ∷ decimal u.fault.line ∷ codes ": "
    ∷ profile_fault_name u.fault.fault ∷ codes "\n" ∷ [])

-- That it may break any of these rules, if there are some.
abbrev pub unchecked_line : List Rule → List ℕ → List ℕ
unchecked_line Rs name =
    if run_alone Rs then [] else joined (codes "unchecked " ∷ name ∷ codes "\n" ∷ [])

-- The lines of a profile that isn't read; and of all of them.
abbrev pub lines_of_unread : List Name → List Rule → Unread → List ℕ
lines_of_unread names Rs u =
    alone_line (name_of names u.number) u ++ unchecked_line Rs (name_of names u.number)

abbrev pub alone_lines : Roster → List Rule → List ℕ
alone_lines r Rs = flat_map (lines_of_unread r.names Rs) r.unread

-- Of each profile it is known whether it may break a rule: there are no rules, or all are read.
abbrev pub are_known : Roster → List Rule → Bool
are_known r Rs = run_alone Rs || length r.unread == 0
