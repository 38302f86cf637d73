-- What one more line adds to what the lines so far say.
use Rattle.std.proofs.Common.{◌≡◌, ◌<◌, ◌∙◌, ⊎_elim, inl, inr, ℕ, nat_le, Bool, false, List, [], ◌∷◌, ◌++◌, length, Result, Ok, Err, if◌then◌else◌, ap, sym, arith}
use Rattle.std.proofs.lemmas.Bool.Decides.{nat_tests}
use Rattle.hub_path.specs.Path.{Path}
use Rattle.hub_path.specs.Reading as path_reading
use Rattle.hub_path.specs.Reading.{root_reading}
use Rattle.hub_path.specs.declared.fault.PathFault.{PathFault}
use Rattle.hub_path.specs.declared.fault.PathFault.TheVariants as path
use Rattle.hub_glob.specs.Reading.{spec_reading}
use Rattle.hub_glob.specs.Specification.{Specification}
use Rattle.hub_profile.specs.Faults.{FailsAs, of_path}
use Rattle.hub_profile.specs.Reading.{kept_reading, root_added, path_added, ignore_added, ignorenot_added, protection_added, protection_line, has_all_patterns, with_root, with_path, with_ignore, with_ignorenot, with_protected}
use Rattle.hub_profile.specs.Protection.{repeats, is_left_out}
use Rattle.hub_profile.specs.Said.{Said}
use Rattle.hub_profile.specs.declared.draft.TheConstants.{PATH_LINES}
use Rattle.hub_profile.specs.declared.protection.Protection.{Protection}
use Rattle.hub_profile.specs.declared.protection.ProtectionLine.{ProtectionLine}
use Rattle.hub_profile.specs.declared.fault.Fault.{Fault}
use Rattle.hub_profile.specs.declared.fault.Fault.TheVariants.{BadPath, LeftOutValue, OutOfMemory, Repeated, TooMany}
use Rattle.hub_profile.proofs.PartialReadings.{path_fault}

abbrev unless : Fault → Result Said Fault → Bool → Result Said Fault
unless e rest b = if b then Err e else rest

abbrev with_roots : Said → List Path → Result Said Fault
with_roots said rs = Ok (record said { roots = rs })

abbrev with_paths : Said → List Path → Result Said Fault
with_paths said ps = Ok (record said { paths = ps })

abbrev with_ignored : Said → List Specification → Result Said Fault
with_ignored said ss = Ok (record said { ignore = ss })

abbrev with_not_ignored : Said → List Specification → Result Said Fault
with_not_ignored said ss = Ok (record said { ignorenot = ss })

abbrev with_protections : Said → List ProtectionLine → Result Said Fault
with_protections said ls = Ok (record said { protections = ls })

few_paths : (n : ℕ) → n < PATH_LINES → nat_le PATH_LINES n ≡ false
few_paths n h = grind (arith, nat_tests)

pub root_more : (now said : Said) (v : List ℕ) (r : Path) (rs : List Path) → now ≡ said → root_reading v ≡ Ok r → rs ≡ said.roots ++ r ∷ []
    → root_added now v ≡ Ok (record said { roots = rs })
root_more now said v r rs is e f = ap (λ (s : Said). root_added s v) is ∙ ap (with_root said) e ∙ ap (with_roots said) (sym f)

pub path_more : (now said : Said) (v : List ℕ) (p : Path) (ps : List Path) → now ≡ said → length said.paths < PATH_LINES → kept_reading v ≡ Ok p → ps ≡ said.paths ++ p ∷ []
    → path_added now v ≡ Ok (record said { paths = ps })
path_more now said v p ps is few e f =
    ap (λ (s : Said). path_added s v) is ∙ ap (unless TooMany (with_path said (kept_reading v))) (few_paths (length said.paths) few)
    ∙ ap (with_path said) e ∙ ap (with_paths said) (sym f)

pub path_refused : (now said : Said) (v : List ℕ) (e : PathFault) (f : Fault) → f ≡ of_path e → now ≡ said → length said.paths < PATH_LINES
    → path_reading.FailsAs (kept_reading v) e → FailsAs (path_added now v) f
path_refused now said v e f from is few h =
    ⊎_elim (λ (memory : e ≡ path.OutOfMemory). inl (from ∙ ap of_path memory))
    (λ (bad : kept_reading v ≡ Err e). ⊎_elim (λ (memory : of_path e ≡ OutOfMemory). inl (from ∙ memory))
    (λ (it : of_path e ≡ BadPath e). inr (ap (λ (s : Said). path_added s v) is ∙ ap (unless TooMany (with_path said (kept_reading v))) (few_paths (length said.paths) few)
    ∙ ap (with_path said) bad ∙ ap (λ (x : Fault). Err x) (sym (from ∙ it)))) (path_fault e)) h

pub ignore_more : (now said : Said) (v : List ℕ) (s : Specification) (ss : List Specification) → now ≡ said → has_all_patterns now ≡ false → spec_reading v ≡ Ok s
    → ss ≡ said.ignore ++ s ∷ [] → ignore_added now v ≡ Ok (record said { ignore = ss })
ignore_more now said v s ss is few e f =
    ap (unless TooMany (with_ignore now (spec_reading v))) few ∙ (λ i. with_ignore (is i) (e i)) ∙ ap (with_ignored said) (sym f)

pub ignorenot_more : (now said : Said) (v : List ℕ) (s : Specification) (ss : List Specification) → now ≡ said → has_all_patterns now ≡ false → spec_reading v ≡ Ok s
    → ss ≡ said.ignorenot ++ s ∷ [] → ignorenot_added now v ≡ Ok (record said { ignorenot = ss })
ignorenot_more now said v s ss is few e f =
    ap (unless TooMany (with_ignorenot now (spec_reading v))) few ∙ (λ i. with_ignorenot (is i) (e i)) ∙ ap (with_not_ignored said) (sym f)

pub protection_more : (p : Protection) (now said : Said) (n : ℕ) (v : List ℕ) (r : Path) (ls : List ProtectionLine) → now ≡ said → repeats p said.protections ≡ false
    → is_left_out p v ≡ false → root_reading v ≡ Ok r → ls ≡ said.protections ++ protection_line n p r ∷ []
    → protection_added p now n v ≡ Ok (record said { protections = ls })
protection_more p now said n v r ls is once kept e f =
    ap (λ (s : Said). protection_added p s n v) is
    ∙ ap (unless Repeated (unless LeftOutValue (with_protected p said n (root_reading v)) (is_left_out p v))) once
    ∙ ap (unless LeftOutValue (with_protected p said n (root_reading v))) kept
    ∙ ap (with_protected p said n) e ∙ ap (with_protections said) (sym f)
