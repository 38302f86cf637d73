-- The fault of a line by itself, as the reading of a profile with it alone has it.
use Rattle.std.proofs.Common.{◌≡◌, ◌≢◌, inl, inr, ℕ, Bool, true, false, List, [], refl, sym, ap, ◌∙◌}
use Rattle.std.specs.Prelude.{Option, Some, None, Result, Ok, Err, IfOk, OnOk, if◌then◌else◌}
use Rattle.std.specs.Str.{is_utf8, chars}
use Rattle.std.specs.declared.alloc.AllocError.{AllocError}
use Rattle.hub_profile.specs.Faults.{FailsAt}
use Rattle.hub_profile.specs.LineByLine.{lines_reading, not_utf8}
use Rattle.hub_profile.specs.Parts.{Parts}
use Rattle.hub_profile.specs.Reading.{with_preference, whole_fault, unless_fault, if_said, profile, profile_reading, profile_in}
use Rattle.hub_profile.specs.Said.{Said, nothing_said}
use Rattle.hub_profile.specs.declared.fault.Fault.{Fault}
use Rattle.hub_profile.specs.declared.fault.Fault.TheVariants.{OutOfMemory}
use Rattle.hub_profile.specs.declared.fault.ProfileFault.{ProfileFault}
use Rattle.hub_preferences.specs.Findings.{fault_but_roots, fault_of_reading, fault_alone}

of_whole : (w : Option ProfileFault) (P Q : Parts) → fault_of_reading (unless_fault w P) ≡ fault_of_reading (unless_fault w Q)
of_whole None P Q = refl
of_whole (Some e) P Q = refl

of_lines : (n m : List ℕ) (r : Result Said ProfileFault) → fault_of_reading (if_said n r) ≡ fault_of_reading (if_said m r)
of_lines n m (Ok said) = of_whole (whole_fault said) (profile n said) (profile m said)
of_lines n m (Err e) = refl

-- The profile's name doesn't matter.
any_name : (n m bytes : List ℕ) → fault_of_reading (profile_in n bytes) ≡ fault_of_reading (profile_in m bytes)
any_name n m bytes = by (is_utf8 bytes)
  where
    by : (b : Bool) → fault_of_reading (if b then profile_reading n (chars bytes) else Err not_utf8)
        ≡ fault_of_reading (if b then profile_reading m (chars bytes) else Err not_utf8)
    by true = of_lines n m (lines_reading with_preference nothing_said (chars bytes))
    by false = refl

-- The fault of a reading, or out of memory, as the fault of the line.
pub alone-fails : (n l : List ℕ) (e : ProfileFault) (r : Result (Option Fault) AllocError) → FailsAt (profile_in n l) e
    → OnOk r (e.fault ≢ OutOfMemory) → IfOk r (λ f. f ≡ fault_but_roots e.fault) → IfOk r (λ f. f ≡ fault_alone l)
alone-fails n l e (Err x) fails some is = tt
alone-fails n l e (Ok f) (inl memory) some is = absurd (some memory)
alone-fails n l e (Ok f) (inr same) some is = is ∙ (sym (ap fault_of_reading same) ∙ any_name n [] l)
