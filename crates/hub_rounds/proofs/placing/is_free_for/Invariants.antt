use Rattle.std.proofs.Common.{◌≡◌, ◌<◌, ℕ, true, Some, slice_get}
use Rattle.hub_cert.specs.declared.fault.CheckFault.{CheckFault}
use Rattle.hub_rounds.specs.Lines.{names_pair, subject_of}
use Rattle.hub_rounds.specs.Numbered.{NumberStandsIn}
use Rattle.hub_rounds.proofs.placing.is_free_for.Given as goal

abbrev pub invariant-loop-line : goal.invariant-loop-line
invariant-loop-line l = (k m : ℕ) → k < l.line-index → slice_get l.own k ≡ Some m → (e : CheckFault) → slice_get l.lines m ≡ Some e
    → (j : ℕ) → NumberStandsIn l.placed l.round j → names_pair (subject_of e) j l.number ≡ true → ⊥
