-- A section that is a profile.
use Rattle.std.proofs.Common.{◌≡◌, ◌∙◌, ℕ, List, Option, Some, None, Result, Ok, Err, ap, subst, sym, IfOk, MatchOption}
use Rattle.hub_path.specs.Path.{Name, Path}
use Rattle.hub_profile.specs.Parts.{Parts}
use Rattle.hub_profile.specs.Reading.{profile_in}
use Rattle.hub_profile.specs.declared.fault.ProfileFault.{ProfileFault}
use Rattle.hub_bundle.specs.Bundle.{SectionValue}
use Rattle.hub_bundle.specs.declared.bundle.Heading.{Heading}
use Rattle.hub_bundle.specs.declared.bundle.Heading.TheVariants as heading
use Rattle.hub_archives.specs.Found.{IsHeldUnder, KeptOutUnder}
use Rattle.hub_archives.specs.KeptOut.{AllKeepOut, IsHeldBy}

named : Name → Heading → Name
named d (heading.Profile n) = n
named d heading.Rules = d
named d heading.State = d
named d heading.Certificates = d

read : Parts → Result Parts ProfileFault → Parts
read d (Ok P) = P
read d (Err f) = d

-- One profile is that of the section: what keeps out its folders does.
kept_for : (folders : List Path) (s : SectionValue) (name : Name) (P : Parts) → s.heading ≡ heading.Profile name
    → profile_in name s.bytes ≡ Ok P → AllKeepOut folders P → KeptOutUnder folders s
unfolding named read
kept_for folders s name P head spelled kept Q is =
    let same_name : name ≡ is.0 = ap (named name) (sym head ∙ is.1) in
    let same : P ≡ Q = ap (read P) (sym spelled ∙ (ap (λ n. profile_in n s.bytes) same_name ∙ is.2)) in
    subst (AllKeepOut folders) same kept

pub held_for : {E : Type 0} (folders : List Path) (s : SectionValue) (name : Name) (P : Parts)
    (r : Result (Option (ℕ × Path)) E) → s.heading ≡ heading.Profile name → profile_in name s.bytes ≡ Ok P
    → IfOk r (λ o. MatchOption o (AllKeepOut folders P) (λ h. IsHeldBy folders P h.0 h.1))
    → IfOk r (λ o. MatchOption o (KeptOutUnder folders s) (λ h. IsHeldUnder folders s h.0 h.1))
held_for folders s name P (Ok None) head spelled kept = kept_for folders s name P head spelled kept
held_for folders s name P (Ok (Some h)) head spelled held = (P, (name, head, spelled), held)
held_for folders s name P (Err e) head spelled h = h
