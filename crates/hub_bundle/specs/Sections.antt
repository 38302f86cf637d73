-- What the sections of a bundle say, and the first fault of all others.
use Rattle.std.specs.Prelude.{◌≡◌, ◌⊎◌, ⊤, ℕ, List, [], ◌∷◌, ◌++◌, Some, None, Result, Ok, Err}
use Rattle.hub_profile.specs.Parts.{Parts}
use Rattle.hub_profile.specs.Reading.{profile_in}
use Rattle.hub_profile.specs.Rules.{rules_in}
use Rattle.hub_profile.specs.declared.fault.Fault.TheVariants as of_profile
use Rattle.hub_cert.specs.Reading.{certificates_in}
use Rattle.hub_cert.specs.Set.{Members}
use Rattle.hub_cert.specs.declared.fault.CheckFault.{CheckFault}
use Rattle.hub_cert.specs.declared.fault.CheckFault.TheVariants as check
use Rattle.hub_state.specs.Reading.{state_reading}
use Rattle.hub_state.specs.declared.fault.Fault.TheVariants as of_state
use Rattle.hub_bundle.specs.declared.bundle.Heading.{Heading}
use Rattle.hub_bundle.specs.declared.bundle.Heading.TheVariants as heading
use Rattle.hub_bundle.specs.declared.sections.BundleContents.{BundleContents}
use Rattle.hub_bundle.specs.declared.sections.SectionFault.{SectionFault}
use Rattle.hub_bundle.specs.declared.sections.SectionFault.TheVariants.{OfProfile, OfRules, OfState, OfCertificates}
use Rattle.hub_bundle.specs.declared.sections.ReadError.{ReadError}
use Rattle.hub_bundle.specs.declared.sections.ReadError.TheVariants as memory
use Rattle.hub_bundle.specs.Bundle.{SectionValue, bundle_reading}
use Rattle.hub_text.specs.Fails.{and_then}

-- Before the first section.
abbrev pub no_contents : BundleContents
no_contents = record { profiles = []; rules = []; state = None; certificates = [] }

-- One more profile.
abbrev pub and_profile : BundleContents → Parts → BundleContents
and_profile c P = record c { profiles = c.profiles ++ P ∷ [] }

-- What a section's reader returns is put into the contents, and its fault is the section's.
abbrev pub put_in : {T F : Type 0} → (T → BundleContents) → (F → SectionFault) → Result T F
    → Result BundleContents SectionFault
put_in put fault (Ok x) = Ok (put x)
put_in put fault (Err f) = Err (fault f)

-- The fault of a faulty text of certificates has its line. No other fault comes of a text.
abbrev pub certificates_fault : CheckFault → SectionFault
certificates_fault (check.BadText line) = OfCertificates line
certificates_fault _ = OfCertificates 0

-- There is one section of rules at most, one of a state and one of certificates: each says all of
-- them.
abbrev pub under_heading : BundleContents → Heading → List ℕ → Result BundleContents SectionFault
under_heading c (heading.Profile name) bytes =
    put_in (and_profile c) (OfProfile name) (profile_in name bytes)
under_heading c heading.Rules bytes =
    put_in (λ Rs. record c { rules = Rs }) OfRules (rules_in bytes)
under_heading c heading.State bytes =
    put_in (λ S. record c { state = Some S }) OfState (state_reading bytes)
under_heading c heading.Certificates bytes =
    put_in (λ cs. record c { certificates = cs }) certificates_fault (certificates_in bytes)

-- What is said so far, and then by one more section, or that one's first fault.
abbrev pub with_section : BundleContents → SectionValue → Result BundleContents SectionFault
with_section c s = under_heading c s.heading s.bytes

-- What is said so far, and then by these sections in order, or the first fault of the first faulty
-- one.
abbrev pub contents_reading : BundleContents → List SectionValue
    → Result BundleContents SectionFault
contents_reading c [] = Ok c
contents_reading c (s ∷ ss) = and_then (with_section c s) (λ d. contents_reading d ss)

-- The reader of a section had no memory.
abbrev pub HadNoMemory : SectionFault → Type 0
HadNoMemory (OfProfile name f) = f.fault ≡ of_profile.OutOfMemory
HadNoMemory (OfRules f) = f.fault ≡ of_profile.OutOfMemory
HadNoMemory (OfState f) = f.fault ≡ of_state.OutOfMemory
HadNoMemory (OfCertificates line) = ⊥

-- The error of a section's fault: the fault, or out of memory, as it is if the reader had none.
abbrev pub IsErrorOf : SectionFault → ReadError → Type 0
IsErrorOf f e =
    ((e ≡ memory.OutOfMemory) ⊎ (e ≡ memory.Faulty f))
    × (HadNoMemory f → e ≡ memory.OutOfMemory)

-- An error is the fault of the reading, or out of memory.
abbrev pub FailsAs : {T : Type 0} → Result T SectionFault → ReadError → Type 0
FailsAs reading memory.OutOfMemory = ⊤
FailsAs reading (memory.Faulty f) = reading ≡ Err f

-- The set of the profiles and the rules.
abbrev pub members : BundleContents → Members
members c = record { profiles = c.profiles; rules = c.rules }

-- The bytes are a bundle that says this.
pub record Spells (bytes : List ℕ) (c : BundleContents) : Type 0 where
  pub sections : List SectionValue
  pub bundle : bundle_reading bytes ≡ Ok sections
  pub contents : contents_reading no_contents sections ≡ Ok c

-- The bytes are a bundle one of whose sections is faulty.
pub record HasFault (bytes : List ℕ) (f : SectionFault) : Type 0 where
  pub sections : List SectionValue
  pub bundle : bundle_reading bytes ≡ Ok sections
  pub contents : contents_reading no_contents sections ≡ Err f
