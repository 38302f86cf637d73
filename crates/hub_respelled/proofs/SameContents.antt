-- What bytes spell is one.
use Rattle.std.proofs.Common.{◌≡◌, ◌∙◌, ℕ, List, Result, Ok, sym, subst}
use Rattle.hub_bundle.specs.Bundle.{SectionValue, bundle_reading}
use Rattle.hub_bundle.specs.Sections.{Spells, contents_reading, no_contents}
use Rattle.hub_bundle.specs.declared.bundle.BundleLineFault.{BundleLineFault}
use Rattle.hub_bundle.specs.declared.sections.BundleContents.{BundleContents}
use Rattle.hub_bundle.specs.declared.sections.SectionFault.{SectionFault}

same-sections : (r : Result (List SectionValue) BundleLineFault) (s t : List SectionValue)
    → r ≡ Ok s → r ≡ Ok t → s ≡ t
same-sections r s t e f = cc

same-contents : (r : Result BundleContents SectionFault) (c d : BundleContents) → r ≡ Ok c
    → r ≡ Ok d → c ≡ d
same-contents r c d e f = cc

pub spells-one : (bytes : List ℕ) (c d : BundleContents) → Spells bytes c → Spells bytes d → c ≡ d
spells-one bytes c d first second =
    same-contents (contents_reading no_contents second.sections) c d
    (subst (λ s. contents_reading no_contents s ≡ Ok c)
    (same-sections (bundle_reading bytes) first.sections second.sections first.bundle second.bundle)
    first.contents)
    second.contents
