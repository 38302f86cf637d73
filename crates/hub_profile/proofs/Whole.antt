-- The reading of bytes, from what holds of their text.
use Rattle.std.proofs.Common.{◌≡◌, ℕ, Bool, true, false, cond, List, Option, Some, None, Result, Ok, Err, refl, ap, subst, ◌∙◌}
use Rattle.std.specs.Str.{is_utf8, chars}
use Rattle.std.proofs.lemmas.Str.{IsUtf8-from_is_utf8, scalars-chars}
use Rattle.hub_path.specs.Path.{Name}
use Rattle.hub_profile.specs.declared.fault.Fault.{Fault}
use Rattle.hub_profile.specs.declared.fault.Fault.TheVariants.{NotUtf8}
use Rattle.hub_profile.specs.declared.fault.ProfileFault.{ProfileFault}
use Rattle.hub_profile.specs.Parts.{Parts, IsProfile}
use Rattle.hub_profile.specs.Said.{Said, nothing_said}
use Rattle.hub_profile.specs.Foreign.{foreign_fault}
use Rattle.hub_profile.specs.LineByLine.{lines_reading}
use Rattle.hub_profile.specs.Reading.{with_preference, roots_fault, profile, or_later, unless_fault, if_said, profile_reading, profile_in}
use Rattle.hub_profile.proofs.Places.{ArePlaces, said_are_places}
use Rattle.hub_profile.proofs.ProfileFacts.{IsProfile-profile}

-- What is read of bytes that are text has its places.
pub places_of_text : (bytes text : List ℕ) (said : Said) → text ≡ bytes → is_utf8 bytes ≡ true → lines_reading with_preference nothing_said (chars text) ≡ Ok said → ArePlaces said
places_of_text bytes text said same u h = said_are_places (chars text) said (scalars-chars text (IsUtf8-from_is_utf8 text (ap is_utf8 same ∙ u))) h

-- What is read of bytes is a profile.
pub is_profile_read : (name : Name) (bytes : List ℕ) (P : Parts) → profile_in name bytes ≡ Ok P → IsProfile P
is_profile_read name bytes P h = by_text (is_utf8 bytes) refl h
  where
    by_roots : (said : Said) (o : Option Fault) (later : Option ProfileFault) → ArePlaces said → roots_fault said.roots ≡ o → unless_fault (or_later o later) (profile name said) ≡ Ok P → IsProfile P
    by_roots said None None places r e =
        let same : profile name said ≡ P = cc in
        subst IsProfile same (IsProfile-profile name said places.0 places.1 r)
    by_roots said None (Some f) places r e = cc
    by_roots said (Some f) later places r e = cc

    by_lines : (r : Result Said ProfileFault) → is_utf8 bytes ≡ true → lines_reading with_preference nothing_said (chars bytes) ≡ r → if_said name r ≡ Ok P → IsProfile P
    by_lines (Ok said) u e k = by_roots said (roots_fault said.roots) (foreign_fault said.roots said.protections said.partials) (places_of_text bytes bytes said refl u e) refl k
    by_lines (Err f) u e k = cc

    by_text : (b : Bool) → is_utf8 bytes ≡ b → cond b (profile_reading name (chars bytes)) (Err (record { line = 0; fault = NotUtf8 })) ≡ Ok P → IsProfile P
    by_text true u k = by_lines (lines_reading with_preference nothing_said (chars bytes)) u refl k
    by_text false u k = cc
