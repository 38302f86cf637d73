-- The profiles of a bundle are written in its sections.
use Rattle.std.proofs.Common.{◌≡◌, ◌∙◌, ⊎_elim, ◌+◌, ℕ, List, [], ◌∷◌, ◌++◌, length, Result, Ok, Err, Some, refl, sym, ap, subst, append-nil, append_assoc, length-append}
use Rattle.std.specs.Prelude.{slice_get}
use Rattle.std.proofs.lemmas.Option.{none-some}
use Rattle.hub_text.specs.Fails.{and_then}
use Rattle.hub_text.specs.laws.List.{snoc-cases, snoc-new, snoc-old}
use Rattle.hub_profile.specs.Parts.{Parts}
use Rattle.hub_profile.specs.Reading.{profile_in}
use Rattle.hub_profile.specs.declared.fault.ProfileFault.{ProfileFault}
use Rattle.hub_profile.specs.Rules.{rules_in}
use Rattle.hub_cert.specs.Reading.{certificates_in}
use Rattle.hub_state.specs.Reading.{state_reading}
use Rattle.hub_bundle.specs.Bundle.{SectionValue}
use Rattle.hub_bundle.specs.Sections.{Spells, and_profile, certificates_fault, contents_reading, no_contents, put_in, under_heading, with_section}
use Rattle.hub_bundle.specs.declared.bundle.Heading.{Heading}
use Rattle.hub_bundle.specs.declared.bundle.Heading.TheVariants as heading
use Rattle.hub_bundle.specs.declared.sections.BundleContents.{BundleContents}
use Rattle.hub_bundle.specs.declared.sections.SectionFault.{SectionFault}
use Rattle.hub_bundle.specs.declared.sections.SectionFault.TheVariants.{OfProfile, OfRules, OfState}
use Rattle.hub_unison.specs.Written.{AreWrittenAs, IsWrittenAs, Written, written_of}
use Rattle.hub_unison.specs.laws.Lines.{profile-written}
use Rattle.hub_profile.specs.declared.rule.Rule.{Rule}
use Rattle.hub_serve.specs.Plans.{Takes, no_profiles, take_section, take_under, taking, with_profile, with_read, with_rules, with_unread}
use Rattle.hub_serve.specs.declared.taken.Taken.{Taken}
use Rattle.hub_serve.specs.Unison.{written_in, written_profile, written_under}

-- One more profile is written as its section says it.
one-more-written : (Ws : List Written) (Ps : List Parts) (W : Written) (P : Parts) → AreWrittenAs Ws Ps → IsWrittenAs W P → AreWrittenAs (Ws ++ W ∷ []) (Ps ++ P ∷ [])
one-more-written Ws Ps W P are is = record {
  count = length-append Ws (W ∷ []) ∙ (ap (λ n. n + 1) are.count ∙ sym (length-append Ps (P ∷ [])));
  each = λ i V at. ⊎_elim
      (λ old. let e = are.each i V old in (e.0, snoc-old Ps P e.0 i e.1, e.2))
      (λ new. (
        P,
        subst (λ k. slice_get (Ps ++ P ∷ []) k ≡ Some P) (sym (new.0 ∙ are.count)) (snoc-new Ps P),
        subst (λ (U : Written). IsWrittenAs U P) new.1 is,
      ))
      (snoc-cases Ws W V i at);
}

same-ok : (r : Result BundleContents SectionFault) (c d : BundleContents) → r ≡ Ok c → r ≡ Ok d → c ≡ d
same-ok r c d e f = cc

-- A section that is none of a profile leaves the profiles.
kept-profiles : {T F : Type 0} (put : T → BundleContents) (fault : F → SectionFault) (r : Result T F) (x : BundleContents) (Ps : List Parts) → ((t : T) → (put t).profiles ≡ Ps) → put_in put fault r ≡ Ok x → x.profiles ≡ Ps
kept-profiles put fault (Ok t) x Ps keeps e = ap (λ (y : BundleContents). y.profiles) (sym (same-ok (put_in put fault (Ok t)) (put t) x refl e)) ∙ keeps t
kept-profiles put fault (Err f) x Ps keeps e = cc

no-more-written : (Ws : List Written) (Ps Qs : List Parts) → AreWrittenAs Ws Ps → Qs ≡ Ps → AreWrittenAs (Ws ++ []) Qs
no-more-written Ws Ps Qs are same =
    subst (λ (Vs : List Written). AreWrittenAs Vs Qs) (sym (append-nil Ws)) (subst (AreWrittenAs Ws) (sym same) are)

after-section : (h : Heading) (bytes : List ℕ) (c : BundleContents) (Ws : List Written) → AreWrittenAs Ws c.profiles → (x : BundleContents) → under_heading c h bytes ≡ Ok x
    → AreWrittenAs (Ws ++ written_under h bytes) x.profiles
after-section (heading.Profile name) bytes c Ws are x e = go (profile_in name bytes) refl e
  where
    go : (r : Result Parts ProfileFault) → profile_in name bytes ≡ r → put_in (and_profile c) (OfProfile name) r ≡ Ok x → AreWrittenAs (Ws ++ written_profile (profile_in name bytes) bytes) x.profiles
    go (Ok P) is f =
        subst (λ (s : Result Parts ProfileFault). AreWrittenAs (Ws ++ written_profile s bytes) x.profiles) (sym is)
        (subst (λ (y : BundleContents). AreWrittenAs (Ws ++ written_of P bytes ∷ []) y.profiles) (same-ok (put_in (and_profile c) (OfProfile name) (Ok P)) (and_profile c P) x refl f)
        (one-more-written Ws c.profiles (written_of P bytes) P are (profile-written name bytes P is)))
    go (Err g) is f = cc
after-section heading.Rules bytes c Ws are x e =
    no-more-written Ws c.profiles x.profiles are (kept-profiles (λ Rs. record c { rules = Rs }) OfRules (rules_in bytes) x c.profiles (λ t. refl) e)
after-section heading.State bytes c Ws are x e =
    no-more-written Ws c.profiles x.profiles are (kept-profiles (λ S. record c { state = Some S }) OfState (state_reading bytes) x c.profiles (λ t. refl) e)
after-section heading.Certificates bytes c Ws are x e =
    no-more-written Ws c.profiles x.profiles are (kept-profiles (λ cs. record c { certificates = cs }) certificates_fault (certificates_in bytes) x c.profiles (λ t. refl) e)

record GoesOn (r : Result BundleContents SectionFault) (f : BundleContents → Result BundleContents SectionFault) (d : BundleContents) : Type 0 where
  x : BundleContents
  first : r ≡ Ok x
  rest : f x ≡ Ok d

goes-on : (r : Result BundleContents SectionFault) (f : BundleContents → Result BundleContents SectionFault) (d : BundleContents) → and_then r f ≡ Ok d → GoesOn r f d
goes-on (Ok x) f d e = record { x = x; first = refl; rest = e }
goes-on (Err g) f d e = cc

sections-written : (sections : List SectionValue) (c d : BundleContents) (Ws : List Written) → AreWrittenAs Ws c.profiles → contents_reading c sections ≡ Ok d
    → AreWrittenAs (Ws ++ written_in sections) d.profiles
sections-written [] c d Ws are e = no-more-written Ws c.profiles d.profiles are (ap (λ (y : BundleContents). y.profiles) (sym (same-ok (contents_reading c []) c d refl e)))
sections-written (s ∷ ss) c d Ws are e =
    let w = goes-on (with_section c s) (λ y. contents_reading y ss) d e in
    subst (λ (Vs : List Written). AreWrittenAs Vs d.profiles) (append_assoc Ws (written_under s.heading s.bytes) (written_in ss))
    (sections-written ss w.x d (Ws ++ written_under s.heading s.bytes) (after-section s.heading s.bytes c Ws are w.x w.first) w.rest)

pub bundle-written : (bytes : List ℕ) (c : BundleContents) (h : Spells bytes c) → AreWrittenAs (written_in h.sections) c.profiles
bundle-written bytes c h =
    sections-written h.sections no_contents c [] (record { count = refl; each = λ i W at. absurd (none-some W at) }) h.contents

-- So are those that a plan takes of it.
pub taken-ok : (r : Result Taken SectionFault) (t u : Taken) → r ≡ Ok t → r ≡ Ok u → t ≡ u
taken-ok r t u e f = cc

rules-kept : (t : Taken) (r : Result (List Rule) ProfileFault) (x : Taken) → with_rules t r ≡ Ok x → x.profiles ≡ t.profiles
rules-kept t (Ok Rs) x e = ap (λ (y : Taken). y.profiles) (sym (taken-ok (with_rules t (Ok Rs)) (record t { rules = Rs }) x refl e))
rules-kept t (Err f) x e = cc

after-taken : (h : Heading) (bytes : List ℕ) (t : Taken) (Ws : List Written) → AreWrittenAs Ws t.profiles → (x : Taken) → take_under t h bytes ≡ Ok x
    → AreWrittenAs (Ws ++ written_under h bytes) x.profiles
after-taken (heading.Profile name) bytes t Ws are x e = go (profile_in name bytes) refl (taken-ok (take_under t (heading.Profile name) bytes) (with_profile t name (profile_in name bytes)) x refl e)
  where
    go : (r : Result Parts ProfileFault) → profile_in name bytes ≡ r → with_profile t name (profile_in name bytes) ≡ x → AreWrittenAs (Ws ++ written_profile (profile_in name bytes) bytes) x.profiles
    go (Ok P) is f =
        let same : with_read t name P ≡ x = sym (ap (with_profile t name) is) ∙ f in
        subst (λ (s : Result Parts ProfileFault). AreWrittenAs (Ws ++ written_profile s bytes) x.profiles) (sym is)
        (subst (λ (y : Taken). AreWrittenAs (Ws ++ written_of P bytes ∷ []) y.profiles) same
        (one-more-written Ws t.profiles (written_of P bytes) P are (profile-written name bytes P is)))
    go (Err g) is f =
        let same : with_unread t name g ≡ x = sym (ap (with_profile t name) is) ∙ f in
        subst (λ (s : Result Parts ProfileFault). AreWrittenAs (Ws ++ written_profile s bytes) x.profiles) (sym is)
        (no-more-written Ws t.profiles x.profiles are (ap (λ (y : Taken). y.profiles) (sym same)))
after-taken heading.Rules bytes t Ws are x e = no-more-written Ws t.profiles x.profiles are (rules-kept t (rules_in bytes) x e)
after-taken heading.State bytes t Ws are x e =
    no-more-written Ws t.profiles x.profiles are (ap (λ (y : Taken). y.profiles) (sym (taken-ok (take_under t heading.State bytes) t x refl e)))
after-taken heading.Certificates bytes t Ws are x e =
    no-more-written Ws t.profiles x.profiles are (ap (λ (y : Taken). y.profiles) (sym (taken-ok (take_under t heading.Certificates bytes) t x refl e)))

pub record TakesOn (r : Result Taken SectionFault) (f : Taken → Result Taken SectionFault) (u : Taken) : Type 0 where
  pub x : Taken
  pub first : r ≡ Ok x
  pub rest : f x ≡ Ok u

pub takes-on : (r : Result Taken SectionFault) (f : Taken → Result Taken SectionFault) (u : Taken) → and_then r f ≡ Ok u → TakesOn r f u
takes-on (Ok x) f u e = record { x = x; first = refl; rest = e }
takes-on (Err g) f u e = cc

sections-taken : (sections : List SectionValue) (t u : Taken) (Ws : List Written) → AreWrittenAs Ws t.profiles → taking t sections ≡ Ok u
    → AreWrittenAs (Ws ++ written_in sections) u.profiles
sections-taken [] t u Ws are e = no-more-written Ws t.profiles u.profiles are (ap (λ (y : Taken). y.profiles) (sym (taken-ok (taking t []) t u refl e)))
sections-taken (s ∷ ss) t u Ws are e =
    let w = takes-on (take_section t s) (λ y. taking y ss) u e in
    subst (λ (Vs : List Written). AreWrittenAs Vs u.profiles) (append_assoc Ws (written_under s.heading s.bytes) (written_in ss))
    (sections-taken ss w.x u (Ws ++ written_under s.heading s.bytes) (after-taken s.heading s.bytes t Ws are w.x w.first) w.rest)

pub taken-written : (counted : List ℕ) (t : Taken) (h : Takes counted t) → AreWrittenAs (written_in h.sections) t.profiles
taken-written counted t h =
    sections-taken h.sections no_profiles t [] (record { count = refl; each = λ i W at. absurd (none-some W at) }) h.taken
