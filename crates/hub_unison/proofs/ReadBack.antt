-- Specifications that are read from their own texts.
use Rattle.std.proofs.Common.{◌≡◌, ℕ, Bool, true, false, List, Option, Some, None, Result, IfOk, sym, ap, ◌∙◌, subst, chars, encode_utf8_all}
use Rattle.std.specs.Prelude.{if◌then◌else◌}
use Rattle.std.specs.Str.{IsUtf8}
use Rattle.std.proofs.lemmas.Str.{chars_from_encodes}
use Rattle.hub_glob.specs.declared.piece.Part.{Part}
use Rattle.hub_glob.specs.declared.path_spec.Kind.{Kind}
use Rattle.hub_glob.specs.contracts.path_spec.PathSpecPartialEq.TheImpl as tested
use Rattle.hub_glob.specs.contracts.path_spec.PathSpecExact.TheImpl.Laws as tested_laws
use Rattle.hub_glob.specs.Specification.{Specification}
use Rattle.hub_glob.specs.Writing.{spec_text}
use Rattle.hub_profile.specs.Parts.{some_passes}
use Rattle.hub_unison.specs.Lines.{spelled}
use Rattle.hub_unison.specs.ReadingOf.{read_back}

pub spelled-text : (s : Specification) (bs cs : List ℕ) (o : Option Specification) → IsUtf8 bs
    → cs ≡ encode_utf8_all (spec_text s) → bs ≡ cs → o ≡ spelled (chars bs)
    → o ≡ spelled (spec_text s)
spelled-text s bs cs o valid written same read =
    read ∙ ap spelled (sym (chars_from_encodes (spec_text s) bs valid (sym (same ∙ written))))

passed : (s : Specification) (o : Option Specification) (b : Bool) → o ≡ spelled (spec_text s)
    → some_passes (λ t. tested.eq-value.it t s) o ≡ b
    → read_back s ≡ (if b then Some s else None)
passed s o b e h =
    ap (λ c. if c then Some s else None)
    (ap (some_passes (λ t. tested.eq-value.it t s)) (sym e) ∙ h)

pub read-some : (s t : Specification) (o : Option Specification) → o ≡ Some t
    → o ≡ spelled (spec_text s) → tested.eq-value.it t s ≡ true → Some t ≡ read_back s
read-some s t o is e h =
    ap Some ((tested_laws.exact-law t s).0 h)
    ∙ sym (passed s o true e (ap (some_passes (λ t. tested.eq-value.it t s)) is ∙ h))

pub read-other : (s t : Specification) (o : Option Specification) → o ≡ Some t
    → o ≡ spelled (spec_text s) → tested.eq-value.it t s ≡ false → None ≡ read_back s
read-other s t o is e h =
    sym (passed s o false e (ap (some_passes (λ t. tested.eq-value.it t s)) is ∙ h))

pub read-none : (s : Specification) (o : Option Specification) → o ≡ None
    → o ≡ spelled (spec_text s) → None ≡ read_back s
read-none s o is e = sym (passed s o false e (ap (some_passes (λ t. tested.eq-value.it t s)) is))

pub read-at : (s : Specification) (k : Kind) (ps : List Part) {E : Type 0}
    (r : Result (Option Specification) E) → k ≡ s.kind → ps ≡ s.pattern
    → IfOk r (λ o. o ≡ read_back (record { kind = k; pattern = ps }))
    → IfOk r (λ o. o ≡ read_back s)
read-at s k ps r kind pattern h =
    subst (λ t. IfOk r (λ o. o ≡ read_back t)) (λ i. record { kind = kind i; pattern = pattern i }) h
