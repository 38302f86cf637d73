-- The lines of certificates, one after another.
use Rattle.std.proofs.Common.{◌≡◌, ◌∙◌, ◌⊎◌, inr, IfOk, IfErr, ℕ, ◌+◌, ◌≤◌, Bool, true, false, cond, List, [], ◌∷◌, length, Some, None, Result, Ok, Err, sym, ap, arith}
use Rattle.hub_text.specs.Lines.{is_lf, lines_of, onto_first_line}
use Rattle.hub_text.specs.declared.line.Line.{Line}
use Rattle.hub_cert.specs.declared.certificate.Certificate.{Certificate}
use Rattle.hub_cert.specs.declared.certificate.draft.Draft.{Draft}
use Rattle.hub_cert.specs.declared.fault.CheckFault.{CheckFault}
use Rattle.hub_cert.specs.declared.fault.CheckFault.TheVariants.{BadText, OutOfMemory}
use Rattle.hub_cert.specs.Reading.{or_bad_text, certificates_in, finished_list, lines_reading, with_line}

-- Bytes have at most as many lines as there are bytes.
length-onto : (c : ℕ) (ls : List (Line (List ℕ))) → length (onto_first_line c ls) ≤ length ls + 1
length-onto c [] = omega arith
length-onto c (l ∷ ls) = omega arith

pub lines-few : (s : List ℕ) → length (lines_of s) ≤ length s
lines-few [] = omega arith
lines-few (c ∷ s) = go (is_lf c) (lines-few s)
  where
    go : (b : Bool) → length (lines_of s) ≤ length s → length (cond b (record { text = []; is_ended = true } ∷ lines_of s) (onto_first_line c (lines_of s))) ≤ length (c ∷ s)
    go true h = omega (arith, h)
    go false h = omega (arith, h, length-onto c (lines_of s))

-- What is left of the lines says what all bytes say.
pub record IsAt (bytes : List ℕ) (d : Draft) (number : ℕ) (rest : List ℕ) : Type 0 where
  pub says : lines_reading d (number + 1) (lines_of rest) ≡ certificates_in bytes
  pub few : number + length (lines_of rest) ≤ length bytes

module _ (bytes : List ℕ) (d : Draft) (number : ℕ) (rest after : List ℕ) (l : Line (List ℕ)) (at : IsAt bytes d number rest) (cut : lines_of rest ≡ l ∷ lines_of after) where
  one-line : lines_reading d (number + 1) (l ∷ lines_of after) ≡ certificates_in bytes
  one-line = ap (lines_reading d (number + 1)) (sym cut) ∙ at.says

  pub next-fits : number + 1 + length (lines_of after) ≤ length bytes
  next-fits = let few = at.few in let e = ap length cut in omega (arith, few, e)

  pub line-taken : (e : Draft) → with_line d l ≡ Some e → IsAt bytes e (number + 1) after
  line-taken e h = record {
    says = sym (ap (λ o. or_bad_text (number + 1) o (λ f. lines_reading f (number + 1 + 1) (lines_of after))) h) ∙ one-line;
    few = next-fits;
  }

  pub line-faulty : with_line d l ≡ None → certificates_in bytes ≡ Err (BadText (number + 1))
  line-faulty h = sym one-line ∙ ap (λ o. or_bad_text (number + 1) o (λ f. lines_reading f (number + 1 + 1) (lines_of after))) h

-- After the last line.
pub all-read : (bytes : List ℕ) (d : Draft) (number : ℕ) (rest : List ℕ) → IsAt bytes d number rest → rest ≡ [] → certificates_in bytes ≡ finished_list d.part d.certificates (number + 1)
all-read bytes d number rest at none = sym at.says ∙ ap (λ s. lines_reading d (number + 1) (lines_of s)) none

-- A result, as its two cases.
pub as-ok : (r s : Result (List Certificate) CheckFault) → s ≡ r → IfOk r (λ cs. s ≡ Ok cs)
as-ok (Ok cs) s e = e
as-ok (Err f) s e = tt

pub as-err : (r s : Result (List Certificate) CheckFault) → s ≡ r → IfErr r (λ f. (f ≡ OutOfMemory) ⊎ (s ≡ Err f))
as-err (Ok cs) s e = tt
as-err (Err f) s e = inr e
