-- The lines of bytes, one at a time: what is left below the next one, and what a section has of it.
use Rattle.std.proofs.Common.{◌≡◌, Bool, true, false, ℕ, ◌+◌, ◌<◌, ◌≤◌, List, [], ◌∷◌, ◌++◌, length, Option, Some, None, refl, sym, ap, ◌∙◌, arith, append_assoc, ◌-◌, ◌||◌}
use Rattle.std.specs.Prelude.{if◌then◌else◌, not}
use Rattle.std.specs.List.{list_all, find, enumerate_from}
use Rattle.std.proofs.lemmas.Bool.{false≢true}
use denote.Ref.{Bor}
use Rattle.hub_text.specs.declared.line.Line.{Line}
use Rattle.hub_text.specs.Lines.{lines_of, line_text}
use Rattle.hub_text.specs.laws.Line.{text-first_line, shorter-first_line}
use Rattle.hub_text.specs.Takes.{Takes, of_bytes}
use Rattle.hub_bundle.specs.Bundle.{is_ignorable, follows_section, bytes_before_heading, written, stray_line}
use Rattle.hub_bundle.specs.Files.{is_heading}

-- Bytes begin with a heading exactly when their first line is one.
pub heading_line : (s t : List ℕ) (l : Line (List ℕ)) → lines_of s ≡ l ∷ lines_of t → is_heading l.text ≡ is_heading s
heading_line s t l e = by l.text refl l.is_ended refl
  where
    spelled : (text : List ℕ) → l.text ≡ text → (ended : Bool) → l.is_ended ≡ ended → s ≡ (if ended then text ++ 10 ∷ [] else text) ++ t
    spelled text f ended g = text-first_line s t l e ∙ (λ i. (if (g i) then f i ++ 10 ∷ [] else f i) ++ t)

    by : (text : List ℕ) → l.text ≡ text → (ended : Bool) → l.is_ended ≡ ended → is_heading l.text ≡ is_heading s
    by [] f true g = ap is_heading f ∙ sym (ap is_heading (spelled [] f true g))
    by [] f false g = absurd (omega (arith, shorter-first_line s t l e, ap length (spelled [] f false g)))
    by (b ∷ bs) f true g = ap is_heading f ∙ sym (ap is_heading (spelled (b ∷ bs) f true g))
    by (b ∷ bs) f false g = ap is_heading f ∙ sym (ap is_heading (spelled (b ∷ bs) f false g))

-- What was skipped of a section, and what is left.
pub record SkippedSoFar (all s : List ℕ) (count : ℕ) : Type 0 where
  pub front : List ℕ
  pub whole : all ≡ front ++ s
  pub bytes : bytes_before_heading (lines_of all) ≡ front ++ bytes_before_heading (lines_of s)
  pub below : (n : ℕ) → written n (lines_of all) ≡ written (n + count) (lines_of s)
  pub fewer : count + length s ≤ length all

not_at_end : (s : List ℕ) → follows_section s ≡ false → is_heading s ≡ false
not_at_end [] h = refl
not_at_end (b ∷ s) h = h

skip_line : (all s t : List ℕ) (count : ℕ) (l : Line (List ℕ)) → SkippedSoFar all s count → lines_of s ≡ l ∷ lines_of t → follows_section s ≡ false → SkippedSoFar all t (count + 1)
skip_line all s t count l so_far e going =
    let plain : is_heading l.text ≡ false = heading_line s t l e ∙ not_at_end s going in
    let one : bytes_before_heading (lines_of s) ≡ line_text l ++ bytes_before_heading (lines_of t) = ap bytes_before_heading e ∙ rw plain refl in
    let later : (n : ℕ) → written n (lines_of s) ≡ written (n + 1) (lines_of t) = λ n. ap (written n) e ∙ rw plain refl in
    record {
      front = so_far.front ++ line_text l;
      whole = so_far.whole ∙ ap (λ u. so_far.front ++ u) (text-first_line s t l e) ∙ sym (append_assoc so_far.front (line_text l) t);
      bytes = so_far.bytes ∙ ap (λ u. so_far.front ++ u) one ∙ sym (append_assoc so_far.front (line_text l) (bytes_before_heading (lines_of t)));
      below = λ n. let same : n + count + 1 ≡ n + (count + 1) = omega arith in so_far.below n ∙ later (n + count) ∙ ap (λ k. written k (lines_of t)) same;
      fewer = omega (arith, so_far.fewer, shorter-first_line s t l e);
    }

-- One more line.
pub skip_more : (all s t : List ℕ) (count : ℕ) (r : Option (Line (Bor (List ℕ)))) → SkippedSoFar all s count → Takes of_bytes s r t → follows_section s ≡ false → SkippedSoFar all t (count + 1)
skip_more all s t count None so_far none going = absurd (false≢true (sym going ∙ ap follows_section none))
skip_more all s t count (Some l) so_far e going = skip_line all s t count (of_bytes l) so_far e going

pub skip_less : (s t : List ℕ) (r : Option (Line (Bor (List ℕ)))) → Takes of_bytes s r t → follows_section s ≡ false → length t < length s
skip_less s t None none going = absurd (false≢true (sym going ∙ ap follows_section none))
skip_less s t (Some l) e going = shorter-first_line s t (of_bytes l) e

-- Whether a line ends the blank ones at the start.
abbrev pub ends_blank : ℕ × Line (List ℕ) → Bool
ends_blank p = is_heading p.1.text || not (list_all is_ignorable p.1.text)

-- The number of the line that ends them, from 1 on, unless it is a heading.
abbrev pub unless_heading : Option (ℕ × Line (List ℕ)) → Option ℕ
unless_heading None = None
unless_heading (Some p) = if is_heading p.1.text then None else Some (p.0 + 1)

pub stray_line-find : (n : ℕ) (ls : List (Line (List ℕ))) → unless_heading (find ends_blank (enumerate_from n ls)) ≡ stray_line (n + 1) ls
stray_line-find n [] = refl
stray_line-find n (l ∷ ls) = by (is_heading l.text) refl (list_all is_ignorable l.text) refl (stray_line-find (n + 1) ls)
  where
    by : (heading : Bool) → is_heading l.text ≡ heading → (blank : Bool) → list_all is_ignorable l.text ≡ blank
        → unless_heading (find ends_blank (enumerate_from (n + 1) ls)) ≡ stray_line (n + 1 + 1) ls
        → unless_heading (find ends_blank (enumerate_from n (l ∷ ls))) ≡ stray_line (n + 1) (l ∷ ls)
    by true h b e later = rw h (rw h refl)
    by false h true e later = rw (h, e) later
    by false h false e later = rw (h, e) (rw h refl)
