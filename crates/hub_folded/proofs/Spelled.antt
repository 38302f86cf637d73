-- The folded lines of a profile as Unison has them, and that they spell its folded reading.
use Rattle.std.proofs.Common.{◌≡◌, Bool, true, false, List, [], ◌∷◌, map, drop, cond, refl, sym, ap, ◌∙◌, Some, ◌&&◌}
use Rattle.std.specs.Prelude.{if◌then◌else◌, slice_get}
use Rattle.std.specs.List.{list_all, filter}
use Rattle.std.proofs.lemmas.Bool.{and_parts}
use Rattle.std.proofs.lemmas.Option.{same_Some}
use Rattle.hub_glob.specs.Specification.{Specification}
use Rattle.hub_profile.specs.Parts.{some_passes}
use Rattle.hub_profile.specs.declared.partial.Partial.{Partial}
use Rattle.hub_unison.specs.Lines.{LineText, line_spec}
use Rattle.hub_unison.specs.Written.{IsWrittenAs, Written}
use Rattle.hub_folded.specs.Fold.{Folding}
use Rattle.hub_folded.specs.Lines.{fold_bar, fold_spec, folded, folded_member, folded_specs, keeps_values, knows_line, may_ignore, spread}
use Rattle.hub_folded.specs.InUnison.{IsNormOf, Lined, Norm, member_of}
use Rattle.hub_folded.proofs.Paths.{no}

-- Whether the specification of a line is known.
abbrev pub knows_text : Folding → LineText → Bool
knows_text F l = some_passes (knows_line F) (line_spec l)

abbrev pub folded_written : Folding → Norm → Written → Written
folded_written F N W =
    record {
      parts = folded F W.parts;
      ignore = if may_ignore F W.parts then map N.line (filter (knows_text F) W.ignore) else [];
      ignorenot = if may_ignore F W.parts then map N.line W.ignorenot else [];
      partial = map N.line (filter (knows_text F) W.partial);
    }

abbrev pub spread_written : Folding → Written → Written
spread_written F W =
    record { parts = spread F W.parts; ignore = []; ignorenot = []; partial = [] }

abbrev pub lined_written : Folding → Norm → Lined → Written
lined_written F N V =
    if V.folds then folded_written F N V.written else spread_written F V.written

mapped : {A B C : Type 0} (f : A → B) (g : B → C) (xs : List A)
    → map g (map f xs) ≡ map (λ x. g (f x)) xs
mapped f g [] = refl
mapped f g (x ∷ xs) = ap (λ ys. g (f x) ∷ ys) (mapped f g xs)

module _ {X : Type 0} (spec : X → Specification) where
  pub first-spelled : (l : LineText) (ls : List LineText) (x : X) (xs : List X)
      → map line_spec (l ∷ ls) ≡ map (λ x. Some (spec x)) (x ∷ xs) → line_spec l ≡ Some (spec x)
  first-spelled l ls x xs e =
      same_Some (line_spec l) (Some (spec x)) (ap (λ os. slice_get os 0) e)

  pub none-left : (l : LineText) (ls : List LineText)
      → map line_spec (l ∷ ls) ≡ map (λ x. Some (spec x)) [] → ⊥
  none-left l ls e = cc

  pub none-more : (x : X) (xs : List X)
      → map line_spec [] ≡ map (λ x. Some (spec x)) (x ∷ xs) → ⊥
  none-more x xs e = cc

module _ (F : Folding) (N : Norm) (is : IsNormOf F N) {X : Type 0} (spec : X → Specification) where
  -- The known lines spell folded what the known items specify.
  known-spelled : (ls : List LineText) (xs : List X)
      → map line_spec ls ≡ map (λ x. Some (spec x)) xs
      → map line_spec (map N.line (filter (knows_text F) ls))
      ≡ map (λ x. Some (fold_spec F (spec x))) (filter (λ x. knows_line F (spec x)) xs)
  known-spelled [] [] e = refl
  known-spelled [] (x ∷ xs) e = absurd (none-more spec x xs e)
  known-spelled (l ∷ ls) [] e = absurd (none-left spec l ls e)
  known-spelled (l ∷ ls) (x ∷ xs) e =
      go (knows_text F l) (knows_line F (spec x)) refl same (known-spelled ls xs (ap (drop 1) e))
    where
      one : line_spec l ≡ Some (spec x)
      one = first-spelled spec l ls x xs e

      same : knows_text F l ≡ knows_line F (spec x)
      same = ap (some_passes (knows_line F)) one

      texts : List LineText
      texts = filter (knows_text F) ls

      items : List X
      items = filter (λ x. knows_line F (spec x)) xs

      go : (a b : Bool) → knows_line F (spec x) ≡ b → a ≡ b
          → map line_spec (map N.line texts) ≡ map (λ x. Some (fold_spec F (spec x))) items
          → map line_spec (map N.line (cond a (l ∷ texts) texts))
          ≡ map (λ x. Some (fold_spec F (spec x))) (cond b (x ∷ items) items)
      go true true known h rest = λ i. is.lines l (spec x) one known i ∷ rest i
      go true false known h rest = no (sym h)
      go false true known h rest = no h
      go false false known h rest = rest

  -- If all items are known, so do all lines.
  all-spelled : (ls : List LineText) (xs : List X)
      → map line_spec ls ≡ map (λ x. Some (spec x)) xs
      → list_all (λ x. knows_line F (spec x)) xs ≡ true
      → map line_spec (map N.line ls) ≡ map (λ x. Some (fold_spec F (spec x))) xs
  all-spelled [] [] e all = refl
  all-spelled [] (x ∷ xs) e all = absurd (none-more spec x xs e)
  all-spelled (l ∷ ls) [] e all = absurd (none-left spec l ls e)
  all-spelled (l ∷ ls) (x ∷ xs) e all =
      let parts = and_parts (knows_line F (spec x)) (list_all (λ x. knows_line F (spec x)) xs) all in
      λ i. is.lines l (spec x) (first-spelled spec l ls x xs e) parts.0 i
      ∷ all-spelled ls xs (ap (drop 1) e) parts.1 i

module _ (F : Folding) (N : Norm) (is : IsNormOf F N) (W : Written) (by : IsWrittenAs W W.parts) where
  ignore-spelled : (b : Bool)
      → map line_spec (if b then map N.line (filter (knows_text F) W.ignore) else [])
      ≡ map Some (if b then folded_specs F W.parts.ignore else [])
  ignore-spelled true =
      known-spelled F N is (λ s. s) W.ignore W.parts.ignore by.ignore
      ∙ sym (mapped (fold_spec F) Some (filter (knows_line F) W.parts.ignore))
  ignore-spelled false = refl

  ignorenot-spelled : (a b : Bool) → list_all (knows_line F) W.parts.ignorenot ≡ b
      → map line_spec (if a && b then map N.line W.ignorenot else [])
      ≡ map Some (if a && b then map (fold_spec F) W.parts.ignorenot else [])
  ignorenot-spelled true true all =
      all-spelled F N is (λ s. s) W.ignorenot W.parts.ignorenot by.ignorenot all
      ∙ sym (mapped (fold_spec F) Some W.parts.ignorenot)
  ignorenot-spelled true false all = refl
  ignorenot-spelled false b all = refl

  pub folded-as : IsWrittenAs (folded_written F N W) (folded F W.parts)
  folded-as = record {
    parts = refl;
    ignore = ignore-spelled (may_ignore F W.parts);
    ignorenot = ignorenot-spelled (keeps_values F W.parts.paths)
        (list_all (knows_line F) W.parts.ignorenot) refl;
    partial =
        known-spelled F N is (λ (b : Partial). b.spec) W.partial W.parts.partial by.partial
        ∙ sym (mapped (fold_bar F) (λ b. Some b.spec)
        (filter (λ b. knows_line F b.spec) W.parts.partial));
  }

pub spread-as : (F : Folding) (W : Written) → IsWrittenAs (spread_written F W) (spread F W.parts)
spread-as F W = record { parts = refl; ignore = refl; ignorenot = refl; partial = refl }

pub lined-as : (F : Folding) (N : Norm) → IsNormOf F N → (V : Lined)
    → IsWrittenAs V.written V.written.parts
    → IsWrittenAs (lined_written F N V) (folded_member F (member_of V))
lined-as F N is V by = go V.folds
  where
    go : (b : Bool)
        → IsWrittenAs (if b then folded_written F N V.written else spread_written F V.written)
        (if b then folded F V.written.parts else spread F V.written.parts)
    go true = folded-as F N is V.written by
    go false = spread-as F V.written
