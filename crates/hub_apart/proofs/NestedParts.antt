-- Lines of nested roots, put together of those at each root.
use Rattle.std.proofs.Common.{◌≡◌, ◌∙◌, ◌<◌, ◌+◌, ⊎_elim, ℕ, List, [], ◌∷◌, ◌++◌, refl, sym, ap, subst, arith, append_assoc, append-nil}
use Rattle.std.specs.Prelude.{Contains, OnOk, Result, Ok, Err, Some, slice_get}
use Rattle.std.proofs.lemmas.List.Elements.{Contains-append_left, Contains-append_right, Contains-append_cases}
use Rattle.hub_path.specs.declared.side.Side.{Side}
use Rattle.hub_path.specs.declared.side.Side.TheVariants.{Left, Right}
use Rattle.hub_profile.specs.Parts.{Parts}
use Rattle.hub_profile.specs.declared.rule.Rule.{Rule}
use Rattle.hub_cert.specs.declared.fault.CheckFault.{CheckFault}
use Rattle.hub_nested.specs.Meeting.{meeting, rule_meeting}
use Rattle.hub_text.specs.laws.List.{less-or-same}
use Rattle.hub_apart.specs.ApartLines.{Adds}
use Rattle.hub_apart.specs.NestedLines.{AreLinesAt, AreLinesOfFirstRules, AreLinesOfNested, AreLinesOfRule, AreLinesUnder, HasLinesOfRule}

-- What follows from a result that is no error.
pub on-ok-so : {T E : Type 0} (r : Result T E) (A B : Type 0) → (A → B) → OnOk r A → OnOk r B
on-ok-so (Ok x) A B f h = f h
on-ok-so (Err e) A B f h = tt

abbrev Lines : Type 0
Lines = List CheckFault

-- Lines that are appended one after another.
then : (A B : Lines → Type 0) (old mid new : Lines) (a : Adds A old mid) (b : Adds B mid new) → new ≡ old ++ (a.0 ++ b.0)
then A B old mid new a b = b.2 ∙ (ap (λ (xs : Lines). xs ++ b.0) a.2 ∙ append_assoc old a.0 b.0)

more : (B : Lines → Type 0) (old front mid new : Lines) → mid ≡ old ++ front → (b : Adds B mid new) → new ≡ old ++ (front ++ b.0)
more B old front mid new is b = b.2 ∙ (ap (λ (xs : Lines). xs ++ b.0) is ∙ append_assoc old front b.0)

-- The lines at each two roots.
abbrev pick : (a b c d : Lines) → Side → Side → Lines
pick a b c d Left Left = a
pick a b c d Left Right = b
pick a b c d Right Left = c
pick a b c d Right Right = d

module _ (P Q : Parts) (i j : ℕ) where
  At : Side → Side → Lines → Type 0
  At x y es = AreLinesAt (meeting P x Q y) i j es

  pub four : (old m n o new : Lines) → Adds (AreLinesAt (meeting P Left Q Left) i j) old m → Adds (AreLinesAt (meeting P Left Q Right) i j) m n
      → Adds (AreLinesAt (meeting P Right Q Left) i j) n o → Adds (AreLinesAt (meeting P Right Q Right) i j) o new
      → Adds (AreLinesOfNested P Q i j) old new
  four old m n o new a b c d = (
    ((a.0 ++ b.0) ++ c.0) ++ d.0,
    record { at = pick a.0 b.0 c.0 d.0; are = are; all = refl },
    more (AreLinesAt (meeting P Right Q Right) i j) old ((a.0 ++ b.0) ++ c.0) o new
        (more (AreLinesAt (meeting P Right Q Left) i j) old (a.0 ++ b.0) n o
        (then (AreLinesAt (meeting P Left Q Left) i j) (AreLinesAt (meeting P Left Q Right) i j) old m n a b) c) d,
  )
    where
      are : (x y : Side) → AreLinesAt (meeting P x Q y) i j (pick a.0 b.0 c.0 d.0 x y)
      are Left Left = a.1
      are Left Right = b.1
      are Right Left = c.1
      are Right Right = d.1

-- The lines of a rule at both roots.
abbrev either : (a b : Lines) → Side → Lines
either a b Left = a
either a b Right = b

pub both : (P : Parts) (R : Rule) (i k : ℕ) (old mid new : Lines) → Adds (AreLinesUnder (rule_meeting P Left R) i k) old mid
    → Adds (AreLinesUnder (rule_meeting P Right R) i k) mid new → Adds (AreLinesOfRule P R i k) old new
both P R i k old mid new a b = (
  a.0 ++ b.0,
  record { at = either a.0 b.0; are = are; all = refl },
  then (AreLinesUnder (rule_meeting P Left R) i k) (AreLinesUnder (rule_meeting P Right R) i k) old mid new a b,
)
  where
    are : (x : Side) → AreLinesUnder (rule_meeting P x R) i k (either a.0 b.0 x)
    are Left = a.1
    are Right = b.1

-- The lines of rules, and of one more.
pub no-rules : (P : Parts) (Rs : List Rule) (i : ℕ) (old : Lines) → Adds (AreLinesOfFirstRules P Rs i 0) old old
no-rules P Rs i old = (
  [],
  record { of_rule = λ k l. absurd (omega (arith, l)); each = λ e has. let l = has.1 in absurd (omega (arith, l)) },
  sym (append-nil old),
)

rules-more : (P : Parts) (Rs : List Rule) (i m : ℕ) (R : Rule) (es own : Lines) → slice_get Rs m ≡ Some R → AreLinesOfFirstRules P Rs i m es
    → AreLinesOfRule P R i m own → AreLinesOfFirstRules P Rs i (m + 1) (es ++ own)
rules-more P Rs i m R es own at old new = record {
  of_rule = λ k l. ⊎_elim
      (λ less. let w = old.of_rule k less in (w.0, w.1, λ e has. Contains-append_left es own e (w.2 e has)))
      (λ same. (own, subst (λ n. HasLinesOfRule P Rs i n own) (sym same) last, λ e has. Contains-append_right es own e has))
      (less-or-same k m l);
  each = λ e has. ⊎_elim
      (λ before. old.each e before)
      (λ here. (own, here, (m, last)))
      (Contains-append_cases es own e has);
}
  where
    last : HasLinesOfRule P Rs i m own
    last = record { rule = R; at = at; lines = new }

pub one-rule-more : (P : Parts) (Rs : List Rule) (i m : ℕ) (R : Rule) (old mid new : Lines) → slice_get Rs m ≡ Some R
    → Adds (AreLinesOfFirstRules P Rs i m) old mid → Adds (AreLinesOfRule P R i m) mid new → Adds (AreLinesOfFirstRules P Rs i (m + 1)) old new
one-rule-more P Rs i m R old mid new at a b = (
  a.0 ++ b.0,
  rules-more P Rs i m R a.0 b.0 at a.1 b.1,
  then (AreLinesOfFirstRules P Rs i m) (AreLinesOfRule P R i m) old mid new a b,
)
