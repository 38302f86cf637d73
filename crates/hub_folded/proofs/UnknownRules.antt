-- Rules of which none is unknown, and which of these a line can say when they are folded.
use Rattle.std.proofs.Common.{◌≡◌, ◌+◌, ℕ, Bool, true, false, ◌&&◌, List, [], ◌∷◌, Option, Some, None, refl}
use Rattle.std.specs.Prelude.{if◌then◌else◌}
use Rattle.std.specs.List.{list_all}
use Rattle.std.proofs.lemmas.Bool.{and_parts, and_from}
use Rattle.hub_profile.specs.declared.rule.Rule.{Rule}
use Rattle.hub_folded.specs.Fold.{Folding}
use Rattle.hub_folded.specs.Lines.{fold_spec, is_foldable, is_spelled, know_rules, knows_line, knows_rule, knows_spec}
use Rattle.hub_folded.specs.Rules.{are_spelled, first_unknown, unknown_from}

some-none : {n : ℕ} → Some n ≡ None → ⊥
some-none e = cc

module _ (F : Folding) where
  none-at : (R : Rule) (b : Bool) (o : Option ℕ) (n : ℕ) → knows_rule F R ≡ b
      → (if b then o else Some n) ≡ None → (knows_rule F R ≡ true) × (o ≡ None)
  none-at R true o n e h = (e, h)
  none-at R false o n e h = absurd (some-none h)

  none-from : (n : ℕ) (Rs : List Rule) → unknown_from F n Rs ≡ None → know_rules F Rs ≡ true
  none-from n [] h = refl
  none-from n (R ∷ Rs) h =
      let two = none-at R (knows_rule F R) (unknown_from F (n + 1) Rs) n refl h in
      and_from (knows_rule F R) (know_rules F Rs) two.0 (none-from (n + 1) Rs two.1)

  pub none-unknown : (Rs : List Rule) → first_unknown F Rs ≡ None → know_rules F Rs ≡ true
  none-unknown Rs h = none-from 0 Rs h

  -- Known rules fold to what is said of each line, if a line can say it.
  pub known-spelled : (Rs : List Rule) → know_rules F Rs ≡ true
      → list_all (λ (R : Rule). knows_line F R.spec) Rs ≡ are_spelled F Rs
  known-spelled [] h = refl
  known-spelled (R ∷ Rs) h =
      let parts = and_parts (knows_rule F R) (know_rules F Rs) h in
      let known = (and_parts (knows_spec F R.spec) (is_foldable R.spec) parts.0).0 in
      (λ i. (known i && is_spelled (fold_spec F R.spec)) && known-spelled Rs parts.1 i)
