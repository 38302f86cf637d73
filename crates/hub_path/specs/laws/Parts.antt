-- The parts of a text in turn.
use Rattle.std.proofs.Common.{◌≡◌, ◌==◌, ℕ, true, List, ap, ◌∙◌, lit<}
use Rattle.std.specs.List.{slice_split}
use Rattle.std.specs.Str.Iter.{split_steps, split_text, split_has_more, split_pattern}
use Rattle.std.specs.Str.Pattern.{FindsChar}
use Rattle.std.proofs.lemmas.Iterator.{YieldsList}
use Rattle.std.proofs.lemmas.Iterator.Splits.{YieldsList-from_str_split}

pub parts_of_text : {s r : _} (bs : List ℕ) → s ≡ r → split_text {P = ℕ} r ≡ bs
    → split_has_more {P = ℕ} r ≡ true → split_pattern {P = ℕ} r ≡ 47
    → YieldsList (split_steps FindsChar (λ a b. b ≡ a)) (λ x. x.now) s
    (slice_split (λ b. b == 47) bs)
parts_of_text bs same text more pattern =
    YieldsList-from_str_split 47 bs (lit< tt) (ap (split_text {P = ℕ}) same ∙ text)
    (ap (split_has_more {P = ℕ}) same ∙ more) (ap (split_pattern {P = ℕ}) same ∙ pattern)
