use Rattle.std.proofs.Common.{◌≡◌, ◌++◌, ◌∷◌, [], ℕ, List, OnOk, codes, string_bytes, subst}
use Rattle.hub_report.specs.Refusal.{joined, name_at}
use Rattle.hub_report.proofs.undecided.push_pair.Goals as goal

pub returns : goal.returns
returns c =
    let Is : List ℕ → List ℕ → Type 0 = λ w o. OnOk c.push_all.result (string_bytes c.push_all.new.text
    ≡ string_bytes c.args.text.now ++ joined (codes "hubsync: too large to decide, so in different rounds: " ∷ w ∷ codes " and " ∷ o ∷ codes "\n" ∷ [])) in
    subst (λ (o : List ℕ). Is (name_at c.args.profiles.now c.args.pair.writer) o) c.name_at-other.ensures
    (subst (λ (w : List ℕ). Is w c.name_at-other.result.now) c.name_at-writer.ensures c.push_all.ensures)
