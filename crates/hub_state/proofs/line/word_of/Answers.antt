use Rattle.std.proofs.Common.{◌≡◌, ℕ, List, ◌++◌, Bool, true, false, refl}
use Rattle.std.specs.Prelude.{codes, nat_eq}
use Rattle.std.specs.List.{starts_with}
use Rattle.std.proofs.lemmas.Bool.Decides.{Decides-eqb}
use Rattle.std.proofs.lemmas.Slice.Eq.{starts_is}
use Rattle.hub_state.proofs.line.word_of.Goals as goal

-- A line that doesn't begin with a word.
not_begun : (l w : List ℕ) → ((rest : List ℕ) → l ≡ w ++ rest → ⊥) → starts_with nat_eq l w ≡ false
not_begun l w h = by (starts_with nat_eq l w) refl
  where
    by : (b : Bool) → starts_with nat_eq l w ≡ b → b ≡ false
    by false e = refl
    by true e = absurd (h _ ((starts_is Decides-eqb l w (starts_with nat_eq l w) refl).0 e))

pub returns : goal.returns
returns c =
    let blob : starts_with nat_eq c.args.line.now (codes "blob ") ≡ false = not_begun c.args.line.now (codes "blob ") c.in_default.ensures.cases in
    let replica : starts_with nat_eq c.args.line.now (codes "replica ") ≡ false = not_begun c.args.line.now (codes "replica ") c.in_default-strip_prefix.ensures.cases in
    let archive : starts_with nat_eq c.args.line.now (codes "archive ") ≡ false = not_begun c.args.line.now (codes "archive ") c.in_default-strip_prefix-2.ensures.cases in
    rw (blob, replica, archive) c.inner_word_of.ensures
