-- What follows a part of a text at its start.
use Rattle.std.proofs.Common.{◌≡◌, ◌≢◌, ◌++◌, ℕ, List, Option, Some, None, IfSome}
use Rattle.std.specs.Prelude.{MatchOption}
use denote.Ref.{Bor}

pub rest-is : (s p : List ℕ) (r : Option (Bor (List ℕ))) → MatchOption r ((rest : List ℕ) → s ≢ p ++ rest) (λ x. s ≡ p ++ x.now)
    → IfSome r (λ x. s ≡ p ++ x.now)
rest-is s p None m = tt
rest-is s p (Some x) m = m
