-- What holds of an error that is passed up.
use Rattle.std.specs.Prelude.{◌≡◌, Result, Ok, Err, IfErr, IsErrAnd}
use Rattle.std.proofs.Common.{subst, sym}

-- What holds of an error holds of the same error that is passed up.
pub passed-up : {T E : Type 0} (r : Result T E) (e : E) (P : E → Type 0)
    → IsErrAnd r (λ y. y ≡ e) → P e → IfErr r P
passed-up (Ok x) e P h p = absurd h
passed-up (Err y) e P h p = subst P (sym h) p
