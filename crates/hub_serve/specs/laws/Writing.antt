-- From what was written to an output to what a text is written means.
use Rattle.std.proofs.Common.{◌≡◌, ◌∙◌, ℕ, Bool, false, ◌||◌, cond, Result, Ok, Err, List}
use Rattle.std.proofs.Common.{length, take, Option, refl, sym, ap, subst, arith}
use Rattle.std.specs.Prelude.{OnOk, is_err}
use Rattle.std.specs.Io.KnownBytes.{Appends, Keeps}
use Rattle.std.proofs.KnownBytes.{Appends-kept}
use Rattle.std.proofs.lemmas.List.{take_all}
use Rattle.hub_serve.specs.Serves.{WritesText}

-- A whole text was written, and no call failed.
pub text-written : (old mid new : Option (List ℕ)) (text : List ℕ) (status : ℕ) (failed : Bool)
    → Appends old mid text → Keeps mid new → failed ≡ false
    → WritesText old new text status failed status
text-written old mid new text status failed all kept is =
    let whole : take (length text) text ≡ text = take_all (length text) text (omega arith) in
    record {
      written = length text;
      appends = Appends-kept old mid new (take (length text) text)
          (subst (Appends old mid) (sym whole) all) kept;
      whole = λ e. whole;
      status_is = sym (ap (λ f. cond f 2 status) is);
    }

-- A call that returned no error has not failed.
pub unfailed : (failed err now : Bool) → failed ≡ false → false ≡ err → now ≡ (failed || err)
    → now ≡ false
unfailed failed err now h k e = e ∙ rw (h, ← k) refl

pub given-ok : {T E : Type 0} (r : Result T E) (P : Type 0) → false ≡ is_err r → OnOk r P → P
given-ok (Ok x) P e h = h
given-ok (Err x) P e h = cc
