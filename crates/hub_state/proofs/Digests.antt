-- A digest has 32 bytes.
use Rattle.std.proofs.Common.{◌≡◌, ℕ, zero, suc, ◌*◌, ◌/◌, ◌%◌, ◌^◌, ◌<◌, true, List, [], ◌∷◌, length, refl, ◌∙◌, arith, length-append}
use Rattle.std.specs.Prelude.{slice_index, nat_lt}
use Rattle.std.specs.List.{list_all}
use Rattle.std.specs.Int.{w32, to_be_bytes, byte_at}
use Rattle.std.proofs.lemmas.Bool.{and_parts, and_from}
use Rattle.std.proofs.lemmas.Bool.Decides.{nat_tests}
use Rattle.std.proofs.lemmas.List.Folds.{list_all-append}
use Rattle.sha2.specs.Sha256.{sha256, digest_bytes}
use Rattle.hub_tree.specs.Tree.{IsDigest}

small_byte : (k n : ℕ) → nat_lt (byte_at k n) 256 ≡ true
small_byte zero n = let h : n % 256 < 256 = omega arith in grind (arith, nat_tests)
small_byte (suc k) n = let h : n / 256 ^ suc k % 256 < 256 = omega arith in grind (arith, nat_tests)

four_bytes : (n : ℕ) → (length (to_be_bytes w32 n) ≡ 4) × (list_all (λ b. nat_lt b 256) (to_be_bytes w32 n) ≡ true)
four_bytes n = (refl, and_from _ _ (small_byte 3 n) (and_from _ _ (small_byte 2 n) (and_from _ _ (small_byte 1 n) (and_from _ true (small_byte 0 n) refl))))

digest_of : (h : List ℕ) (n : ℕ) → (length (digest_bytes h n) ≡ n * 4) × (list_all (λ b. nat_lt b 256) (digest_bytes h n) ≡ true)
unfolding digest_bytes
digest_of h zero = (refl, refl)
digest_of h (suc n) =
    let before = digest_of h n in
    let last = four_bytes (slice_index h n) in (
      omega (arith, before.0, last.0, length-append (digest_bytes h n) (to_be_bytes w32 (slice_index h n))),
      list_all-append (λ b. nat_lt b 256) (digest_bytes h n) (to_be_bytes w32 (slice_index h n)) ∙ and_from _ _ before.1 last.1,
    )

small_at : (t : List ℕ) (i : ℕ) → list_all (λ b. nat_lt b 256) t ≡ true → slice_index t i < 256
small_at [] i h = omega arith
small_at (b ∷ t) zero h = let k = (and_parts (nat_lt b 256) (list_all (λ b. nat_lt b 256) t) h).0 in grind (arith, nat_tests)
small_at (b ∷ t) (suc i) h = small_at t i (and_parts (nat_lt b 256) (list_all (λ b. nat_lt b 256) t) h).1

pub IsDigest-sha256 : (m : List ℕ) → IsDigest (sha256 m)
unfolding sha256
IsDigest-sha256 m = let w = digest_of _ 8 in (w.0, λ i. small_at _ i w.1)
