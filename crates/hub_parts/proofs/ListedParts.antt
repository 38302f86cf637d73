-- The pairs of a list are enough, if it has all that clash.
use Rattle.std.proofs.Common.{◌≡◌, ◌≢◌, inl, inr, ⊎_elim, ℕ, List, [], refl, sym}
use Rattle.std.specs.Prelude.{slice_get, Some}
use Rattle.std.proofs.lemmas.Option.{none-some}
use Rattle.hub_profile.specs.Parts.{Parts}
use Rattle.hub_reach.specs.Safe.{Clash, IsSafe, Rule}
use Rattle.hub_parts.specs.Clashing.{AreNearPairs, HasAllClashing, HaveRoots}
use Rattle.hub_parts.specs.Listed.{AreSafeListedParts, HasNoBreach, HasNoClash, IsEachListedSafe}
use Rattle.hub_parts.specs.Nested.{IsSafeAnywhere, WideClash}
use Rattle.hub_parts.specs.Whole.{AreRootsApart}
use Rattle.hub_parts.proofs.Clashes.{clash-near, plain-wide}
use Rattle.hub_parts.proofs.Items.{places}
use Rattle.hub_parts.proofs.Whole.{one-safe, pair-safe}

-- The near pairs are such a list.
pub near-clashing : (Ps : List Parts) (ps : List (ℕ × ℕ)) → AreNearPairs Ps ps → HasAllClashing Ps ps
near-clashing Ps ps near i j P Q at_i at_j off own clash = ⊎_elim
    (λ less. inl (near.complete i j less (clash-near Ps i j P Q at_i at_j own clash)))
    (λ other. ⊎_elim
    (λ same. absurd (off same))
    (λ more. inr (near.complete j i more (⊎_elim (λ v. inr v) (λ v. inl v) (clash-near Ps i j P Q at_i at_j own clash))))
    other)
    (places i j)

no-clash : (Ps : List Parts) (ps : List (ℕ × ℕ)) → HaveRoots Ps → HasAllClashing Ps ps → IsEachListedSafe Ps ps
    → (i j : ℕ) (P Q : Parts) → slice_get Ps i ≡ Some P → slice_get Ps j ≡ Some Q → i ≢ j → ¬ (Clash P Q)
no-clash Ps ps roots has two i j P Q at_i at_j off clash = ⊎_elim
    (λ one. (two i j P Q one off at_i at_j).no_clash 0 1 P Q refl refl (λ e. cc) clash)
    (λ other. (two j i Q P other (λ e. off (sym e)) at_j at_i).no_clash 1 0 P Q refl refl (λ e. cc) clash)
    (has i j P Q at_i at_j off (roots i P at_i) (plain-wide P Q clash))

pub by-listed : (Ps : List Parts) (Rs : List Rule) (ps : List (ℕ × ℕ)) → HaveRoots Ps → HasAllClashing Ps ps
    → AreSafeListedParts Ps Rs ps → IsSafe Ps Rs
by-listed Ps Rs ps roots has parts = record {
  apart = parts.roots;
  no_clash = no-clash Ps ps roots has parts.two;
  no_breach = λ i k P R at at_k. (parts.one i P at).no_breach 0 k P R refl at_k;
}

pub to-listed : (Ps : List Parts) (Rs : List Rule) (ps : List (ℕ × ℕ)) → IsSafe Ps Rs → AreSafeListedParts Ps Rs ps
to-listed Ps Rs ps safe = record {
  roots = safe.apart;
  two = λ i j P Q m off at_i at_j. pair-safe Ps Rs safe i j P Q off at_i at_j;
  one = one-safe Ps Rs safe;
}

-- Without rules.
pub profiles-safe : (Ps : List Parts) (ps : List (ℕ × ℕ)) → HaveRoots Ps → HasAllClashing Ps ps
    → AreRootsApart Ps [] → IsEachListedSafe Ps ps → IsSafe Ps []
profiles-safe Ps ps roots has apart two = record {
  apart = apart;
  no_clash = no-clash Ps ps roots has two;
  no_breach = λ i k P R at at_k. absurd (none-some R at_k);
}

-- Wherever the roots lie.
pub no-clash-anywhere : (Ps : List Parts) (ps : List (ℕ × ℕ)) → HaveRoots Ps → HasAllClashing Ps ps → HasNoClash Ps ps
    → (i j : ℕ) (P Q : Parts) → slice_get Ps i ≡ Some P → slice_get Ps j ≡ Some Q → i ≢ j → ¬ (WideClash P Q)
no-clash-anywhere Ps ps roots has free i j P Q at_i at_j off clash = ⊎_elim
    (λ one. (free i j P Q one off at_i at_j).0 clash)
    (λ other. (free j i Q P other (λ e. off (sym e)) at_j at_i).1 clash)
    (has i j P Q at_i at_j off (roots i P at_i) clash)

pub enough : (Ps : List Parts) (Rs : List Rule) (ps : List (ℕ × ℕ)) → HaveRoots Ps → HasAllClashing Ps ps
    → HasNoClash Ps ps → HasNoBreach Ps Rs → IsSafeAnywhere Ps Rs
enough Ps Rs ps roots has free kept =
    record { no_clash = no-clash-anywhere Ps ps roots has free; no_breach = kept }

pub needed : (Ps : List Parts) (Rs : List Rule) (ps : List (ℕ × ℕ)) → IsSafeAnywhere Ps Rs
    → HasNoClash Ps ps × HasNoBreach Ps Rs
needed Ps Rs ps safe = (
  λ i j P Q m off at_i at_j.
      (safe.no_clash i j P Q at_i at_j off, safe.no_clash j i Q P at_j at_i (λ e. off (sym e))),
  safe.no_breach,
)
