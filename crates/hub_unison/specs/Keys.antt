-- The two roots of a profile as a key, and which keys are equal.
use Rattle.std.specs.Prelude.{ℕ, ◌+◌, Bool, List, [], ◌∷◌, ◌++◌, drop, Option, Some, None, if◌then◌else◌}
use Rattle.std.specs.Cmp.Lexicographic.{slice_cmp}
use Rattle.std.specs.Ordering.{is_eq, is_le, nat_cmp, ordering_then}
use Rattle.std.specs.declared.cmp.Ordering.{Ordering}
use Rattle.hub_path.specs.Path.{Path, root_bytes}
use Rattle.hub_profile.specs.Parts.{Parts}

-- Two texts, in UTF-8, which are compared by their bytes.
abbrev pub Key : Type 0
Key = List ℕ × List ℕ

abbrev pub text_cmp : List ℕ → List ℕ → Ordering
text_cmp = slice_cmp nat_cmp

abbrev pub is_key : Key → Key → Bool
is_key k l = is_eq (ordering_then (text_cmp k.0 l.0) (text_cmp k.1 l.1))

-- The lesser text first.
abbrev pub in_order : List ℕ → List ℕ → Key
in_order s t = if is_le (text_cmp s t) then (s, t) else (t, s)

abbrev pub key_of_roots : List Path → Key
key_of_roots [] = ([], [])
key_of_roots (r ∷ []) = ([], [])
key_of_roots (r ∷ s ∷ rs) = in_order (root_bytes r) (root_bytes s)

-- The texts of a profile's two roots, the lesser one first.
abbrev pub key_of : Parts → Key
key_of P = key_of_roots P.roots

-- The place of the first key that is k, from place j on.
abbrev pub next_place : Key → ℕ → List Key → Option ℕ
next_place k j [] = None
next_place k j (l ∷ ks) = if is_key l k then Some j else next_place k (j + 1) ks

-- For each key from place j on, the place of the next one that is the same.
abbrev pub next_places : ℕ → List Key → List (Option ℕ)
next_places j [] = []
next_places j (k ∷ ks) = next_place k (j + 1) ks ∷ next_places (j + 1) ks

-- The pairs of place i with those from place j on whose key is k.
abbrev pub pairs_of_key : ℕ → Key → ℕ → List Key → List (ℕ × ℕ)
pairs_of_key i k j [] = []
pairs_of_key i k j (l ∷ ks) = (if is_key l k then (i, j) ∷ [] else []) ++ pairs_of_key i k (j + 1) ks

-- The pairs of place i with those after place j that have the key of that place, of keys from j on.
abbrev pub pairs_on : ℕ → ℕ → List Key → List (ℕ × ℕ)
pairs_on i j [] = []
pairs_on i j (k ∷ ks) = pairs_of_key i k (j + 1) ks

abbrev pub pairs_after : ℕ → ℕ → List Key → List (ℕ × ℕ)
pairs_after i j ks = pairs_on i j (drop j ks)

-- All pairs of places from i on, the lower one first, with the same key.
abbrev pub pairs_of_keys : ℕ → List Key → List (ℕ × ℕ)
pairs_of_keys i [] = []
pairs_of_keys i (k ∷ ks) = pairs_of_key i k (i + 1) ks ++ pairs_of_keys (i + 1) ks
