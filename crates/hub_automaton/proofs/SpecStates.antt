-- The same is kept of two texts exactly where it is for each specification.
use Rattle.std.proofs.Common.{◌≡◌, ℕ, Bool, true, List, [], ◌∷◌, ◌++◌, map, length, ◌+◌, refl, sym, ap, ◌∙◌, arith}
use Rattle.std.specs.Prelude.{◌↔◌}
use Rattle.std.specs.List.{flat_map}
use Rattle.std.proofs.lemmas.List.{length-append, length-map}
use Rattle.hub_glob.specs.declared.piece.Piece.{Piece}
use Rattle.hub_automaton.specs.declared.alternatives.Alternatives.{Alternatives}
use Rattle.hub_automaton.specs.Spots.{spots, looked_at, spots_of, is_matched_above, is_matched, spots_count, starts, Unpacked, unpacked, PackedState, state_after, SpecState, spec_state}
use Rattle.hub_automaton.specs.forms.Stepping.{matched_each}
use Rattle.hub_automaton.specs.Words.{words_for, packed_by, packed}
use Rattle.hub_automaton.proofs.Steps.{length-spots}
use Rattle.hub_automaton.proofs.Spotted.{length-spots_all, each_law}
use Rattle.hub_automaton.proofs.WordMoves.{packed_same, length-packed}

split : {X : Type 0} (a b c d : List X) → length a ≡ length c → a ++ b ≡ c ++ d → (a ≡ c) × (b ≡ d)
split [] b [] d l h = (refl, h)
split [] b (y ∷ c) d l h = absurd (omega arith)
split (x ∷ a) b [] d l h = absurd (omega arith)
split (x ∷ a) b (y ∷ c) d l h =
    let first : x ≡ y = cc in
    let rest : a ++ b ≡ c ++ d = cc in
    let w = split a b c d (omega arith) rest in (λ i. first i ∷ w.0 i, w.1)

same_length : (c : List Piece) (t u : List ℕ) → length (spots c t) ≡ length (spots c u)
same_length c t u = length-spots c t ∙ sym (length-spots c u)

length-flat : (cs : List (List Piece)) (t u : List ℕ) → length (flat_map (λ c. spots c t) cs) ≡ length (flat_map (λ c. spots c u) cs)
length-flat [] t u = refl
length-flat (c ∷ cs) t u =
    omega (arith, length-append (spots c t) (flat_map (λ d. spots d t) cs), length-append (spots c u) (flat_map (λ d. spots d u) cs), same_length c t u, length-flat cs t u)

sets_same : (cs : List (List Piece)) (t u : List ℕ) → flat_map (λ c. spots c t) cs ≡ flat_map (λ c. spots c u) cs → map (λ c. spots c t) cs ≡ map (λ c. spots c u) cs
sets_same [] t u h = refl
sets_same (c ∷ cs) t u h =
    let w = split (spots c t) (flat_map (λ d. spots d t) cs) (spots c u) (flat_map (λ d. spots d u) cs) (same_length c t u) h in λ i. w.0 i ∷ sets_same cs t u w.1 i

all_same : (ls : List Alternatives) (t u : List ℕ) → flat_map (λ a. spots_of a t) ls ≡ flat_map (λ a. spots_of a u) ls → map (λ a. is_matched_above a t) ls ≡ map (λ a. is_matched_above a u) ls
    → map (spec_state t) ls ≡ map (spec_state u) ls
all_same [] t u h k = refl
all_same (a ∷ ls) t u h k =
    let w = split (spots_of a t) (flat_map (λ b. spots_of b t) ls) (spots_of a u) (flat_map (λ b. spots_of b u) ls)
    (length-flat a.choices (looked_at a.kind t) (looked_at a.kind u)) h in
    let first : is_matched_above a t ≡ is_matched_above a u = cc in
    let rest : map (λ b. is_matched_above b t) ls ≡ map (λ b. is_matched_above b u) ls = cc in
    let sets = sets_same a.choices (looked_at a.kind t) (looked_at a.kind u) w.0 in
    λ i. (let p : SpecState = record { sets = sets i; below = first i } in p) ∷ all_same ls t u w.1 rest i

flat-sets : (cs : List (List Piece)) (t : List ℕ) → flat_map (λ c. spots c t) cs ≡ flat_map (λ s. s) (map (λ c. spots c t) cs)
flat-sets [] t = refl
flat-sets (c ∷ cs) t = ap (λ s. spots c t ++ s) (flat-sets cs t)

live_of : (ls : List Alternatives) (t : List ℕ) → flat_map (λ a. spots_of a t) ls ≡ flat_map (λ (p : SpecState). flat_map (λ s. s) p.sets) (map (spec_state t) ls)
live_of [] t = refl
live_of (a ∷ ls) t = λ i. flat-sets a.choices (looked_at a.kind t) i ++ live_of ls t i

below_of : (ls : List Alternatives) (t : List ℕ) → map (λ a. is_matched_above a t) ls ≡ map (λ (p : SpecState). p.below) (map (spec_state t) ls)
below_of [] t = refl
below_of (a ∷ ls) t = ap (λ bs. is_matched_above a t ∷ bs) (below_of ls t)

-- Texts of which the same is kept.
pub length-live : (ls : List Alternatives) (t : List ℕ) → length (unpacked ls t).live ≡ spots_count ls
length-live [] t = refl
length-live (a ∷ ls) t =
    length-append (spots_of a t) (flat_map (λ b. spots_of b t) ls) ∙ (λ i. length-spots_all a.choices (looked_at a.kind t) i + length-live ls t i)

-- Bits, as many on both sides, of which the words are equal.
same_bits : (bs cs : List Bool) → length bs ≡ length cs → packed bs ≡ packed cs → bs ≡ cs
same_bits bs cs l h = packed_same (words_for (length bs)) bs cs (omega arith) l (h ∙ ap (λ n. packed_by (words_for n) cs) (sym l))

pub same_unpacked : (ls : List Alternatives) (t u : List ℕ) → state_after ls t ≡ state_after ls u → unpacked ls t ≡ unpacked ls u
same_unpacked ls t u h =
    let a = unpacked ls t in
    let b = unpacked ls u in
    let many : length a.live ≡ length b.live = length-live ls t ∙ sym (length-live ls u) in
    let flags : length a.below ≡ length b.below = length-map ls (λ c. is_matched_above c t) ∙ sym (length-map ls (λ c. is_matched_above c u)) in
    let words : length (packed a.live) ≡ length (packed b.live) =
    length-packed (words_for (length a.live)) a.live ∙ ap words_for many ∙ sym (length-packed (words_for (length b.live)) b.live) in
    let w = split (packed a.live) (packed a.below) (packed b.live) (packed b.below) words (ap (λ (s : PackedState). s.row) h) in
    let live = same_bits a.live b.live many w.0 in
    let below = same_bits a.below b.below flags w.1 in
    λ i. let s : Unpacked = record { live = live i; below = below i; start = ap (λ (s : PackedState). s.start) h i } in s

pub same_progress : (ls : List Alternatives) (t u : List ℕ) → (state_after ls t ≡ state_after ls u) ↔ ((map (spec_state t) ls ≡ map (spec_state u) ls) × (starts true t ≡ starts true u))
same_progress ls t u = (
  λ h.
      let e = same_unpacked ls t u h in
      (all_same ls t u (ap (λ (s : Unpacked). s.live) e) (ap (λ (s : Unpacked). s.below) e), ap (λ (s : Unpacked). s.start) e),
  λ w.
      let live = live_of ls t ∙ ap (flat_map (λ (p : SpecState). flat_map (λ s. s) p.sets)) w.0 ∙ sym (live_of ls u) in
      let below = below_of ls t ∙ ap (map (λ (p : SpecState). p.below)) w.0 ∙ sym (below_of ls u) in
      λ i. let s : PackedState = record { row = packed (live i) ++ packed (below i); start = w.1 i } in s,
)

-- The same specifications match them.
pub same_matches : (ls : List Alternatives) (t u : List ℕ) → state_after ls t ≡ state_after ls u → map (λ a. is_matched a t) ls ≡ map (λ a. is_matched a u) ls
same_matches ls t u h = sym (each_law ls t) ∙ ap (λ (s : Unpacked). matched_each ls s.below s.live) (same_unpacked ls t u h) ∙ each_law ls u
