use Rattle.std.proofs.Common.{◌≡◌, ◌<◌, ◌^◌, ◌+◌, ◌++◌, ◌∷◌, [], ℕ, suc, true, false, length, drop, sym, ap, ◌∙◌, arith, subst}
use Rattle.std.specs.Prelude.{slice_index, slice_index_or}
use Rattle.std.proofs.lemmas.Bool.{true_from_ne_false}
use Rattle.std.proofs.lemmas.List.{get_or_default}
use Rattle.hub_automaton.specs.Alike.{is_exchangeable}
use Rattle.hub_automaton.specs.Alphabet.{class_count, class_of}
use Rattle.hub_automaton.specs.ClassSets.{Grown}
use Rattle.hub_automaton.specs.Masks.{mask_all}
use Rattle.hub_automaton.specs.Spots.{PackedState, Tracked, state_after}
use Rattle.hub_automaton.specs.Words.{packed}
use Rattle.hub_automaton.specs.declared.masks.Mask.TheVariants as mask
use Rattle.hub_automaton.proofs.Kept.{mask_words}
use Rattle.hub_automaton.proofs.Likes.{leads_by, takers_at}
use Rattle.hub_automaton.proofs.Openings.{first_exchangeable, packed_low, taken_law}
use Rattle.hub_automaton.proofs.Spotted.{class_of_sample}
use Rattle.hub_automaton.proofs.spec_set.SpecSet.distinguishing_classes.Goals as goal

pub returns-clause-grown : goal.returns-clause-grown
returns-clause-grown c =
    let samples = c.self.inside.samples.items in
    let tracked = c.self.invariant.0 in
    let varied = c.self.invariant.2 in
    let same_ms : drop 1 samples ≡ c.args.self.now.mentioned = ap (λ (s : Tracked). s.mentioned) c.self.view_is in
    let many : length samples ≡ class_count (drop 1 samples) = ap length tracked.samples ∙ (let g : suc (length (drop 1 samples)) ≡ length (drop 1 samples) + 1 = omega arith in g) in
    subst (λ n. Grown c.args.splits.now c.distinguishing_classes.new.splits n) (many ∙ ap (λ ns. class_count ns) same_ms)
    (c.distinguishing_classes.ensures.grown (length samples) varied.few varied.few_apart)

pub returns-clause-alike : goal.returns-clause-alike
returns-clause-alike c = λ k l h x y of_x of_y.
    let samples = c.self.inside.samples.items in
    let ms = drop 1 samples in
    let ls = c.self.inside.alternatives.items in
    let takers = c.self.inside.masks.takers.items in
    let words = length c.self.inside.masks.stars in
    let set = c.args.self.now in
    let new = c.distinguishing_classes.new.splits in
    let tracked = c.self.invariant.0 in
    let masks = c.self.invariant.1 in
    let varied = c.self.invariant.2 in
    let same_ls : ls ≡ set.alternatives = ap (λ (s : Tracked). s.alternatives) c.self.view_is in
    let same_ms : ms ≡ set.mentioned = ap (λ (s : Tracked). s.mentioned) c.self.view_is in
    let few : k < class_count ms = subst (λ ns. k < class_count ns) (sym same_ms) l in
    let fewer : 0 < class_count ms = omega arith in
    let many : length samples ≡ class_count ms = ap length tracked.samples ∙ (let g : suc (length ms) ≡ length ms + 1 = omega arith in g) in
    let in_k : k < length samples = omega (arith, many, few) in
    let in_0 : 0 < length samples = omega (arith, in_k) in
    let a = slice_index samples k in
    let b = slice_index samples 0 in
    let p : is_exchangeable a ≡ true =
    true_from_ne_false (is_exchangeable a) (λ e. let d : true ≡ false = sym (c.distinguishing_classes.ensures.apart k (varied.apart k in_k e)) ∙ h in cc) in
    let q : is_exchangeable b ≡ true = first_exchangeable ms samples tracked.samples tracked.alphabet in
    let mask_k = takers_at samples takers ls k masks.taken in_k in
    let mask_0 = takers_at samples takers ls 0 masks.taken in_0 in
    let long : length (slice_index_or takers k []) ≡ words =
    mask_words (mask.Takers a) ls (slice_index_or takers k []) mask_k ∙ sym (mask_words mask.Stars ls c.self.inside.masks.stars masks.starred) in
    let of_a = class_of_sample ms samples k a tracked.samples tracked.alphabet few (get_or_default samples k 0 a in_k) in
    let of_b = class_of_sample ms samples 0 b tracked.samples tracked.alphabet fewer (get_or_default samples 0 0 b in_0) in
    let law = leads_by ms ls k 0 a b tracked.alphabet tracked.covered p q of_a of_b x y (ap (λ ns. class_of ns x) same_ms ∙ of_x) (ap (λ ns. class_of ns y) same_ms ∙ of_y) in
    let low : (n : ℕ) → (slice_index_or takers n [] ≡ packed (mask_all (mask.Takers (slice_index samples n)) ls)) → (i : ℕ) → slice_index_or (slice_index_or takers n []) i 0 < 2 ^ 64 =
    λ n e i. omega (arith, ap (λ ws. slice_index_or ws i 0) e, packed_low (mask_all (mask.Takers (slice_index samples n)) ls) i) in
    let taken = taken_law samples c.as_slice.result.now new takers c.self.inside.varied words k varied in_k long (low k mask_k) (low 0 mask_0) c.distinguishing_classes.ensures.told h in (
      law.slash,
      law.dot,
      λ t kept.
          let row : c.as_slice.result.now ≡ (state_after ls t).row = c.as_slice.ensures ∙ ap (λ (s : PackedState). s.row) (c.spots.view_is ∙ kept) ∙ ap (λ ks. (state_after ks t).row) (sym same_ls) in
          ap (λ ks. state_after ks (t ++ x ∷ [])) (sym same_ls)
          ∙ law.goes t (slice_index_or takers k []) (slice_index_or takers 0 []) c.as_slice.result.now mask_k mask_0 row taken
          ∙ ap (λ ks. state_after ks (t ++ y ∷ [])) same_ls,
    )
