-- Lines to which those of one profile more are added.
use Rattle.std.proofs.Common.{◌≡◌, ◌∙◌, ⊎_elim, inl, inr, ◌<◌, ℕ, List, [], ◌∷◌, ◌++◌, length, Some, refl, sym, ap, subst, arith, append_assoc}
use Rattle.std.specs.Prelude.{Contains, OnOk, Result, Ok, Err, slice_get}
use Rattle.std.proofs.lemmas.List.{length_push}
use Rattle.std.proofs.lemmas.List.Elements.{Contains-append_left, Contains-append_right, Contains-append_cases}
use Rattle.std.proofs.lemmas.Option.{none-some, slice_get_within}
use Rattle.hub_text.specs.laws.List.{has-item, less-or-same, snoc-cases, snoc-new, snoc-old}
use Rattle.hub_profile.specs.Parts.{Parts}
use Rattle.hub_profile.specs.declared.rule.Rule.{Rule}
use Rattle.hub_cert.specs.Refused.{IsRefused}
use Rattle.hub_cert.specs.Set.{Members}
use Rattle.hub_cert.specs.declared.fault.CheckFault.{CheckFault}
use Rattle.hub_apart.specs.ApartLines.{Adds, AreLinesApart, AreLinesOfOne, AreLinesOfTwo, AreLinesWithEach, HasLinesOfOne, HasLinesOfTwo, IsRefusedApart, IsRefusedWithEach, set_of_one, set_of_two}

-- What holds at all events holds if there is no error.
pub on-ok : {T E : Type 0} (r : Result T E) (P : Type 0) → P → OnOk r P
on-ok (Ok x) P h = h
on-ok (Err e) P h = tt

-- No lines with nobody, and those with one more.
pub with-nobody : (Q : Parts) (j : ℕ) → AreLinesWithEach [] Q j []
with-nobody Q j = record { of_each = λ i P at. absurd (none-some P at); each = λ e has. absurd (omega (arith, has.1)) }

with-one : (Ps : List Parts) (P Q : Parts) (j : ℕ) (es own : List CheckFault) → AreLinesWithEach Ps Q j es → AreLinesOfTwo P Q (length Ps) j own
    → AreLinesWithEach (Ps ++ P ∷ []) Q j (es ++ own)
with-one Ps P Q j es own old new = record {
  of_each = λ i R at. ⊎_elim
      (λ before. let w = old.of_each i R before in (w.0, w.1, λ e has. Contains-append_left es own e (w.2 e has)))
      (λ here. (
        own,
        subst (λ (k : ℕ). AreLinesOfTwo R Q k j own) (sym here.0) (subst (λ (S : Parts). AreLinesOfTwo S Q (length Ps) j own) here.1 new),
        λ e has. Contains-append_right es own e has,
      ))
      (snoc-cases Ps P R i at);
  each = λ e has. ⊎_elim
      (λ before. let w = old.each e before in (w.0, w.1, (w.2.0, w.2.1, snoc-old Ps P w.2.1 w.2.0 w.2.2, w.2.3)))
      (λ here. (own, here, (length Ps, P, snoc-new Ps P, new)))
      (Contains-append_cases es own e has);
}

pub adds-with-one : (Ps : List Parts) (P Q : Parts) (j : ℕ) (old mid new : List CheckFault) → Adds (AreLinesWithEach Ps Q j) old mid → Adds (AreLinesOfTwo P Q (length Ps) j) mid new
    → Adds (AreLinesWithEach (Ps ++ P ∷ []) Q j) old new
adds-with-one Ps P Q j old mid new a b = (
  a.0 ++ b.0,
  with-one Ps P Q j a.0 b.0 a.1 b.1,
  b.2 ∙ (ap (λ (xs : List CheckFault). xs ++ b.0) a.2 ∙ append_assoc old a.0 b.0),
)

-- No lines of nobody, and those of one profile more.
pub of-nobody : (Rs : List Rule) → AreLinesApart (record { profiles = []; rules = Rs }) []
of-nobody Rs = record {
  of_one = λ i l. absurd (omega (arith, l));
  of_two = λ i j l m. absurd (omega (arith, m));
  each = λ e has. absurd (omega (arith, has.1));
}

one-more : (Ps : List Parts) (Q : Parts) (Rs : List Rule) (i : ℕ) (own : List CheckFault) → HasLinesOfOne (record { profiles = Ps; rules = Rs }) i own
    → HasLinesOfOne (record { profiles = Ps ++ Q ∷ []; rules = Rs }) i own
one-more Ps Q Rs i own h = record { profile = h.profile; at = snoc-old Ps Q h.profile i h.at; lines = h.lines }

two-more : (Ps : List Parts) (Q : Parts) (i j : ℕ) (own : List CheckFault) → HasLinesOfTwo Ps i j own → HasLinesOfTwo (Ps ++ Q ∷ []) i j own
two-more Ps Q i j own h = record {
  first = h.first;
  second = h.second;
  before = h.before;
  at_first = snoc-old Ps Q h.first i h.at_first;
  at_second = snoc-old Ps Q h.second j h.at_second;
  lines = h.lines;
}

-- What the last one has with an earlier one.
with-last : (Ps : List Parts) (P Q : Parts) (i : ℕ) (own : List CheckFault) → slice_get Ps i ≡ Some P → AreLinesOfTwo P Q i (length Ps) own
    → HasLinesOfTwo (Ps ++ Q ∷ []) i (length Ps) own
with-last Ps P Q i own at lines = record {
  first = P;
  second = Q;
  before = slice_get_within Ps i P at;
  at_first = snoc-old Ps Q P i at;
  at_second = snoc-new Ps Q;
  lines = lines;
}

apart-more : (Ps : List Parts) (Q : Parts) (Rs : List Rule) (es xs ys : List CheckFault) → AreLinesApart (record { profiles = Ps; rules = Rs }) es
    → AreLinesOfOne Q Rs (length Ps) xs → AreLinesWithEach Ps Q (length Ps) ys → AreLinesApart (record { profiles = Ps ++ Q ∷ []; rules = Rs }) ((es ++ xs) ++ ys)
apart-more Ps Q Rs es xs ys old one each = record {
  of_one = λ i l. ⊎_elim
      (λ less. let w = old.of_one i less in (w.0, one-more Ps Q Rs i w.0 w.1, λ e has. in-old e (w.2 e has)))
      (λ same. (
        xs,
        record {
          profile = Q;
          at = ap (slice_get (Ps ++ Q ∷ [])) same ∙ snoc-new Ps Q;
          lines = subst (λ (k : ℕ). AreLinesOfOne Q Rs k xs) (sym same) one;
        },
        λ e has. in-one e has,
      ))
      (less-or-same i (length Ps) (subst (λ (n : ℕ). i < n) (length_push Ps Q) l));
  of_two = λ i j l m. ⊎_elim
      (λ less. let w = old.of_two i j l less in (w.0, two-more Ps Q i j w.0 w.1, λ e has. in-old e (w.2 e has)))
      (λ same.
      let p = has-item Ps i (subst (λ (n : ℕ). i < n) same l) in
      let w = each.of_each i p.0 p.1 in (
        w.0,
        subst (λ (n : ℕ). HasLinesOfTwo (Ps ++ Q ∷ []) i n w.0) (sym same) (with-last Ps p.0 Q i w.0 p.1 w.1),
        λ e has. in-each e (w.2 e has),
      ))
      (less-or-same j (length Ps) (subst (λ (n : ℕ). j < n) (length_push Ps Q) m));
  each = λ e has. ⊎_elim
      (λ first. ⊎_elim
      (λ before. let w = old.each e before in (w.0, w.1, ⊎_elim (λ o. inl (o.0, one-more Ps Q Rs o.0 w.0 o.1)) (λ t. inr (t.0, t.1, two-more Ps Q t.0 t.1 w.0 t.2)) w.2))
      (λ here. (xs, here, inl (length Ps, record { profile = Q; at = snoc-new Ps Q; lines = one })))
      (Contains-append_cases es xs e first))
      (λ later. let w = each.each e later in (w.0, w.1, inr (w.2.0, length Ps, with-last Ps w.2.1 Q w.2.0 w.0 w.2.2 w.2.3)))
      (Contains-append_cases (es ++ xs) ys e has);
}
  where
    in-old : (e : CheckFault) → Contains es e → Contains ((es ++ xs) ++ ys) e
    in-old e has = Contains-append_left (es ++ xs) ys e (Contains-append_left es xs e has)

    in-one : (e : CheckFault) → Contains xs e → Contains ((es ++ xs) ++ ys) e
    in-one e has = Contains-append_left (es ++ xs) ys e (Contains-append_right es xs e has)

    in-each : (e : CheckFault) → Contains ys e → Contains ((es ++ xs) ++ ys) e
    in-each e has = Contains-append_right (es ++ xs) ys e has

pub one-profile-more : (Ps : List Parts) (Q : Parts) (Rs : List Rule) (old mid new : List CheckFault) → AreLinesApart (record { profiles = Ps; rules = Rs }) old
    → Adds (AreLinesOfOne Q Rs (length Ps)) old mid → Adds (AreLinesWithEach Ps Q (length Ps)) mid new → AreLinesApart (record { profiles = Ps ++ Q ∷ []; rules = Rs }) new
one-profile-more Ps Q Rs old mid new are one each =
    subst (λ (es : List CheckFault). AreLinesApart (record { profiles = Ps ++ Q ∷ []; rules = Rs }) es)
    (sym (each.2 ∙ ap (λ (es : List CheckFault). es ++ each.0) one.2))
    (apart-more Ps Q Rs old one.0 each.0 are one.1 each.1)

-- What is refused of one of these, and of two of them, is refused of all.
pub refused-one : (S : Members) (i : ℕ) (P : Parts) (e : CheckFault) → slice_get S.profiles i ≡ Some P → IsRefused (set_of_one P S.rules) e → IsRefusedApart S e
refused-one S i P e at h = inr (inr (set_of_one P S.rules, inl (i, P, at, refl), h))

pub refused-two : (S : Members) (Ps : List Parts) (Q : Parts) (j : ℕ) (e : CheckFault) → slice_get S.profiles j ≡ Some Q
    → ((i : ℕ) (P : Parts) → slice_get Ps i ≡ Some P → (i < j) × (slice_get S.profiles i ≡ Some P)) → IsRefusedWithEach Ps Q e → IsRefusedApart S e
refused-two S Ps Q j e at before (inl h) = inl h
refused-two S Ps Q j e at before (inr h) = ⊎_elim
    (λ memory. inl memory)
    (λ two. let b = before h.0 h.1 h.2 in inr (inr (set_of_two h.1 Q, inr (h.0, j, h.1, Q, b.0, b.1, at, two.0, refl), two.1)))
    h.3
