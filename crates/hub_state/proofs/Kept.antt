-- Entries of a map that are taken in order, each put in front of those before.
use Rattle.std.proofs.Common.{◌≡◌, Bool, true, false, cond, ◌||◌, T, List, [], ◌∷◌, map, Option, Some, None, refl, ap, sym, ◌∙◌, subst}
use Rattle.std.specs.FinMap as fin
use Rattle.std.specs.FinMap.Entries.{find, is_sorted, below_all}
use Rattle.std.specs.Cmp.{IsTotalOrder}
use Rattle.std.specs.List.{list_any}
use Rattle.std.specs.Option.{is_some, option_or}
use Rattle.std.specs.Ordering.{eq_by_cmp, is_eq}
use Rattle.std.specs.declared.cmp.Ordering.{Ordering}
use Rattle.std.specs.declared.cmp.Ordering.TheVariants.{Less}
use Rattle.std.proofs.lemmas.Cmp.{tied_itself}
use Rattle.std.proofs.lemmas.Bool.{false≢true}
use Rattle.hub_text.specs.laws.List.{option_or-none}
use Rattle.hub_text.specs.laws.Test.{T-first, T-second, T-less, is_eq-equal}

-- All entries, from those that were taken, the last one first, and those that follow; and all of them taken.
abbrev pub back : {E : Type 0} → List E → List E → List E
back [] es = es
back (a ∷ acc) es = back acc (a ∷ es)

abbrev pub onto : {E : Type 0} → List E → List E → List E
onto acc [] = acc
onto acc (e ∷ es) = onto (e ∷ acc) es

pub back-onto : {E : Type 0} (acc es : List E) → back (onto acc es) [] ≡ back acc es
back-onto acc [] = refl
back-onto acc (e ∷ es) = back-onto (e ∷ acc) es

not_both : {X : Type 0} (o : Option X) → (is_some o ≡ true → ⊥) → o ≡ None
not_both None f = refl
not_both (Some x) f = absurd (f refl)

module _ {K X : Type 0} {R : K → K → Ordering} (o : IsTotalOrder R) where
  -- What ties with a key below all of them, or is below such a key, isn't found.
  pub find-tied_below : (q k : K) (es : List (K × X)) → eq_by_cmp R q k ≡ true → T (below_all R k es) → find R q es ≡ None
  find-tied_below q k [] t h = refl
  find-tied_below q k (e ∷ es) t h =
      ap (λ r. cond (is_eq r) (Some e.1) (find R q es)) (o.congr q k e.0 (is_eq-equal (R q k) t) ∙ T-less _ (T-first _ _ h))
      ∙ find-tied_below q k es t (T-second _ _ h)

  find-less_below : (q k : K) (es : List (K × X)) → R q k ≡ Less → T (below_all R k es) → find R q es ≡ None
  find-less_below q k [] t h = refl
  find-less_below q k (e ∷ es) t h =
      ap (λ r. cond (is_eq r) (Some e.1) (find R q es)) (o.trans q k e.0 t (T-less _ (T-first _ _ h))) ∙ find-less_below q k es t (T-second _ _ h)

  pub sorted-rest : (acc es : List (K × X)) → T (is_sorted R (back acc es)) → T (is_sorted R es)
  sorted-rest [] es h = h
  sorted-rest (a ∷ acc) es h = T-second _ _ (sorted-rest acc (a ∷ es) h)

  -- What was taken doesn't follow.
  taken : (acc es : List (K × X)) (q : K) → T (is_sorted R (back acc es)) → is_some (find R q acc) ≡ true → find R q es ≡ None
  taken [] es q h s = absurd (false≢true s)
  taken (a ∷ acc) es q h s =
      elim (eq_by_cmp R q a.0) as (λ t. eq_by_cmp R q a.0 ≡ t → is_some (cond t (Some a.1) (find R q acc)) ≡ true → find R q es ≡ None) [
        | true ↦ λ t s. find-tied_below q a.0 es t (T-first _ _ (sorted-rest acc (a ∷ es) h))
        | false ↦ λ t s. sym (ap (λ b. cond b (Some a.1) (find R q es)) t) ∙ taken acc (a ∷ es) q h s
      ] refl s

  -- The next key wasn't taken.
  pub next_is_new : (acc : List (K × X)) (e : K × X) (es : List (K × X)) → T (is_sorted R (back acc (e ∷ es))) → find R e.0 acc ≡ None
  next_is_new acc e es h =
      not_both (find R e.0 acc) (λ s.
      let n : Some e.1 ≡ None = sym (ap (λ r. cond (is_eq r) (Some e.1) (find R e.0 es)) (tied_itself o e.0)) ∙ taken acc (e ∷ es) e.0 h s in cc)

  -- What is found was taken or follows.
  find-one : (b : Bool) (v : X) (x y : Option X) → (is_some x ≡ true → cond b (Some v) y ≡ None) → option_or x (cond b (Some v) y) ≡ option_or (cond b (Some v) x) y
  find-one true v None y f = refl
  find-one true v (Some w) y f = let n : Some v ≡ None = f refl in cc
  find-one false v x y f = refl

  pub find-back : (acc es : List (K × X)) (q : K) → T (is_sorted R (back acc es)) → find R q (back acc es) ≡ option_or (find R q acc) (find R q es)
  find-back [] es q h = refl
  find-back (a ∷ acc) es q h = find-back acc (a ∷ es) q h ∙ find-one (eq_by_cmp R q a.0) a.1 (find R q acc) (find R q es) (taken acc (a ∷ es) q h)

  -- What is found below the next key was taken.
  pub find-before : (acc : List (K × X)) (e : K × X) (es : List (K × X)) (q : K) → T (is_sorted R (back acc (e ∷ es))) → R q e.0 ≡ Less → find R q (back acc (e ∷ es)) ≡ find R q acc
  find-before acc e es q h l =
      find-back acc (e ∷ es) q h
      ∙ ap (option_or (find R q acc)) (ap (λ r. cond (is_eq r) (Some e.1) (find R q es)) l ∙ find-less_below q e.0 es l (T-first _ _ (sorted-rest acc (e ∷ es) h)))
      ∙ option_or-none (find R q acc)

  -- All that were taken make the map.
  pub all_taken : fin.IsAntisymmetric R → (m : fin.FinMap R X) (acc : List (K × X)) → back acc [] ≡ fin.entries m → fin.from_entries {R = R} acc ≡ m
  all_taken same m acc e =
      let sorted : T (is_sorted R (back acc [])) = subst (λ es. T (is_sorted R es)) (sym e) (fin.entries_sorted m) in
      fin.same_map o same (fin.from_entries acc) m (λ q.
      fin.get-from_entries o acc q ∙ sym (option_or-none (find R q acc)) ∙ sym (find-back acc [] q sorted) ∙ ap (find R q) e ∙ sym (fin.get-entries m q))

  pub all_onto : fin.IsAntisymmetric R → (m : fin.FinMap R X) → fin.from_entries {R = R} (onto [] (fin.entries m)) ≡ m
  all_onto same m = all_taken same m (onto [] (fin.entries m)) (back-onto [] (fin.entries m))

  -- No entry that was taken has the next key.
  none_like : (test : K → Bool) (k : K) → ((x : K) → test x ≡ true → x ≡ k) → (x : K) (v : X) (w : Option X) → cond (eq_by_cmp R k x) (Some v) w ≡ None → (test x ≡ false) × (w ≡ None)
  none_like test k f x v w n =
      elim (eq_by_cmp R k x) as (λ t. eq_by_cmp R k x ≡ t → cond t (Some v) w ≡ None → (test x ≡ false) × (w ≡ None)) [
        | true ↦ λ t n. cc
        | false ↦ λ t n. (unlike (test x) refl t, n)
      ] refl n
    where
      unlike : (b : Bool) → test x ≡ b → eq_by_cmp R k x ≡ false → test x ≡ false
      unlike false e t = e
      unlike true e t =
          let same : x ≡ k = f x e in
          absurd (false≢true (sym t ∙ ap (λ y. eq_by_cmp R k y) same ∙ ap is_eq (tied_itself o k)))

  pub none_tested : {Y : Type 0} (test : K → Bool) (k : K) (f : X → Y) → ((x : K) → test x ≡ true → x ≡ k) → (acc : List (K × X)) → find R k acc ≡ None → list_any (λ (e : K × Y). test e.0) (map (λ (e : K × X). (e.0, f e.1)) acc) ≡ false
  none_tested {Y = Y} test k f same [] n = refl
  none_tested {Y = Y} test k f same (a ∷ acc) n =
      let parts = none_like test k same a.0 a.1 (find R k acc) n in
      ap (λ b. b || list_any (λ (e : K × Y). test e.0) (map (λ (e : K × X). (e.0, f e.1)) acc)) parts.0 ∙ none_tested test k f same acc parts.1

  -- The next entry is among all of them.
  pub next_is_there : (acc : List (K × X)) (e : K × X) (es : List (K × X)) → T (is_sorted R (back acc (e ∷ es))) → find R e.0 (back acc (e ∷ es)) ≡ Some e.1
  next_is_there acc e es h =
      find-back acc (e ∷ es) e.0 h ∙ ap (λ x. option_or x (find R e.0 (e ∷ es))) (next_is_new acc e es h)
      ∙ ap (λ r. cond (is_eq r) (Some e.1) (find R e.0 es)) (tied_itself o e.0)
