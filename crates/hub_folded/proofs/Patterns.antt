-- What a pattern matches, the folded pattern matches at the folded text.
use Rattle.std.proofs.Common.{◌≡◌, ◌==◌, ℕ, suc, ◌+◌, arith, Bool, true, false, not, ◌&&◌, ◌||◌, List, [], ◌∷◌, ◌++◌, map, length, refl, sym, ap, ◌∙◌, subst, append_assoc}
use Rattle.std.specs.Prelude.{nat_lt, nat_le, slice_index, flat_map, if◌then◌else◌}
use Rattle.std.specs.List.{list_any, list_all}
use Rattle.std.proofs.lemmas.Bool.{and_parts, and_from, or_right}
use Rattle.std.proofs.lemmas.Bool.Decides.{nat_tests}
use Rattle.std.proofs.lemmas.List.Folds.{list_all-append}
use Rattle.hub_path.specs.Path.{Name, Path, text_of, last_name, prefixes}
use Rattle.hub_glob.specs.declared.piece.Piece.{Piece}
use Rattle.hub_glob.specs.declared.piece.Piece.TheVariants.{Lit, Any, Run, OneOf}
use Rattle.hub_glob.specs.declared.piece.Part.{Part}
use Rattle.hub_glob.specs.declared.piece.Part.TheVariants.{One, Brace}
use Rattle.hub_glob.specs.declared.path_spec.Kind.{Kind}
use Rattle.hub_glob.specs.declared.path_spec.Kind.TheVariants as kind
use Rattle.hub_glob.specs.Specification.{Specification}
use Rattle.hub_glob.specs.Glob.{Texts, piece, pieces, glob, by_kind, matches}
use Rattle.hub_glob.specs.laws.OneStep.{pieces-append, run_end, run_step, takes_run}
use Rattle.hub_unison.specs.laws.Piece.{member-passes, same-number}
use Rattle.hub_folded.specs.Fold.{Folding, IsTextual, fold_name, fold_path, is_upper, knows, knows_path, lower, marks_stand}
use Rattle.hub_folded.specs.Lines.{fold_part, fold_piece, fold_pieces, fold_spec, is_foldable, is_foldable_part, is_foldable_piece}
use Rattle.hub_folded.proofs.Paths.{no, or-both}

eq-same : (c : ℕ) → (c == c) ≡ true
eq-same c = grind (arith, nat_tests)

-- Whether a component starts behind a text.
abbrev after : Bool → List ℕ → Bool
after first [] = first
after first (c ∷ u) = after (c == 47) u

after-none : (u : List ℕ) → list_all (λ d. not (d == 47)) u ≡ true → after false u ≡ false
after-none [] all = refl
after-none (d ∷ u) all =
    let parts = and_parts (not (d == 47)) (list_all (λ d. not (d == 47)) u) all in
    go (d == 47) parts.0 (after-none u parts.1)
  where
    go : (b : Bool) → not b ≡ true → after false u ≡ false → after b u ≡ false
    go true h rest = no h
    go false h rest = rest

after-some : (first : Bool) (u : List ℕ) → (length u == 0) ≡ false
    → list_all (λ d. not (d == 47)) u ≡ true → after first u ≡ false
after-some first [] some all = no (sym some)
after-some first (d ∷ u) some all =
    let parts = and_parts (not (d == 47)) (list_all (λ d. not (d == 47)) u) all in
    go (d == 47) parts.0 (after-none u parts.1)
  where
    go : (b : Bool) → not b ≡ true → after false u ≡ false → after b u ≡ false
    go true h rest = no h
    go false h rest = rest

literals : (u : List ℕ) (R : Texts) (first : Bool) (t : List ℕ)
    → pieces (map (λ d. Lit d) u) R first (u ++ t) ≡ R (after first u) t
literals [] R first t = refl
literals (c ∷ u) R first t =
    ap (λ b. b && pieces (map (λ d. Lit d) u) R (c == 47) (u ++ t)) (eq-same c)
    ∙ literals u R (c == 47) t

-- `*`
run-none : (B : Texts) (first : Bool) (u : List ℕ) → B first u ≡ true → piece Run B first u ≡ true
run-none B first [] h = run_end first B ∙ h
run-none B first (d ∷ u) h =
    run_step first d B u ∙ ap (λ b. b || takes_run first d && piece Run B (d == 47) u) h

run-on : (B : Texts) (u r : List ℕ) → list_all (λ d. not (d == 47)) u ≡ true
    → piece Run B false r ≡ true → piece Run B false (u ++ r) ≡ true
run-on B [] r all h = h
run-on B (d ∷ u) r all h =
    let parts = and_parts (not (d == 47)) (list_all (λ d. not (d == 47)) u) all in
    run_step false d B (u ++ r)
    ∙ or_right (B false (d ∷ u ++ r)) (takes_run false d && piece Run B (d == 47) (u ++ r))
    (go (d == 47) parts.0 (run-on B u r parts.1 h))
  where
    go : (b : Bool) → not b ≡ true → piece Run B false (u ++ r) ≡ true
        → ((not b && true) && piece Run B b (u ++ r)) ≡ true
    go true e rest = no e
    go false e rest = rest

run-over : (B : Texts) (first : Bool) (u r : List ℕ) → (length u == 0) ≡ false
    → list_all (λ d. not (d == 47)) u ≡ true → not (first && slice_index u 0 == 46) ≡ true
    → piece Run B false r ≡ true → piece Run B first (u ++ r) ≡ true
run-over B first [] r some all dot h = no (sym some)
run-over B first (d ∷ u) r some all dot h =
    let parts = and_parts (not (d == 47)) (list_all (λ d. not (d == 47)) u) all in
    run_step first d B (u ++ r)
    ∙ or_right (B first (d ∷ u ++ r)) (takes_run first d && piece Run B (d == 47) (u ++ r))
    (go (d == 47) parts.0 (run-on B u r parts.1 h))
  where
    go : (b : Bool) → not b ≡ true → piece Run B false (u ++ r) ≡ true
        → ((not b && not (first && d == 46)) && piece Run B b (u ++ r)) ≡ true
    go true e rest = no e
    go false e rest =
        and_from (not (first && d == 46)) (piece Run B false (u ++ r)) dot rest

lower-slash : (d : ℕ) → (lower d == 47) ≡ (d == 47)
lower-slash d = go (is_upper d) refl
  where
    go : (b : Bool) → is_upper d ≡ b → ((if b then d + 32 else d) == 47) ≡ (d == 47)
    go true e = upper d (and_parts (nat_le 65 d) (nat_le d 90) e).0
      where
        upper : (d : ℕ) → nat_le 65 d ≡ true → (d + 32 == 47) ≡ (d == 47)
        upper d l = grind (arith, nat_tests)
    go false e = refl

module _ (F : Folding) (is : IsTextual F) where
  abbrev Goes : Texts → Texts → Type 0
  Goes A B =
      (first : Bool) (t : List ℕ) → list_all F.is_known t ≡ true → A first t ≡ true
      → B first (fold_name F t) ≡ true

  slash : F.to 47 ≡ 47 ∷ []
  slash = is.ascii 47 refl

  after-fold : (first : Bool) (d : ℕ) → F.is_known d ≡ true → after first (F.to d) ≡ (d == 47)
  after-fold first d known = go (d == 47) refl
    where
      go : (b : Bool) → (d == 47) ≡ b → after first (F.to d) ≡ b
      go true e = ap (λ c. after first (F.to c)) (same-number d 47 e) ∙ ap (after first) slash
      go false e = after-some first (F.to d) (is.some d known) (is.no_slash d known e)

  run-folds : (A B : Texts) → Goes A B → Goes (piece Run A) (piece Run B)
  run-folds A B goes first [] all h =
      run_end first B ∙ goes first [] refl (sym (run_end first A) ∙ h)
  run-folds A B goes first (c ∷ r) all h =
      let parts = and_parts (F.is_known c) (list_all F.is_known r) all in
      go (A first (c ∷ r)) refl (run-folds A B goes false r parts.1) (sym (run_step first c A r) ∙ h)
    where
      known : F.is_known c ≡ true
      known = (and_parts (F.is_known c) (list_all F.is_known r) all).0

      slashed : (b : Bool) → (c == 47) ≡ b
          → (piece Run A false r ≡ true → piece Run B false (fold_name F r) ≡ true)
          → ((not b && not (first && c == 46)) && piece Run A b r) ≡ true
          → piece Run B first (F.to c ++ fold_name F r) ≡ true
      slashed true e rest h = no h
      slashed false e rest h =
          let two = and_parts (not (first && c == 46)) (piece Run A false r) h in
          run-over B first (F.to c) (fold_name F r) (is.some c known) (is.no_slash c known e)
          (dots first (c == 46) refl two.0) (rest two.1)
        where
          dots : (f b : Bool) → (c == 46) ≡ b → not (f && b) ≡ true
              → not (f && slice_index (F.to c) 0 == 46) ≡ true
          dots false b e n = refl
          dots true true e n = no n
          dots true false e n = ap not (is.no_dot c known e)

      go : (b : Bool) → A first (c ∷ r) ≡ b
          → (piece Run A false r ≡ true → piece Run B false (fold_name F r) ≡ true)
          → (b || takes_run first c && piece Run A (c == 47) r) ≡ true
          → piece Run B first (F.to c ++ fold_name F r) ≡ true
      go true e rest h = run-none B first (F.to c ++ fold_name F r) (goes first (c ∷ r) all e)
      go false e rest h = slashed (c == 47) refl rest h

  set-folds : (cs : List ℕ) (d : ℕ) → list_all (λ c. nat_lt c 128) cs ≡ true
      → list_any (λ c. c == d) cs ≡ true → list_any (λ c. c == lower d) (flat_map F.to cs) ≡ true
  set-folds [] d all some = some
  set-folds (c ∷ cs) d all some =
      let parts = and_parts (nat_lt c 128) (list_all (λ c. nat_lt c 128) cs) all in
      subst (λ u. list_any (λ c. c == lower d) (u ++ flat_map F.to cs) ≡ true) (sym (is.ascii c parts.0))
      (or-both (c == d) (list_any (λ c. c == d) cs) (lower c == lower d)
      (list_any (λ c. c == lower d) (flat_map F.to cs))
      (λ e. ap (λ x. lower x == lower d) (same-number c d e) ∙ eq-same (lower d))
      (set-folds cs d parts.1) some)

  piece-folds : (p : Piece) (A B : Texts) → is_foldable_piece p ≡ true → Goes A B
      → Goes (piece p A) (pieces (fold_piece F p) B)
  piece-folds (Lit c) A B ok goes first [] all h = no h
  piece-folds (Lit c) A B ok goes first (d ∷ t) all h =
      let parts = and_parts (d == c) (A (d == 47) t) h in
      let knowns = and_parts (F.is_known d) (list_all F.is_known t) all in
      subst (λ x. pieces (map (λ e. Lit e) (F.to x)) B first (F.to d ++ fold_name F t) ≡ true)
      (same-number d c parts.0)
      (literals (F.to d) B first (fold_name F t)
      ∙ (ap (λ b. B b (fold_name F t)) (after-fold first d knowns.0)
      ∙ goes (d == 47) t knowns.1 parts.1))
  piece-folds Any A B ok goes first t all h = no ok
  piece-folds Run A B ok goes first t all h = run-folds A B goes first t all h
  piece-folds (OneOf cs) A B ok goes first [] all h = no h
  piece-folds (OneOf cs) A B ok goes first (d ∷ t) all h =
      let parts = and_parts (list_any (λ c. c == d) cs) (A (d == 47) t) h in
      let knowns = and_parts (F.is_known d) (list_all F.is_known t) all in
      subst (λ u. piece (OneOf (flat_map F.to cs)) B first (u ++ fold_name F t) ≡ true)
      (sym (is.ascii d (member-passes (λ c. nat_lt c 128) cs d ok parts.0)))
      (and_from (list_any (λ c. c == lower d) (flat_map F.to cs)) (B (lower d == 47) (fold_name F t))
      (set-folds cs d ok parts.0)
      (ap (λ b. B b (fold_name F t)) (lower-slash d) ∙ goes (d == 47) t knowns.1 parts.1))

  pieces-fold : (ps : List Piece) (A B : Texts) → list_all is_foldable_piece ps ≡ true → Goes A B
      → Goes (pieces ps A) (pieces (fold_pieces F ps) B)
  pieces-fold [] A B ok goes first t all h = goes first t all h
  pieces-fold (p ∷ ps) A B ok goes first t all h =
      let parts = and_parts (is_foldable_piece p) (list_all is_foldable_piece ps) ok in
      ap (λ (R : Texts). R first (fold_name F t)) (pieces-append (fold_piece F p) (fold_pieces F ps) B)
      ∙ piece-folds p (pieces ps A) (pieces (fold_pieces F ps) B) parts.0
      (pieces-fold ps A B parts.1 goes) first t all h

  ones : (qs : List Piece) (ps : List Part) → glob (map (λ q. One q) qs ++ ps) ≡ pieces qs (glob ps)
  ones [] ps = refl
  ones (q ∷ qs) ps = ap (piece q) (ones qs ps)

  choices-fold : (cs : List (List Piece)) (A B : Texts)
      → list_all (λ c. list_all is_foldable_piece c) cs ≡ true → Goes A B
      → (first : Bool) (t : List ℕ) → list_all F.is_known t ≡ true
      → list_any (λ c. pieces c A first t) cs ≡ true
      → list_any (λ c. pieces c B first (fold_name F t)) (map (fold_pieces F) cs) ≡ true
  choices-fold [] A B ok goes first t all h = h
  choices-fold (c ∷ cs) A B ok goes first t all h =
      let parts = and_parts (list_all is_foldable_piece c) (list_all (λ c. list_all is_foldable_piece c) cs) ok in
      or-both (pieces c A first t) (list_any (λ c. pieces c A first t) cs)
      (pieces (fold_pieces F c) B first (fold_name F t))
      (list_any (λ c. pieces c B first (fold_name F t)) (map (fold_pieces F) cs))
      (pieces-fold c A B parts.0 goes first t all) (choices-fold cs A B parts.1 goes first t all) h

  glob-folds : (ps : List Part) → list_all is_foldable_part ps ≡ true
      → Goes (glob ps) (glob (flat_map (fold_part F) ps))
  glob-folds [] ok first [] all h = h
  glob-folds [] ok first (c ∷ t) all h = no (sym (long (length t)) ∙ h)
    where
      long : (n : ℕ) → (suc n == 0) ≡ false
      long n = grind (arith, nat_tests)
  glob-folds (One p ∷ ps) ok first t all h =
      let parts = and_parts (is_foldable_piece p) (list_all is_foldable_part ps) ok in
      ap (λ (R : Texts). R first (fold_name F t)) (ones (fold_piece F p) (flat_map (fold_part F) ps))
      ∙ piece-folds p (glob ps) (glob (flat_map (fold_part F) ps)) parts.0 (glob-folds ps parts.1) first
      t all h
  glob-folds (Brace cs ∷ ps) ok first t all h =
      let parts = and_parts (list_all (λ c. list_all is_foldable_piece c) cs) (list_all is_foldable_part ps) ok in
      choices-fold cs (glob ps) (glob (flat_map (fold_part F) ps)) parts.0 (glob-folds ps parts.1) first t
      all h

  -- Texts of paths.
  fold-append : (s t : List ℕ) → fold_name F (s ++ t) ≡ fold_name F s ++ fold_name F t
  fold-append [] t = refl
  fold-append (c ∷ s) t =
      ap (λ u. F.to c ++ u) (fold-append s t) ∙ sym (append_assoc (F.to c) (fold_name F s) (fold_name F t))

  text-fold : (p : Path) → text_of (fold_path F p) ≡ fold_name F (text_of p)
  text-fold [] = refl
  text-fold (n ∷ []) = refl
  text-fold (n ∷ m ∷ p) =
      ap (λ t. fold_name F n ++ (47 ∷ t)) (text-fold (m ∷ p))
      ∙ (ap (λ u. fold_name F n ++ (u ++ fold_name F (text_of (m ∷ p)))) (sym slash)
      ∙ sym (fold-append n (47 ∷ text_of (m ∷ p))))

  last-fold : (p : Path) → last_name (fold_path F p) ≡ fold_name F (last_name p)
  last-fold [] = refl
  last-fold (n ∷ []) = refl
  last-fold (n ∷ m ∷ p) = last-fold (m ∷ p)

  prefixes-fold : (p : Path) → prefixes (fold_path F p) ≡ map (fold_path F) (prefixes p)
  prefixes-fold [] = refl
  prefixes-fold (n ∷ p) =
      ap (λ qs. (fold_name F n ∷ []) ∷ qs)
      (ap (map (λ q. fold_name F n ∷ q)) (prefixes-fold p) ∙ swap (prefixes p))
    where
      swap : (qs : List Path)
          → map (λ q. fold_name F n ∷ q) (map (fold_path F) qs) ≡ map (fold_path F) (map (λ q. n ∷ q) qs)
      swap [] = refl
      swap (q ∷ qs) = ap (λ rs. (fold_name F n ∷ fold_path F q) ∷ rs) (swap qs)

  known-name : (n : Name) → knows F n ≡ true → list_all F.is_known n ≡ true
  known-name n h = (and_parts (list_all F.is_known n) (marks_stand F false n) h).0

  known-text : (p : Path) → knows_path F p ≡ true → list_all F.is_known (text_of p) ≡ true
  known-text [] h = refl
  known-text (n ∷ []) h = known-name n (and_parts (knows F n) true h).0
  known-text (n ∷ m ∷ p) h =
      let parts = and_parts (knows F n) (knows_path F (m ∷ p)) h in
      list_all-append F.is_known n (47 ∷ text_of (m ∷ p))
      ∙ and_from (list_all F.is_known n) (F.is_known 47 && list_all F.is_known (text_of (m ∷ p)))
      (known-name n parts.0)
      (and_from (F.is_known 47) (list_all F.is_known (text_of (m ∷ p))) (is.ascii_known 47 refl)
      (known-text (m ∷ p) parts.1))

  known-last : (p : Path) → knows_path F p ≡ true → list_all F.is_known (last_name p) ≡ true
  known-last [] h = refl
  known-last (n ∷ []) h = known-name n (and_parts (knows F n) true h).0
  known-last (n ∷ m ∷ p) h = known-last (m ∷ p) (and_parts (knows F n) (knows_path F (m ∷ p)) h).1

  known-prefixes : (p : Path) → knows_path F p ≡ true → list_all (knows_path F) (prefixes p) ≡ true
  known-prefixes [] h = refl
  known-prefixes (n ∷ p) h =
      let parts = and_parts (knows F n) (knows_path F p) h in
      and_from (knows F n && true) (list_all (knows_path F) (map (λ q. n ∷ q) (prefixes p)))
      (and_from (knows F n) true parts.0 refl) (longer (prefixes p) (known-prefixes p parts.1))
    where
      longer : (qs : List Path) → list_all (knows_path F) qs ≡ true
          → list_all (knows_path F) (map (λ q. n ∷ q) qs) ≡ true
      longer [] all = refl
      longer (q ∷ qs) all =
          let two = and_parts (knows_path F q) (list_all (knows_path F) qs) all in
          and_from (knows F n && knows_path F q) (list_all (knows_path F) (map (λ q. n ∷ q) qs))
          (and_from (knows F n) (knows_path F q) (and_parts (knows F n) (knows_path F p) h).0 two.0)
          (longer qs two.1)

  below-folds : (ps : List Part) → list_all is_foldable_part ps ≡ true → (qs : List Path)
      → list_all (knows_path F) qs ≡ true → list_any (λ q. glob ps true (text_of q)) qs ≡ true
      → list_any (λ q. glob (flat_map (fold_part F) ps) true (text_of q)) (map (fold_path F) qs) ≡ true
  below-folds ps ok [] all h = h
  below-folds ps ok (q ∷ qs) all h =
      let two = and_parts (knows_path F q) (list_all (knows_path F) qs) all in
      or-both (glob ps true (text_of q)) (list_any (λ q. glob ps true (text_of q)) qs)
      (glob (flat_map (fold_part F) ps) true (text_of (fold_path F q)))
      (list_any (λ q. glob (flat_map (fold_part F) ps) true (text_of q)) (map (fold_path F) qs))
      (λ e. ap (glob (flat_map (fold_part F) ps) true) (text-fold q)
      ∙ glob-folds ps ok true (text_of q) (known-text q two.0) e)
      (below-folds ps ok qs two.1) h

  kind-folds : (k : Kind) (ps : List Part) → list_all is_foldable_part ps ≡ true → (q : Path)
      → knows_path F q ≡ true → by_kind k ps q ≡ true
      → by_kind k (flat_map (fold_part F) ps) (fold_path F q) ≡ true
  kind-folds kind.Name ps ok q knows h =
      ap (glob (flat_map (fold_part F) ps) true) (last-fold q)
      ∙ glob-folds ps ok true (last_name q) (known-last q knows) h
  kind-folds kind.Path ps ok q knows h =
      ap (glob (flat_map (fold_part F) ps) true) (text-fold q)
      ∙ glob-folds ps ok true (text_of q) (known-text q knows) h
  kind-folds kind.BelowPath ps ok q knows h =
      ap (list_any (λ q. glob (flat_map (fold_part F) ps) true (text_of q))) (prefixes-fold q)
      ∙ below-folds ps ok (prefixes q) (known-prefixes q knows) h

  pub matches-fold : (s : Specification) (q : Path) → is_foldable s ≡ true → knows_path F q ≡ true
      → matches s q ≡ true → matches (fold_spec F s) (fold_path F q) ≡ true
  unfolding matches
  matches-fold s [] ok knows h = no h
  matches-fold s (n ∷ q) ok knows h =
      let parts = and_parts (not (length (n ∷ q) == 0)) (by_kind s.kind s.pattern (n ∷ q)) h in
      and_from (not (length (fold_path F (n ∷ q)) == 0))
      (by_kind s.kind (flat_map (fold_part F) s.pattern) (fold_path F (n ∷ q))) (long (fold_path F q))
      (kind-folds s.kind s.pattern ok (n ∷ q) knows parts.1)
    where
      long : (p : Path) → not (length (fold_name F n ∷ p) == 0) ≡ true
      long p = ap not (never (length p))
        where
          never : (k : ℕ) → (suc k == 0) ≡ false
          never k = grind (arith, nat_tests)
