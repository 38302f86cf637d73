-- What is kept of a text, with one more character; that characters of one class are alike; and what it says at the end.
use Rattle.std.proofs.Common.{◌≡◌, ◌⊎◌, inl, inr, ⊎_elim, ℕ, suc, zero, ◌+◌, ◌<◌, Bool, true, false, not, ◌&&◌, ◌||◌, ◌==◌, cond, List, [], ◌∷◌, ◌++◌, map, length, drop, get_or, refl, sym, ap, ◌∙◌, arith, append-nil, append_assoc}
use Rattle.std.specs.Prelude.{Option, Some, None, unwrap_or}
use Rattle.std.specs.List.{list_any, list_all, flat_map, position_from}
use Rattle.std.proofs.lemmas.List.{drop_at, length-append}
use Rattle.std.proofs.lemmas.List.Folds.{list_all-append}
use Rattle.std.proofs.lemmas.Bool.{and_parts, not-true, or_right}
use Rattle.std.proofs.lemmas.Bool.Decides.{nat_tests}
use Rattle.hub_path.specs.Path.{Name, Path, is_name, is_place, is_path, text_of, last_name, prefixes}
use Rattle.hub_path.specs.laws.General.{is_no_slash, name-apart}
use Rattle.hub_glob.specs.declared.piece.Piece.{Piece}
use Rattle.hub_glob.specs.declared.piece.Piece.TheVariants.{Lit, Any, Run, OneOf}
use Rattle.hub_glob.specs.declared.piece.Part.{Part}
use Rattle.hub_glob.specs.declared.path_spec.Kind.{Kind}
use Rattle.hub_glob.specs.declared.path_spec.Kind.TheVariants as kind
use Rattle.hub_glob.specs.Specification.{Specification, is_name_kind}
use Rattle.hub_glob.specs.Glob.{glob, choices, matches, by_kind}
use Rattle.hub_glob.specs.Taking.{takes, is_star}
use Rattle.hub_text.specs.laws.Test.{head, tail, any-append, any-map, any-alike}
use Rattle.std.proofs.Math.Bool.{or-false}
use Rattle.hub_glob.specs.laws.Choice.{glob_choices}
use Rattle.hub_automaton.specs.Alphabet.{is_never_mentioned, is_mentioned, class_of, mentions, piece_characters, pieces_characters, class_count, first_unmentioned, sample, IsAlphabet}
use Rattle.hub_automaton.specs.declared.alternatives.Alternatives.{Alternatives}
use Rattle.hub_glob.specs.declared.piece.NextCharacter.{NextCharacter}
use Rattle.hub_automaton.specs.Spots.{spots, since_slash, looked_at, folders, starts, fits, is_below_kind, alternatives_of, spots_of, is_matched_above, is_matched, Unpacked, unpacked, spot_count, is_covered}
use Rattle.hub_automaton.specs.forms.Stepping.{stepped_pieces, stepped, ended_matches, stepped_choices, ended_choices, entered_choices, stepped_all, below_all, matched_each, pushed}
use Rattle.hub_automaton.proofs.Alphabets.{sample_class}
use Rattle.hub_automaton.proofs.Steps.{next_of, choice_law, ended_law, empty_spots, length-spots, front_matches}

-- The part of a text that is looked at, with one more character.
since-push : (name t : List ℕ) (x : ℕ) → since_slash name (t ++ x ∷ []) ≡ cond (x == 47) [] (since_slash name t ++ x ∷ [])
since-push name [] x = refl
since-push name (c ∷ t) x = by_test (c == 47) (since-push [] t x) (since-push (name ++ c ∷ []) t x) where
  by_test : (b : Bool) → since_slash [] (t ++ x ∷ []) ≡ cond (x == 47) [] (since_slash [] t ++ x ∷ [])
      → since_slash (name ++ c ∷ []) (t ++ x ∷ []) ≡ cond (x == 47) [] (since_slash (name ++ c ∷ []) t ++ x ∷ [])
      → cond b (since_slash [] (t ++ x ∷ [])) (since_slash (name ++ c ∷ []) (t ++ x ∷ []))
      ≡ cond (x == 47) [] (cond b (since_slash [] t) (since_slash (name ++ c ∷ []) t) ++ x ∷ [])
  by_test true h k = h
  by_test false h k = k

starts-push : (f : Bool) (t : List ℕ) (x : ℕ) → starts f (t ++ x ∷ []) ≡ (x == 47)
starts-push f [] x = refl
starts-push f (c ∷ t) x = starts-push (c == 47) t x

starts-since : (name t : List ℕ) → starts true (since_slash name t) ≡ starts (starts true name) t
starts-since name [] = refl
starts-since name (c ∷ t) = by_test (c == 47) (starts-since [] t) (starts-since (name ++ c ∷ []) t ∙ ap (λ f. starts f t) (starts-push true name c)) refl where
  by_test : (b : Bool) → starts true (since_slash [] t) ≡ starts true t → starts true (since_slash (name ++ c ∷ []) t) ≡ starts (c == 47) t → (c == 47) ≡ b
      → starts true (cond b (since_slash [] t) (since_slash (name ++ c ∷ []) t)) ≡ starts (c == 47) t
  by_test true h k e = h ∙ ap (λ f. starts f t) (sym e)
  by_test false h k e = k

folders-push : (t : List ℕ) (x : ℕ) → folders (t ++ x ∷ []) ≡ folders t ++ cond (x == 47) (t ∷ []) []
folders-push [] x = refl
folders-push (c ∷ t) x = by_test (c == 47) (folders-push t x) (map-push (folders t)) where
  map-push : (us : List (List ℕ)) → map (λ u. c ∷ u) (us ++ cond (x == 47) (t ∷ []) []) ≡ map (λ u. c ∷ u) us ++ cond (x == 47) ((c ∷ t) ∷ []) []
  map-push [] = by (x == 47) where
    by : (b : Bool) → map (λ u. c ∷ u) (cond b (t ∷ []) []) ≡ cond b ((c ∷ t) ∷ []) []
    by true = refl
    by false = refl
  map-push (u ∷ us) = ap (λ vs. (c ∷ u) ∷ vs) (map-push us)

  by_test : (b : Bool) → folders (t ++ x ∷ []) ≡ folders t ++ cond (x == 47) (t ∷ []) []
      → map (λ u. c ∷ u) (folders t ++ cond (x == 47) (t ∷ []) []) ≡ map (λ u. c ∷ u) (folders t) ++ cond (x == 47) ((c ∷ t) ∷ []) []
      → cond b ([] ∷ map (λ u. c ∷ u) (folders (t ++ x ∷ []))) (map (λ u. c ∷ u) (folders (t ++ x ∷ [])))
      ≡ cond b ([] ∷ map (λ u. c ∷ u) (folders t)) (map (λ u. c ∷ u) (folders t)) ++ cond (x == 47) ((c ∷ t) ∷ []) []
  by_test true h k = ap (λ us. [] ∷ map (λ u. c ∷ u) us) h ∙ ap (λ us. [] ∷ us) k
  by_test false h k = ap (map (λ u. c ∷ u)) h ∙ k

-- The choices of a specification, with one more character.
pub length-spots_all : (cs : List (List Piece)) (t : List ℕ) → length (flat_map (λ c. spots c t) cs) ≡ spot_count cs
length-spots_all [] t = refl
length-spots_all (c ∷ cs) t = length-append (spots c t) (flat_map (λ d. spots d t) cs) ∙ (λ i. length-spots c t i + length-spots_all cs t i)

choices_law : (cs : List (List Piece)) (t : List ℕ) (x : ℕ) (rest : List Bool)
    → stepped_choices (next_of t x) cs (flat_map (λ c. spots c t) cs ++ rest) ≡ flat_map (λ c. spots c (t ++ x ∷ [])) cs
choices_law [] t x rest = refl
choices_law (c ∷ cs) t x rest =
    let more = flat_map (λ d. spots d t) cs ++ rest in
    ap (λ old. stepped (next_of t x) c old ++ stepped_choices (next_of t x) cs (drop (length c + 1) old)) (append_assoc (spots c t) (flat_map (λ d. spots d t) cs) rest)
    ∙ (λ i. choice_law c t x more i ++ stepped_choices (next_of t x) cs (drop_at (spots c t) more (length c + 1) (length-spots c t) i))
    ∙ ap (λ old. spots c (t ++ x ∷ []) ++ old) (choices_law cs t x rest)

ended_choices_law : (cs : List (List Piece)) (t : List ℕ) (rest : List Bool) → ended_choices cs (flat_map (λ c. spots c t) cs ++ rest) ≡ fits cs t
ended_choices_law [] t rest = refl
ended_choices_law (c ∷ cs) t rest =
    let more = flat_map (λ d. spots d t) cs ++ rest in
    ap (λ old. ended_matches c old || ended_choices cs (drop (length c + 1) old)) (append_assoc (spots c t) (flat_map (λ d. spots d t) cs) rest)
    ∙ (λ i. ended_law c t more i || ended_choices cs (drop_at (spots c t) more (length c + 1) (length-spots c t) i))
    ∙ ap (λ b. front_matches c t || b) (ended_choices_law cs t rest)

pub entered_law : (cs : List (List Piece)) → entered_choices cs ≡ flat_map (λ c. spots c []) cs
entered_law [] = refl
entered_law (c ∷ cs) = λ i. empty_spots c i ++ entered_law cs i

one_law : (k : Kind) (cs : List (List Piece)) (t : List ℕ) (x : ℕ) (rest : List Bool)
    → cond (is_name_kind k && x == 47) (entered_choices cs) (stepped_choices (next_of t x) cs (flat_map (λ c. spots c (looked_at k t)) cs ++ rest))
    ≡ flat_map (λ c. spots c (looked_at k (t ++ x ∷ []))) cs
one_law kind.Path cs t x rest = choices_law cs t x rest
one_law kind.BelowPath cs t x rest = choices_law cs t x rest
one_law kind.Name cs t x rest = by_test (x == 47) ∙ ap (λ u. flat_map (λ c. spots c u) cs) (sym (since-push [] t x)) where
  name : List ℕ
  name = since_slash [] t

  here : NextCharacter → List Bool
  here y = stepped_choices y cs (flat_map (λ c. spots c (since_slash [] t)) cs ++ rest)

  by_test : (b : Bool) → cond b (entered_choices cs) (stepped_choices (next_of t x) cs (flat_map (λ c. spots c (since_slash [] t)) cs ++ rest))
      ≡ flat_map (λ c. spots c (cond b [] (since_slash [] t ++ x ∷ []))) cs
  by_test true = entered_law cs
  by_test false =
      (λ i. let y : NextCharacter = record { character = x; first = sym (starts-since [] t) i } in stepped_choices y cs (flat_map (λ c. spots c (since_slash [] t)) cs ++ rest))
      ∙ choices_law cs (since_slash [] t) x rest

-- All specifications, with one more character.
live_law : (ls : List Alternatives) (t : List ℕ) (x : ℕ) → stepped_all (next_of t x) ls (flat_map (λ a. spots_of a t) ls) ≡ flat_map (λ a. spots_of a (t ++ x ∷ [])) ls
live_law [] t x = refl
live_law (a ∷ ls) t x =
    let more = flat_map (λ b. spots_of b t) ls in
    (λ i. one_law a.kind a.choices t x more i
    ++ stepped_all (next_of t x) ls (drop_at (spots_of a t) more (spot_count a.choices) (length-spots_all a.choices (looked_at a.kind t)) i))
    ∙ ap (λ old. spots_of a (t ++ x ∷ []) ++ old) (live_law ls t x)

below_law : (k : Kind) (cs : List (List Piece)) (t : List ℕ) (x : ℕ) (rest : List Bool)
    → ((is_below_kind k && list_any (fits cs) (folders t)) || (is_below_kind k && (x == 47) && ended_choices cs (flat_map (λ c. spots c (looked_at k t)) cs ++ rest)))
    ≡ (is_below_kind k && list_any (fits cs) (folders (t ++ x ∷ [])))
below_law kind.Name cs t x rest = refl
below_law kind.Path cs t x rest = refl
below_law kind.BelowPath cs t x rest =
    (λ i. list_any (fits cs) (folders t) || ((x == 47) && ended_choices_law cs t rest i)) ∙ by_test (x == 47)
    ∙ any-append (fits cs) (folders t) (cond (x == 47) (t ∷ []) []) ∙ ap (list_any (fits cs)) (sym (folders-push t x))
  where
    by_test : (b : Bool) → (list_any (fits cs) (folders t) || (b && fits cs t)) ≡ (list_any (fits cs) (folders t) || list_any (fits cs) (cond b (t ∷ []) []))
    by_test true = ap (λ c. list_any (fits cs) (folders t) || c) (sym (or-false (fits cs t)))
    by_test false = refl

flags_law : (ls : List Alternatives) (t : List ℕ) (x : ℕ)
    → below_all (next_of t x) ls (map (λ a. is_matched_above a t) ls) (flat_map (λ a. spots_of a t) ls) ≡ map (λ a. is_matched_above a (t ++ x ∷ [])) ls
flags_law [] t x = refl
flags_law (a ∷ ls) t x =
    let more = flat_map (λ b. spots_of b t) ls in
    (λ i. below_law a.kind a.choices t x more i
    ∷ below_all (next_of t x) ls (map (λ b. is_matched_above b t) ls) (drop_at (spots_of a t) more (spot_count a.choices) (length-spots_all a.choices (looked_at a.kind t)) i))
    ∙ ap (λ old. is_matched_above a (t ++ x ∷ []) ∷ old) (flags_law ls t x)

pub push_law : (ls : List Alternatives) (t : List ℕ) (x : ℕ) → pushed ls (unpacked ls t) x ≡ unpacked ls (t ++ x ∷ [])
push_law ls t x = λ i. let s : Unpacked = record { live = live_law ls t x i; below = flags_law ls t x i; start = sym (starts-push true t x) i } in s

pub start_law : (ls : List Alternatives) → (let s : Unpacked = record { live = flat_map (λ a. entered_choices a.choices) ls; below = map (λ a. false) ls; start = true } in s) ≡ unpacked ls []
start_law ls = λ i. let s : Unpacked = record { live = live ls i; below = none ls i; start = true } in s where
  live : (ks : List Alternatives) → flat_map (λ a. entered_choices a.choices) ks ≡ flat_map (λ a. spots_of a []) ks
  live [] = refl
  live (a ∷ ks) = λ i. (entered_law a.choices ∙ by_kind a.kind) i ++ live ks i where
    by_kind : (k : Kind) → flat_map (λ c. spots c []) a.choices ≡ flat_map (λ c. spots c (looked_at k [])) a.choices
    by_kind kind.Name = refl
    by_kind kind.Path = refl
    by_kind kind.BelowPath = refl

  none : (ks : List Alternatives) → map (λ a. false) ks ≡ map (λ a. is_matched_above a []) ks
  none [] = refl
  none (a ∷ ks) = λ i. nothing (is_below_kind a.kind) i ∷ none ks i where
    nothing : (b : Bool) → false ≡ (b && false)
    nothing true = refl
    nothing false = refl

-- Two characters of one class: they are equal, or neither is mentioned.
found_at : (ms : List ℕ) (n x k : ℕ) → position_from (λ m. m == x) n ms ≡ Some k → (j : ℕ) × (k ≡ n + j) × (get_or ms j 0 ≡ x)
found_at [] n x k h = cc
found_at (m ∷ ms) n x k h = by_test (m == x) refl h (found_at ms (n + 1) x k) where
  by_test : (b : Bool) → (m == x) ≡ b → cond b (Some n) (position_from (λ l. l == x) (n + 1) ms) ≡ Some k
      → (position_from (λ l. l == x) (n + 1) ms ≡ Some k → (j : ℕ) × (k ≡ (n + 1) + j) × (get_or ms j 0 ≡ x))
      → (j : ℕ) × (k ≡ n + j) × (get_or (m ∷ ms) j 0 ≡ x)
  by_test true e h go = let s : n ≡ k = cc in (0, (let l : k ≡ n + 0 = omega (arith, s) in l), (let l : m ≡ x = grind (arith, nat_tests, e) in l))
  by_test false e h go = let w = go h in (suc w.0, (let l : k ≡ n + suc w.0 = omega (arith, w.1) in l), w.2)

none_there : (ms : List ℕ) (n x : ℕ) → position_from (λ m. m == x) n ms ≡ None → is_mentioned ms x ≡ false
none_there [] n x h = refl
none_there (m ∷ ms) n x h = by_test (m == x) h (none_there ms (n + 1) x) where
  by_test : (b : Bool) → cond b (Some n) (position_from (λ l. l == x) (n + 1) ms) ≡ None
      → (position_from (λ l. l == x) (n + 1) ms ≡ None → is_mentioned ms x ≡ false) → (b || is_mentioned ms x) ≡ false
  by_test true h go = cc
  by_test false h go = go h

-- What the class of a character says of it.
data Classed (ms : List ℕ) (x k : ℕ) : Type 0 where
  mentioned : (j : ℕ) → k ≡ 1 + j → get_or ms j 0 ≡ x → Classed ms x k
  other : k ≡ 0 → is_mentioned ms x ≡ false → Classed ms x k

classed : (ms : List ℕ) (x k : ℕ) → class_of ms x ≡ Some k → (is_never_mentioned x ≡ false) × Classed ms x k
classed ms x k h = by_test (is_never_mentioned x) h where
  by_place : (o : Option ℕ) → position_from (λ m. m == x) 1 ms ≡ o → Some (unwrap_or o 0) ≡ Some k → Classed ms x k
  by_place None e h = other (let l : k ≡ 0 = cc in l) (none_there ms 1 x e)
  by_place (Some j) e h = let w = found_at ms 1 x j e in mentioned w.0 (let l : j ≡ k = cc in sym l ∙ w.1) w.2

  by_test : (b : Bool) → cond b None (Some (unwrap_or (position_from (λ m. m == x) 1 ms) 0)) ≡ Some k → (b ≡ false) × Classed ms x k
  by_test true h = cc
  by_test false h = (refl, by_place (position_from (λ m. m == x) 1 ms) refl h)

pub record Alike (ms : List ℕ) (x y : ℕ) : Type 0 where
  pub first_allowed : is_never_mentioned x ≡ false
  pub second_allowed : is_never_mentioned y ≡ false
  pub same : (x ≡ y) ⊎ ((is_mentioned ms x ≡ false) × (is_mentioned ms y ≡ false))

pub alike : (ms : List ℕ) (x y k : ℕ) → class_of ms x ≡ Some k → class_of ms y ≡ Some k → Alike ms x y
alike ms x y k h l =
    let a = classed ms x k h in
    let b = classed ms y k l in
    record { first_allowed = a.0; second_allowed = b.0; same = join a.1 b.1 }
  where
    join : Classed ms x k → Classed ms y k → (x ≡ y) ⊎ ((is_mentioned ms x ≡ false) × (is_mentioned ms y ≡ false))
    join (mentioned i e f) (mentioned j g q) = let s : i ≡ j = omega (arith, e, g) in inl (sym f ∙ ap (λ n. get_or ms n 0) s ∙ q)
    join (mentioned i e f) (other g q) = absurd (omega (arith, e, g))
    join (other e f) (mentioned j g q) = absurd (omega (arith, e, g))
    join (other e f) (other g q) = inr (f, q)

-- A character that is mentioned, or never is, is equal to both or to neither.
not_it : (ms : List ℕ) (x c : ℕ) → (is_never_mentioned c || is_mentioned ms c) ≡ true → is_never_mentioned x ≡ false → is_mentioned ms x ≡ false → (x == c) ≡ false
not_it ms x c h a m = by_test (x == c) refl where
  by_test : (b : Bool) → (x == c) ≡ b → b ≡ false
  by_test false e = refl
  by_test true e =
      let s : x ≡ c = grind (arith, nat_tests, e) in
      let l : (is_never_mentioned x || is_mentioned ms x) ≡ true = ap (λ n. is_never_mentioned n || is_mentioned ms n) s ∙ h in
      sym l ∙ (λ i. a i || m i)

told : (ms : List ℕ) (x y c : ℕ) → Alike ms x y → (is_never_mentioned c || is_mentioned ms c) ≡ true → (x == c) ≡ (y == c)
told ms x y c a h =
    ⊎_elim (λ s. ap (λ n. n == c) s) (λ n. not_it ms x c h a.first_allowed n.0 ∙ sym (not_it ms y c h a.second_allowed n.1)) a.same

pub told_by_class : (ms : List ℕ) (x y k c : ℕ) → class_of ms x ≡ Some k → class_of ms y ≡ Some k → (is_never_mentioned c || is_mentioned ms c) ≡ true → (x == c) ≡ (y == c)
told_by_class ms x y k c h l m = told ms x y c (alike ms x y k h l) m

flip : (x c : ℕ) → (c == x) ≡ (x == c)
flip x c = grind (arith, nat_tests)

any_told : (ms : List ℕ) (x y : ℕ) (cs : List ℕ) → Alike ms x y → mentions ms cs ≡ true → list_any (λ c. c == x) cs ≡ list_any (λ c. c == y) cs
any_told ms x y [] a h = refl
any_told ms x y (c ∷ cs) a h =
    let w = and_parts (is_never_mentioned c || is_mentioned ms c) (mentions ms cs) h in
    λ i. (flip x c ∙ told ms x y c a w.0 ∙ sym (flip y c)) i || any_told ms x y cs a w.1 i

abbrev at_character : Bool → ℕ → NextCharacter
at_character f x = record { character = x; first = f }

takes_alike : (ms : List ℕ) (x y : ℕ) (f : Bool) (p : Piece) → IsAlphabet ms → Alike ms x y → mentions ms (piece_characters p) ≡ true
    → takes (at_character f x) p ≡ takes (at_character f y) p
takes_alike ms x y f (Lit c) l a h = told ms x y c a (and_parts (is_never_mentioned c || is_mentioned ms c) true h).0
takes_alike ms x y f Any l a h = ap not (told ms x y 47 a (or_right (is_never_mentioned 47) (is_mentioned ms 47) l.slash))
takes_alike ms x y f Run l a h =
    λ i. not (told ms x y 47 a (or_right (is_never_mentioned 47) (is_mentioned ms 47) l.slash) i) && not (f && told ms x y 46 a (or_right (is_never_mentioned 46) (is_mentioned ms 46) l.dot) i)
takes_alike ms x y f (OneOf cs) l a h = any_told ms x y cs a h

stepped_alike : (ms : List ℕ) (x y : ℕ) (f here before : Bool) (ps : List Piece) (old : List Bool) → IsAlphabet ms → Alike ms x y
    → mentions ms (pieces_characters ps) ≡ true → stepped_pieces (at_character f x) here before ps old ≡ stepped_pieces (at_character f y) here before ps old
stepped_alike ms x y f here before [] old l a h = refl
stepped_alike ms x y f here before (p ∷ ps) old l a h =
    let w = and_parts (mentions ms (piece_characters p)) (mentions ms (pieces_characters ps)) (sym (list_all-append (λ c. is_never_mentioned c || is_mentioned ms c) (piece_characters p) (pieces_characters ps)) ∙ h) in
    let t = takes_alike ms x y f p l a w.0 in
    let spot : Bool → Bool = λ b. cond (is_star p) (before || head old && b) (here && b) in
    (λ i. spot (t i) ∷ stepped_pieces (at_character f x) (head old) (spot (t i)) ps (tail old))
    ∙ ap (λ bs. spot (takes (at_character f y) p) ∷ bs) (stepped_alike ms x y f (head old) (spot (takes (at_character f y) p)) ps (tail old) l a w.1)

choices_alike : (ms : List ℕ) (x y : ℕ) (f : Bool) (cs : List (List Piece)) (old : List Bool) → IsAlphabet ms → Alike ms x y
    → list_all (λ c. mentions ms (pieces_characters c)) cs ≡ true → stepped_choices (at_character f x) cs old ≡ stepped_choices (at_character f y) cs old
choices_alike ms x y f [] old l a h = refl
choices_alike ms x y f (c ∷ cs) old l a h =
    let w = and_parts (mentions ms (pieces_characters c)) (list_all (λ d. mentions ms (pieces_characters d)) cs) h in
    λ i. (false ∷ stepped_alike ms x y f (head old) false c (tail old) l a w.0 i) ++ choices_alike ms x y f cs (drop (length c + 1) old) l a w.1 i

slash_alike : (ms : List ℕ) (x y : ℕ) → IsAlphabet ms → Alike ms x y → (x == 47) ≡ (y == 47)
slash_alike ms x y l a = told ms x y 47 a (or_right (is_never_mentioned 47) (is_mentioned ms 47) l.slash)

all_alike : (ms : List ℕ) (x y : ℕ) (f : Bool) (ls : List Alternatives) (old : List Bool) → IsAlphabet ms → Alike ms x y
    → list_all (is_covered ms) ls ≡ true → stepped_all (at_character f x) ls old ≡ stepped_all (at_character f y) ls old
all_alike ms x y f [] old l a h = refl
all_alike ms x y f (b ∷ ls) old l a h =
    let w = and_parts (is_covered ms b) (list_all (is_covered ms) ls) h in
    λ i. cond (is_name_kind b.kind && slash_alike ms x y l a i) (entered_choices b.choices) (choices_alike ms x y f b.choices old l a w.0 i)
    ++ all_alike ms x y f ls (drop (spot_count b.choices) old) l a w.1 i

flags_alike : (ms : List ℕ) (x y : ℕ) (f : Bool) (ls : List Alternatives) (flags old : List Bool) → IsAlphabet ms → Alike ms x y
    → below_all (at_character f x) ls flags old ≡ below_all (at_character f y) ls flags old
flags_alike ms x y f [] flags old l a = refl
flags_alike ms x y f (b ∷ ls) flags old l a =
    λ i. (head flags || (is_below_kind b.kind && slash_alike ms x y l a i && ended_choices b.choices old))
    ∷ flags_alike ms x y f ls (tail flags) (drop (spot_count b.choices) old) l a i

-- Characters of one class lead to the same.
pub pushed_alike : (ms : List ℕ) (x y k : ℕ) (ls : List Alternatives) (s : Unpacked) → IsAlphabet ms → list_all (is_covered ms) ls ≡ true
    → class_of ms x ≡ Some k → class_of ms y ≡ Some k → pushed ls s x ≡ pushed ls s y
pushed_alike ms x y k ls s l c h g =
    let a = alike ms x y k h g in
    λ i. let r : Unpacked = record { live = all_alike ms x y s.start ls s.live l a c i; below = flags_alike ms x y s.start ls s.below s.live l a i; start = slash_alike ms x y l a i } in r

-- What is kept of a text says which specifications match it.
pub each_law : (ls : List Alternatives) (t : List ℕ) → matched_each ls (unpacked ls t).below (unpacked ls t).live ≡ map (λ a. is_matched a t) ls
each_law [] t = refl
each_law (a ∷ ls) t =
    let more = flat_map (λ b. spots_of b t) ls in
    (λ i. (is_matched_above a t || ended_choices_law a.choices (looked_at a.kind t) more i)
    ∷ matched_each ls (map (λ b. is_matched_above b t) ls) (drop_at (spots_of a t) more (spot_count a.choices) (length-spots_all a.choices (looked_at a.kind t)) i))
    ∙ ap (λ bs. is_matched a t ∷ bs) (each_law ls t)

-- Names have no `/`.
since_name : (name n : List ℕ) → list_all is_no_slash n ≡ true → since_slash name n ≡ name ++ n
since_name name [] h = sym (append-nil name)
since_name name (c ∷ n) h =
    let w = and_parts (is_no_slash c) (list_all is_no_slash n) h in
    ap (λ b. cond b (since_slash [] n) (since_slash (name ++ c ∷ []) n)) (not-true (c == 47) w.0) ∙ since_name (name ++ c ∷ []) n w.1 ∙ append_assoc name (c ∷ []) n

since_front : (name n t : List ℕ) → list_all is_no_slash n ≡ true → since_slash name (n ++ 47 ∷ t) ≡ since_slash [] t
since_front name [] t h = refl
since_front name (c ∷ n) t h =
    let w = and_parts (is_no_slash c) (list_all is_no_slash n) h in
    ap (λ b. cond b (since_slash [] (n ++ 47 ∷ t)) (since_slash (name ++ c ∷ []) (n ++ 47 ∷ t))) (not-true (c == 47) w.0) ∙ since_front (name ++ c ∷ []) n t w.1

last_text : (n : Name) (p : Path) → is_place (n ∷ p) ≡ true → since_slash [] (text_of (n ∷ p)) ≡ last_name (n ∷ p)
last_text n [] h = since_name [] n (name-apart n (and_parts (is_name n) true h).0)
last_text n (m ∷ p) h =
    let w = and_parts (is_name n) (is_place (m ∷ p)) h in
    since_front [] n (text_of (m ∷ p)) (name-apart n w.0) ∙ last_text m p w.1

folders_name : (n : List ℕ) → list_all is_no_slash n ≡ true → folders n ≡ []
folders_name [] h = refl
folders_name (c ∷ n) h =
    let w = and_parts (is_no_slash c) (list_all is_no_slash n) h in
    ap (λ b. cond b ([] ∷ map (λ u. c ∷ u) (folders n)) (map (λ u. c ∷ u) (folders n))) (not-true (c == 47) w.0) ∙ ap (map (λ u. c ∷ u)) (folders_name n w.1)

map-map : (f g : List ℕ → List ℕ) (us : List (List ℕ)) → map f (map g us) ≡ map (λ u. f (g u)) us
map-map f g [] = refl
map-map f g (u ∷ us) = ap (λ vs. f (g u) ∷ vs) (map-map f g us)

folders_front : (n t : List ℕ) → list_all is_no_slash n ≡ true → folders (n ++ 47 ∷ t) ≡ n ∷ map (λ u. n ++ 47 ∷ u) (folders t)
folders_front [] t h = refl
folders_front (c ∷ n) t h =
    let w = and_parts (is_no_slash c) (list_all is_no_slash n) h in
    let us = folders (n ++ 47 ∷ t) in
    ap (λ b. cond b ([] ∷ map (λ u. c ∷ u) us) (map (λ u. c ∷ u) us)) (not-true (c == 47) w.0)
    ∙ ap (map (λ u. c ∷ u)) (folders_front n t w.1) ∙ ap (λ vs. (c ∷ n) ∷ vs) (map-map (λ u. c ∷ u) (λ u. n ++ 47 ∷ u) (folders t))

abbrev texts : List Path → List (List ℕ)
texts ps = map text_of ps

texts_onto : (n m : Name) (ps : List Path) → texts (map (λ q. n ∷ q) (map (λ q. m ∷ q) ps)) ≡ map (λ u. n ++ 47 ∷ u) (texts (map (λ q. m ∷ q) ps))
texts_onto n m [] = refl
texts_onto n m (p ∷ ps) = ap (λ us. (n ++ 47 ∷ text_of (m ∷ p)) ∷ us) (texts_onto n m ps)

map-push : (f : List ℕ → List ℕ) (us : List (List ℕ)) (u : List ℕ) → map f (us ++ u ∷ []) ≡ map f us ++ f u ∷ []
map-push f [] u = refl
map-push f (v ∷ us) u = ap (λ vs. f v ∷ vs) (map-push f us u)

prefix_texts : (n : Name) (p : Path) → is_place (n ∷ p) ≡ true → texts (prefixes (n ∷ p)) ≡ folders (text_of (n ∷ p)) ++ text_of (n ∷ p) ∷ []
prefix_texts n [] h = ap (λ us. us ++ n ∷ []) (sym (folders_name n (name-apart n (and_parts (is_name n) true h).0)))
prefix_texts n (m ∷ p) h =
    let w = and_parts (is_name n) (is_place (m ∷ p)) h in
    let t = text_of (m ∷ p) in
    ap (λ us. n ∷ (n ++ 47 ∷ m) ∷ us) (texts_onto n m (prefixes p))
    ∙ ap (λ us. n ∷ map (λ u. n ++ 47 ∷ u) us) (prefix_texts m p w.1)
    ∙ ap (λ us. n ∷ us) (map-push (λ u. n ++ 47 ∷ u) (folders t) t)
    ∙ ap (λ us. us ++ (n ++ 47 ∷ t) ∷ []) (sym (folders_front n t (name-apart n w.0)))

any-texts : (f : List ℕ → Bool) (ps : List Path) → list_any f (texts ps) ≡ list_any (λ q. f (text_of q)) ps
any-texts f [] = refl
any-texts f (p ∷ ps) = ap (λ b. f (text_of p) || b) (any-texts f ps)

-- What passes at the end of a text, or before one of its slashes, passes at the text of a path above it.
pub above_law : (f : List ℕ → Bool) (n : Name) (p : Path) → is_place (n ∷ p) ≡ true
    → (list_any f (folders (text_of (n ∷ p))) || f (text_of (n ∷ p))) ≡ list_any (λ q. f (text_of q)) (prefixes (n ∷ p))
above_law f n p h =
    let t = text_of (n ∷ p) in
    ap (λ b. list_any f (folders t) || b) (sym (or-false (f t))) ∙ any-append f (folders t) (t ∷ []) ∙ ap (list_any f) (sym (prefix_texts n p h))
    ∙ any-texts f (prefixes (n ∷ p))

kind_law : (k : Kind) (ps : List Part) (n : Name) (p : Path) → is_place (n ∷ p) ≡ true
    → ((is_below_kind k && list_any (fits (choices ps)) (folders (text_of (n ∷ p)))) || fits (choices ps) (looked_at k (text_of (n ∷ p)))) ≡ by_kind k ps (n ∷ p)
kind_law kind.Name ps n p h = ap (fits (choices ps)) (last_text n p h) ∙ sym (glob_choices ps true (last_name (n ∷ p)))
kind_law kind.Path ps n p h = sym (glob_choices ps true (text_of (n ∷ p)))
kind_law kind.BelowPath ps n p h =
    let f = fits (choices ps) in
    above_law f n p h
    ∙ any-alike (λ q. f (text_of q)) (λ q. glob ps true (text_of q)) (prefixes (n ∷ p)) (λ q. sym (glob_choices ps true (text_of q)))

pub spec_law : (s : Specification) (p : Path) → is_path p ≡ true → is_matched (alternatives_of s) (text_of p) ≡ matches s p
unfolding matches
spec_law s [] h = cc
spec_law s (n ∷ p) h =
    let some_names : (suc (length p) == 0) ≡ false = grind (arith, nat_tests) in
    kind_law s.kind s.pattern n p (and_parts (not (length (n ∷ p) == 0)) (is_place (n ∷ p)) h).1 ∙ (λ i. not (sym some_names i) && by_kind s.kind s.pattern (n ∷ p))

pub specs_law : (ls : List Alternatives) (specs : List Specification) (p : Path) → ls ≡ map alternatives_of specs → is_path p ≡ true
    → list_any (λ a. is_matched a (text_of p)) ls ≡ list_any (λ r. matches r p) specs
specs_law ls specs p e h =
    ap (list_any (λ a. is_matched a (text_of p))) e
    ∙ sym (any-map (λ a. is_matched a (text_of p)) alternatives_of specs)
    ∙ any-alike (λ r. is_matched (alternatives_of r) (text_of p)) (λ r. matches r p) specs (λ r. spec_law r p h)

-- The sample of a class, in the list of all samples.
sample_at-other : (ms : List ℕ) (i d : ℕ) → i < length ms → get_or ms i d ≡ get_or ms i 0
sample_at-other [] i d l = absurd (omega arith)
sample_at-other (m ∷ ms) zero d l = refl
sample_at-other (m ∷ ms) (suc i) d l = sample_at-other ms i d (omega arith)

pub sample_at : (ms : List ℕ) (k d : ℕ) → k < class_count ms → get_or (first_unmentioned ms ∷ ms) k d ≡ sample ms k
sample_at ms zero d l = refl
sample_at ms (suc i) d l = sample_at-other ms i d (omega arith)

pub class_of_sample : (ms samples : List ℕ) (k ch : ℕ) → samples ≡ first_unmentioned ms ∷ ms → IsAlphabet ms → k < class_count ms → ch ≡ get_or samples k ch → class_of ms ch ≡ Some k
class_of_sample ms samples k ch e a l h =
    ap (class_of ms) (h ∙ ap (λ xs. get_or xs k ch) e ∙ sample_at ms k ch l) ∙ sample_class ms k a l

-- A character of class 0 isn't mentioned.
pub class_zero : (ms : List ℕ) (x c : ℕ) → class_of ms x ≡ Some 0 → (is_never_mentioned c || is_mentioned ms c) ≡ true → (x == c) ≡ false
class_zero ms x c h m = let w = classed ms x 0 h in by w.0 w.1 where
  by : is_never_mentioned x ≡ false → Classed ms x 0 → (x == c) ≡ false
  by a (mentioned j e f) = absurd (omega (arith, e))
  by a (other e f) = not_it ms x c m a f
