-- Masks of takers that are made position by position.
use Rattle.std.proofs.Common.{◌≡◌, ◌≢◌, ℕ, zero, suc, ◌+◌, ◌<◌, ◌≤◌, ◌==◌, inl, inr, Bool, true, false, not, ◌&&◌, ◌||◌, cond, List, [], ◌∷◌, ◌++◌, map, length, drop, get_or, refl, sym, ap, ◌∙◌, subst, arith, append_assoc, append-nil, length-append}
use Rattle.std.specs.Prelude.{Some, None, slice_index, slice_index_or, slice_set}
use Rattle.std.specs.List.{list_any}
use Rattle.std.proofs.Math.Bool.{and-false, or-false}
use Rattle.std.proofs.lemmas.Bool.{cases_eq}
use Rattle.std.proofs.lemmas.Bool.Decides.{nat_tests}
use Rattle.std.proofs.lemmas.List.{drop_all, length-map, length-set, get_or-set_same, get_or-set_other}
use Rattle.hub_text.specs.laws.List.{next-drop}
use Rattle.hub_glob.specs.declared.piece.Piece.{Piece}
use Rattle.hub_glob.specs.declared.piece.Piece.TheVariants.{Lit, OneOf}
use Rattle.hub_glob.specs.declared.path_spec.Kind.{Kind}
use Rattle.hub_automaton.specs.Alphabet.{IsAlphabet, class_of, class_count, sample, first_unmentioned}
use Rattle.hub_automaton.specs.Masks.{masks_start, masks_piece, mask_choice, mask_choices, mask_all}
use Rattle.hub_automaton.specs.Spots.{spot_count}
use Rattle.hub_automaton.specs.forms.Takers.{AreTaken, begun, is_among}
use Rattle.hub_automaton.specs.Words.{packed, with_bit}
use Rattle.hub_automaton.specs.declared.alternatives.Alternatives.{Alternatives}
use Rattle.hub_automaton.specs.declared.masks.Mask.TheVariants as mask
use Rattle.hub_automaton.proofs.Alphabets.{sample_class}
use Rattle.hub_automaton.proofs.Kept.{flag_set, length-mask_choice, length-mask_choices}
use Rattle.hub_glob.specs.Specification.{is_name_kind}

-- Bits that are the same, or become others in several steps.
pub taken_none : (ms : List ℕ) (takers : List (List ℕ)) (place : ℕ) (f g : ℕ → List Bool) → ((k : ℕ) → k < class_count ms → f (sample ms k) ≡ g (sample ms k))
    → AreTaken ms takers takers place f g
taken_none ms takers place f g e = record { many = refl; each = λ k before after l p h. h ∙ ap (λ bs. packed (before ++ (bs ++ after))) (e k l) }

pub taken_same : (ms : List ℕ) (old new : List (List ℕ)) (place : ℕ) (f f' g g' : ℕ → List Bool) → ((c : ℕ) → f c ≡ f' c) → ((c : ℕ) → g c ≡ g' c)
    → AreTaken ms old new place f g → AreTaken ms old new place f' g'
taken_same ms old new place f f' g g' d e h = record {
  many = h.many;
  each = λ k before after l p q.
      let c = sample ms k in
      h.each k before after l p (q ∙ ap (λ bs. packed (before ++ (bs ++ after))) (sym (d c))) ∙ ap (λ bs. packed (before ++ (bs ++ after))) (e c);
}

taken_again : (ms : List ℕ) (old mid new : List (List ℕ)) (place : ℕ) (f g h : ℕ → List Bool) → AreTaken ms old mid place f g → AreTaken ms mid new place g h
    → AreTaken ms old new place f h
taken_again ms old mid new place f g h a b = record {
  many = b.many ∙ a.many;
  each = λ k before after l p q. b.each k before after l p (a.each k before after l p q);
}

taken_next : (ms : List ℕ) (old mid new : List (List ℕ)) (place n next : ℕ) (f g f' g' : ℕ → List Bool) → place + n ≡ next → ((c : ℕ) → length (g c) ≡ n)
    → AreTaken ms old mid place f g → AreTaken ms mid new next f' g' → AreTaken ms old new place (λ c. f c ++ f' c) (λ c. g c ++ g' c)
taken_next ms old mid new place n next f g f' g' e long a b = record {
  many = b.many ∙ a.many;
  each = λ k before after l p q.
      let c = sample ms k in
      let first = a.each k before (f' c ++ after) l p (q ∙ ap (λ bs. packed (before ++ bs)) (append_assoc (f c) (f' c) after)) in
      let at : length (before ++ g c) ≡ next = omega (arith, length-append before (g c), long c, p, e) in
      b.each k (before ++ g c) after l at (first ∙ ap packed (sym (append_assoc before (g c) (f' c ++ after))))
      ∙ ap packed (append_assoc before (g c) (g' c ++ after) ∙ ap (λ bs. before ++ bs) (sym (append_assoc (g c) (g' c) after)));
}

-- A position that is put into the masks of some characters, whatever it was in before.
abbrev pub TakenFor : List ℕ → List (List ℕ) → List (List ℕ) → ℕ → List ℕ → Type 0
TakenFor ms old new place cs = (flag : ℕ → Bool) → AreTaken ms old new place (λ c. flag c ∷ []) (λ c. (flag c || is_among cs c) ∷ [])

pub apart : (d c : ℕ) → d ≢ c → is_among (d ∷ []) c ≡ false
apart d c h = by_test (d == c) refl where
  by_test : (b : Bool) → (d == c) ≡ b → (not (c == 47) && (b || false)) ≡ false
  by_test true e = absurd (h (grind (arith, nat_tests, e)))
  by_test false e = and-false (not (c == 47))

pub taken_out : (ms : List ℕ) (takers : List (List ℕ)) (place d : ℕ) → ((k : ℕ) → k < class_count ms → is_among (d ∷ []) (sample ms k) ≡ false)
    → TakenFor ms takers takers place (d ∷ [])
taken_out ms takers place d h flag =
    taken_none ms takers place (λ c. flag c ∷ []) (λ c. (flag c || is_among (d ∷ []) c) ∷ [])
    (λ k l. let c = sample ms k in sym (ap (λ b. (flag c || b) ∷ []) (h k l) ∙ ap (λ b. b ∷ []) (or-false (flag c))))

-- A character of another class than that of the mask.
other_class : (ms : List ℕ) (d k n : ℕ) → IsAlphabet ms → k < class_count ms → class_of ms d ≡ Some n → k ≢ n → d ≢ sample ms k
other_class ms d k n a l e h s =
    let same : Some k ≡ Some n = sym (sample_class ms k a l) ∙ ap (class_of ms) (sym s) ∙ e in
    h (let m : k ≡ n = cc in m)

pub no_class : (ms : List ℕ) (takers : List (List ℕ)) (place d : ℕ) → IsAlphabet ms → class_of ms d ≡ None → TakenFor ms takers takers place (d ∷ [])
no_class ms takers place d a e =
    taken_out ms takers place d (λ k l. apart d (sample ms k) (λ s. let o : Some k ≡ None = sym (sample_class ms k a l) ∙ ap (class_of ms) (sym s) ∙ e in cc))

pub not_named : (ms : List ℕ) (takers : List (List ℕ)) (place d n : ℕ) → IsAlphabet ms → class_of ms d ≡ Some n → sample ms n ≢ d → TakenFor ms takers takers place (d ∷ [])
not_named ms takers place d n a e h =
    taken_out ms takers place d
    (λ k l. elim (cases_eq k n) [
      | inl same ↦ apart d (sample ms k) (λ s. h (ap (sample ms) (sym same) ∙ sym s))
      | inr other ↦ apart d (sample ms k) (other_class ms d k n a l e other)
    ])

among_itself : (d c : ℕ) → c ≡ d → (d == 47) ≡ false → is_among (d ∷ []) c ≡ true
among_itself d c e slash =
    let one : (c == 47) ≡ false = ap (λ x. x == 47) e ∙ slash in
    let two : (d == c) ≡ true = grind (arith, nat_tests, e) in
    λ i. not (one i) && (two i || false)

pub taken_in : (ms : List ℕ) (old new : List (List ℕ)) (place d n : ℕ) → IsAlphabet ms → length old ≡ class_count ms → (d == 47) ≡ false
    → class_of ms d ≡ Some n → sample ms n ≡ d → n < class_count ms → new ≡ slice_set old n (with_bit 0 place (slice_index_or old n []))
    → TakenFor ms old new place (d ∷ [])
taken_in ms old new place d n a many slash of_d is l m flag =
    let v = with_bit 0 place (slice_index_or old n []) in
    record {
      many = ap length m ∙ length-set old n v;
      each = λ k before after low p q. elim (cases_eq k n) [
        | inl same ↦ at k before after same p q
        | inr other ↦
            ap (λ ts. slice_index_or ts k []) m ∙ get_or-set_other old n k v [] other ∙ q
            ∙ ap (λ b. packed (before ++ (b ∷ after)))
            (sym (ap (λ b. flag (sample ms k) || b) (apart d (sample ms k) (other_class ms d k n a low of_d other)) ∙ or-false (flag (sample ms k))))
      ];
    }
  where
    at : (k : ℕ) (before after : List Bool) → k ≡ n → length before ≡ place → slice_index_or old k [] ≡ packed (before ++ (flag (sample ms k) ∷ after))
        → slice_index_or new k [] ≡ packed (before ++ ((flag (sample ms k) || is_among (d ∷ []) (sample ms k)) ∷ after))
    at k before after same p q =
        let c = sample ms k in
        let v = with_bit 0 place (slice_index_or old n []) in
        ap (λ ts. slice_index_or ts k []) m ∙ ap (λ j. slice_index_or (slice_set old n v) j []) same ∙ get_or-set_same old n v [] (omega (arith, many, l))
        ∙ ap (λ j. with_bit 0 place (slice_index_or old j [])) (sym same) ∙ (λ i. with_bit 0 (sym p i) (q i)) ∙ flag_set [] before after (flag c) true
        ∙ ap (λ b. packed (before ++ ((flag c || b) ∷ after))) (sym (among_itself d c (ap (sample ms) same ∙ is) slash))

-- A set, character by character.
join : (f n e r : Bool) → ((f || (n && (e || false))) || (n && r)) ≡ (f || (n && (e || r)))
join true n e r = refl
join false false e r = refl
join false true true r = refl
join false true false r = refl

pub set_next : (ms : List ℕ) (old mid new : List (List ℕ)) (place d : ℕ) (ds : List ℕ) → TakenFor ms old mid place (d ∷ []) → TakenFor ms mid new place ds
    → TakenFor ms old new place (d ∷ ds)
set_next ms old mid new place d ds a b flag =
    let more : ℕ → Bool = λ c. flag c || is_among (d ∷ []) c in
    taken_same ms old new place (λ c. flag c ∷ []) (λ c. flag c ∷ []) (λ c. (more c || is_among ds c) ∷ []) (λ c. (flag c || is_among (d ∷ ds) c) ∷ []) (λ c. refl)
    (λ c. ap (λ b. b ∷ []) (join (flag c) (not (c == 47)) (d == c) (list_any (λ x. x == c) ds)))
    (taken_again ms old mid new place (λ c. flag c ∷ []) (λ c. more c ∷ []) (λ c. (more c || is_among ds c) ∷ []) (a flag) (b more))

pub set_end : (ms : List ℕ) (takers : List (List ℕ)) (place : ℕ) → TakenFor ms takers takers place []
set_end ms takers place flag =
    taken_none ms takers place (λ c. flag c ∷ []) (λ c. (flag c || is_among [] c) ∷ [])
    (λ k l. let c = sample ms k in sym (ap (λ b. (flag c || b) ∷ []) (and-false (not (c == 47))) ∙ ap (λ b. b ∷ []) (or-false (flag c))))

-- Pieces.
goes : (kind : Kind) (c : ℕ) (x : Bool) → (c == 47) ≡ false → x ≡ (not (is_name_kind kind && c == 47) && x)
goes kind c x e = sym (ap (λ b. not (is_name_kind kind && b) && x) e ∙ ap (λ b. not b && x) (and-false (is_name_kind kind)))

flip : (d c : ℕ) → (d == c) ≡ (c == d)
flip d c = by_test (d == c) refl where
  by_test : (b : Bool) → (d == c) ≡ b → b ≡ (c == d)
  by_test true e = grind (arith, nat_tests, e)
  by_test false e = grind (arith, nat_tests, e)

lit_is : (kind : Kind) (d c : ℕ) → (masks_piece (begun c) kind (Lit d) || is_among (d ∷ []) c) ≡ masks_piece (mask.Takers c) kind (Lit d)
lit_is kind d c = by_test (c == 47) refl where
  by_test : (b : Bool) → (c == 47) ≡ b
      → (masks_piece (cond b (mask.Takers c) mask.Common) kind (Lit d) || (not b && ((d == c) || false))) ≡ masks_piece (mask.Takers c) kind (Lit d)
  by_test true e = or-false (masks_piece (mask.Takers c) kind (Lit d))
  by_test false e = or-false (d == c) ∙ flip d c ∙ goes kind c (c == d) e

set_is : (kind : Kind) (ds : List ℕ) (c : ℕ) → (masks_piece (begun c) kind (OneOf ds) || is_among ds c) ≡ masks_piece (mask.Takers c) kind (OneOf ds)
set_is kind ds c = by_test (c == 47) refl where
  by_test : (b : Bool) → (c == 47) ≡ b
      → (masks_piece (cond b (mask.Takers c) mask.Common) kind (OneOf ds) || (not b && list_any (λ d. d == c) ds)) ≡ masks_piece (mask.Takers c) kind (OneOf ds)
  by_test true e = or-false (masks_piece (mask.Takers c) kind (OneOf ds))
  by_test false e = goes kind c (list_any (λ d. d == c) ds) e

start_is : (kind : Kind) (c : ℕ) → masks_start (begun c) kind ≡ false
start_is kind c = by_test (c == 47) where
  by_test : (b : Bool) → masks_start (cond b (mask.Takers c) mask.Common) kind ≡ false
  by_test true = refl
  by_test false = refl

-- The position after a piece.
abbrev pub PieceTaken : List ℕ → List (List ℕ) → List (List ℕ) → ℕ → Kind → Piece → Type 0
PieceTaken ms old new place kind p = AreTaken ms old new place (λ c. masks_piece (begun c) kind p ∷ []) (λ c. masks_piece (mask.Takers c) kind p ∷ [])

taken_as : (ms : List ℕ) (old new : List (List ℕ)) (place : ℕ) (kind : Kind) (p : Piece) (ds : List ℕ)
    → ((c : ℕ) → (masks_piece (begun c) kind p || is_among ds c) ≡ masks_piece (mask.Takers c) kind p) → TakenFor ms old new place ds → PieceTaken ms old new place kind p
taken_as ms old new place kind p ds e h =
    let f : ℕ → List Bool = λ c. masks_piece (begun c) kind p ∷ [] in
    taken_same ms old new place f f (λ c. (masks_piece (begun c) kind p || is_among ds c) ∷ []) (λ c. masks_piece (mask.Takers c) kind p ∷ []) (λ c. refl)
    (λ c. ap (λ b. b ∷ []) (e c)) (h (λ c. masks_piece (begun c) kind p))

pub lit_taken : (ms : List ℕ) (old new : List (List ℕ)) (place : ℕ) (kind : Kind) (p : Piece) (d : ℕ) → p ≡ Lit d → TakenFor ms old new place (d ∷ [])
    → PieceTaken ms old new place kind p
lit_taken ms old new place kind p d is h =
    subst (λ q. PieceTaken ms old new place kind q) (sym is) (taken_as ms old new place kind (Lit d) (d ∷ []) (lit_is kind d) h)

pub set_taken : (ms : List ℕ) (old new : List (List ℕ)) (place : ℕ) (kind : Kind) (p : Piece) (ds es : List ℕ) → p ≡ OneOf ds → es ≡ ds → TakenFor ms old new place es
    → PieceTaken ms old new place kind p
set_taken ms old new place kind p ds es is same h =
    subst (λ q. PieceTaken ms old new place kind q) (sym is)
    (taken_as ms old new place kind (OneOf ds) ds (set_is kind ds) (subst (λ fs. TakenFor ms old new place fs) same h))

-- Pieces, choices and specifications, one after another.
nothing_taken : (ms : List ℕ) (takers : List (List ℕ)) (place : ℕ) → AreTaken ms takers takers place (λ c. []) (λ c. [])
nothing_taken ms takers place = taken_none ms takers place (λ c. []) (λ c. []) (λ k l. refl)

abbrev pub PiecesTaken : List ℕ → List (List ℕ) → List (List ℕ) → ℕ → Kind → List Piece → Type 0
PiecesTaken ms old new place kind ps = AreTaken ms old new place (λ c. map (masks_piece (begun c) kind) ps) (λ c. map (masks_piece (mask.Takers c) kind) ps)

abbrev pub ChoiceTaken : List ℕ → List (List ℕ) → List (List ℕ) → ℕ → Kind → List Piece → Type 0
ChoiceTaken ms old new place kind ps = AreTaken ms old new place (λ c. mask_choice (begun c) kind ps) (λ c. mask_choice (mask.Takers c) kind ps)

abbrev pub ChoicesTaken : List ℕ → List (List ℕ) → List (List ℕ) → ℕ → Kind → List (List Piece) → Type 0
ChoicesTaken ms old new place kind cs = AreTaken ms old new place (λ c. mask_choices (begun c) kind cs) (λ c. mask_choices (mask.Takers c) kind cs)

abbrev pub AllTaken : List ℕ → List (List ℕ) → List (List ℕ) → ℕ → List Alternatives → Type 0
AllTaken ms old new place ls = AreTaken ms old new place (λ c. mask_all (begun c) ls) (λ c. mask_all (mask.Takers c) ls)

-- A list goes on with the item at a place, and ends behind the last one.
pub pieces_next : (ms : List ℕ) (old mid new : List (List ℕ)) (place next : ℕ) (kind : Kind) (ps : List Piece) (i : ℕ) (p : Piece) → i < length ps → p ≡ get_or ps i p
    → place + 1 ≡ next → PieceTaken ms old mid place kind p → PiecesTaken ms mid new next kind (drop (i + 1) ps) → PiecesTaken ms old new place kind (drop i ps)
pieces_next ms old mid new place next kind ps i p l is e a b =
    let rest = drop (i + 1) ps in
    subst (λ qs. PiecesTaken ms old new place kind qs) (sym (next-drop ps i p l is))
    (taken_next ms old mid new place 1 next (λ c. masks_piece (begun c) kind p ∷ []) (λ c. masks_piece (mask.Takers c) kind p ∷ [])
    (λ c. map (masks_piece (begun c) kind) rest) (λ c. map (masks_piece (mask.Takers c) kind) rest) e (λ c. refl) a b)

pub pieces_end : (ms : List ℕ) (takers : List (List ℕ)) (place : ℕ) (kind : Kind) (ps : List Piece) (i : ℕ) → length ps ≤ i → PiecesTaken ms takers takers place kind (drop i ps)
pieces_end ms takers place kind ps i l = subst (λ qs. PiecesTaken ms takers takers place kind qs) (sym (drop_all i ps l)) (nothing_taken ms takers place)

pub choice_begins : (ms : List ℕ) (old new : List (List ℕ)) (place next : ℕ) (kind : Kind) (ps : List Piece) → place + 1 ≡ next
    → PiecesTaken ms old new next kind ps → ChoiceTaken ms old new place kind ps
choice_begins ms old new place next kind ps e h =
    taken_next ms old old new place 1 next (λ c. masks_start (begun c) kind ∷ []) (λ c. false ∷ [])
    (λ c. map (masks_piece (begun c) kind) ps) (λ c. map (masks_piece (mask.Takers c) kind) ps) e (λ c. refl)
    (taken_none ms old place (λ c. masks_start (begun c) kind ∷ []) (λ c. false ∷ []) (λ k l. ap (λ b. b ∷ []) (start_is kind (sample ms k)))) h

pub choices_next : (ms : List ℕ) (old mid new : List (List ℕ)) (place next : ℕ) (kind : Kind) (cs : List (List Piece)) (i : ℕ) (c ps : List Piece) → i < length cs → c ≡ get_or cs i c
    → ps ≡ c → place + (length ps + 1) ≡ next → ChoiceTaken ms old mid place kind ps → ChoicesTaken ms mid new next kind (drop (i + 1) cs)
    → ChoicesTaken ms old new place kind (drop i cs)
choices_next ms old mid new place next kind cs i c ps l is same e a b =
    let rest = drop (i + 1) cs in
    subst (λ ds. ChoicesTaken ms old new place kind ds) (ap (λ d. d ∷ rest) same ∙ sym (next-drop cs i c l is))
    (taken_next ms old mid new place (length ps + 1) next (λ x. mask_choice (begun x) kind ps) (λ x. mask_choice (mask.Takers x) kind ps)
    (λ x. mask_choices (begun x) kind rest) (λ x. mask_choices (mask.Takers x) kind rest) e (λ x. length-mask_choice (mask.Takers x) kind ps) a b)

pub choices_end : (ms : List ℕ) (takers : List (List ℕ)) (place : ℕ) (kind : Kind) (cs : List (List Piece)) (i : ℕ) → length cs ≤ i → ChoicesTaken ms takers takers place kind (drop i cs)
choices_end ms takers place kind cs i l = subst (λ ds. ChoicesTaken ms takers takers place kind ds) (sym (drop_all i cs l)) (nothing_taken ms takers place)

pub all_next : (ms : List ℕ) (old mid new : List (List ℕ)) (place next : ℕ) (ls : List Alternatives) (i : ℕ) (a : Alternatives) (cs : List (List Piece)) → i < length ls → a ≡ get_or ls i a
    → cs ≡ a.choices → place + spot_count cs ≡ next → ChoicesTaken ms old mid place a.kind cs → AllTaken ms mid new next (drop (i + 1) ls) → AllTaken ms old new place (drop i ls)
all_next ms old mid new place next ls i a cs l is same e h more =
    let rest = drop (i + 1) ls in
    let own = subst (λ ds. ChoicesTaken ms old mid place a.kind ds) same h in
    subst (λ ks. AllTaken ms old new place ks) (sym (next-drop ls i a l is))
    (taken_next ms old mid new place (spot_count a.choices) next (λ x. mask_choices (begun x) a.kind a.choices) (λ x. mask_choices (mask.Takers x) a.kind a.choices)
    (λ x. mask_all (begun x) rest) (λ x. mask_all (mask.Takers x) rest) (ap (λ ds. place + spot_count ds) (sym same) ∙ e)
    (λ x. length-mask_choices (mask.Takers x) a.kind a.choices) own more)

pub all_end : (ms : List ℕ) (takers : List (List ℕ)) (place : ℕ) (ls : List Alternatives) (i : ℕ) → length ls ≤ i → AllTaken ms takers takers place (drop i ls)
all_end ms takers place ls i l = subst (λ ks. AllTaken ms takers takers place ks) (sym (drop_all i ls l)) (nothing_taken ms takers place)

-- All masks.
map_get : (f : ℕ → List ℕ) (xs : List ℕ) (k : ℕ) → k < length xs → slice_index_or (map f xs) k [] ≡ f (slice_index xs k)
map_get f [] k l = absurd (omega (arith, l))
map_get f (x ∷ xs) zero l = refl
map_get f (x ∷ xs) (suc k) l = map_get f xs k (omega (arith, l))

sample_at : (ms : List ℕ) (k : ℕ) → slice_index (first_unmentioned ms ∷ ms) k ≡ sample ms k
sample_at ms zero = refl
sample_at ms (suc k) = refl

same_masks : (xs ys : List (List ℕ)) → length xs ≡ length ys → ((k : ℕ) → k < length xs → slice_index_or xs k [] ≡ slice_index_or ys k []) → xs ≡ ys
same_masks [] [] e h = refl
same_masks [] (y ∷ ys) e h = absurd (omega (arith, e))
same_masks (x ∷ xs) [] e h = absurd (omega (arith, e))
same_masks (x ∷ xs) (y ∷ ys) e h = λ i. h 0 (omega arith) i ∷ same_masks xs ys (omega (arith, e)) (λ k l. h (suc k) (omega (arith, l))) i

pub all_made : (ms samples : List ℕ) (ls : List Alternatives) (old new : List (List ℕ)) → samples ≡ first_unmentioned ms ∷ ms
    → old ≡ map (λ c. packed (mask_all (begun c) ls)) samples → AllTaken ms old new 0 ls → new ≡ map (λ c. packed (mask_all (mask.Takers c) ls)) samples
all_made ms samples ls old new s o h =
    let f : ℕ → List ℕ = λ c. packed (mask_all (begun c) ls) in
    let g : ℕ → List ℕ = λ c. packed (mask_all (mask.Takers c) ls) in
    let many : length new ≡ length samples = h.many ∙ ap length o ∙ length-map samples f in
    same_masks new (map g samples) (many ∙ sym (length-map samples g))
    (λ k l.
    let low : k < length samples = omega (arith, l, many) in
    let few : k < class_count ms = omega (arith, low, ap length s) in
    let at : slice_index samples k ≡ sample ms k = ap (λ xs. slice_index xs k) s ∙ sample_at ms k in
    let c = sample ms k in
    let before : slice_index_or old k [] ≡ packed (mask_all (begun c) ls ++ []) =
    ap (λ ts. slice_index_or ts k []) o ∙ map_get f samples k low ∙ ap f at ∙ ap packed (sym (append-nil (mask_all (begun c) ls))) in
    h.each k [] [] few refl before ∙ ap packed (append-nil (mask_all (mask.Takers c) ls)) ∙ ap g (sym at) ∙ sym (map_get g samples k low))
