-- Spots that move by masks, and what that is for the pieces of choices.
use Rattle.std.proofs.Common.{◌≡◌, ◌+◌, Bool, true, false, not, ◌&&◌, ◌||◌, ◌==◌, cond, List, [], ◌∷◌, ◌++◌, map, length, drop, refl, sym, ap, ◌∙◌, append_assoc, add-one}
use Rattle.std.specs.List.{flat_map}
use Rattle.std.proofs.lemmas.Bool.{and_parts}
use Rattle.std.proofs.lemmas.List.{drop-drop}
use Rattle.hub_glob.specs.declared.piece.Piece.{Piece}
use Rattle.hub_glob.specs.declared.piece.Piece.TheVariants.{Lit, Any, Run, OneOf}
use Rattle.hub_glob.specs.declared.path_spec.Kind.{Kind}
use Rattle.hub_glob.specs.Taking.{takes, is_star}
use Rattle.hub_text.specs.laws.Test.{head, tail}
use Rattle.hub_automaton.specs.declared.alternatives.Alternatives.{Alternatives}
use Rattle.hub_automaton.specs.declared.masks.Mask.TheVariants as mask
use Rattle.hub_glob.specs.declared.piece.NextCharacter.{NextCharacter}
use Rattle.hub_automaton.specs.Masks.{mask_choice, mask_choices, mask_all}
use Rattle.hub_automaton.specs.Spots.{spot_count}
use Rattle.hub_automaton.specs.forms.Stepping.{spot_past, stepped_pieces, stepped, entered_pieces, entered, stepped_choices, entered_choices, stepped_one, stepped_all}
use Rattle.hub_automaton.specs.Words.{moved}
use Rattle.hub_automaton.proofs.Loops.{drop-of_tail}
use Rattle.hub_glob.specs.Specification.{is_name_kind}

-- Bits that begin with some, and go on with others, whatever they go on from.
record Begins (whole front : List Bool) (rest : Bool → Bool → List Bool) : Type 0 where
  here : Bool
  before : Bool
  is : whole ≡ front ++ rest here before

-- The spot of a piece by masks.
star_spot : (stays there before : Bool) → (false || ((stays && (true && there)) || (false || (true && before)))) ≡ (before || (there && stays))
star_spot true true true = refl
star_spot true true false = refl
star_spot true false true = refl
star_spot true false false = refl
star_spot false true true = refl
star_spot false true false = refl
star_spot false false true = refl
star_spot false false false = refl

plain_spot : (stays taken there here before : Bool) → (false || ((stays && (false && there)) || ((taken && here) || (false && before)))) ≡ (here && taken)
plain_spot true true there true before = refl
plain_spot true true there false before = refl
plain_spot true false there true before = refl
plain_spot true false there false before = refl
plain_spot false true there true before = refl
plain_spot false true there false before = refl
plain_spot false false there true before = refl
plain_spot false false there false before = refl

abbrev anywhere : NextCharacter → NextCharacter
anywhere x = record { character = x.character; first = false }

abbrev taker : Bool → NextCharacter → Piece → Bool
taker goes x p = goes && (not (is_star p) && takes (anywhere x) p)

spot_is : (x : NextCharacter) (p : Piece) (here there before : Bool)
    → (false || ((takes x Run && (is_star p && there)) || ((taker true x p && here) || (is_star p && before)))) ≡ spot_past x p here there before
spot_is x Run here there before = star_spot (takes x Run) there before
spot_is x (Lit c) here there before = plain_spot (takes x Run) (takes x (Lit c)) there here before
spot_is x Any here there before = plain_spot (takes x Run) (takes x Any) there here before
spot_is x (OneOf cs) here there before = plain_spot (takes x Run) (takes x (OneOf cs)) there here before

-- The spots of the pieces of a choice.
pieces_move : (x : NextCharacter) (ps : List Piece) (es ss ts old : List Bool) (here before : Bool)
    → Begins (moved (takes x Run) (map (λ p. false) ps ++ es) (map is_star ps ++ ss) (map (taker true x) ps ++ ts) old here before)
    (stepped_pieces x here before ps old) (moved (takes x Run) es ss ts (drop (length ps) old))
pieces_move x [] es ss ts old here before = record { here = here; before = before; is = refl }
pieces_move x (p ∷ ps) es ss ts old here before =
    let spot = spot_past x p here (head old) before in
    let more = pieces_move x ps es ss ts (tail old) (head old) spot in
    record {
      here = more.here;
      before = more.before;
      is = (λ i. let b = spot_is x p here (head old) before i in
          b ∷ moved (takes x Run) (map (λ q. false) ps ++ es) (map is_star ps ++ ss) (map (taker true x) ps ++ ts) (tail old) (head old) b)
          ∙ ap (λ bs. spot ∷ bs) more.is
          ∙ ap (λ bs. spot ∷ (stepped_pieces x (head old) spot ps (tail old) ++ moved (takes x Run) es ss ts bs more.here more.before)) (drop-of_tail (length ps) old);
    }

-- The same where they are entered.

pieces_enter : (x : NextCharacter) (ps : List Piece) (es ss ts old : List Bool) (here before : Bool)
    → Begins (moved false (map (λ p. false) ps ++ es) (map is_star ps ++ ss) (map (taker false x) ps ++ ts) old here before)
    (entered_pieces before ps) (moved false es ss ts (drop (length ps) old))
pieces_enter x [] es ss ts old here before = record { here = here; before = before; is = refl }
pieces_enter x (p ∷ ps) es ss ts old here before =
    let spot = is_star p && before in
    let more = pieces_enter x ps es ss ts (tail old) (head old) spot in
    record {
      here = more.here;
      before = more.before;
      is = ap (λ bs. spot ∷ bs) more.is
          ∙ ap (λ bs. spot ∷ (entered_pieces spot ps ++ moved false es ss ts bs more.here more.before)) (drop-of_tail (length ps) old);
    }

-- A choice, with the spot that is entered.
abbrev pub entry : NextCharacter → Kind → List Piece → List Bool
entry x k c = (is_name_kind k && x.character == 47) ∷ map (λ p. false) c

abbrev pub entry_choices : NextCharacter → Kind → List (List Piece) → List Bool
entry_choices x k cs = flat_map (entry x k) cs

abbrev pub entries : NextCharacter → List Alternatives → List Bool
entries x ls = flat_map (λ a. entry_choices x a.kind a.choices) ls

first_spot : (e stays there here before : Bool) → (e || ((stays && (false && there)) || ((false && here) || (false && before)))) ≡ e
first_spot true stays there here before = refl
first_spot false true there here before = refl
first_spot false false there here before = refl

choice_moves : (x : NextCharacter) (k : Kind) (c : List Piece) (es ss ts old : List Bool) (here before : Bool)
    → Begins (moved (takes x Run) (entry x k c ++ es) (mask_choice mask.Stars k c ++ ss) (mask_choice (mask.Takers x.character) k c ++ ts) old here before)
    (cond (is_name_kind k && x.character == 47) (entered c) (stepped x c old)) (moved (takes x Run) es ss ts (drop (length c + 1) old))
choice_moves x k c es ss ts old here before = by_test (is_name_kind k && x.character == 47) refl where
  after : drop (length c) (tail old) ≡ drop (length c + 1) old
  after = drop-of_tail (length c) old ∙ ap (λ n. drop n old) (sym (add-one (length c)))

  by_test : (b : Bool) → (is_name_kind k && x.character == 47) ≡ b
      → Begins (moved (takes x Run) ((b ∷ map (λ p. false) c) ++ es) ((false ∷ map is_star c) ++ ss) ((false ∷ map (taker (not b) x) c) ++ ts) old here before)
      (cond b (entered c) (stepped x c old)) (moved (takes x Run) es ss ts (drop (length c + 1) old))
  by_test false e =
      let more = pieces_move x c es ss ts (tail old) (head old) false in
      record {
        here = more.here;
        before = more.before;
        is = (λ i. let b = first_spot false (takes x Run) (head old) here before i in
            b ∷ moved (takes x Run) (map (λ p. false) c ++ es) (map is_star c ++ ss) (map (taker true x) c ++ ts) (tail old) (head old) b)
            ∙ ap (λ bs. false ∷ bs) more.is
            ∙ ap (λ bs. false ∷ (stepped_pieces x (head old) false c (tail old) ++ moved (takes x Run) es ss ts bs more.here more.before)) after;
      }
  by_test true e =
      let none : takes x Run ≡ false = ap (λ b. not b && not (x.first && x.character == 46)) (and_parts (is_name_kind k) (x.character == 47) e).1 in
      let more = pieces_enter x c es ss ts (tail old) (head old) true in
      record {
        here = more.here;
        before = more.before;
        is = (λ i. let b = first_spot true (takes x Run) (head old) here before i in
            b ∷ moved (none i) (map (λ p. false) c ++ es) (map is_star c ++ ss) (map (taker false x) c ++ ts) (tail old) (head old) b)
            ∙ ap (λ bs. true ∷ bs) more.is
            ∙ (λ i. true ∷ (entered_pieces true c ++ moved (sym none i) es ss ts (after i) more.here more.before));
      }

join_cases : (b : Bool) (p q r s : List Bool) → (cond b p q ++ cond b r s) ≡ cond b (p ++ r) (q ++ s)
join_cases true p q r s = refl
join_cases false p q r s = refl

choices_move : (x : NextCharacter) (k : Kind) (cs : List (List Piece)) (es ss ts old : List Bool) (here before : Bool)
    → Begins (moved (takes x Run) (entry_choices x k cs ++ es) (mask_choices mask.Stars k cs ++ ss) (mask_choices (mask.Takers x.character) k cs ++ ts) old here before)
    (cond (is_name_kind k && x.character == 47) (entered_choices cs) (stepped_choices x cs old)) (moved (takes x Run) es ss ts (drop (spot_count cs) old))
choices_move x k [] es ss ts old here before = record { here = here; before = before; is = nothing (is_name_kind k && x.character == 47) } where
  nothing : (b : Bool) → moved (takes x Run) es ss ts old here before ≡ cond b [] [] ++ moved (takes x Run) es ss ts old here before
  nothing true = refl
  nothing false = refl
choices_move x k (c ∷ cs) es ss ts old here before =
    let b = is_name_kind k && x.character == 47 in
    let old' = drop (length c + 1) old in
    let es' = entry_choices x k cs in
    let ss' = mask_choices mask.Stars k cs in
    let ts' = mask_choices (mask.Takers x.character) k cs in
    let one = choice_moves x k c (es' ++ es) (ss' ++ ss) (ts' ++ ts) old here before in
    let more = choices_move x k cs es ss ts old' one.here one.before in
    let front = cond b (entered c) (stepped x c old) in
    let fronts = cond b (entered_choices cs) (stepped_choices x cs old') in
    let rest = moved (takes x Run) es ss ts (drop (spot_count cs) old') more.here more.before in
    record {
      here = more.here;
      before = more.before;
      is = (λ i. moved (takes x Run) (append_assoc (entry x k c) es' es i) (append_assoc (mask_choice mask.Stars k c) ss' ss i) (append_assoc (mask_choice (mask.Takers x.character) k c) ts' ts i) old here before)
          ∙ one.is ∙ ap (λ bs. front ++ bs) more.is ∙ sym (append_assoc front fronts rest)
          ∙ (λ i. join_cases b (entered c) (stepped x c old) (entered_choices cs) (stepped_choices x cs old') i
          ++ moved (takes x Run) es ss ts (drop-drop (spot_count cs) (length c + 1) old i) more.here more.before);
    }

pub all_move : (x : NextCharacter) (ls : List Alternatives) (old : List Bool) (here before : Bool)
    → moved (takes x Run) (entries x ls) (mask_all mask.Stars ls) (mask_all (mask.Takers x.character) ls) old here before ≡ stepped_all x ls old
all_move x [] old here before = refl
all_move x (a ∷ ls) old here before =
    let one = choices_move x a.kind a.choices (entries x ls) (mask_all mask.Stars ls) (mask_all (mask.Takers x.character) ls) old here before in
    one.is ∙ ap (λ bs. stepped_one x a old ++ bs) (all_move x ls (drop (spot_count a.choices) old) one.here one.before)
