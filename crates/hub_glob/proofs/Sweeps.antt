-- The places that are swept are those at which a match may stand: what they stand for before a character is what they
-- stand for with it.
use Rattle.std.proofs.Common.{◌≡◌, ℕ, suc, zero, ◌+◌, ◌≤◌, ◌==◌, Bool, true, false, not, ◌&&◌, ◌||◌, List, [], ◌∷◌, ◌++◌, length, drop, refl, sym, ap, ◌∙◌, arith, add-one}
use Rattle.std.specs.Prelude.{slice_index_or, if◌then◌else◌}
use Rattle.std.specs.List.{list_any}
use Rattle.std.proofs.lemmas.Bool.{and_parts, eqb-true, not-true, or_parts}
use Rattle.std.proofs.lemmas.Bool.Decides.{nat_tests}
use Rattle.std.proofs.lemmas.List.{append-nil, append_assoc, length_push, length-append, length-drop, drop_at, drop-append-le, drop-drop}
use Rattle.hub_glob.specs.declared.piece.Piece.{Piece}
use Rattle.hub_glob.specs.declared.piece.Piece.TheVariants.{Lit, Any, Run, OneOf}
use Rattle.hub_glob.specs.declared.piece.Part.{Part}
use Rattle.hub_glob.specs.declared.piece.Part.TheVariants.{One, Brace}
use Rattle.hub_glob.specs.declared.piece.NextCharacter.{NextCharacter}
use Rattle.hub_glob.specs.declared.sweep.Carry.{Carry}
use Rattle.hub_glob.specs.Specification.{choices_size}
use Rattle.hub_glob.specs.Glob.{Texts, piece, pieces, glob, no_more}
use Rattle.hub_glob.specs.Sweep.{Swept, past_piece, swept_pieces, nowhere, with_carry, swept_choices, swept_parts, Standing, at_start, swept, is_stuck, pruned, stuck_after, pushed_by, pushed, is_matched_so_far, pushed_all}
use Rattle.hub_glob.specs.Taking.{takes, is_star}
use Rattle.hub_text.specs.laws.Test.{head, tail, or-assoc, or-swap, any-and, any-or}
use Rattle.hub_text.specs.laws.List.{no-items, head-drop, drop-tail}
use Rattle.std.proofs.Math.Bool.{and-false, and-true, or-false}
use Rattle.hub_glob.specs.laws.OneStep.{nonzero, run_step, run_end}

-- past a piece that is no `*`
past_one : (b a l T P Q R : Bool) → ((b && (T && P) || a && Q) || (l && (T && P) || R)) ≡ ((a || false) && Q || ((b || l) && T && P || R))
past_one b a l T P Q R = grind (arith, nat_tests)

-- past a `*`
past_star : (b a l T F Q R : Bool) → ((b && (F || T && Q) || a && Q) || (l && (F || T && Q) || R)) ≡ ((a || (b || l) && T) && Q || (((b || l) && F || false) || R))
past_star b a l T F Q R = grind (arith, nat_tests)

swap_last : (a b c : Bool) → ((a || b) || c) ≡ (a || (c || b))
swap_last a b c = grind (arith, nat_tests)

none_left : (b l R : Bool) → (b && false || (l && false || R)) ≡ R
none_left b l R = grind (arith, nat_tests)

first_two : (a b c : Bool) → (a || (b || c)) ≡ ((a || (b || false)) || c)
first_two a b c = grind (arith, nat_tests)

-- The same sweep as a list that is made from the front, beside the places of the text before.
record Made : Type 0 where
  bits : List Bool
  carry : Carry

abbrev made_place : NextCharacter → Piece → Bool → Carry → Bool
made_place x p here c = c.after || is_star p && (here && takes x p)

abbrev carry_past : NextCharacter → Piece → Bool → Carry
carry_past x p here = record { before = is_star p && here; after = not (is_star p) && (here && takes x p) }

abbrev put_front : Bool → Made → Made
put_front b m = record { bits = b ∷ m.bits; carry = m.carry }

abbrev put_all : List Bool → Made → Made
put_all bs m = record { bits = bs ++ m.bits; carry = m.carry }

abbrev made_pieces : NextCharacter → List Piece → List Bool → Carry → Made
made_pieces x [] old c = record { bits = []; carry = c }
made_pieces x (p ∷ ps) old c =
    put_front (made_place x p (c.before || head old) c) (made_pieces x ps (tail old) (carry_past x p (c.before || head old)))

abbrev both : Carry → Carry → Carry
both c d = record { before = c.before || d.before; after = c.after || d.after }

abbrev made_choices : NextCharacter → Carry → List (List Piece) → List Bool → Carry → Made
made_choices x entry [] old c = record { bits = []; carry = c }
made_choices x entry (q ∷ qs) old c =
    put_all (made_pieces x q old entry).bits
    (made_choices x entry qs (drop (length q) old) (both c (made_pieces x q old entry).carry))

abbrev made_parts : NextCharacter → List Part → List Bool → Carry → Made
made_parts x [] old c = record { bits = []; carry = c }
made_parts x (One p ∷ ps) old c =
    put_front (made_place x p (c.before || head old) c) (made_parts x ps (tail old) (carry_past x p (c.before || head old)))
made_parts x (Brace cs ∷ ps) old c =
    put_all (made_choices x c cs old nowhere).bits (made_parts x ps (drop (choices_size cs) old) (made_choices x c cs old nowhere).carry)

-- What a place stands for: the texts that bring the match from there to its end.
abbrev alive_pieces : List Piece → Texts → List Bool → Texts
alive_pieces [] k bits first t = false
alive_pieces (p ∷ ps) k bits first t = head bits && piece p (pieces ps k) first t || alive_pieces ps k (tail bits) first t

abbrev alive_choices : List (List Piece) → Texts → List Bool → Texts
alive_choices [] k bits first t = false
alive_choices (q ∷ qs) k bits first t = alive_pieces q k bits first t || alive_choices qs k (drop (length q) bits) first t

abbrev alive_parts : List Part → List Bool → Texts
alive_parts [] bits first t = false
alive_parts (One p ∷ ps) bits first t = head bits && piece p (glob ps) first t || alive_parts ps (tail bits) first t
alive_parts (Brace cs ∷ ps) bits first t = alive_choices cs (glob ps) bits first t || alive_parts ps (drop (choices_size cs) bits) first t

-- What a match that stands before or after the character can go on with.
abbrev onward : NextCharacter → Carry → Texts → List ℕ → Bool
onward x c k r = c.before && k x.first (x.character ∷ r) || c.after && k (x.character == 47) r

abbrev now : NextCharacter → List ℕ → (Bool → List ℕ → Bool) → Bool
now x r k = k x.first (x.character ∷ r)

abbrev next : NextCharacter → List ℕ → (Bool → List ℕ → Bool) → Bool
next x r k = k (x.character == 47) r

one_law : (b a l T P Q R O N : Bool) → ((b || l) && T && P || R) ≡ (O || N)
    → ((b && (T && P) || a && Q) || (l && (T && P) || R)) ≡ (O || ((a || false) && Q || N))
one_law b a l T P Q R O N h = past_one b a l T P Q R ∙ ap (λ z. (a || false) && Q || z) h ∙ or-swap ((a || false) && Q) O N

star_law : (b a l T F Q R O N : Bool) → (((b || l) && F || false) || R) ≡ (O || N)
    → ((b && (F || T && Q) || a && Q) || (l && (F || T && Q) || R)) ≡ (O || ((a || (b || l) && T) && Q || N))
star_law b a l T F Q R O N h = past_star b a l T F Q R ∙ ap (λ z. (a || (b || l) && T) && Q || z) h ∙ or-swap ((a || (b || l) && T) && Q) O N

pieces_law : (x : NextCharacter) (ps : List Piece) (k : Texts) (old : List Bool) (c : Carry) (r : List ℕ)
    → (onward x c (pieces ps k) r || now x r (alive_pieces ps k old))
    ≡ (onward x (made_pieces x ps old c).carry k r || next x r (alive_pieces ps k (made_pieces x ps old c).bits))
pieces_law x [] k old c r = refl
pieces_law x (Lit d ∷ ps) k old c r =
    let m = made_pieces x ps (tail old) (carry_past x (Lit d) (c.before || head old)) in
    one_law c.before c.after (head old) (takes x (Lit d)) (next x r (pieces ps k)) (next x r (pieces (Lit d ∷ ps) k)) (now x r (alive_pieces ps k (tail old)))
    (onward x m.carry k r) (next x r (alive_pieces ps k m.bits)) (pieces_law x ps k (tail old) (carry_past x (Lit d) (c.before || head old)) r)
pieces_law x (Any ∷ ps) k old c r =
    let m = made_pieces x ps (tail old) (carry_past x Any (c.before || head old)) in
    one_law c.before c.after (head old) (takes x Any) (next x r (pieces ps k)) (next x r (pieces (Any ∷ ps) k)) (now x r (alive_pieces ps k (tail old)))
    (onward x m.carry k r) (next x r (alive_pieces ps k m.bits)) (pieces_law x ps k (tail old) (carry_past x Any (c.before || head old)) r)
pieces_law x (OneOf ds ∷ ps) k old c r =
    let m = made_pieces x ps (tail old) (carry_past x (OneOf ds) (c.before || head old)) in
    one_law c.before c.after (head old) (takes x (OneOf ds)) (next x r (pieces ps k)) (next x r (pieces (OneOf ds ∷ ps) k)) (now x r (alive_pieces ps k (tail old)))
    (onward x m.carry k r) (next x r (alive_pieces ps k m.bits)) (pieces_law x ps k (tail old) (carry_past x (OneOf ds) (c.before || head old)) r)
pieces_law x (Run ∷ ps) k old c r =
    let m = made_pieces x ps (tail old) (carry_past x Run (c.before || head old)) in
    (λ i. (c.before && run_step x.first x.character (pieces ps k) r i || c.after && next x r (pieces (Run ∷ ps) k)) || (head old && run_step x.first x.character (pieces ps k) r i || now x r (alive_pieces ps k (tail old))))
    ∙ star_law c.before c.after (head old) (takes x Run) (now x r (pieces ps k)) (next x r (pieces (Run ∷ ps) k)) (now x r (alive_pieces ps k (tail old)))
    (onward x m.carry k r) (next x r (alive_pieces ps k m.bits)) (pieces_law x ps k (tail old) (carry_past x Run (c.before || head old)) r)

-- Lists of places one behind the other.
length-made_pieces : (x : NextCharacter) (ps : List Piece) (old : List Bool) (c : Carry) → length (made_pieces x ps old c).bits ≡ length ps
length-made_pieces x [] old c = refl
length-made_pieces x (p ∷ ps) old c = ap suc (length-made_pieces x ps (tail old) (carry_past x p (c.before || head old)))

length-made_choices : (x : NextCharacter) (entry : Carry) (qs : List (List Piece)) (old : List Bool) (c : Carry) → length (made_choices x entry qs old c).bits ≡ choices_size qs
length-made_choices x entry [] old c = refl
length-made_choices x entry (q ∷ qs) old c =
    let m = made_pieces x q old entry in
    length-append m.bits (made_choices x entry qs (drop (length q) old) (both c m.carry)).bits
    ∙ (λ i. length-made_pieces x q old entry i + length-made_choices x entry qs (drop (length q) old) (both c m.carry) i)

alive_pieces-more : (ps : List Piece) (k : Texts) (bits more : List Bool) (first : Bool) (t : List ℕ) → length ps ≤ length bits
    → alive_pieces ps k (bits ++ more) first t ≡ alive_pieces ps k bits first t
alive_pieces-more [] k bits more first t h = refl
alive_pieces-more (p ∷ ps) k [] more first t h = absurd (omega arith)
alive_pieces-more (p ∷ ps) k (b ∷ bits) more first t h =
    ap (λ a. b && piece p (pieces ps k) first t || a) (alive_pieces-more ps k bits more first t (omega arith))

alive_choices-more : (qs : List (List Piece)) (k : Texts) (bits more : List Bool) (first : Bool) (t : List ℕ) → choices_size qs ≤ length bits
    → alive_choices qs k (bits ++ more) first t ≡ alive_choices qs k bits first t
alive_choices-more [] k bits more first t h = refl
alive_choices-more (q ∷ qs) k bits more first t h =
    (λ i. alive_pieces-more q k bits more first t (omega arith) i || alive_choices qs k (drop-append-le (length q) bits more (omega arith) i) first t)
    ∙ ap (λ b. alive_pieces q k bits first t || b) (alive_choices-more qs k (drop (length q) bits) more first t (omega (arith, length-drop (length q) bits)))

-- What a brace's choices stand for as the brace is entered.
abbrev entering : NextCharacter → Carry → List (List Piece) → Texts → List ℕ → Bool
entering x entry qs k r = list_any (λ q. onward x entry (pieces q k) r) qs

onward-both : (x : NextCharacter) (c d : Carry) (k : Texts) (r : List ℕ) → (onward x c k r || onward x d k r) ≡ onward x (both c d) k r
onward-both x c d k r = regroup c.before c.after d.before d.after (now x r k) (next x r k) where
  regroup : (a b e f N X : Bool) → ((a && N || b && X) || (e && N || f && X)) ≡ ((a || e) && N || (b || f) && X)
  regroup a b e f N X = grind (arith, nat_tests)

mix : (o e E p A P : Bool) (O' A' : Bool) → (e || p) ≡ (O' || P) → (o || ((e || E) || (p || A))) ≡ (((o || O') || (E || A)) || P)
mix o e E p A P O' A' h = first_part o e E p A ∙ ap (λ z. o || (z || (E || A))) h ∙ last_part o O' P E A where
  first_part : (o e E p A : Bool) → (o || ((e || E) || (p || A))) ≡ (o || ((e || p) || (E || A)))
  first_part o e E p A = grind (arith, nat_tests)

  last_part : (o O' P E A : Bool) → (o || ((O' || P) || (E || A))) ≡ (((o || O') || (E || A)) || P)
  last_part o O' P E A = grind (arith, nat_tests)

choices_law : (x : NextCharacter) (entry : Carry) (qs : List (List Piece)) (k : Texts) (old : List Bool) (c : Carry) (r : List ℕ)
    → (onward x c k r || (entering x entry qs k r || now x r (alive_choices qs k old)))
    ≡ (onward x (made_choices x entry qs old c).carry k r || next x r (alive_choices qs k (made_choices x entry qs old c).bits))
choices_law x entry [] k old c r = refl
choices_law x entry (q ∷ qs) k old c r =
    let m = made_pieces x q old entry in
    let n = made_choices x entry qs (drop (length q) old) (both c m.carry) in
    let here = next x r (alive_pieces q k m.bits) in
    mix (onward x c k r) (onward x entry (pieces q k) r) (entering x entry qs k r) (now x r (alive_pieces q k old)) (now x r (alive_choices qs k (drop (length q) old)))
    here (onward x m.carry k r) true (pieces_law x q k old entry r)
    ∙ (λ i. (onward-both x c m.carry k r i || (entering x entry qs k r || now x r (alive_choices qs k (drop (length q) old)))) || here)
    ∙ ap (λ b. b || here) (choices_law x entry qs k (drop (length q) old) (both c m.carry) r)
    ∙ swap_last (onward x n.carry k r) (next x r (alive_choices qs k n.bits)) here
    ∙ (λ i. onward x n.carry k r
    || (sym (alive_pieces-more q k m.bits n.bits (x.character == 47) r (omega (arith, length-made_pieces x q old entry))) i
    || alive_choices qs k (sym (drop_at m.bits n.bits (length q) (length-made_pieces x q old entry)) i) (x.character == 47) r))

parts_law : (x : NextCharacter) (ps : List Part) (old : List Bool) (c : Carry) (r : List ℕ)
    → (onward x c (glob ps) r || now x r (alive_parts ps old))
    ≡ (onward x (made_parts x ps old c).carry no_more r || next x r (alive_parts ps (made_parts x ps old c).bits))
parts_law x [] old c r = refl
parts_law x (One p ∷ ps) old c r =
    let d = carry_past x p (c.before || head old) in
    let m = made_parts x ps (tail old) d in
    let here = made_place x p (c.before || head old) c && next x r (piece p (glob ps)) in
    one_more (onward x c (piece p (glob ps)) r) (head old && now x r (piece p (glob ps))) (now x r (alive_parts ps (tail old)))
    (onward x d (glob ps) r) here (pieces_law x (p ∷ []) (glob ps) old c r)
    ∙ ap (λ b. here || b) (parts_law x ps (tail old) d r)
    ∙ or-swap here (onward x m.carry no_more r) (next x r (alive_parts ps m.bits))
  where
    one_more : (O H R O' here : Bool) → (O || (H || false)) ≡ (O' || (here || false)) → (O || (H || R)) ≡ (here || (O' || R))
    one_more O H R O' here h = first_two O H R ∙ ap (λ z. z || R) h ∙ after_it O' here R where
      after_it : (O here R : Bool) → ((O || (here || false)) || R) ≡ (here || (O || R))
      after_it O here R = grind (arith, nat_tests)
parts_law x (Brace cs ∷ ps) old c r =
    let s = made_choices x c cs old nowhere in
    let m = made_parts x ps (drop (choices_size cs) old) s.carry in
    let here = next x r (alive_choices cs (glob ps) s.bits) in
    (λ i. brace_onward i || (now x r (alive_choices cs (glob ps) old) || now x r (alive_parts ps (drop (choices_size cs) old))))
    ∙ or-assoc (entering x c cs (glob ps) r) (now x r (alive_choices cs (glob ps) old)) (now x r (alive_parts ps (drop (choices_size cs) old)))
    ∙ ap (λ b. b || now x r (alive_parts ps (drop (choices_size cs) old))) (choices_law x c cs (glob ps) old nowhere r)
    ∙ turn (onward x s.carry (glob ps) r) here (now x r (alive_parts ps (drop (choices_size cs) old)))
    ∙ ap (λ b. here || b) (parts_law x ps (drop (choices_size cs) old) s.carry r)
    ∙ or-swap here (onward x m.carry no_more r) (next x r (alive_parts ps m.bits))
    ∙ (λ i. onward x m.carry no_more r
    || (sym (alive_choices-more cs (glob ps) s.bits m.bits (x.character == 47) r (omega (arith, length-made_choices x c cs old nowhere))) i
    || alive_parts ps (sym (drop_at s.bits m.bits (choices_size cs) (length-made_choices x c cs old nowhere)) i) (x.character == 47) r))
  where
    brace_onward : onward x c (glob (Brace cs ∷ ps)) r ≡ entering x c cs (glob ps) r
    brace_onward = (λ i. any-and c.before (λ q. now x r (pieces q (glob ps))) cs i || any-and c.after (λ q. next x r (pieces q (glob ps))) cs i)
        ∙ any-or (λ q. c.before && now x r (pieces q (glob ps))) (λ q. c.after && next x r (pieces q (glob ps))) cs

    turn : (a b d : Bool) → ((a || b) || d) ≡ (b || (a || d))
    turn a b d = grind (arith, nat_tests)

-- At the end of the text.
pieces_end : (x : NextCharacter) (ps : List Piece) (k : Texts) (old : List Bool) (c : Carry) (f : Bool)
    → (c.before && pieces ps k f [] || alive_pieces ps k old f []) ≡ ((made_pieces x ps old c).carry.before && k f [])
pieces_end x [] k old c f = or-false _
pieces_end x (Lit d ∷ ps) k old c f = none_left c.before (head old) (alive_pieces ps k (tail old) f []) ∙ pieces_end x ps k (tail old) (carry_past x (Lit d) (c.before || head old)) f
pieces_end x (Any ∷ ps) k old c f = none_left c.before (head old) (alive_pieces ps k (tail old) f []) ∙ pieces_end x ps k (tail old) (carry_past x Any (c.before || head old)) f
pieces_end x (OneOf ds ∷ ps) k old c f = none_left c.before (head old) (alive_pieces ps k (tail old) f []) ∙ pieces_end x ps k (tail old) (carry_past x (OneOf ds) (c.before || head old)) f
pieces_end x (Run ∷ ps) k old c f =
    (λ i. c.before && run_end f (pieces ps k) i || (head old && run_end f (pieces ps k) i || alive_pieces ps k (tail old) f []))
    ∙ some_left c.before (head old) (pieces ps k f []) (alive_pieces ps k (tail old) f [])
    ∙ pieces_end x ps k (tail old) (carry_past x Run (c.before || head old)) f
  where
    some_left : (b l G R : Bool) → (b && G || (l && G || R)) ≡ ((b || l) && G || R)
    some_left b l G R = grind (arith, nat_tests)

choices_end : (x : NextCharacter) (entry : Carry) (qs : List (List Piece)) (k : Texts) (old : List Bool) (c : Carry) (f : Bool)
    → (c.before && k f [] || (list_any (λ q. entry.before && pieces q k f []) qs || alive_choices qs k old f []))
    ≡ ((made_choices x entry qs old c).carry.before && k f [])
choices_end x entry [] k old c f = or-false _
choices_end x entry (q ∷ qs) k old c f =
    let m = made_pieces x q old entry in
    gather (c.before && k f []) (entry.before && pieces q k f []) (list_any (λ q. entry.before && pieces q k f []) qs) (alive_pieces q k old f [])
    (alive_choices qs k (drop (length q) old) f []) (m.carry.before && k f []) (pieces_end x q k old entry f)
    ∙ ap (λ b. b || (list_any (λ q. entry.before && pieces q k f []) qs || alive_choices qs k (drop (length q) old) f [])) (factor c.before m.carry.before (k f []))
    ∙ choices_end x entry qs k (drop (length q) old) (both c m.carry) f
  where
    factor : (a b G : Bool) → (a && G || b && G) ≡ ((a || b) && G)
    factor a b G = grind (arith, nat_tests)

    bring : (o e E A R : Bool) → (o || ((e || E) || (A || R))) ≡ ((o || (e || A)) || (E || R))
    bring o e E A R = grind (arith, nat_tests)

    gather : (o e E A R P : Bool) → (e || A) ≡ P → (o || ((e || E) || (A || R))) ≡ ((o || P) || (E || R))
    gather o e E A R P h = bring o e E A R ∙ ap (λ z. (o || z) || (E || R)) h

parts_end : (x : NextCharacter) (ps : List Part) (old : List Bool) (c : Carry) (f : Bool)
    → (c.before && glob ps f [] || alive_parts ps old f []) ≡ (made_parts x ps old c).carry.before
parts_end x [] old c f = or-false _ ∙ and-true c.before
parts_end x (One p ∷ ps) old c f =
    first_two (c.before && piece p (glob ps) f []) (head old && piece p (glob ps) f []) (alive_parts ps (tail old) f [])
    ∙ ap (λ b. b || alive_parts ps (tail old) f []) (pieces_end x (p ∷ []) (glob ps) old c f)
    ∙ parts_end x ps (tail old) (carry_past x p (c.before || head old)) f
parts_end x (Brace cs ∷ ps) old c f =
    let s = made_choices x c cs old nowhere in
    (λ i. any-and c.before (λ q. pieces q (glob ps) f []) cs i || (alive_choices cs (glob ps) old f [] || alive_parts ps (drop (choices_size cs) old) f []))
    ∙ or-assoc _ (alive_choices cs (glob ps) old f []) (alive_parts ps (drop (choices_size cs) old) f [])
    ∙ ap (λ b. b || alive_parts ps (drop (choices_size cs) old) f []) (choices_end x c cs (glob ps) old nowhere f)
    ∙ parts_end x ps (drop (choices_size cs) old) s.carry f

-- The sweep gives what is made.
abbrev after_made : List Bool → Made → Swept
after_made l m = record { live = l ++ m.bits; carry = m.carry }

drop-pushed : (l : List Bool) (b : Bool) (bs : List Bool) → drop (length (l ++ b ∷ [])) bs ≡ tail (drop (length l) bs)
drop-pushed l b bs = ap (λ n. drop n bs) (length_push l b ∙ add-one (length l)) ∙ drop-tail (length l) bs

swept_pieces_made : (x : NextCharacter) (ps : List Piece) (old : List Bool) (s : Swept)
    → swept_pieces x old ps s ≡ after_made s.live (made_pieces x ps (drop (length s.live) old) s.carry)
swept_pieces_made x [] old s = ap (λ l. let r : Swept = record { live = l; carry = s.carry } in r) (sym (append-nil s.live))
swept_pieces_made x (p ∷ ps) old s =
    let here = s.carry.before || slice_index_or old (length s.live) false in
    let bit = made_place x p here s.carry in
    swept_pieces_made x ps old (past_piece x p here s)
    ∙ (λ i. after_made (s.live ++ bit ∷ []) (made_pieces x ps (drop-pushed s.live bit old i) (carry_past x p here)))
    ∙ (λ i. let h = s.carry.before || head-drop (length s.live) old i in
    after_made (s.live ++ made_place x p h s.carry ∷ []) (made_pieces x ps (tail (drop (length s.live) old)) (carry_past x p h)))
    ∙ ap (λ l. let r : Swept = record { live = l; carry = (made_pieces x (p ∷ ps) (drop (length s.live) old) s.carry).carry } in r)
    (append_assoc s.live (made_place x p (s.carry.before || head (drop (length s.live) old)) s.carry ∷ [])
    (made_pieces x ps (tail (drop (length s.live) old)) (carry_past x p (s.carry.before || head (drop (length s.live) old)))).bits)

drop-appended : (l bits : List Bool) (n : ℕ) (bs : List Bool) → length bits ≡ n → drop (length (l ++ bits)) bs ≡ drop n (drop (length l) bs)
drop-appended l bits n bs h = ap (λ k. drop k bs) (length-append l bits ∙ ap (λ k. length l + k) h) ∙ sym (drop-drop n (length l) bs)

swept_choices_made : (x : NextCharacter) (entry : Carry) (qs : List (List Piece)) (old : List Bool) (s : Swept)
    → swept_choices x old entry qs s ≡ after_made s.live (made_choices x entry qs (drop (length s.live) old) s.carry)
swept_choices_made x entry [] old s = ap (λ l. let r : Swept = record { live = l; carry = s.carry } in r) (sym (append-nil s.live))
swept_choices_made x entry (q ∷ qs) old s =
    let m = made_pieces x q (drop (length s.live) old) entry in
    let n = made_choices x entry qs (drop (length q) (drop (length s.live) old)) (both s.carry m.carry) in
    ap (λ (u : Swept). swept_choices x old entry qs (with_carry s.carry u)) (swept_pieces_made x q old (record { live = s.live; carry = entry }))
    ∙ swept_choices_made x entry qs old (record { live = s.live ++ m.bits; carry = both s.carry m.carry })
    ∙ (λ i. after_made (s.live ++ m.bits)
    (made_choices x entry qs (drop-appended s.live m.bits (length q) old (length-made_pieces x q (drop (length s.live) old) entry) i) (both s.carry m.carry)))
    ∙ ap (λ l. let r : Swept = record { live = l; carry = n.carry } in r) (append_assoc s.live m.bits n.bits)

swept_parts_made : (x : NextCharacter) (ps : List Part) (old : List Bool) (s : Swept)
    → swept_parts x old ps s ≡ after_made s.live (made_parts x ps (drop (length s.live) old) s.carry)
swept_parts_made x [] old s = ap (λ l. let r : Swept = record { live = l; carry = s.carry } in r) (sym (append-nil s.live))
swept_parts_made x (One p ∷ ps) old s =
    let here = s.carry.before || slice_index_or old (length s.live) false in
    let bit = made_place x p here s.carry in
    swept_parts_made x ps old (past_piece x p here s)
    ∙ (λ i. after_made (s.live ++ bit ∷ []) (made_parts x ps (drop-pushed s.live bit old i) (carry_past x p here)))
    ∙ (λ i. let h = s.carry.before || head-drop (length s.live) old i in
    after_made (s.live ++ made_place x p h s.carry ∷ []) (made_parts x ps (tail (drop (length s.live) old)) (carry_past x p h)))
    ∙ ap (λ l. let r : Swept = record { live = l; carry = (made_parts x (One p ∷ ps) (drop (length s.live) old) s.carry).carry } in r)
    (append_assoc s.live (made_place x p (s.carry.before || head (drop (length s.live) old)) s.carry ∷ [])
    (made_parts x ps (tail (drop (length s.live) old)) (carry_past x p (s.carry.before || head (drop (length s.live) old)))).bits)
swept_parts_made x (Brace cs ∷ ps) old s =
    let m = made_choices x s.carry cs (drop (length s.live) old) nowhere in
    let n = made_parts x ps (drop (choices_size cs) (drop (length s.live) old)) m.carry in
    ap (λ (u : Swept). swept_parts x old ps u) (swept_choices_made x s.carry cs old (record { live = s.live; carry = nowhere }))
    ∙ swept_parts_made x ps old (record { live = s.live ++ m.bits; carry = m.carry })
    ∙ (λ i. after_made (s.live ++ m.bits)
    (made_parts x ps (drop-appended s.live m.bits (choices_size cs) old (length-made_choices x s.carry cs (drop (length s.live) old) nowhere) i) m.carry))
    ∙ ap (λ l. let r : Swept = record { live = l; carry = n.carry } in r) (append_assoc s.live m.bits n.bits)

-- What is known of the text read so far says which texts bring the match to its end.
abbrev meaning : List Part → Standing → List ℕ → Bool
meaning ps w t = (w.fresh && glob ps w.first t || alive_parts ps w.live w.first t) || w.ended && no_more w.first t

abbrev is_any : List Bool → Bool
is_any bits = list_any (λ b. b) bits

-- Where no place is active, nothing is matched from there.
none_head : (bits : List Bool) → is_any bits ≡ false → head bits ≡ false
none_head [] h = refl
none_head (b ∷ bits) h = (or_parts b (is_any bits) h).0

none_tail : (bits : List Bool) → is_any bits ≡ false → is_any (tail bits) ≡ false
none_tail [] h = refl
none_tail (b ∷ bits) h = (or_parts b (is_any bits) h).1

none_drop : (n : ℕ) (bits : List Bool) → is_any bits ≡ false → is_any (drop n bits) ≡ false
none_drop zero bits h = h
none_drop (suc n) [] h = refl
none_drop (suc n) (b ∷ bits) h = none_drop n bits (or_parts b (is_any bits) h).1

none_pieces : (ps : List Piece) (k : Texts) (bits : List Bool) (f : Bool) (t : List ℕ) → is_any bits ≡ false → alive_pieces ps k bits f t ≡ false
none_pieces [] k bits f t h = refl
none_pieces (p ∷ ps) k bits f t h =
    (λ i. none_head bits h i && piece p (pieces ps k) f t || alive_pieces ps k (tail bits) f t) ∙ none_pieces ps k (tail bits) f t (none_tail bits h)

none_choices : (qs : List (List Piece)) (k : Texts) (bits : List Bool) (f : Bool) (t : List ℕ) → is_any bits ≡ false → alive_choices qs k bits f t ≡ false
none_choices [] k bits f t h = refl
none_choices (q ∷ qs) k bits f t h =
    (λ i. none_pieces q k bits f t h i || alive_choices qs k (drop (length q) bits) f t) ∙ none_choices qs k (drop (length q) bits) f t (none_drop (length q) bits h)

none_parts : (ps : List Part) (bits : List Bool) (f : Bool) (t : List ℕ) → is_any bits ≡ false → alive_parts ps bits f t ≡ false
none_parts [] bits f t h = refl
none_parts (One p ∷ ps) bits f t h =
    (λ i. none_head bits h i && piece p (glob ps) f t || alive_parts ps (tail bits) f t) ∙ none_parts ps (tail bits) f t (none_tail bits h)
none_parts (Brace cs ∷ ps) bits f t h =
    (λ i. none_choices cs (glob ps) bits f t h i || alive_parts ps (drop (choices_size cs) bits) f t)
    ∙ none_parts ps (drop (choices_size cs) bits) f t (none_drop (choices_size cs) bits h)

pruned_parts : (ps : List Part) (bits : List Bool) (f : Bool) (t : List ℕ) → alive_parts ps (pruned bits) f t ≡ alive_parts ps bits f t
pruned_parts ps bits f t = go (is_any bits) refl where
  go : (b : Bool) → is_any bits ≡ b → alive_parts ps (if b then bits else []) f t ≡ alive_parts ps bits f t
  go true h = refl
  go false h = none_parts ps [] f t refl ∙ sym (none_parts ps bits f t h)

-- What a walk means that is stuck: whether it has ended.
stuck_meaning : (ps : List Part) (w : Standing) (t : List ℕ) → is_stuck w ≡ true → meaning ps w t ≡ (w.ended && no_more w.first t)
stuck_meaning ps w t h =
    let (old, none) = and_parts (not w.fresh) (length w.live == 0) h in
    let nowhere_live = no-items w.live (eqb-true (length w.live) 0 none) in
    (λ i. (not-true w.fresh old i && glob ps w.first t || alive_parts ps (nowhere_live i) w.first t) || w.ended && no_more w.first t)
    ∙ ap (λ b. b || w.ended && no_more w.first t) (none_parts ps [] w.first t refl)

abbrev next_of : Standing → ℕ → NextCharacter
next_of w c = record { character = c; first = w.first }

abbrev entry_of : Standing → Carry
entry_of w = record { before = w.fresh; after = false }

swept_is : (ps : List Part) (w : Standing) (c : ℕ) → swept ps w c ≡ after_made [] (made_parts (next_of w c) ps w.live (entry_of w))
swept_is ps w c = swept_parts_made (next_of w c) ps w.live (record { live = []; carry = entry_of w })

sweep_law : (ps : List Part) (w : Standing) (c : ℕ) (r : List ℕ) → meaning ps w (c ∷ r) ≡ meaning ps (pushed_by (swept ps w c) c) r
sweep_law ps w c r =
    let x = next_of w c in
    let m = made_parts x ps w.live (entry_of w) in
    (λ i. (now x r (λ f t. w.fresh && glob ps f t) || now x r (alive_parts ps w.live)) || w.ended && nonzero (length r) i)
    ∙ start_form w.ended (w.fresh && now x r (glob ps)) (now x r (alive_parts ps w.live))
    ∙ parts_law x ps w.live (entry_of w) r
    ∙ (λ i. (m.carry.before && nonzero (length r) i || m.carry.after && next x r no_more) || next x r (alive_parts ps m.bits))
    ∙ end_form m.carry.before (m.carry.after && next x r no_more) (next x r (alive_parts ps m.bits))
    ∙ (λ i. alive_parts ps (sym (swept_is ps w c) i).live (c == 47) r || (sym (swept_is ps w c) i).carry.after && next x r no_more)
    ∙ ap (λ b. b || (swept ps w c).carry.after && next x r no_more) (sym (pruned_parts ps (swept ps w c).live (c == 47) r))
  where
    start_form : (e F A : Bool) → ((F || A) || e && false) ≡ ((F || false) || A)
    start_form e F A = grind (arith, nat_tests)

    end_form : (b E A : Bool) → ((b && false || E) || A) ≡ (A || E)
    end_form b E A = grind (arith, nat_tests)

push_law : (ps : List Part) (w : Standing) (c : ℕ) (r : List ℕ) → meaning ps w (c ∷ r) ≡ meaning ps (pushed ps w c) r
push_law ps w c r = go (is_stuck w) refl where
  go : (b : Bool) → is_stuck w ≡ b → meaning ps w (c ∷ r) ≡ meaning ps (if b then stuck_after c else pushed_by (swept ps w c) c) r
  go true h =
      stuck_meaning ps w (c ∷ r) h ∙ (λ i. w.ended && nonzero (length r) i) ∙ and-false w.ended
      ∙ sym (ap (λ b. b || false) (none_parts ps [] (c == 47) r refl))
  go false h = sweep_law ps w c r

sweep_end : (ps : List Part) (w : Standing) (c : ℕ) → meaning ps w [] ≡ ((swept ps w c).carry.before || w.ended)
sweep_end ps w c =
    (λ i. (w.fresh && glob ps w.first [] || alive_parts ps w.live w.first []) || and-true w.ended i)
    ∙ ap (λ b. b || w.ended) (parts_end (next_of w c) ps w.live (entry_of w) w.first)
    ∙ (λ i. (sym (swept_is ps w c) i).carry.before || w.ended)

end_law : (ps : List Part) (w : Standing) (c : ℕ) → meaning ps w [] ≡ is_matched_so_far ps w c
end_law ps w c = go (is_stuck w) refl where
  go : (b : Bool) → is_stuck w ≡ b → meaning ps w [] ≡ (if b then w.ended else (swept ps w c).carry.before || w.ended)
  go true h = stuck_meaning ps w [] h ∙ and-true w.ended
  go false h = sweep_end ps w c

push_all_law : (ps : List Part) (w : Standing) (t r : List ℕ) → meaning ps w (t ++ r) ≡ meaning ps (pushed_all ps w t) r
push_all_law ps w [] r = refl
push_all_law ps w (c ∷ t) r = push_law ps w c (t ++ r) ∙ push_all_law ps (pushed ps w c) t r

start_law : (ps : List Part) (t : List ℕ) → meaning ps at_start t ≡ glob ps true t
start_law ps t = or-false _ ∙ ap (λ b. glob ps true t || b) (none_parts ps [] true t refl) ∙ or-false _

-- After all characters of a text it is known whether the pattern matches the text.
pub is_matched_text : (ps : List Part) (t : List ℕ) (c : ℕ) → is_matched_so_far ps (pushed_all ps at_start t) c ≡ glob ps true t
is_matched_text ps t c =
    sym (end_law ps (pushed_all ps at_start t) c) ∙ sym (push_all_law ps at_start t [])
    ∙ ap (meaning ps at_start) (append-nil t) ∙ start_law ps t
