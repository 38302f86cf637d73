-- What holds of each pattern that a text gives, and is enough for it to be written and read again.
use Rattle.std.proofs.Common.{◌≡◌, ℕ, suc, zero, ◌+◌, ◌-◌, ◌<◌, ◌≤◌, Bool, true, false, not, ◌&&◌, ◌||◌, ◌==◌, List, [], ◌∷◌, ◌++◌, length, Option, Some, None, Result, Ok, Err, refl, sym, ap, ◌∙◌, arith, subst}
use Rattle.std.specs.Prelude.{nat_lt, nat_le, if◌then◌else◌, IfOk}
use Rattle.std.specs.List.{range_with_len, AllByRecursion}
use Rattle.std.specs.Str.{all_scalars}
use lib.Utf8.{scalar, low_scalar}
use Rattle.std.proofs.lemmas.Bool.{eqb-true, and_parts, or_parts, false_from_ne_true}
use Rattle.std.proofs.lemmas.Bool.Decides.{nat_tests}
use Rattle.hub_glob.specs.declared.fault.GlobFault.{GlobFault}
use Rattle.hub_glob.specs.declared.fault.GlobFault.TheVariants as fault
use Rattle.hub_glob.specs.declared.piece.Piece.{Piece}
use Rattle.hub_glob.specs.declared.piece.Piece.TheVariants.{Lit, Any, Run, OneOf}
use Rattle.hub_glob.specs.declared.piece.Part.{Part}
use Rattle.hub_glob.specs.declared.piece.Part.TheVariants.{One, Brace}
use Rattle.hub_glob.specs.declared.reading.Token.{Token}
use Rattle.hub_glob.specs.declared.reading.Token.TheVariants.{Plain, Escaped, Stray}
use Rattle.hub_glob.specs.declared.reading.Sign.{Sign}
use Rattle.hub_glob.specs.declared.reading.Sign.TheVariants.{Means, Open, Comma, Close}
use Rattle.hub_glob.specs.Readable.{IsAsciiBeforeDash, AreReadableMembers, IsReadableSet, IsReadablePiece, IsReadablePart}
use Rattle.hub_glob.specs.Reading.{is_special, tokens, is_plain, token_character, range_characters, member, range_member, then_members, set_members, is_negated, set_of, set_piece, set_sign, character_sign, signs, then_part, parts, pattern_parts, ◌>>=◌}

-- Of two characters one alone is special.
pub special-not : (c d : ℕ) → is_special c ≡ true → is_special d ≡ false → (c == d) ≡ false
special-not c d h k = false_from_ne_true (c == d) (λ e. let m : is_special c ≡ is_special d = ap is_special (eqb-true c d e) in cc)

pub not-special : (c d : ℕ) → is_special c ≡ false → is_special d ≡ true → (c == d) ≡ false
not-special c d h k = false_from_ne_true (c == d) (λ e. let m : is_special c ≡ is_special d = ap is_special (eqb-true c d e) in cc)

pub each_push : {X : Type 0} (P : X → Type 0) (xs : List X) (x : X) → AllByRecursion P xs → P x → AllByRecursion P (xs ++ x ∷ [])
each_push P [] x h p = (p, tt)
each_push P (y ∷ xs) x h p = (h.0, each_push P xs x h.1 p)

either_each : {X : Type 0} (b : Bool) (P : X → Type 0) (xs ys : List X) → (b ≡ true → AllByRecursion P xs) → (b ≡ false → AllByRecursion P ys) → AllByRecursion P (if b then xs else ys)
either_each true P xs ys f g = f refl
either_each false P xs ys f g = g refl

pub either_ok : {T : Type 0} (b : Bool) (P : T → Type 0) (r s : Result T GlobFault) → (b ≡ true → IfOk r P) → (b ≡ false → IfOk s P) → IfOk (if b then r else s) P
either_ok true P r s f g = f refl
either_ok false P r s f g = g refl

pub ok_then : {S T : Type 0} (r : Result S GlobFault) (f : S → Result T GlobFault) (P : S → Type 0) (Q : T → Type 0) → IfOk r P → ((x : S) → P x → IfOk (f x) Q) → IfOk (r >>= f) Q
ok_then (Ok x) f P Q p g = g x p
ok_then (Err e) f P Q p g = tt

pub special_scalar : (c : ℕ) → is_special c ≡ true → scalar c ≡ true
special_scalar c h = low_scalar c (grind (arith, nat_tests))

-- Tokens: characters, and after a `\` a special one.
abbrev pub IsProper : Token → Type 0
IsProper (Plain c) = scalar c ≡ true
IsProper (Escaped c) = is_special c ≡ true
IsProper Stray = Unit {0}

pub tokens_proper : (b : Bool) (cs : List ℕ) → all_scalars cs ≡ true → AllByRecursion IsProper (tokens b cs)
tokens_proper false [] h = tt
tokens_proper true [] h = (tt, tt)
tokens_proper false (c ∷ cs) h =
    let (one, more) = and_parts (scalar c) (all_scalars cs) h in
    either_each (c == 92) IsProper (tokens true cs) (Plain c ∷ tokens false cs) (λ k. tokens_proper true cs more) (λ k. (one, tokens_proper false cs more))
tokens_proper true (c ∷ cs) h =
    let (one, more) = and_parts (scalar c) (all_scalars cs) h in
    either_each (is_special c) IsProper (Escaped c ∷ tokens false cs) (Stray ∷ []) (λ k. (k, tokens_proper false cs more)) (λ k. (tt, tt))

token_not : (t : Token) (c k : ℕ) → IsProper t → is_special k ≡ false → is_plain k t ≡ false → token_character t ≡ Ok c → (c == k) ≡ false
token_not (Plain d) c k p s h e = let m : d ≡ c = cc in ap (λ x. x == k) (sym m) ∙ h
token_not (Escaped d) c k p s h e = let m : d ≡ c = cc in ap (λ x. x == k) (sym m) ∙ special-not d k p s
token_not Stray c k p s h e = cc

-- Such members begin with the character of the first token.
abbrev Front : List Token → List ℕ → Type 0
Front [] cs = cs ≡ []
Front (t ∷ ts) cs = (c : ℕ) × (more : List ℕ) × (cs ≡ c ∷ more) × (token_character t ≡ Ok c)

abbrev Single : Token → List ℕ → Type 0
Single t cs = (c : ℕ) × (cs ≡ c ∷ []) × (token_character t ≡ Ok c) × ((c == 47) ≡ false) × (scalar c ≡ true)

abbrev Ranged : Token → List ℕ → Type 0
Ranged t cs = (low : ℕ) × (high : ℕ) × (token_character t ≡ Ok low) × (cs ≡ range_with_len low (high + 1 - low)) × (low ≤ high) × (high ≤ 127) × (low ≤ 47 → high < 47)

then_ok : (r rest : Result (List ℕ) GlobFault) (P Q R : List ℕ → Type 0) → IfOk r P → IfOk rest Q → ((xs ys : List ℕ) → P xs → Q ys → R (xs ++ ys)) → IfOk (then_members r rest) R
then_ok (Ok xs) (Ok ys) P Q R p q f = f xs ys p q
then_ok (Ok xs) (Err e) P Q R p q f = tt
then_ok (Err e) rest P Q R p q f = tt

single : (t : Token) → IsProper t → IfOk (member t) (Single t)
single (Plain c) p = either_ok (c == 47) (Single (Plain c)) (Err fault.SlashInSet) (Ok (c ∷ [])) (λ h. tt) (λ h. (c, refl, refl, h, p))
single (Escaped c) p =
    either_ok (c == 47) (Single (Escaped c)) (Err fault.SlashInSet) (Ok (c ∷ [])) (λ h. tt) (λ h. (c, refl, refl, h, special_scalar c p))
single Stray p = tt

range_facts : (low high : ℕ) → (nat_lt 127 low || nat_lt 127 high || nat_lt high low) ≡ false → (nat_le low 47 && nat_le 47 high) ≡ false
    → (low ≤ high) × (high ≤ 127) × (low ≤ 47 → high < 47)
range_facts low high h k = (grind (arith, nat_tests), grind (arith, nat_tests), λ l. grind (arith, nat_tests))

ranged_at : (t : Token) (low high : ℕ) → token_character t ≡ Ok low → IfOk (range_characters low high) (Ranged t)
ranged_at t low high e =
    either_ok (nat_lt 127 low || nat_lt 127 high || nat_lt high low) (Ranged t) (Err fault.BadRange) _ (λ h. tt)
    (λ h. either_ok (nat_le low 47 && nat_le 47 high) (Ranged t) (Err fault.SlashInSet) (Ok (range_with_len low (high + 1 - low))) (λ k. tt)
    (λ k. let f = range_facts low high h k in (low, high, e, refl, f.0, f.1, f.2)))

ranged : (s t : Token) → IfOk (range_member s t) (Ranged s)
ranged s t =
    ok_then (token_character s) _ (λ a. token_character s ≡ Ok a) (Ranged s) (itself (token_character s))
    (λ a e. ok_then (token_character t) _ (λ b. token_character t ≡ Ok b) (Ranged s) (itself (token_character t)) (λ b f. ranged_at s a b e)) where
      itself : (r : Result ℕ GlobFault) → IfOk r (λ a. r ≡ Ok a)
      itself (Ok a) = refl
      itself (Err e) = tt

next_small : (c : ℕ) (cs : List ℕ) → c ≤ 127 → IsAsciiBeforeDash c cs
next_small c [] l = tt
next_small c (d ∷ []) l = tt
next_small c (d ∷ e ∷ cs) l = λ h. grind (arith, nat_tests)

next_other : (c d : ℕ) (cs : List ℕ) → (d == 45) ≡ false → IsAsciiBeforeDash c (d ∷ cs)
next_other c d [] h = tt
next_other c d (e ∷ cs) h = λ k. cc

range_fits : (k low high : ℕ) (ys : List ℕ) → low + k ≤ high + 1 → high ≤ 127 → (low ≤ 47 → high < 47) → AreReadableMembers ys → AreReadableMembers (range_with_len low k ++ ys)
range_fits zero low high ys l m s f = f
range_fits (suc k) low high ys l m s f = (
  false_from_ne_true (low == 47) (λ e. let same : low ≡ 47 = eqb-true low 47 e in omega arith),
  low_scalar low (omega arith),
  next_small low (range_with_len (low + 1) k ++ ys) (omega arith),
  range_fits k (low + 1) high ys (omega arith) m (λ h. s (omega arith)) f,
)

abbrev Read : List Token → List ℕ → Type 0
Read ts cs = AreReadableMembers cs × Front ts cs

range_then : (t : Token) (ts : List Token) (xs ys : List ℕ) → Ranged t xs → AreReadableMembers ys → Read (t ∷ ts) (xs ++ ys)
range_then t ts xs ys (low, high, e, is, l, m, s) f =
    let n : high + 1 - low ≡ suc (high - low) = omega arith in
    let whole : xs ++ ys ≡ range_with_len low (high + 1 - low) ++ ys = ap (λ zs. zs ++ ys) is in
    let fit : AreReadableMembers (range_with_len low (high + 1 - low) ++ ys) = range_fits (high + 1 - low) low high ys (omega arith) m s f in
    (subst AreReadableMembers (sym whole) fit, (low, range_with_len (low + 1) (high - low) ++ ys, whole ∙ ap (λ k. range_with_len low k ++ ys) n, e))

one_then : (t u : Token) (ts : List Token) (xs ys : List ℕ) → IsProper u → is_plain 45 u ≡ false → Single t xs → Read (u ∷ ts) ys → Read (t ∷ u ∷ ts) (xs ++ ys)
one_then t u ts xs ys p h (c, is, e, n, sc) (f, (d, more, js, g)) =
    let whole : xs ++ ys ≡ c ∷ ys = ap (λ zs. zs ++ ys) is in
    let next : IsAsciiBeforeDash c ys = subst (IsAsciiBeforeDash c) (sym js) (next_other c d more (token_not u d 45 p refl h g)) in
    (subst AreReadableMembers (sym whole) (n, sc, next, f), (c, ys, whole, e))

two : (t u : Token) (xs ys : List ℕ) → Single t xs → Single u ys → Read (t ∷ u ∷ []) (xs ++ ys)
two t u xs ys (c, is, e, n, sc) (d, js, g, m, sd) =
    let whole : xs ++ ys ≡ c ∷ d ∷ [] = λ i. is i ++ js i in
    (subst AreReadableMembers (sym whole) (n, sc, tt, (m, sd, tt, tt)), (c, d ∷ [], whole, e))

alone : (t : Token) → IsProper t → IfOk (set_members (t ∷ [])) (Single t)
alone t p = then_ok (member t) (Ok []) (Single t) (λ ys. ys ≡ []) (Single t) (single t p) refl (λ xs ys s e. (s.0, (λ i. s.1 i ++ e i), s.2, s.3, s.4))

members_fit : (ts : List Token) → AllByRecursion IsProper ts → IfOk (set_members ts) (Read ts)
members_fit [] p = (tt, refl)
members_fit (a ∷ []) p =
    then_ok (member a) (Ok []) (Single a) (λ ys. ys ≡ []) (Read (a ∷ [])) (single a p.0) refl
    (λ xs ys s e. let whole : xs ++ ys ≡ s.0 ∷ [] = λ i. s.1 i ++ e i in (subst AreReadableMembers (sym whole) (s.3, s.4, tt, tt), (s.0, [], whole, s.2)))
members_fit (a ∷ b ∷ []) p = then_ok (member a) (set_members (b ∷ [])) (Single a) (Single b) (Read (a ∷ b ∷ [])) (single a p.0) (alone b p.1.0) (two a b)
members_fit (a ∷ b ∷ c ∷ ts) p =
    either_ok (is_plain 45 b) (Read (a ∷ b ∷ c ∷ ts)) (then_members (range_member a c) (set_members ts)) (then_members (member a) (set_members (b ∷ c ∷ ts)))
    (λ h. then_ok (range_member a c) (set_members ts) (Ranged a) (Read ts) (Read (a ∷ b ∷ c ∷ ts)) (ranged a c) (members_fit ts p.1.1.1) (λ xs ys r f. range_then a (b ∷ c ∷ ts) xs ys r f.0))
    (λ h. then_ok (member a) (set_members (b ∷ c ∷ ts)) (Single a) (Read (b ∷ c ∷ ts)) (Read (a ∷ b ∷ c ∷ ts)) (single a p.0) (members_fit (b ∷ c ∷ ts) p.1) (λ xs ys s r. one_then a b (c ∷ ts) xs ys p.1.0 h s r))

set_fits : (ts : List Token) (cs : List ℕ) → AllByRecursion IsProper ts → is_negated ts ≡ false → (length cs == 0) ≡ false → Read ts cs → IsReadableSet cs
set_fits ts [] p n z r = cc
set_fits [] (c ∷ cs) p n z r = let e : c ∷ cs ≡ [] = r.1 in cc
set_fits (t ∷ ts) (c ∷ cs) p n z (f, (d, more, is, e)) =
    let same : d ≡ c = cc in
    let no = or_parts (is_plain 94 t) (is_plain 33 t) n in (
      ap (λ x. x == 94) (sym same) ∙ token_not t d 94 p.0 refl no.0 e,
      ap (λ x. x == 33) (sym same) ∙ token_not t d 33 p.0 refl no.1 e,
      f,
    )

set_piece_fits : (n : Bool) (ts : List Token) (closed : Bool) → AllByRecursion IsProper ts → IfOk (set_piece ts closed) (IsReadablePiece n)
set_piece_fits n ts closed p =
    either_ok (is_negated ts) (IsReadablePiece n) (Err fault.NegatedSet) (set_members ts >>= set_of closed) (λ h. tt)
    (λ h. ok_then (set_members ts) (set_of closed) (Read ts) (IsReadablePiece n) (members_fit ts p)
    (λ cs r. either_ok (not closed) (IsReadablePiece n) (Err fault.OpenBracket) (if length cs == 0 then Err fault.BadRange else Ok (OneOf cs)) (λ k. tt)
    (λ k. either_ok (length cs == 0) (IsReadablePiece n) (Err fault.BadRange) (Ok (OneOf cs)) (λ z. tt) (λ z. set_fits ts cs p h z r))))

-- Signs: each piece among them.
abbrev pub FitSign : Bool → Result Sign GlobFault → Type 0
FitSign n (Err e) = Unit {0}
FitSign n (Ok (Means p)) = IsReadablePiece n p
FitSign n (Ok Open) = Unit {0}
FitSign n (Ok Comma) = Unit {0}
FitSign n (Ok Close) = Unit {0}

set_sign_fits : (n : Bool) (r : Result Piece GlobFault) → IfOk r (IsReadablePiece n) → FitSign n (r >>= λ p. Ok (Means p))
set_sign_fits n (Ok p) f = f
set_sign_fits n (Err e) f = tt

either_sign : (P : Sign → Type 0) (b : Bool) (s t : Sign) → P s → P t → P (if b then s else t)
either_sign P true s t p q = p
either_sign P false s t p q = q

-- What holds of `Means (Lit c)` and of the signs that aren't literal holds of a character's sign.
pub character_sign_has : (P : Sign → Type 0) (c : ℕ) → P (Means Run) → P (Means Any) → P Open → P Close → P Comma → P (Means (Lit c)) → P (character_sign c)
character_sign_has P c run any opens close comma lit =
    either_sign P (c == 42) (Means Run) _ run
    (either_sign P (c == 63) (Means Any) _ any
    (either_sign P (c == 123) Open _ opens
    (either_sign P (c == 125) Close _ close
    (either_sign P (c == 44) Comma (Means (Lit c)) comma lit))))

special-plain : (n : Bool) (c : ℕ) → is_special c ≡ true → (c == 47 && n) ≡ false
special-plain n c h = ap (λ b. b && n) (special-not c 47 h refl)

abbrev open_tokens : Option (List Token) → List Token
open_tokens None = []
open_tokens (Some set) = set

signs_fit : (n : Bool) (o : Option (List Token)) (ts : List Token) → AllByRecursion IsProper (open_tokens o) → AllByRecursion IsProper ts → AllByRecursion (FitSign n) (signs n o ts)
signs_fit n None [] q p = tt
signs_fit n (Some set) [] q p = (set_sign_fits n (set_piece set false) (set_piece_fits n set false q), tt)
signs_fit n None (Stray ∷ ts) q p = (tt, tt)
signs_fit n None (Escaped c ∷ ts) q p = ((special-plain n c p.0, special_scalar c p.0), signs_fit n None ts tt p.1)
signs_fit n None (Plain c ∷ ts) q p =
    either_each (c == 91) (FitSign n) (signs n (Some []) ts) _ (λ h. signs_fit n (Some []) ts tt p.1)
    (λ h. either_each (c == 47 && n) (FitSign n) (Err fault.SlashInName ∷ []) (Ok (character_sign c) ∷ signs n None ts) (λ k. (tt, tt))
    (λ k. (character_sign_has (λ s. FitSign n (Ok s)) c tt tt tt tt tt (k, p.0), signs_fit n None ts tt p.1)))
signs_fit n (Some set) (t ∷ ts) q p =
    either_each (is_plain 93 t) (FitSign n) (set_sign set true ∷ signs n None ts) (signs n (Some (set ++ t ∷ [])) ts)
    (λ h. (set_sign_fits n (set_piece set true) (set_piece_fits n set true q), signs_fit n None ts tt p.1))
    (λ h. signs_fit n (Some (set ++ t ∷ [])) ts (each_push IsProper set t q p.0) p.1)

brace_fits : (n : Bool) (done : List (List Piece)) (c : List Piece) → AllByRecursion (AllByRecursion (IsReadablePiece n)) done → AllByRecursion (IsReadablePiece n) c → IsReadablePart n (Brace (done ++ c ∷ []))
brace_fits n [] c d f = (f, tt)
brace_fits n (b ∷ done) c d f = each_push (AllByRecursion (IsReadablePiece n)) (b ∷ done) c d f

then_part_fits : (n : Bool) (p : Part) (r : Result (List Part) GlobFault) → IsReadablePart n p → IfOk r (AllByRecursion (IsReadablePart n)) → IfOk (then_part p r) (AllByRecursion (IsReadablePart n))
then_part_fits n p (Ok ps) f g = (f, g)
then_part_fits n p (Err e) f g = tt

abbrev FitOpen : Bool → Option (List (List Piece) × List Piece) → Type 0
FitOpen n None = Unit {0}
FitOpen n (Some b) = AllByRecursion (AllByRecursion (IsReadablePiece n)) b.0 × AllByRecursion (IsReadablePiece n) b.1

pub parts_fit : (n : Bool) (o : Option (List (List Piece) × List Piece)) (ss : List (Result Sign GlobFault)) → FitOpen n o → AllByRecursion (FitSign n) ss
    → IfOk (parts o ss) (AllByRecursion (IsReadablePart n))
parts_fit n None [] q p = tt
parts_fit n (Some b) [] q p = tt
parts_fit n None (Err f ∷ ss) q p = tt
parts_fit n (Some b) (Err f ∷ ss) q p = tt
parts_fit n None (Ok (Means a) ∷ ss) q p = then_part_fits n (One a) (parts None ss) p.0 (parts_fit n None ss tt p.1)
parts_fit n None (Ok Open ∷ ss) q p = parts_fit n (Some ([], [])) ss (tt, tt) p.1
parts_fit n None (Ok Comma ∷ ss) q p = then_part_fits n (One (Lit 44)) (parts None ss) (refl, refl) (parts_fit n None ss tt p.1)
parts_fit n None (Ok Close ∷ ss) q p = then_part_fits n (One (Lit 125)) (parts None ss) (refl, refl) (parts_fit n None ss tt p.1)
parts_fit n (Some (done, current)) (Ok (Means a) ∷ ss) q p = parts_fit n (Some (done, current ++ a ∷ [])) ss (q.0, each_push (IsReadablePiece n) current a q.1 p.0) p.1
parts_fit n (Some (done, current)) (Ok Open ∷ ss) q p = tt
parts_fit n (Some (done, current)) (Ok Comma ∷ ss) q p = parts_fit n (Some (done ++ current ∷ [], [])) ss (each_push (AllByRecursion (IsReadablePiece n)) done current q.0 q.1, tt) p.1
parts_fit n (Some (done, current)) (Ok Close ∷ ss) q p =
    then_part_fits n (Brace (done ++ current ∷ [])) (parts None ss) (brace_fits n done current q.0 q.1) (parts_fit n None ss tt p.1)

pub reading_fits : (n : Bool) (cs : List ℕ) → all_scalars cs ≡ true → IfOk (pattern_parts n cs) (AllByRecursion (IsReadablePart n))
reading_fits n cs h = parts_fit n None (signs n None (tokens false cs)) tt (signs_fit n None (tokens false cs) tt (tokens_proper false cs h))
