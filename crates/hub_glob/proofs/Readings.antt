-- The steps of reading a specification.
use Rattle.std.proofs.Common.{◌≡◌, ℕ, suc, zero, ◌+◌, ◌-◌, ◌*◌, ◌<◌, ◌≤◌, min, Bool, true, false, ◌&&◌, ◌==◌, List, [], ◌∷◌, ◌++◌, length, take, drop, get_or, Option, Some, None, Result, Ok, Err, refl, sym, ap, ◌∙◌, arith, append_assoc, append-nil, ⊎_elim}
use Rattle.std.specs.Prelude.{codes, if◌then◌else◌}
use Rattle.std.specs.Str.{IsUtf8, chars}
use Rattle.std.proofs.lemmas.List.{drop_more, drop_all, take_all, length_push, length-drop}
use Rattle.std.proofs.lemmas.Bool.{cases_lt}
use Rattle.std.proofs.Math.Nat.{mul_assoc, mul-le-mul_left}
use Rattle.hub_text.specs.laws.AsciiWords.{is_word}
use Rattle.hub_glob.specs.declared.fault.GlobFault.{GlobFault}
use Rattle.hub_glob.specs.declared.path_spec.Kind.{Kind}
use Rattle.hub_glob.specs.declared.path_spec.Kind.TheVariants as kind
use Rattle.hub_glob.specs.declared.fault.GlobFault.TheVariants as fault
use Rattle.hub_glob.specs.declared.piece.Piece.{Piece}
use Rattle.hub_glob.specs.declared.piece.Part.{Part}
use Rattle.hub_glob.specs.declared.piece.Part.TheVariants.{One, Brace}
use Rattle.hub_glob.specs.declared.reading.Token.{Token}
use Rattle.hub_glob.specs.declared.reading.Token.TheVariants.{Plain, Escaped, Stray}
use Rattle.hub_glob.specs.declared.reading.Sign.{Sign}
use Rattle.hub_glob.specs.declared.reading.Sign.TheVariants.{Means, Open, Comma, Close}
use Rattle.hub_glob.specs.declared.piece.Piece.TheVariants.{Lit}
use Rattle.hub_glob.specs.Specification.{choices_size, pattern_size, choice_count}
use Rattle.hub_glob.specs.Reading.{character_sign, tokens, is_special, is_plain, kind_reading, signs, set_sign, set_members, member, range_member, then_members, Adds, ◌>>=◌, then_part, set_piece, BeginsWithFault, parts, pattern_parts}

abbrev kind_by : Bool → Bool → Bool → Bool → Result Kind GlobFault
kind_by a b c d =
    if a then Ok kind.Name
    else (if b then Ok kind.Path
    else (if c then Ok kind.BelowPath
    else (if d then Err fault.RegexLeftOut else Err fault.NoKind)))

-- The kind of a word is told by its bytes.
pub kind_word : (bs : List ℕ) → IsUtf8 bs → kind_reading bs ≡ kind_reading (chars bs)
kind_word bs u = λ i. kind_by
    (is_word bs (codes "Name") u refl i)
    (is_word bs (codes "Path") u refl i)
    (is_word bs (codes "BelowPath") u refl i)
    (is_word bs (codes "Regex") u refl i)

-- Choices counted up to a limit.
pub cap_step : (a l r M : ℕ) → 65 ≤ M → min (min (min (a * l) M) 65 * r) 65 ≡ min (a * (l * r)) 65
cap_step a l r M h = ⊎_elim low high (cases_lt (a * l) 66) where
  low : a * l < 66 → min (min (min (a * l) M) 65 * r) 65 ≡ min (a * (l * r)) 65
  low s = let e : min (min (a * l) M) 65 ≡ a * l = omega arith in ap (λ n. min (n * r) 65) e ∙ ap (λ n. min n 65) (mul_assoc a l r)

  times : (x s : ℕ) → 66 ≤ x → min (65 * s) 65 ≡ min (x * s) 65
  times x zero g = let e : x * 0 ≡ 0 = omega arith in ap (λ n. min n 65) (sym e)
  times x (suc s) g =
      let one : 1 ≤ suc s = omega arith in
      let p : 65 * 1 ≤ 65 * suc s = mul-le-mul_left 65 one in
      let q : x * 1 ≤ x * suc s = mul-le-mul_left x one in
      omega arith

  high : 66 ≤ a * l → min (min (min (a * l) M) 65 * r) 65 ≡ min (a * (l * r)) 65
  high g = let e : min (min (a * l) M) 65 ≡ 65 = omega arith in ap (λ n. min (n * r) 65) e ∙ times (a * l) r g ∙ ap (λ n. min n 65) (mul_assoc a l r)

pub brace_counted : (ps : List Part) (i : ℕ) (p : Part) (cs : List (List Piece)) (count more M T : ℕ) → drop i ps ≡ p ∷ drop (i + 1) ps → p ≡ Brace cs
    → more ≡ min (min (count * length cs) M) 65 → 65 ≤ M → min (count * choice_count (drop i ps)) 65 ≡ T
    → (more ≤ 65) × (min (more * choice_count (drop (i + 1) ps)) 65 ≡ T)
brace_counted ps i p cs count more M T e is m h t = (
  omega arith,
  ap (λ n. min (n * choice_count (drop (i + 1) ps)) 65) m
      ∙ cap_step count (length cs) (choice_count (drop (i + 1) ps)) M h
      ∙ ap (λ q. min (count * choice_count (q ∷ drop (i + 1) ps)) 65) (sym is) ∙ ap (λ qs. min (count * choice_count qs) 65) (sym e) ∙ t,
)

pub one_counted : (ps : List Part) (i : ℕ) (p : Part) (a : Piece) (count more T : ℕ) → drop i ps ≡ p ∷ drop (i + 1) ps → p ≡ One a
    → more ≡ count → count ≤ 65 → min (count * choice_count (drop i ps)) 65 ≡ T
    → (more ≤ 65) × (min (more * choice_count (drop (i + 1) ps)) 65 ≡ T)
one_counted ps i p a count more T e is m h t = (
  omega arith,
  ap (λ n. min (n * choice_count (drop (i + 1) ps)) 65) m
      ∙ ap (λ q. min (count * choice_count (q ∷ drop (i + 1) ps)) 65) (sym is) ∙ ap (λ qs. min (count * choice_count qs) 65) (sym e) ∙ t,
)

-- Tokens in turn.
pub token_escaped : (ts : List Token) (c : ℕ) (old more whole : List ℕ) → is_special c ≡ true → old ≡ c ∷ more
    → ts ++ tokens true old ≡ tokens false whole → (ts ++ Escaped c ∷ []) ++ tokens false more ≡ tokens false whole
token_escaped ts c old more whole s e h =
    append_assoc ts (Escaped c ∷ []) (tokens false more)
    ∙ (λ i. ts ++ (if (sym s i) then Escaped c ∷ tokens false more else Stray ∷ [])) ∙ ap (λ t. ts ++ tokens true t) (sym e) ∙ h

pub token_stray : (ts : List Token) (c : ℕ) (old more whole : List ℕ) → is_special c ≡ false → old ≡ c ∷ more
    → ts ++ tokens true old ≡ tokens false whole → ts ++ Stray ∷ [] ≡ tokens false whole
token_stray ts c old more whole s e h =
    (λ i. ts ++ (if (sym s i) then Escaped c ∷ tokens false more else Stray ∷ [])) ∙ ap (λ t. ts ++ tokens true t) (sym e) ∙ h

pub token_slash : (ts : List Token) (c : ℕ) (old more whole : List ℕ) → (c == 92) ≡ true → old ≡ c ∷ more
    → ts ++ tokens false old ≡ tokens false whole → ts ++ tokens true more ≡ tokens false whole
token_slash ts c old more whole s e h =
    (λ i. ts ++ (if (sym s i) then tokens true more else Plain c ∷ tokens false more)) ∙ ap (λ t. ts ++ tokens false t) (sym e) ∙ h

pub token_plain : (ts : List Token) (c : ℕ) (old more whole : List ℕ) → (c == 92) ≡ false → old ≡ c ∷ more
    → ts ++ tokens false old ≡ tokens false whole → (ts ++ Plain c ∷ []) ++ tokens false more ≡ tokens false whole
token_plain ts c old more whole s e h =
    append_assoc ts (Plain c ∷ []) (tokens false more)
    ∙ (λ i. ts ++ (if (sym s i) then tokens true more else Plain c ∷ tokens false more)) ∙ ap (λ t. ts ++ tokens false t) (sym e) ∙ h

pub token_end : (ts : List Token) (b : Bool) (rest whole : List ℕ) → b ≡ true → rest ≡ [] → ts ++ tokens b rest ≡ tokens false whole
    → ts ++ Stray ∷ [] ≡ tokens false whole
token_end ts b rest whole e n h = (λ i. ts ++ tokens (sym e i) (sym n i)) ∙ h

pub token_all : (ts : List Token) (b : Bool) (rest whole : List ℕ) → b ≡ false → rest ≡ [] → ts ++ tokens b rest ≡ tokens false whole
    → ts ≡ tokens false whole
token_all ts b rest whole e n h = sym (append-nil ts) ∙ (λ i. ts ++ tokens (sym e i) (sym n i)) ∙ h

-- The end of a set.
pub set_more : (in_name : Bool) (set : List Token) (t : Token) (ts old : List Token) → is_plain 93 t ≡ false → old ≡ t ∷ ts
    → signs in_name (Some set) old ≡ signs in_name (Some (set ++ t ∷ [])) ts
set_more in_name set t ts old h e =
    ap (signs in_name (Some set)) e ∙ (λ i. if (h i) then set_sign set true ∷ signs in_name None ts else signs in_name (Some (set ++ t ∷ [])) ts)

pub set_closed : (in_name : Bool) (set : List Token) (t : Token) (ts old : List Token) → is_plain 93 t ≡ true → old ≡ t ∷ ts
    → signs in_name (Some set) old ≡ set_sign set true ∷ signs in_name None ts
set_closed in_name set t ts old h e =
    ap (signs in_name (Some set)) e ∙ (λ i. if (h i) then set_sign set true ∷ signs in_name None ts else signs in_name (Some (set ++ t ∷ [])) ts)

-- What follows an item, as a range to the end.
pub rest_all : {X : Type 0} (k : ℕ) (xs : List X) → take (length xs - k) (drop k xs) ≡ drop k xs
rest_all k xs = take_all (length xs - k) (drop k xs) (omega (arith, length-drop k xs))

-- Members of a set.
pub added : (r rest whole : Result (List ℕ) GlobFault) (old new : List ℕ) → Adds r old new → whole ≡ then_members (Ok old) (then_members r rest)
    → whole ≡ then_members (Ok new) rest
added (Ok xs) (Ok ys) whole old new a h = h ∙ ap Ok (sym (append_assoc old xs ys) ∙ ap (λ zs. zs ++ ys) (sym a))
added (Ok xs) (Err e) whole old new a h = h
added (Err e) rest whole old new a h = absurd a

pub add_failed : (r rest whole : Result (List ℕ) GlobFault) (old : List ℕ) (e : GlobFault) → r ≡ Err e → whole ≡ then_members (Ok old) (then_members r rest)
    → whole ≡ Err e
add_failed r rest whole old e is h = h ∙ ap (λ q. then_members (Ok old) (then_members q rest)) is

pub members_range : (ts : List Token) (a b c : Token) (more : List Token) → ts ≡ a ∷ b ∷ c ∷ more → is_plain 45 b ≡ true
    → set_members ts ≡ then_members (range_member a c) (set_members more)
members_range ts a b c more e h =
    ap set_members e ∙ (λ i. if (h i) then then_members (range_member a c) (set_members more) else then_members (member a) (set_members (b ∷ c ∷ more)))

pub members_one : (ts : List Token) (a : Token) (more : List Token) → ts ≡ a ∷ more
    → ((b c : Token) (rest : List Token) → more ≡ b ∷ c ∷ rest → is_plain 45 b ≡ false)
    → set_members ts ≡ then_members (member a) (set_members more)
members_one ts a [] e h = ap set_members e
members_one ts a (b ∷ []) e h = ap set_members e
members_one ts a (b ∷ c ∷ rest) e h =
    ap set_members e ∙ (λ i. if (h b c rest refl i) then then_members (range_member a c) (set_members rest) else then_members (member a) (set_members (b ∷ c ∷ rest)))

three_behind : (set : List Token) (i : ℕ) (d : Token) → i + 2 < length set
    → drop i set ≡ get_or set i d ∷ get_or set (i + 1) d ∷ get_or set (i + 2) d ∷ drop (i + 3) set
three_behind set i d l =
    let two : i + 1 + 1 ≡ i + 2 = omega arith in
    let three : i + 2 + 1 ≡ i + 3 = omega arith in
    drop_more set i d (omega arith)
    ∙ ap (λ xs. get_or set i d ∷ xs) (drop_more set (i + 1) d (omega arith)
    ∙ (λ k. get_or set (i + 1) d ∷ drop (two k) set)
    ∙ ap (λ xs. get_or set (i + 1) d ∷ xs) (drop_more set (i + 2) d l ∙ (λ k. get_or set (i + 2) d ∷ drop (three k) set)))

pub range_step : (set : List Token) (i : ℕ) (old new : List ℕ) (d : Token) → i + 2 < length set → is_plain 45 (get_or set (i + 1) d) ≡ true
    → Adds (range_member (get_or set i d) (get_or set (i + 2) d)) old new
    → set_members set ≡ then_members (Ok old) (set_members (drop i set)) → set_members set ≡ then_members (Ok new) (set_members (drop (i + 3) set))
range_step set i old new d l h a e =
    added (range_member (get_or set i d) (get_or set (i + 2) d)) (set_members (drop (i + 3) set)) (set_members set) old new a
    (e ∙ ap (then_members (Ok old)) (members_range (drop i set) (get_or set i d) (get_or set (i + 1) d) (get_or set (i + 2) d) (drop (i + 3) set) (three_behind set i d l) h))

one_behind : (set : List Token) (i : ℕ) (d : Token) → i < length set → (i + 2 < length set → is_plain 45 (get_or set (i + 1) d) ≡ false)
    → set_members (drop i set) ≡ then_members (member (get_or set i d)) (set_members (drop (i + 1) set))
one_behind set i d l h =
    members_one (drop i set) (get_or set i d) (drop (i + 1) set) (drop_more set i d l)
    (λ b c rest e.
    let n : length (drop (i + 1) set) ≡ length (b ∷ c ∷ rest) = ap length e in
    let m : length (drop (i + 1) set) ≡ length set - (i + 1) = length-drop (i + 1) set in
    let within : i + 2 < length set = omega arith in
    let first : get_or set (i + 1) d ∷ drop (i + 1 + 1) set ≡ b ∷ c ∷ rest = sym (drop_more set (i + 1) d (omega arith)) ∙ e in
    let same : get_or set (i + 1) d ≡ b = cc in
    ap (is_plain 45) (sym same) ∙ h within)

pub one_step : (set : List Token) (i : ℕ) (old new : List ℕ) (d : Token) → i < length set → (i + 2 < length set → is_plain 45 (get_or set (i + 1) d) ≡ false)
    → Adds (member (get_or set i d)) old new
    → set_members set ≡ then_members (Ok old) (set_members (drop i set)) → set_members set ≡ then_members (Ok new) (set_members (drop (i + 1) set))
one_step set i old new d l h a e =
    added (member (get_or set i d)) (set_members (drop (i + 1) set)) (set_members set) old new a (e ∙ ap (then_members (Ok old)) (one_behind set i d l h))

pub one_failed : (set : List Token) (i : ℕ) (old : List ℕ) (d : Token) (f : GlobFault) → i < length set → (i + 2 < length set → is_plain 45 (get_or set (i + 1) d) ≡ false)
    → member (get_or set i d) ≡ Err f → set_members set ≡ then_members (Ok old) (set_members (drop i set)) → set_members set ≡ Err f
one_failed set i old d f l h m e =
    add_failed (member (get_or set i d)) (set_members (drop (i + 1) set)) (set_members set) old f m (e ∙ ap (then_members (Ok old)) (one_behind set i d l h))

pub range_failed : (set : List Token) (i : ℕ) (old : List ℕ) (d : Token) (f : GlobFault) → i + 2 < length set → is_plain 45 (get_or set (i + 1) d) ≡ true
    → range_member (get_or set i d) (get_or set (i + 2) d) ≡ Err f → set_members set ≡ then_members (Ok old) (set_members (drop i set)) → set_members set ≡ Err f
range_failed set i old d f l h m e =
    add_failed (range_member (get_or set i d) (get_or set (i + 2) d)) (set_members (drop (i + 3) set)) (set_members set) old f m
    (e ∙ ap (then_members (Ok old)) (members_range (drop i set) (get_or set i d) (get_or set (i + 1) d) (get_or set (i + 2) d) (drop (i + 3) set) (three_behind set i d l) h))

pub none_read : (r : Result (List ℕ) GlobFault) (xs : List ℕ) → xs ≡ [] → r ≡ then_members (Ok xs) r
none_read (Ok ys) xs e = ap (λ zs. then_members (Ok zs) (Ok ys)) (sym e)
none_read (Err f) xs e = refl

pub all_read : (set : List Token) (i : ℕ) (old : List ℕ) → length set ≤ i → set_members set ≡ then_members (Ok old) (set_members (drop i set)) → set_members set ≡ Ok old
all_read set i old l e = e ∙ ap (λ ts. then_members (Ok old) (set_members ts)) (drop_all i set l) ∙ ap Ok (append-nil old)

-- Parts in turn.
abbrev pub then_parts : List Part → Result (List Part) GlobFault → Result (List Part) GlobFault
then_parts ps rest = rest >>= λ qs. Ok (ps ++ qs)

pub no_parts : (r : Result (List Part) GlobFault) (ps : List Part) → ps ≡ [] → r ≡ then_parts ps r
no_parts (Ok qs) ps e = ap (λ rs. then_parts rs (Ok qs)) (sym e)
no_parts (Err f) ps e = refl

pub part_added : (whole now rest : Result (List Part) GlobFault) (ps more : List Part) (p : Part) → whole ≡ then_parts ps now → now ≡ then_part p rest
    → more ≡ ps ++ p ∷ [] → whole ≡ then_parts more rest
part_added whole now rest ps more p h e m =
    h ∙ ap (then_parts ps) e ∙ one_more rest ∙ ap (λ qs. then_parts qs rest) (sym m) where
      one_more : (r : Result (List Part) GlobFault) → then_parts ps (then_part p r) ≡ then_parts (ps ++ p ∷ []) r
      one_more (Ok qs) = ap Ok (sym (append_assoc ps (p ∷ []) qs))
      one_more (Err e) = refl

pub set_fault : (ss rest : List (Result Sign GlobFault)) (set : List Token) (closed : Bool) (e : GlobFault) → ss ≡ set_sign set closed ∷ rest
    → set_piece set closed ≡ Err e → BeginsWithFault e ss
set_fault ss rest set closed e h f = (rest, h ∙ ap (λ r. (r >>= λ p. Ok (Means p)) ∷ rest) f)

-- A part from the next sign.
pub sign_part : (n a b : Bool) (old mid : List Token) (s : Sign) (whole rest : Result (List Part) GlobFault) (ps more : List Part) (p : Part)
    → a ≡ n → b ≡ a → signs a None old ≡ Ok s ∷ signs b None mid
    → whole ≡ then_parts ps (parts None (signs n None old)) → parts None (Ok s ∷ signs n None mid) ≡ then_part p rest
    → more ≡ ps ++ p ∷ [] → whole ≡ then_parts more rest
sign_part n a b old mid s whole rest ps more p an ba e h f m =
    part_added whole (parts None (signs n None old)) rest ps more p h
    ((λ i. parts None (signs (sym an i) None old)) ∙ ap (parts None) e ∙ (λ i. parts None (Ok s ∷ signs ((ba ∙ an) i) None mid)) ∙ f) m

-- How many pieces a pattern has.
abbrev extra : Bool → ℕ
extra true = 1
extra false = 0

cond_le : (b : Bool) {X : Type 0} (xs ys : List X) (n : ℕ) → length xs ≤ n → length ys ≤ n → length (if b then xs else ys) ≤ n
cond_le true xs ys n h k = h
cond_le false xs ys n h k = k

tokens_length : (b : Bool) (cs : List ℕ) → length (tokens b cs) ≤ length cs + extra b
tokens_length false [] = omega arith
tokens_length true [] = omega arith
tokens_length false (c ∷ cs) =
    cond_le (c == 92) (tokens true cs) (Plain c ∷ tokens false cs) (length (c ∷ cs) + 0) (omega (arith, tokens_length true cs)) (omega (arith, tokens_length false cs))
tokens_length true (c ∷ cs) =
    cond_le (is_special c) (Escaped c ∷ tokens false cs) (Stray ∷ []) (length (c ∷ cs) + 1) (omega (arith, tokens_length false cs)) (omega arith)

abbrev set_extra : Option (List Token) → ℕ
set_extra None = 0
set_extra (Some set) = 1

signs_length : (n : Bool) (o : Option (List Token)) (ts : List Token) → length (signs n o ts) ≤ length ts + set_extra o
signs_length n None [] = omega arith
signs_length n (Some set) [] = omega arith
signs_length n None (Stray ∷ ts) = omega arith
signs_length n None (Escaped c ∷ ts) = omega (arith, signs_length n None ts)
signs_length n None (Plain c ∷ ts) =
    cond_le (c == 91) (signs n (Some []) ts) _ (length (Plain c ∷ ts) + 0) (omega (arith, signs_length n (Some []) ts))
    (cond_le (c == 47 && n) (Err fault.SlashInName ∷ []) (Ok (character_sign c) ∷ signs n None ts) (length (Plain c ∷ ts) + 0) (omega arith) (omega (arith, signs_length n None ts)))
signs_length n (Some set) (t ∷ ts) =
    cond_le (is_plain 93 t) (set_sign set true ∷ signs n None ts) (signs n (Some (set ++ t ∷ [])) ts) (length (t ∷ ts) + 1)
    (omega (arith, signs_length n None ts)) (omega (arith, signs_length n (Some (set ++ t ∷ [])) ts))

abbrev open_size : Option (List (List Piece) × List Piece) → ℕ
open_size None = 0
open_size (Some b) = choices_size b.0 + length b.1

choices_size-push : (done : List (List Piece)) (c : List Piece) → choices_size (done ++ c ∷ []) ≡ choices_size done + length c
choices_size-push [] c = omega arith
choices_size-push (d ∷ done) c = omega (arith, choices_size-push done c)

then_part_ok : (p : Part) (r : Result (List Part) GlobFault) (ps : List Part) → then_part p r ≡ Ok ps → (qs : List Part) × (r ≡ Ok qs) × (ps ≡ p ∷ qs)
then_part_ok p (Ok qs) ps h = (qs, refl, cc)
then_part_ok p (Err e) ps h = cc

sized : (p : Part) (r : Result (List Part) GlobFault) (ps : List Part) (m n : ℕ) → then_part p r ≡ Ok ps
    → ((qs : List Part) → r ≡ Ok qs → pattern_size qs ≤ m) → pattern_size (p ∷ []) + m ≤ n → pattern_size ps ≤ n
sized (One a) r ps m n h f l = let t = then_part_ok (One a) r ps h in let s : pattern_size ps ≡ 1 + pattern_size t.0 = ap pattern_size t.2 in omega (arith, f t.0 t.1)
sized (Brace cs) r ps m n h f l = let t = then_part_ok (Brace cs) r ps h in let s : pattern_size ps ≡ choices_size cs + pattern_size t.0 = ap pattern_size t.2 in omega (arith, f t.0 t.1)

parts_size : (o : Option (List (List Piece) × List Piece)) (ss : List (Result Sign GlobFault)) (ps : List Part) → parts o ss ≡ Ok ps
    → pattern_size ps ≤ length ss + open_size o
parts_size None [] ps h = let e : ps ≡ [] = cc in let s : pattern_size ps ≡ 0 = ap pattern_size e in omega arith
parts_size (Some b) [] ps h = cc
parts_size None (Err f ∷ ss) ps h = cc
parts_size (Some b) (Err f ∷ ss) ps h = cc
parts_size None (Ok (Means p) ∷ ss) ps h = sized (One p) (parts None ss) ps (length ss + 0) _ h (parts_size None ss) (omega arith)
parts_size None (Ok Open ∷ ss) ps h = omega (arith, parts_size (Some ([], [])) ss ps h)
parts_size None (Ok Comma ∷ ss) ps h = sized (One (Lit 44)) (parts None ss) ps (length ss + 0) _ h (parts_size None ss) (omega arith)
parts_size None (Ok Close ∷ ss) ps h = sized (One (Lit 125)) (parts None ss) ps (length ss + 0) _ h (parts_size None ss) (omega arith)
parts_size (Some (done, current)) (Ok (Means p) ∷ ss) ps h = omega (arith, parts_size (Some (done, current ++ p ∷ [])) ss ps h, length_push current p)
parts_size (Some (done, current)) (Ok Open ∷ ss) ps h = cc
parts_size (Some (done, current)) (Ok Comma ∷ ss) ps h = omega (arith, parts_size (Some (done ++ current ∷ [], [])) ss ps h, choices_size-push done current)
parts_size (Some (done, current)) (Ok Close ∷ ss) ps h =
    sized (Brace (done ++ current ∷ [])) (parts None ss) ps (length ss + 0) _ h (parts_size None ss) (omega (arith, choices_size-push done current))

pub size_read : (in_name : Bool) (cs : List ℕ) (ps : List Part) → pattern_parts in_name cs ≡ Ok ps → pattern_size ps ≤ length cs
size_read in_name cs ps h =
    omega (arith, parts_size None (signs in_name None (tokens false cs)) ps h, signs_length in_name None (tokens false cs), tokens_length false cs)
