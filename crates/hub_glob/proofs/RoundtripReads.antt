-- A written pattern is read as what it was written from.
use Rattle.std.proofs.Common.{◌≡◌, ℕ, ◌+◌, ◌-◌, Bool, true, false, ◌&&◌, ◌||◌, ◌==◌, List, [], ◌∷◌, ◌++◌, Some, None, Result, Ok, Err, refl, sym, ap, ◌∙◌, arith, append_assoc, append-nil}
use Rattle.std.specs.Prelude.{nat_lt, nat_le, if◌then◌else◌}
use Rattle.std.specs.List.{range_with_len, AllByRecursion}
use Rattle.std.proofs.lemmas.Bool.Decides.{nat_tests}
use Rattle.hub_text.specs.laws.List.{some-item}
use Rattle.hub_glob.specs.declared.fault.GlobFault.{GlobFault}
use Rattle.hub_glob.specs.declared.fault.GlobFault.TheVariants as fault
use Rattle.hub_glob.specs.declared.piece.Piece.{Piece}
use Rattle.hub_glob.specs.declared.piece.Piece.TheVariants.{Lit, Any, Run, OneOf}
use Rattle.hub_glob.specs.declared.piece.Part.{Part}
use Rattle.hub_glob.specs.declared.piece.Part.TheVariants.{One, Brace}
use Rattle.hub_glob.specs.declared.reading.Token.{Token}
use Rattle.hub_glob.specs.declared.reading.Token.TheVariants.{Plain, Escaped, Stray}
use Rattle.hub_glob.specs.declared.reading.Sign.{Sign}
use Rattle.hub_glob.specs.declared.reading.Sign.TheVariants.{Means, Open, Comma, Close}
use Rattle.hub_glob.specs.Reading.{is_special, tokens, is_plain, member, range_member, range_characters, then_members, set_members, is_negated, set_of, set_piece, set_sign, character_sign, signs, then_part, parts, ◌>>=◌}
use Rattle.hub_glob.specs.Writing.{literal, members_text, piece_text, pieces_text, choices_text, pattern_part_text, pattern_text}
use Rattle.hub_glob.proofs.Readings.{members_one}
use Rattle.hub_glob.specs.Readable.{AreReadableMembers, IsReadableSet, IsReadablePiece, IsReadablePart}
use Rattle.hub_glob.proofs.RoundtripFits.{not-special}

-- The token of a written character.
abbrev token_of : ℕ → Token
token_of c = if is_special c then Escaped c else Plain c

literal_read : (c : ℕ) (r : List ℕ) → tokens false (literal c ++ r) ≡ token_of c ∷ tokens false r
literal_read c r = go (is_special c) refl where
  go : (b : Bool) → is_special c ≡ b → tokens false ((if b then 92 ∷ c ∷ [] else c ∷ []) ++ r) ≡ (if b then Escaped c else Plain c) ∷ tokens false r
  go true h = λ i. if (h i) then Escaped c ∷ tokens false r else Stray ∷ []
  go false h = λ i. if (not-special c 92 h refl i) then tokens true r else Plain c ∷ tokens false r

abbrev member_tokens : List ℕ → List Token
member_tokens [] = []
member_tokens (c ∷ []) = token_of c ∷ []
member_tokens (c ∷ d ∷ []) = token_of c ∷ member_tokens (d ∷ [])
member_tokens (c ∷ d ∷ e ∷ cs) = (if d == 45 then token_of c ∷ Plain 45 ∷ token_of c ∷ [] else token_of c ∷ []) ++ member_tokens (d ∷ e ∷ cs)

literal_then : (c : ℕ) (t r : List ℕ) (ts us : List Token) → tokens false (t ++ r) ≡ ts ++ us → tokens false ((literal c ++ t) ++ r) ≡ token_of c ∷ (ts ++ us)
literal_then c t r ts us h = ap (tokens false) (append_assoc (literal c) t r) ∙ literal_read c (t ++ r) ∙ ap (λ vs. token_of c ∷ vs) h

member_then : (b : Bool) (c : ℕ) (t r : List ℕ) (ts : List Token) → tokens false (t ++ r) ≡ ts ++ tokens false r
    → tokens false (((if b then literal c ++ 45 ∷ literal c else literal c) ++ t) ++ r)
    ≡ ((if b then token_of c ∷ Plain 45 ∷ token_of c ∷ [] else token_of c ∷ []) ++ ts) ++ tokens false r
member_then true c t r ts h =
    ap (tokens false) (append_assoc (literal c ++ 45 ∷ literal c) t r ∙ append_assoc (literal c) (45 ∷ literal c) (t ++ r))
    ∙ literal_read c (45 ∷ literal c ++ (t ++ r)) ∙ ap (λ us. token_of c ∷ Plain 45 ∷ us) (literal_read c (t ++ r) ∙ ap (λ us. token_of c ∷ us) h)
member_then false c t r ts h = literal_then c t r ts (tokens false r) h

members_read : (cs r : List ℕ) → tokens false (members_text cs ++ r) ≡ member_tokens cs ++ tokens false r
members_read [] r = refl
members_read (c ∷ []) r = literal_read c r
members_read (c ∷ d ∷ []) r = literal_then c (literal d) r (token_of d ∷ []) (tokens false r) (literal_read d r)
members_read (c ∷ d ∷ e ∷ cs) r = member_then (d == 45) c (members_text (d ∷ e ∷ cs)) r (member_tokens (d ∷ e ∷ cs)) (members_read (d ∷ e ∷ cs) r)

-- A set ends at the first `]` that isn't escaped.
abbrev Inside : Token → Type 0
Inside t = is_plain 93 t ≡ false

token_inside : (c : ℕ) → Inside (token_of c)
token_inside c = go (is_special c) refl where
  go : (b : Bool) → is_special c ≡ b → Inside (if b then Escaped c else Plain c)
  go true h = refl
  go false h = not-special c 93 h refl

members_inside : (cs : List ℕ) → AllByRecursion Inside (member_tokens cs)
members_inside [] = tt
members_inside (c ∷ []) = (token_inside c, tt)
members_inside (c ∷ d ∷ []) = (token_inside c, (token_inside d, tt))
members_inside (c ∷ d ∷ e ∷ cs) = go (d == 45) (members_inside (d ∷ e ∷ cs)) where
  go : (b : Bool) → AllByRecursion Inside (member_tokens (d ∷ e ∷ cs)) → AllByRecursion Inside ((if b then token_of c ∷ Plain 45 ∷ token_of c ∷ [] else token_of c ∷ []) ++ member_tokens (d ∷ e ∷ cs))
  go true h = (token_inside c, (refl, (token_inside c, h)))
  go false h = (token_inside c, h)

set_read : (n : Bool) (set ts rest : List Token) → AllByRecursion Inside ts → signs n (Some set) (ts ++ Plain 93 ∷ rest) ≡ set_sign (set ++ ts) true ∷ signs n None rest
set_read n set [] rest h = ap (λ us. set_sign us true ∷ signs n None rest) (sym (append-nil set))
set_read n set (t ∷ ts) rest h =
    (λ i. if (h.0 i) then set_sign set true ∷ signs n None (ts ++ Plain 93 ∷ rest) else signs n (Some (set ++ t ∷ [])) (ts ++ Plain 93 ∷ rest))
    ∙ set_read n (set ++ t ∷ []) ts rest h.1 ∙ ap (λ us. set_sign us true ∷ signs n None rest) (append_assoc set (t ∷ []) ts)

-- The members are those that were written.
one_back : (c : ℕ) → (c == 47) ≡ false → member (token_of c) ≡ Ok (c ∷ [])
one_back c h = go (is_special c) where
  go : (b : Bool) → member (if b then Escaped c else Plain c) ≡ Ok (c ∷ [])
  go true = λ i. if (h i) then Err fault.SlashInSet else Ok (c ∷ [])
  go false = λ i. if (h i) then Err fault.SlashInSet else Ok (c ∷ [])

range_back : (c : ℕ) → (c == 47) ≡ false → nat_lt 127 c ≡ false → range_member (token_of c) (token_of c) ≡ Ok (c ∷ [])
range_back c h l = go (is_special c) where
  itself : range_characters c c ≡ Ok (c ∷ [])
  itself =
      let small : (nat_lt 127 c || nat_lt 127 c || nat_lt c c) ≡ false = grind (arith, nat_tests) in
      let other : (nat_le c 47 && nat_le 47 c) ≡ false = grind (arith, nat_tests) in
      let one : c + 1 - c ≡ 1 = omega arith in
      λ i. if (small i) then Err fault.BadRange else (if (other i) then Err fault.SlashInSet else Ok (range_with_len c (one i)))

  go : (b : Bool) → range_member (if b then Escaped c else Plain c) (if b then Escaped c else Plain c) ≡ Ok (c ∷ [])
  go true = itself
  go false = itself

first_token : (c : ℕ) (cs : List ℕ) → (more : List Token) × (member_tokens (c ∷ cs) ≡ token_of c ∷ more)
first_token c [] = ([], refl)
first_token c (d ∷ []) = (token_of d ∷ [], refl)
first_token c (d ∷ e ∷ cs) = go (d == 45) where
  go : (b : Bool) → (more : List Token) × ((if b then token_of c ∷ Plain 45 ∷ token_of c ∷ [] else token_of c ∷ []) ++ member_tokens (d ∷ e ∷ cs) ≡ token_of c ∷ more)
  go true = (Plain 45 ∷ token_of c ∷ member_tokens (d ∷ e ∷ cs), refl)
  go false = (member_tokens (d ∷ e ∷ cs), refl)

token_is : (c k : ℕ) → (c == k) ≡ false → is_plain k (token_of c) ≡ false
token_is c k h = go (is_special c) where
  go : (b : Bool) → is_plain k (if b then Escaped c else Plain c) ≡ false
  go true = refl
  go false = h

members_back : (cs : List ℕ) → AreReadableMembers cs → set_members (member_tokens cs) ≡ Ok cs
members_back [] f = refl
members_back (c ∷ []) f = ap (λ r. then_members r (Ok [])) (one_back c f.0)
members_back (c ∷ d ∷ []) f = λ i. then_members (one_back c f.0 i) (members_back (d ∷ []) f.3 i)
members_back (c ∷ d ∷ e ∷ cs) f = go (d == 45) refl (members_back (d ∷ e ∷ cs) f.3) where
  go : (b : Bool) → (d == 45) ≡ b → set_members (member_tokens (d ∷ e ∷ cs)) ≡ Ok (d ∷ e ∷ cs)
      → set_members ((if b then token_of c ∷ Plain 45 ∷ token_of c ∷ [] else token_of c ∷ []) ++ member_tokens (d ∷ e ∷ cs)) ≡ Ok (c ∷ d ∷ e ∷ cs)
  go true h m = λ i. then_members (range_back c f.0 (f.2 h) i) (m i)
  go false h m =
      members_one (token_of c ∷ member_tokens (d ∷ e ∷ cs)) (token_of c) (member_tokens (d ∷ e ∷ cs)) refl
      (λ b x rest q.
      let first = first_token d (e ∷ cs) in
      let same : b ≡ token_of d = cc in
      ap (is_plain 45) same ∙ token_is d 45 h)
      ∙ (λ i. then_members (one_back c f.0 i) (m i))

set_back : (cs : List ℕ) → IsReadableSet cs → set_piece (member_tokens cs) true ≡ Ok (OneOf cs)
set_back [] f = absurd f
set_back (c ∷ cs) f =
    let first = first_token c cs in
    let plain : is_negated (member_tokens (c ∷ cs)) ≡ false = ap is_negated first.1 ∙ (λ i. token_is c 94 f.0 i || token_is c 33 f.1 i) in
    (λ i. if (plain i) then Err fault.NegatedSet else members_back (c ∷ cs) f.2 i >>= set_of true)
    ∙ (λ i. if (some-item c cs i) then Err fault.BadRange else Ok (OneOf (c ∷ cs)))

-- Signs and parts of what is written.
abbrev pub reads : Bool → List ℕ → List (Result Sign GlobFault)
reads n cs = signs n None (tokens false cs)

plain_sign : (n : Bool) (c : ℕ) (rest : List Token) → is_special c ≡ false → (c == 47 && n) ≡ false → signs n None (Plain c ∷ rest) ≡ Ok (Means (Lit c)) ∷ signs n None rest
plain_sign n c rest h k =
    (λ i. if (not-special c 91 h refl i) then signs n (Some []) rest
    else (if (k i) then Err fault.SlashInName ∷ [] else Ok (character_sign c) ∷ signs n None rest))
    ∙ ap (λ s. Ok s ∷ signs n None rest) literally where
      literally : character_sign c ≡ Means (Lit c)
      literally = λ i.
          if (not-special c 42 h refl i) then Means Run
          else (if (not-special c 63 h refl i) then Means Any
          else (if (not-special c 123 h refl i) then Open
          else (if (not-special c 125 h refl i) then Close
          else (if (not-special c 44 h refl i) then Comma else Means (Lit c)))))

piece_read : (n : Bool) (p : Piece) (r : List ℕ) → IsReadablePiece n p → reads n (piece_text p ++ r) ≡ Ok (Means p) ∷ reads n r
piece_read n (Lit c) r f = ap (signs n None) (literal_read c r) ∙ go (is_special c) refl where
  go : (b : Bool) → is_special c ≡ b → signs n None ((if b then Escaped c else Plain c) ∷ tokens false r) ≡ Ok (Means (Lit c)) ∷ reads n r
  go true h = refl
  go false h = plain_sign n c (tokens false r) h f.0
piece_read n Any r f = refl
piece_read n Run r f = refl
piece_read n (OneOf cs) r f =
    ap (λ t. signs n (Some []) (tokens false t)) (append_assoc (members_text cs) (93 ∷ []) r)
    ∙ ap (signs n (Some [])) (members_read cs (93 ∷ r))
    ∙ set_read n [] (member_tokens cs) (tokens false r) (members_inside cs)
    ∙ ap (λ q. (q >>= λ p. Ok (Means p)) ∷ reads n r) (set_back cs f)

pieces_read : (n : Bool) (done : List (List Piece)) (current ps : List Piece) (r : List ℕ) → AllByRecursion (IsReadablePiece n) ps
    → parts (Some (done, current)) (reads n (pieces_text ps ++ r)) ≡ parts (Some (done, current ++ ps)) (reads n r)
pieces_read n done current [] r f = ap (λ c. parts (Some (done, c)) (reads n r)) (sym (append-nil current))
pieces_read n done current (p ∷ ps) r f =
    ap (λ t. parts (Some (done, current)) (reads n t)) (append_assoc (piece_text p) (pieces_text ps) r)
    ∙ ap (parts (Some (done, current))) (piece_read n p (pieces_text ps ++ r) f.0)
    ∙ pieces_read n done (current ++ p ∷ []) ps r f.1
    ∙ ap (λ c. parts (Some (done, c)) (reads n r)) (append_assoc current (p ∷ []) ps)

choices_read : (n : Bool) (done : List (List Piece)) (c : List Piece) (cs : List (List Piece)) (r : List ℕ) → AllByRecursion (AllByRecursion (IsReadablePiece n)) (c ∷ cs)
    → parts (Some (done, [])) (reads n (choices_text (c ∷ cs) ++ 125 ∷ r)) ≡ then_part (Brace (done ++ c ∷ cs)) (parts None (reads n r))
choices_read n done c [] r f = pieces_read n done [] c (125 ∷ r) f.0
choices_read n done c (d ∷ ds) r f =
    ap (λ t. parts (Some (done, [])) (reads n t)) (append_assoc (pieces_text c) (44 ∷ choices_text (d ∷ ds)) (125 ∷ r))
    ∙ pieces_read n done [] c (44 ∷ choices_text (d ∷ ds) ++ 125 ∷ r) f.0
    ∙ choices_read n (done ++ c ∷ []) d ds r f.1
    ∙ ap (λ b. then_part (Brace b) (parts None (reads n r))) (append_assoc done (c ∷ []) (d ∷ ds))

part_read : (n : Bool) (p : Part) (r : List ℕ) → IsReadablePart n p → parts None (reads n (pattern_part_text p ++ r)) ≡ then_part p (parts None (reads n r))
part_read n (One p) r f = ap (parts None) (piece_read n p r f)
part_read n (Brace []) r f = absurd f
part_read n (Brace (c ∷ cs)) r f =
    ap (λ t. parts (Some ([], [])) (reads n t)) (append_assoc (choices_text (c ∷ cs)) (125 ∷ []) r) ∙ choices_read n [] c cs r f

pub pattern_read : (n : Bool) (ps : List Part) → AllByRecursion (IsReadablePart n) ps → parts None (reads n (pattern_text ps)) ≡ Ok ps
pattern_read n [] f = refl
pattern_read n (p ∷ ps) f = part_read n p (pattern_text ps) f.0 ∙ ap (then_part p) (pattern_read n ps f.1)
