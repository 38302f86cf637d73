-- How a pattern that a text gives begins: with a character of that text's own, or one that is special.
use Rattle.std.proofs.Common.{◌≡◌, ℕ, Bool, true, false, not, ◌&&◌, ◌==◌, List, [], ◌∷◌, ◌++◌, length, Some, None, Result, Ok, Err, refl}
use Rattle.std.specs.Prelude.{if◌then◌else◌, IfOk}
use Rattle.hub_glob.specs.declared.fault.GlobFault.{GlobFault}
use Rattle.hub_glob.specs.declared.fault.GlobFault.TheVariants as fault
use Rattle.hub_glob.specs.declared.piece.Piece.{Piece}
use Rattle.hub_glob.specs.declared.piece.Piece.TheVariants.{Lit, Any, Run, OneOf}
use Rattle.hub_glob.specs.declared.piece.Part.{Part}
use Rattle.hub_glob.specs.declared.piece.Part.TheVariants.{One, Brace}
use Rattle.hub_glob.specs.declared.reading.Token.{Token}
use Rattle.hub_glob.specs.declared.reading.Token.TheVariants.{Plain, Escaped, Stray}
use Rattle.hub_glob.specs.declared.reading.Sign.{Sign}
use Rattle.hub_glob.specs.declared.reading.Sign.TheVariants.{Means, Open, Comma, Close}
use Rattle.hub_glob.specs.Readable.{PieceAvoids, StartAvoids}
use Rattle.hub_glob.specs.Reading.{is_special, tokens, is_plain, set_members, is_negated, set_of, set_sign, character_sign, signs, then_part, parts, pattern_parts, ◌>>=◌}
use Rattle.hub_glob.specs.Writing.{pattern_text}
use Rattle.hub_glob.proofs.RoundtripFits.{character_sign_has}

-- The test is one that no special character passes.
abbrev pub IsOfOthers : (ℕ → Bool) → Type 0
IsOfOthers t = (c : ℕ) → is_special c ≡ true → t c ≡ false

-- No sign in front is a literal that passes, and there is one.
abbrev SignStarts : (ℕ → Bool) → Result Sign GlobFault → Type 0
SignStarts t (Err e) = Unit {0}
SignStarts t (Ok (Means p)) = PieceAvoids t p
SignStarts t (Ok Open) = Unit {0}
SignStarts t (Ok Comma) = Unit {0}
SignStarts t (Ok Close) = Unit {0}

abbrev SignsStart : (ℕ → Bool) → List (Result Sign GlobFault) → Type 0
SignsStart t [] = ⊥
SignsStart t (s ∷ ss) = SignStarts t s

either_start : (t : ℕ → Bool) (b : Bool) (xs ys : List (Result Sign GlobFault)) → (b ≡ true → SignsStart t xs) → (b ≡ false → SignsStart t ys) → SignsStart t (if b then xs else ys)
either_start t true xs ys f g = f refl
either_start t false xs ys f g = g refl

piece_of_set : (t : ℕ → Bool) (ts : List Token) (closed : Bool) → SignStarts t (set_sign ts closed)
piece_of_set t ts closed = go (is_negated ts) (set_members ts) where
  ended : (b c : Bool) (cs : List ℕ) → SignStarts t ((if b then Err fault.OpenBracket else (if c then Err fault.BadRange else Ok (OneOf cs))) >>= λ p. Ok (Means p))
  ended true c cs = tt
  ended false true cs = tt
  ended false false cs = tt

  go : (b : Bool) (r : Result (List ℕ) GlobFault) → SignStarts t ((if b then Err fault.NegatedSet else r >>= set_of closed) >>= λ p. Ok (Means p))
  go true r = tt
  go false (Err e) = tt
  go false (Ok cs) = ended (not closed) (length cs == 0) cs

set_starts : (t : ℕ → Bool) (n : Bool) (set ts : List Token) → SignsStart t (signs n (Some set) ts)
set_starts t n set [] = piece_of_set t set false
set_starts t n set (x ∷ ts) =
    either_start t (is_plain 93 x) (set_sign set true ∷ signs n None ts) (signs n (Some (set ++ x ∷ [])) ts) (λ h. piece_of_set t set true) (λ h. set_starts t n (set ++ x ∷ []) ts)

plain_starts : (t : ℕ → Bool) (n : Bool) (c : ℕ) (ts : List Token) → t c ≡ false → SignsStart t (signs n None (Plain c ∷ ts))
plain_starts t n c ts h =
    either_start t (c == 91) (signs n (Some []) ts) _ (λ k. set_starts t n [] ts)
    (λ k. either_start t (c == 47 && n) (Err fault.SlashInName ∷ []) (Ok (character_sign c) ∷ signs n None ts) (λ l. tt)
    (λ l. character_sign_has (λ s. SignStarts t (Ok s)) c tt tt tt tt tt h))

escape_starts : (t : ℕ → Bool) (n : Bool) (cs : List ℕ) → IsOfOthers t → SignsStart t (signs n None (tokens true cs))
escape_starts t n [] o = tt
escape_starts t n (c ∷ cs) o = go (is_special c) refl where
  go : (b : Bool) → is_special c ≡ b → SignsStart t (signs n None (if b then Escaped c ∷ tokens false cs else Stray ∷ []))
  go true h = o c h
  go false h = tt

signs_start : (t : ℕ → Bool) (n : Bool) (c : ℕ) (cs : List ℕ) → IsOfOthers t → t c ≡ false → SignsStart t (signs n None (tokens false (c ∷ cs)))
signs_start t n c cs o h = go (c == 92) where
  go : (b : Bool) → SignsStart t (signs n None (if b then tokens true cs else Plain c ∷ tokens false cs))
  go true = escape_starts t n cs o
  go false = plain_starts t n c (tokens false cs) h

then_part_starts : (t : ℕ → Bool) (p : Part) (r : Result (List Part) GlobFault) → StartAvoids t (p ∷ []) → IfOk (then_part p r) (StartAvoids t)
then_part_starts t (One p) (Ok ps) h = h
then_part_starts t (Brace cs) (Ok ps) h = tt
then_part_starts t p (Err e) h = tt

brace_starts : (t : ℕ → Bool) (b : List (List Piece) × List Piece) (ss : List (Result Sign GlobFault)) → IfOk (parts (Some b) ss) (StartAvoids t)
brace_starts t b [] = tt
brace_starts t b (Err e ∷ ss) = tt
brace_starts t (done, current) (Ok (Means p) ∷ ss) = brace_starts t (done, current ++ p ∷ []) ss
brace_starts t (done, current) (Ok Open ∷ ss) = tt
brace_starts t (done, current) (Ok Comma ∷ ss) = brace_starts t (done ++ current ∷ [], []) ss
brace_starts t (done, current) (Ok Close ∷ ss) = then_part_starts t (Brace (done ++ current ∷ [])) (parts None ss) tt

parts_start : (t : ℕ → Bool) (ss : List (Result Sign GlobFault)) → IsOfOthers t → SignsStart t ss → IfOk (parts None ss) (StartAvoids t)
parts_start t [] o h = absurd h
parts_start t (Err e ∷ ss) o h = tt
parts_start t (Ok (Means p) ∷ ss) o h = then_part_starts t (One p) (parts None ss) h
parts_start t (Ok Open ∷ ss) o h = brace_starts t ([], []) ss
parts_start t (Ok Comma ∷ ss) o h = then_part_starts t (One (Lit 44)) (parts None ss) (o 44 refl)
parts_start t (Ok Close ∷ ss) o h = then_part_starts t (One (Lit 125)) (parts None ss) (o 125 refl)

pub reading_starts : (t : ℕ → Bool) (n : Bool) (c : ℕ) (cs : List ℕ) → IsOfOthers t → t c ≡ false → IfOk (pattern_parts n (c ∷ cs)) (StartAvoids t)
reading_starts t n c cs o h = parts_start t (signs n None (tokens false (c ∷ cs))) o (signs_start t n c cs o h)

-- So the text of that pattern has a first character, and it doesn't pass.
abbrev pub Begins : (ℕ → Bool) → List ℕ → Type 0
Begins t cs = (c : ℕ) × (more : List ℕ) × (cs ≡ c ∷ more) × (t c ≡ false)

pub text_starts : (t : ℕ → Bool) (ps : List Part) → IsOfOthers t → StartAvoids t ps → Begins t (pattern_text ps)
text_starts t [] o h = absurd h
text_starts t (One (Lit c) ∷ ps) o h = go (is_special c) where
  go : (b : Bool) → Begins t ((if b then 92 ∷ c ∷ [] else c ∷ []) ++ pattern_text ps)
  go true = (92, c ∷ pattern_text ps, refl, o 92 refl)
  go false = (c, pattern_text ps, refl, h)
text_starts t (One Any ∷ ps) o h = (63, pattern_text ps, refl, o 63 refl)
text_starts t (One Run ∷ ps) o h = (42, pattern_text ps, refl, o 42 refl)
text_starts t (One (OneOf cs) ∷ ps) o h = (91, _, refl, o 91 refl)
text_starts t (Brace cs ∷ ps) o h = (123, _, refl, o 123 refl)
