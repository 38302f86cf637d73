-- A specification that a text gives is readable, and a readable one is read from its own text.
use Rattle.std.proofs.Common.{◌≡◌, ℕ, ◌+◌, ◌≤◌, Bool, true, false, not, ◌&&◌, ◌||◌, ◌==◌, List, [], ◌∷◌, ◌++◌, length, Result, Ok, Err, refl, sym, ap, ◌∙◌, arith, subst}
use Rattle.std.specs.Prelude.{nat_lt, if◌then◌else◌, IfOk}
use Rattle.std.specs.List.{before_first, after_first, position_or_len}
use Rattle.std.specs.Str.{all_scalars, chars, encode_utf8_all}
use Rattle.std.proofs.lemmas.Bool.{or_parts}
use Rattle.std.proofs.lemmas.Bool.Decides.{nat_tests}
use Rattle.std.proofs.lemmas.Str.{chars-encodes}
use Rattle.hub_glob.specs.declared.fault.GlobFault.TheVariants as fault
use Rattle.hub_glob.specs.declared.path_spec.Kind.{Kind}
use Rattle.hub_glob.specs.declared.path_spec.Kind.TheVariants as kind
use Rattle.hub_glob.specs.declared.piece.Part.{Part}
use Rattle.hub_glob.specs.declared.piece.TheConstants.{PATTERN_CHARACTERS, PATTERN_CHOICES}
use Rattle.hub_glob.specs.Specification.{Specification, choice_count, is_name_kind}
use Rattle.hub_glob.specs.Readable.{IsReadable, is_barred_start}
use Rattle.hub_text.specs.Blanks.{is_blank, skip_blanks}
use Rattle.hub_text.specs.laws.List.{some-item}
use Rattle.hub_path.specs.Reading.{begins_with_slash}
use Rattle.hub_glob.specs.Reading.{few_choices, pattern_parts, pattern_reading, kind_reading, spec_reading, ◌>>=◌}
use Rattle.hub_glob.specs.Writing.{pattern_text, kind_word, spec_text}
use Rattle.hub_glob.specs.laws.Scalars.{skip-scalars, drop-scalars}
use Rattle.hub_glob.proofs.Readings.{size_read}
use Rattle.hub_glob.proofs.RoundtripFits.{special-not, not-special, either_ok, ok_then, reading_fits}
use Rattle.hub_glob.proofs.RoundtripReads.{pattern_read}
use Rattle.hub_glob.proofs.RoundtripStarts.{IsOfOthers, reading_starts, text_starts}
use Rattle.hub_glob.proofs.WrittenText.{spec_text-scalars}

barred_others : (n : Bool) → IsOfOthers (is_barred_start n)
barred_others n c h =
    (λ i. (not-special 32 c refl h i || (not-special 9 c refl h i || false)) || (not n && special-not c 47 h refl i)) ∙ go n where
      go : (b : Bool) → (not b && false) ≡ false
      go true = refl
      go false = refl

-- What stands after the blanks of a text: characters, and no blank first.
abbrev IsUnblank : List ℕ → Type 0
IsUnblank [] = Unit {0}
IsUnblank (c ∷ cs) = is_blank c ≡ false

skip_unblank : (cs : List ℕ) → IsUnblank (skip_blanks cs)
skip_unblank [] = tt
skip_unblank (c ∷ cs) = go (is_blank c) refl (skip_unblank cs) where
  go : (b : Bool) → is_blank c ≡ b → IsUnblank (skip_blanks cs) → IsUnblank (if b then skip_blanks cs else c ∷ cs)
  go true h u = u
  go false h u = h

after-scalars : (cs : List ℕ) → all_scalars cs ≡ true → all_scalars (after_first is_blank cs) ≡ true
after-scalars cs h = drop-scalars (position_or_len is_blank cs + 1) cs h

if_ok : {S T : Type 0} (r : Result S T) (P : S → Type 0) → ((x : S) → r ≡ Ok x → P x) → IfOk r P
if_ok (Ok x) P f = f x refl
if_ok (Err e) P f = tt

at_ok : {S T : Type 0} (r : Result S T) (P : S → Type 0) (x : S) → IfOk r P → r ≡ Ok x → P x
at_ok {S = S} {T = T} r P x h e = let Q : Result S T → Type 0 = λ q. IfOk q P in subst Q e h

abbrev pub Readable : Kind → List Part → Type 0
Readable k ps = IsReadable (record { kind = k; pattern = ps })

slash_first : (c : ℕ) (cs : List ℕ) → begins_with_slash (c ∷ cs) ≡ (c == 47)
slash_first c cs = grind (arith, nat_tests)

pattern_readable : (k : Kind) (cs : List ℕ) → all_scalars cs ≡ true → IsUnblank cs → IfOk (pattern_reading k cs) (Readable k)
pattern_readable k [] s u = tt
pattern_readable k (c ∷ cs) s u =
    let n = is_name_kind k in
    let read = pattern_parts n (c ∷ cs) in
    either_ok (length (c ∷ cs) == 0) (Readable k) (Err fault.EmptyPattern) _ (λ h. tt)
    (λ h. either_ok (nat_lt PATTERN_CHARACTERS (length (c ∷ cs))) (Readable k) (Err fault.TooLong) _ (λ l. tt)
    (λ l. either_ok (not n && begins_with_slash (c ∷ cs)) (Readable k) (Err fault.LeadingSlash) _ (λ b. tt)
    (λ b. ok_then read few_choices (λ ps. read ≡ Ok ps) (Readable k) (if_ok read _ (λ ps e. e))
    (λ ps e. either_ok (nat_lt PATTERN_CHOICES (choice_count ps)) (Readable k) (Err fault.TooManyChoices) (Ok ps) (λ m. tt)
    (λ m. record {
      parts = at_ok read _ ps (reading_fits n (c ∷ cs) s) e;
      start = at_ok read _ ps (reading_starts (is_barred_start n) n c cs (barred_others n) (λ i. u i || (ap (λ t. not n && t) (sym (slash_first c cs)) ∙ b) i)) e;
      few_choices = grind (arith, nat_tests);
      few_pieces = let size = size_read n (c ∷ cs) ps e in grind (arith, nat_tests);
    })))))

spec_readable : (cs : List ℕ) → all_scalars cs ≡ true → IfOk (spec_reading cs) IsReadable
spec_readable cs s =
    let rest = skip_blanks (after_first is_blank cs) in
    ok_then (kind_reading (before_first is_blank cs)) _ (λ k. Unit {0}) IsReadable (if_ok (kind_reading (before_first is_blank cs)) _ (λ k e. tt))
    (λ k u. ok_then (pattern_reading k rest) _ (Readable k) IsReadable
    (pattern_readable k rest (skip-scalars (after_first is_blank cs) (after-scalars cs s)) (skip_unblank (after_first is_blank cs))) (λ ps f. f))

pub reading_gives_readable : (cs : List ℕ) (s : Specification) → all_scalars cs ≡ true → spec_reading cs ≡ Ok s → IsReadable s
reading_gives_readable cs s h e = at_ok (spec_reading cs) IsReadable s (spec_readable cs h) e

-- The pattern is read, after its blank, as it was written.
pattern_back : (k : Kind) (ps : List Part) → Readable k ps → length (pattern_text ps) ≤ PATTERN_CHARACTERS
    → pattern_reading k (skip_blanks (pattern_text ps)) ≡ Ok ps
pattern_back k ps f l =
    let n = is_name_kind k in
    let (c, more, e, h) = text_starts (is_barred_start n) ps (barred_others n) f.start in
    let no = or_parts (is_blank c) (not n && c == 47) h in
    let bare : (not n && begins_with_slash (c ∷ more)) ≡ false = ap (λ t. not n && t) (slash_first c more) ∙ no.1 in
    let size : length (pattern_text ps) ≡ length (c ∷ more) = ap length e in
    let short : nat_lt PATTERN_CHARACTERS (length (c ∷ more)) ≡ false = grind (arith, nat_tests) in
    let few : nat_lt PATTERN_CHOICES (choice_count ps) ≡ false = let m = f.few_choices in grind (arith, nat_tests) in
    ap (λ t. pattern_reading k (skip_blanks t)) e
    ∙ (λ i. pattern_reading k (if (no.0 i) then skip_blanks more else c ∷ more))
    ∙ (λ i. if (some-item c more i) then Err fault.EmptyPattern
    else (if (short i) then Err fault.TooLong
    else (if (bare i) then Err fault.LeadingSlash else pattern_parts n (c ∷ more) >>= few_choices)))
    ∙ ap (λ t. pattern_parts n t >>= few_choices) (sym e)
    ∙ ap (λ r. r >>= few_choices) (pattern_read n ps f.parts)
    ∙ (λ i. if (few i) then Err fault.TooManyChoices else Ok ps)

written_back : (k : Kind) (ps : List Part) → Readable k ps → length (pattern_text ps) ≤ PATTERN_CHARACTERS
    → spec_reading (kind_word k ++ 32 ∷ pattern_text ps) ≡ Ok (record { kind = k; pattern = ps })
written_back kind.Name ps f l = ap (λ r. r >>= λ qs. Ok (record { kind = kind.Name; pattern = qs })) (pattern_back kind.Name ps f l)
written_back kind.Path ps f l = ap (λ r. r >>= λ qs. Ok (record { kind = kind.Path; pattern = qs })) (pattern_back kind.Path ps f l)
written_back kind.BelowPath ps f l = ap (λ r. r >>= λ qs. Ok (record { kind = kind.BelowPath; pattern = qs })) (pattern_back kind.BelowPath ps f l)

pub reading_undoes_writing : (s : Specification) → IsReadable s → length (pattern_text s.pattern) ≤ PATTERN_CHARACTERS
    → spec_reading (spec_text s) ≡ Ok s
reading_undoes_writing s f l = written_back s.kind s.pattern f l

-- The same of the bytes of the written text.
pub text_read_back : (s : Specification) (bs : List ℕ) → IsReadable s → bs ≡ encode_utf8_all (spec_text s)
    → length (pattern_text s.pattern) ≤ PATTERN_CHARACTERS → spec_reading (chars bs) ≡ Ok s
text_read_back s bs f e l =
    ap (λ t. spec_reading (chars t)) e ∙ ap spec_reading (chars-encodes (spec_text s) (spec_text-scalars s f)) ∙ reading_undoes_writing s f l

-- So what the reader makes of its parts is readable.
pub read_readable : (cs word rest : List ℕ) (k : Kind) (ps : List Part) → all_scalars cs ≡ true → word ≡ before_first is_blank cs
    → rest ≡ skip_blanks (after_first is_blank cs) → kind_reading word ≡ Ok k → pattern_reading k rest ≡ Ok ps → Readable k ps
read_readable cs word rest k ps h w r e f =
    reading_gives_readable cs (record { kind = k; pattern = ps }) h
    (ap (λ t. kind_reading t >>= λ q. pattern_reading q (skip_blanks (after_first is_blank cs)) >>= λ qs. Ok (record { kind = q; pattern = qs })) (sym w)
    ∙ ap (λ x. x >>= λ q. pattern_reading q (skip_blanks (after_first is_blank cs)) >>= λ qs. Ok (record { kind = q; pattern = qs })) e
    ∙ ap (λ t. pattern_reading k t >>= λ qs. Ok (record { kind = k; pattern = qs })) (sym r)
    ∙ ap (λ x. x >>= λ qs. Ok (record { kind = k; pattern = qs })) f)
