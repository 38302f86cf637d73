-- The lines that are written, read one after the other.
use Rattle.std.proofs.Common.{◌≡◌, ℕ, ◌+◌, ◌<◌, ◌≤◌, true, false, not, ◌==◌, List, [], ◌∷◌, ◌++◌, length, refl, sym, ap, ◌∙◌, arith, subst}
use Rattle.std.specs.Prelude.{codes, if◌then◌else◌, Option, Some, None, Result, Ok, Err, bytes_eq, nat_le, nat_lt}
use Rattle.std.specs.FinMap.Entries.{find}
use Rattle.std.specs.List.{list_all, before_first, after_first}
use Rattle.std.specs.Str.{is_utf8, chars, IsUtf8}
use Rattle.std.proofs.lemmas.Str.{IsUtf8-from_is_utf8, is_utf8-from_IsUtf8, IsUtf8-append}
use Rattle.std.proofs.lemmas.List.Folds.{list_all-append}
use Rattle.std.proofs.lemmas.Bool.Decides.{nat_tests}
use Rattle.hex.specs.Hex.{IsBytes, encode_lower}
use lib.Utf8.{encode}
use Rattle.sha2.specs.Sha256.{sha256}
use Rattle.hub_path.specs.Path.{Path, path_cmp, name_cmp, is_path, parent}
use Rattle.hub_path.specs.Reading.{names_fault}
use Rattle.hub_tree.specs.declared.contents.Contents.{Contents}
use Rattle.hub_tree.specs.declared.contents.Contents.TheVariants as contents
use Rattle.hub_tree.specs.declared.contents.Mark.{Mark}
use Rattle.hub_tree.specs.declared.contents.Mark.TheVariants as mark
use Rattle.hub_state.specs.declared.TheConstants.{ENTRIES, BLOBS, FILE_BYTES}
use Rattle.hub_state.specs.declared.fault.Fault.{Fault}
use Rattle.hub_state.specs.declared.fault.Fault.TheVariants.{BadLine}
use Rattle.hub_state.specs.declared.fault.StateFault.{StateFault}
use Rattle.hub_state.specs.declared.form.Form.TheVariants as form
use Rattle.hub_state.specs.declared.form.Section.{Section}
use Rattle.hub_state.specs.declared.form.Section.TheVariants as section
use Rattle.hub_state.specs.State.{Text}
use Rattle.hub_state.specs.Writing.{end_line, dir_line, file_line, blob_line, path_bytes, hex_field}
use Rattle.hub_state.specs.Reading.{Above, Blobs, unless, line_of, with_line, with_line_of, with_fields, line_reading, numbered_reading, lines_reading, fault_at, may_stand, has_directory}
use Rattle.std.proofs.lemmas.Bool.{and_from}
use Rattle.hub_state.proofs.Lines.{in_line, in_field, all_ended, field_before, field_after, field_ends}
use Rattle.hub_state.proofs.Fields.{IsUtf8-path, path_field-written, bytes_field-written, digest_field-written, IsUtf8-digits, IsUtf8-hex, hex-in_line, hex-in_field}
use Rattle.hub_path.specs.laws.ReadBack.{path-place}
use Rattle.hub_state.proofs.Lines.{digits-in_line, digits-in_field}
use Rattle.hub_text.specs.Blanks.{is_space}
use Rattle.hub_text.specs.Fails.{and_then}

-- What is read of some lines.
abbrev pub lines_from : Above → List (List ℕ) → Result Above Fault
lines_from d [] = Ok d
lines_from d (l ∷ ls) = and_then (line_reading d l) (λ e. lines_from e ls)

lines_from-append : (ls ks : List (List ℕ)) (d e : Above) → lines_from d ls ≡ Ok e → lines_from d (ls ++ ks) ≡ lines_from e ks
lines_from-append [] ks d e h = ap (λ (r : Result Above Fault). and_then r (λ x. lines_from x ks)) h
lines_from-append (l ∷ ls) ks d e h =
    elim (line_reading d l) as (λ r. and_then r (λ x. lines_from x ls) ≡ Ok e → and_then r (λ x. lines_from x (ls ++ ks)) ≡ lines_from e ks) [
      | Ok x ↦ λ h. lines_from-append ls ks x e h
      | Err f ↦ λ h. cc
    ] h

-- Lines that end, of which this is read.
pub record Reads (d : Above) (ls : List (List ℕ)) (e : Above) : Type 0 where
  pub whole : list_all (list_all in_line) ls ≡ true
  pub says : lines_from d ls ≡ Ok e

pub Reads-none : (d : Above) → Reads d [] d
Reads-none d = record { whole = refl; says = refl }

pub Reads-append : (d e f : Above) (ls ks : List (List ℕ)) → Reads d ls e → Reads e ks f → Reads d (ls ++ ks) f
Reads-append d e f ls ks one two = record {
  whole = list_all-append (list_all in_line) ls ks ∙ and_from _ _ one.whole two.whole;
  says = lines_from-append ls ks d e one.says ∙ two.says;
}

pub Reads-line : (d e : Above) (l : List ℕ) → list_all in_line l ≡ true → line_reading d l ≡ Ok e → Reads d (l ∷ []) e
Reads-line d e l whole says = record {
  whole = and_from (list_all in_line l) true whole refl;
  says = ap (λ (r : Result Above Fault). and_then r (λ x. Ok x)) says;
}

-- Such lines and an `end`, from a line on that isn't the first.
end_utf8 : is_utf8 end_line ≡ true
unfolding is_utf8 chars encode
end_utf8 = refl

not_first : (n : ℕ) → 2 ≤ n → (n == 1) ≡ false
not_first n h = grind (arith, nat_tests)

abbrev ended : Above → Above
ended d = record d { ended = true }

end_reads : (n : ℕ) (d : Above) → 2 ≤ n → d.ended ≡ false → may_stand d.section form.End ≡ true → lines_reading n d (all_ended (end_line ∷ [])) ≡ Ok (ended d)
end_reads n d h going place = rw (not_first n h, end_utf8, going, place) refl

step : (n : ℕ) (d : Above) (y : Above) (e : Above) (l : List ℕ) (f : Above → Result Above Fault) (g : Above → Result Above StateFault) → 2 ≤ n
    → and_then (line_reading d l) f ≡ Ok e → ((x : Above) → f x ≡ Ok e → g x ≡ Ok y) → and_then (fault_at n (numbered_reading n d l)) g ≡ Ok y
step n d y e l f g h says more =
    rw (not_first n h)
    (elim (line_reading d l) as (λ r. and_then r f ≡ Ok e → and_then (fault_at n r) g ≡ Ok y) [
      | Ok x ↦ λ k. more x k
      | Err w ↦ λ k. cc
    ] says)

pub lines_reading-ended : (ls : List (List ℕ)) (n : ℕ) (d e : Above) → 2 ≤ n → lines_from d ls ≡ Ok e → e.ended ≡ false → may_stand e.section form.End ≡ true
    → lines_reading n d (all_ended (ls ++ end_line ∷ [])) ≡ Ok (ended e)
lines_reading-ended [] n d e h says going place =
    let same : d ≡ e = cc in
    subst (λ (x : Above). lines_reading n x (all_ended (end_line ∷ [])) ≡ Ok (ended e)) (sym same) (end_reads n e h going place)
lines_reading-ended (l ∷ []) n d e h says going place =
    step n d (ended e) e l (λ x. lines_from x []) (λ x. lines_reading (n + 1) x (all_ended (end_line ∷ []))) h says (λ x k. lines_reading-ended [] (n + 1) x e (omega arith) k going place)
lines_reading-ended (l ∷ k ∷ ls) n d e h says going place =
    step n d (ended e) e l (λ x. lines_from x (k ∷ ls)) (λ x. lines_reading (n + 1) x (all_ended (k ∷ ls ++ end_line ∷ []))) h says
    (λ x g. lines_reading-ended (k ∷ ls) (n + 1) x e (omega arith) g going place)

-- What was read within a section.
abbrev pub above : Option Blobs → List (Text × List (Path × Contents)) → List (List Text × List (Path × Mark)) → Section → ℕ → Above
above bs rs ks s n = record { blobs = bs; replicas = rs; archives = ks; section = s; entries = n; ended = false }

pub word_utf8 : (w : List ℕ) → is_utf8 w ≡ true → (t : List ℕ) → IsUtf8 t → is_utf8 (w ++ t) ≡ true
word_utf8 w h t u = is_utf8-from_IsUtf8 (w ++ t) (IsUtf8-append w t (IsUtf8-from_is_utf8 w h) u)

pub word_in_line : (w t : List ℕ) → list_all in_line w ≡ true → list_all in_line t ≡ true → list_all in_line (w ++ t) ≡ true
word_in_line w t h k = list_all-append in_line w t ∙ and_from _ _ h k

dir_word : is_utf8 (codes "dir ") ≡ true
unfolding is_utf8 chars encode
dir_word = refl

dir_utf8 : (t : List ℕ) → IsUtf8 t → is_utf8 (codes "dir " ++ t) ≡ true
dir_utf8 t u = word_utf8 (codes "dir ") dir_word t u

file_word : is_utf8 (codes "file ") ≡ true
unfolding is_utf8 chars encode
file_word = refl

file_utf8 : (t : List ℕ) → IsUtf8 t → is_utf8 (codes "file " ++ t) ≡ true
file_utf8 t u = word_utf8 (codes "file ") file_word t u

space_utf8 : is_utf8 (32 ∷ []) ≡ true
unfolding is_utf8 chars encode
space_utf8 = refl

fields_utf8 : (f t : List ℕ) → IsUtf8 f → IsUtf8 t → IsUtf8 (f ++ 32 ∷ t)
fields_utf8 f t u v = IsUtf8-append f (32 ∷ t) u (IsUtf8-append (32 ∷ []) t (IsUtf8-from_is_utf8 (32 ∷ []) space_utf8) v)

pub fields_in_line : (f t : List ℕ) → list_all in_line f ≡ true → list_all in_line t ≡ true → list_all in_line (codes "file " ++ f ++ 32 ∷ t) ≡ true
fields_in_line f t h k = word_in_line (codes "file ") (f ++ 32 ∷ t) refl (word_in_line f (32 ∷ t) h k)

-- The fields of a file's line are taken in its section.
file_fields : (bs : Option Blobs) (rs : List (Text × List (Path × Contents))) (ks : List (List Text × List (Path × Mark))) (s : Section) (n : ℕ) (f t : List ℕ)
    → may_stand s form.File ≡ true → list_all in_field f ≡ true → IsUtf8 f → IsUtf8 t → line_reading (above bs rs ks s n) (codes "file " ++ f ++ 32 ∷ t) ≡ with_fields (above bs rs ks s n) s f t
file_fields bs rs ks s n f t place whole u v =
    let d : Above = above bs rs ks s n in
    let both : List ℕ = f ++ 32 ∷ t in
    ap (λ b. if b then with_line_of d (line_of (codes "file " ++ both)) else Err BadLine) (file_utf8 both (fields_utf8 f t u v))
    ∙ ap (λ b. unless (not b) BadLine (with_line d form.File both)) place
    ∙ ap (λ b. unless (not b) BadLine (with_fields d s (before_first is_space both) (after_first is_space both))) (field_ends f t)
    ∙ (λ i. with_fields d s (field_before f t whole i) (field_after f t whole i))

not_full : (n : ℕ) → n < ENTRIES → nat_le ENTRIES n ≡ false
not_full n h = grind (arith, nat_tests)

not_long : (n : ℕ) → n ≤ FILE_BYTES → nat_lt FILE_BYTES n ≡ false
not_long n h = grind (arith, nat_tests)

-- A directory, and a file, of a replica and of an archive.
pub dir_reads : (bs : Option Blobs) (rs : List (Text × List (Path × Contents))) (ks : List (List Text × List (Path × Mark))) (n : ℕ) (t : Text) (acc : List (Path × Contents)) (p : Path)
    → is_path p ≡ true → names_fault 0 p ≡ None → n < ENTRIES → find path_cmp p acc ≡ None → has_directory acc (parent p) ≡ true
    → line_reading (above bs ((t, acc) ∷ rs) ks section.Replica n) (dir_line p) ≡ Ok (above bs ((t, (p, contents.Directory) ∷ acc) ∷ rs) ks section.Replica (n + 1))
dir_reads bs rs ks n t acc p path ok room new parents =
    rw (dir_utf8 (path_bytes p) (IsUtf8-path p (path-place p path)), path_field-written p path ok, not_full n room, new, parents) refl

pub file_reads : (rs : List (Text × List (Path × Contents))) (ks : List (List Text × List (Path × Mark))) (n : ℕ) (t : Text) (acc : List (Path × Contents)) (p : Path) (bytes : List ℕ)
    → is_path p ≡ true → names_fault 0 p ≡ None → IsBytes bytes → length bytes ≤ FILE_BYTES → n < ENTRIES → find path_cmp p acc ≡ None → has_directory acc (parent p) ≡ true
    → line_reading (above None ((t, acc) ∷ rs) ks section.Replica n) (file_line (hex_field bytes) p) ≡ Ok (above None ((t, (p, contents.File bytes) ∷ acc) ∷ rs) ks section.Replica (n + 1))
file_reads rs ks n t acc p bytes path ok fit short room new parents =
    file_fields None ((t, acc) ∷ rs) ks section.Replica n (hex_field bytes) (path_bytes p) refl (hex-in_field bytes) (IsUtf8-hex bytes) (IsUtf8-path p (path-place p path))
    ∙ rw (bytes_field-written bytes fit, path_field-written p path ok, not_full n room, not_long (length bytes) short, new, parents) refl

pub named_reads : (xs : Blobs) (rs : List (Text × List (Path × Contents))) (ks : List (List Text × List (Path × Mark))) (n : ℕ) (t : Text) (acc : List (Path × Contents)) (p : Path) (digest bytes : List ℕ)
    → is_path p ≡ true → names_fault 0 p ≡ None → length digest ≡ 32 → IsBytes digest → find name_cmp digest xs ≡ Some bytes → n < ENTRIES → find path_cmp p acc ≡ None → has_directory acc (parent p) ≡ true
    → line_reading (above (Some xs) ((t, acc) ∷ rs) ks section.Replica n) (file_line (encode_lower digest) p) ≡ Ok (above (Some xs) ((t, (p, contents.File bytes) ∷ acc) ∷ rs) ks section.Replica (n + 1))
named_reads xs rs ks n t acc p digest bytes path ok long fit found room new parents =
    file_fields (Some xs) ((t, acc) ∷ rs) ks section.Replica n (encode_lower digest) (path_bytes p) refl (digits-in_field digest) (IsUtf8-digits digest) (IsUtf8-path p (path-place p path))
    ∙ rw (digest_field-written digest long fit, path_field-written p path ok, not_full n room, new, found, parents) refl

-- A blob.
blob_word : is_utf8 (codes "blob ") ≡ true
unfolding is_utf8 chars encode
blob_word = refl

not_many : (n : ℕ) → n < BLOBS → nat_le BLOBS n ≡ false
not_many n h = grind (arith, nat_tests)

pub blob_reads : (xs : Blobs) (n : ℕ) (digest bytes : List ℕ) → length digest ≡ 32 → IsBytes digest → bytes_eq (sha256 bytes) digest ≡ true → IsBytes bytes → length bytes ≤ FILE_BYTES → length xs < BLOBS
    → find name_cmp digest xs ≡ None
    → line_reading (above (Some xs) [] [] section.Nothing n) (blob_line (digest, bytes)) ≡ Ok (above (Some ((digest, bytes) ∷ xs)) [] [] section.Nothing n)
blob_reads xs n digest bytes long fit right whole short room new =
    rw (
      word_utf8 (codes "blob ") blob_word (encode_lower digest ++ 32 ∷ hex_field bytes) (fields_utf8 (encode_lower digest) (hex_field bytes) (IsUtf8-digits digest) (IsUtf8-hex bytes)),
      field_ends (encode_lower digest) (hex_field bytes),
      field_before (encode_lower digest) (hex_field bytes) (digits-in_field digest),
      field_after (encode_lower digest) (hex_field bytes) (digits-in_field digest),
      digest_field-written digest long fit,
      bytes_field-written bytes whole,
      not_many (length xs) room,
      not_long (length bytes) short,
      right,
      new,
    ) refl

pub blob_in_line : (digest bytes : List ℕ) → list_all in_line (blob_line (digest, bytes)) ≡ true
blob_in_line digest bytes = word_in_line (codes "blob ") (encode_lower digest ++ 32 ∷ hex_field bytes) refl (word_in_line (encode_lower digest) (32 ∷ hex_field bytes) (digits-in_line digest) (hex-in_line bytes))

pub old_dir_reads : (bs : Option Blobs) (rs : List (Text × List (Path × Contents))) (ks : List (List Text × List (Path × Mark))) (n : ℕ) (k : List Text) (acc : List (Path × Mark)) (p : Path)
    → is_path p ≡ true → names_fault 0 p ≡ None → n < ENTRIES → find path_cmp p acc ≡ None
    → line_reading (above bs rs ((k, acc) ∷ ks) section.Archive n) (dir_line p) ≡ Ok (above bs rs ((k, (p, mark.Directory) ∷ acc) ∷ ks) section.Archive (n + 1))
old_dir_reads bs rs ks n k acc p path ok room new =
    rw (dir_utf8 (path_bytes p) (IsUtf8-path p (path-place p path)), path_field-written p path ok, not_full n room, new) refl

pub old_file_reads : (bs : Option Blobs) (rs : List (Text × List (Path × Contents))) (ks : List (List Text × List (Path × Mark))) (n : ℕ) (k : List Text) (acc : List (Path × Mark)) (p : Path) (digest : List ℕ)
    → is_path p ≡ true → names_fault 0 p ≡ None → length digest ≡ 32 → IsBytes digest → n < ENTRIES → find path_cmp p acc ≡ None
    → line_reading (above bs rs ((k, acc) ∷ ks) section.Archive n) (file_line (encode_lower digest) p) ≡ Ok (above bs rs ((k, (p, mark.File digest) ∷ acc) ∷ ks) section.Archive (n + 1))
old_file_reads bs rs ks n k acc p digest path ok long fit room new =
    file_fields bs rs ((k, acc) ∷ ks) section.Archive n (encode_lower digest) (path_bytes p) refl (digits-in_field digest) (IsUtf8-digits digest) (IsUtf8-path p (path-place p path))
    ∙ rw (digest_field-written digest long fit, path_field-written p path ok, not_full n room, new) refl
