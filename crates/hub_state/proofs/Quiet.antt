-- No line of a text reports a failed read, or that the reads ended before the input.
use Rattle.std.proofs.Common.{◌≡◌, ◌⊎◌, inl, inr, ℕ, ◌+◌, Bool, true, false, cond, List, [], ◌∷◌, refl, sym, ap, ◌∙◌}
use Rattle.std.specs.Prelude.{Option, Some, None, Result, Ok, Err}
use Rattle.std.specs.List.{before_first, after_first}
use Rattle.std.specs.Str.{is_utf8}
use Rattle.std.proofs.lemmas.Bool.{or_parts}
use Rattle.hub_text.specs.Lines.{lines_of}
use Rattle.hub_text.specs.declared.line.Line.{Line as TextLine}
use Rattle.hub_path.specs.Path.{Path}
use Rattle.hub_tree.specs.declared.contents.Contents.{Contents}
use Rattle.hub_tree.specs.declared.contents.Contents.TheVariants as contents
use Rattle.hub_tree.specs.declared.contents.Mark.{Mark}
use Rattle.hub_tree.specs.declared.contents.Mark.TheVariants as mark
use Rattle.hub_state.specs.declared.fault.Fault.{Fault}
use Rattle.hub_state.specs.declared.fault.Fault.TheVariants.{BadHeader, BadLine, BadPath, BadHex, NoParent, Repeated, TooLarge, Truncated, OutOfMemory, UnknownBlob, WrongDigest}
use Rattle.hub_state.specs.declared.fault.StateFault.{StateFault}
use Rattle.hub_state.specs.declared.form.Form.{Form}
use Rattle.hub_state.specs.declared.form.Form.TheVariants as form
use Rattle.hub_state.specs.declared.form.Section.{Section}
use Rattle.hub_state.specs.declared.form.Section.TheVariants as section
use Rattle.hub_state.specs.Devices.{is_read_failed, is_turns_spent, is_unread, says, reports}
use Rattle.hub_state.specs.State.{Text}
use Rattle.hub_state.specs.Reading.{Above, Blobs, with_new_entry, with_blob_named, blob_found, with_file, with_blob_put, with_blob, Line, line_of, or_else, unless, root_field, path_field, bytes_field, digest_field, with_other_root, with_contents_put, with_mark_put, with_dir, with_fields, with_line, with_line_of, numbered_reading, lines_reading, fault_at, nothing_above, above_end, state_or_fault, state_reading}
use Rattle.hub_text.specs.Blanks.{is_space}
use Rattle.hub_text.specs.Fails.{and_then}

record Quiet {T : Type 0} (r : Result T Fault) : Type 0 where
  quiet : says is_unread r ≡ false

nothing_said : {T : Type 0} → (x : T) → Quiet {T = T} (Ok x)
nothing_said x = record { quiet = refl }

another_said : {T : Type 0} → (f : Fault) → is_unread f ≡ false → Quiet {T = T} (Err f)
another_said f h = record { quiet = h }

unless-quiet : {T : Type 0} (b : Bool) (f : Fault) (r : Result T Fault) → is_unread f ≡ false → Quiet r → Quiet (unless b f r)
unless-quiet true f r h k = another_said f h
unless-quiet false f r h k = k

then-quiet : {T U : Type 0} (r : Result T Fault) (f : T → Result U Fault) → Quiet r → ((x : T) → Quiet (f x)) → Quiet (and_then r f)
then-quiet (Ok x) f h k = k x
then-quiet (Err e) f h k = another_said e h.quiet

else-quiet : {T E : Type 0} (f : Fault) (r : Result T E) → is_unread f ≡ false → Quiet (or_else f r)
else-quiet f (Ok x) h = nothing_said x
else-quiet f (Err e) h = another_said f h

cond-quiet : {T : Type 0} (b : Bool) (r s : Result T Fault) → Quiet r → Quiet s → Quiet (cond b r s)
cond-quiet true r s h k = h
cond-quiet false r s h k = k

root-quiet : (t : List ℕ) → Quiet (root_field t)
root-quiet t = else-quiet BadPath _ refl

path-quiet : (t : List ℕ) → Quiet (path_field t)
path-quiet t = else-quiet BadPath _ refl

bytes-quiet : (t : List ℕ) → Quiet (bytes_field t)
bytes-quiet t = cond-quiet _ _ _ (nothing_said _) (unless-quiet _ BadHex _ refl (else-quiet BadHex _ refl))

digest-quiet : (t : List ℕ) → Quiet (digest_field t)
digest-quiet t = unless-quiet _ BadHex _ refl (else-quiet BadHex _ refl)

other-quiet : (d : Above) (s : Section) (r : Path) → Quiet (with_other_root d s r)
other-quiet d section.Nothing r = another_said BadLine refl
other-quiet d section.Replica r = another_said BadLine refl
other-quiet d (section.HalfArchive q) r = unless-quiet _ BadLine _ refl (unless-quiet _ Repeated _ refl (nothing_said _))
other-quiet d section.Archive r = another_said BadLine refl

new-quiet : (d : Above) (p : Path) (c : Contents) (e : Text × List (Path × Contents)) (es : List (Text × List (Path × Contents))) → Quiet (with_new_entry d p c e es)
new-quiet d p c e es = unless-quiet _ NoParent _ refl (nothing_said _)

contents-quiet : (d : Above) (p : Path) (c : Contents) (rs : List (Text × List (Path × Contents))) → Quiet (with_contents_put d p c rs)
contents-quiet d p c [] = another_said BadLine refl
contents-quiet d p c (e ∷ es) = unless-quiet _ Repeated _ refl (new-quiet d p c e es)

found-quiet : (o : Option (List ℕ)) → Quiet (blob_found o)
found-quiet None = another_said UnknownBlob refl
found-quiet (Some bytes) = nothing_said bytes

named-quiet : (d : Above) (p : Path) (o : Option (List ℕ)) (rs : List (Text × List (Path × Contents))) → Quiet (with_blob_named d p o rs)
named-quiet d p o [] = another_said BadLine refl
named-quiet d p o (e ∷ es) = unless-quiet _ Repeated _ refl (then-quiet (blob_found o) _ (found-quiet o) (λ bytes. new-quiet d p (contents.File bytes) e es))

mark-quiet : (d : Above) (p : Path) (c : Mark) (ks : List (List Text × List (Path × Mark))) → Quiet (with_mark_put d p c ks)
mark-quiet d p c [] = another_said BadLine refl
mark-quiet d p c (e ∷ es) = unless-quiet _ Repeated _ refl (nothing_said _)

dir-quiet : (d : Above) (s : Section) (p : Path) → Quiet (with_dir d s p)
dir-quiet d section.Nothing p = another_said BadLine refl
dir-quiet d section.Replica p = unless-quiet _ TooLarge _ refl (contents-quiet d p contents.Directory d.replicas)
dir-quiet d (section.HalfArchive q) p = another_said BadLine refl
dir-quiet d section.Archive p = unless-quiet _ TooLarge _ refl (mark-quiet d p mark.Directory d.archives)

file-quiet : (d : Above) (o : Option Blobs) (f t : List ℕ) → Quiet (with_file d o f t)
file-quiet d None f t =
    then-quiet (bytes_field f) _ (bytes-quiet f) (λ bytes. then-quiet (path_field t) _ (path-quiet t) (λ p.
    unless-quiet _ TooLarge _ refl (contents-quiet d p (contents.File bytes) d.replicas)))
file-quiet d (Some bs) f t =
    then-quiet (digest_field f) _ (digest-quiet f) (λ digest. then-quiet (path_field t) _ (path-quiet t) (λ p.
    unless-quiet _ TooLarge _ refl (named-quiet d p _ d.replicas)))

put-quiet : (d : Above) (bs : Blobs) (digest bytes : List ℕ) → Quiet (with_blob_put d bs digest bytes)
put-quiet d bs digest bytes = unless-quiet _ TooLarge _ refl (unless-quiet _ WrongDigest _ refl (unless-quiet _ Repeated _ refl (nothing_said _)))

blob-quiet : (d : Above) (o : Option Blobs) (t : List ℕ) → Quiet (with_blob d o t)
blob-quiet d None t = another_said BadLine refl
blob-quiet d (Some bs) t =
    unless-quiet _ BadLine _ refl (then-quiet (digest_field (before_first is_space t)) _ (digest-quiet (before_first is_space t)) (λ digest.
    then-quiet (bytes_field (after_first is_space t)) _ (bytes-quiet (after_first is_space t)) (λ bytes. put-quiet d bs digest bytes)))

fields-quiet : (d : Above) (s : Section) (f t : List ℕ) → Quiet (with_fields d s f t)
fields-quiet d section.Nothing f t = another_said BadLine refl
fields-quiet d section.Replica f t = file-quiet d d.blobs f t
fields-quiet d (section.HalfArchive q) f t = another_said BadLine refl
fields-quiet d section.Archive f t =
    then-quiet (digest_field f) _ (digest-quiet f) (λ digest. then-quiet (path_field t) _ (path-quiet t) (λ p.
    unless-quiet _ TooLarge _ refl (mark-quiet d p (mark.File digest) d.archives)))

form-quiet : (d : Above) (f : Form) (t : List ℕ) → Quiet (with_line d f t)
form-quiet d form.Blob t = blob-quiet d d.blobs t
form-quiet d form.Replica t = then-quiet (root_field t) _ (root-quiet t) (λ r. unless-quiet _ Repeated _ refl (nothing_said _))
form-quiet d form.Archive t = then-quiet (root_field t) _ (root-quiet t) (λ r. nothing_said _)
form-quiet d form.With t = then-quiet (root_field t) _ (root-quiet t) (λ r. other-quiet d d.section r)
form-quiet d form.Dir t = then-quiet (path_field t) _ (path-quiet t) (λ p. dir-quiet d d.section p)
form-quiet d form.File t = unless-quiet _ BadLine _ refl (fields-quiet d d.section _ _)
form-quiet d form.End t = nothing_said _

line_of-quiet : (d : Above) (o : Option Line) → Quiet (with_line_of d o)
line_of-quiet d None = another_said BadLine refl
line_of-quiet d (Some l) = unless-quiet _ BadLine _ refl (form-quiet d l.form l.rest)

numbered-quiet : (n : ℕ) (d : Above) (l : List ℕ) → Quiet (numbered_reading n d l)
numbered-quiet n d l = cond-quiet _ _ _ (cond-quiet _ _ _ (nothing_said _) (unless-quiet _ BadHeader _ refl (nothing_said _))) (cond-quiet (is_utf8 l) _ _ (line_of-quiet d (line_of l)) (another_said BadLine refl))

at-quiet : {T : Type 0} (n : ℕ) (r : Result T Fault) → Quiet r → reports is_unread (fault_at n r) ≡ false
at-quiet n (Ok x) h = refl
at-quiet n (Err f) h = h.quiet

lines_then-quiet : (r : Result Above StateFault) (f : Above → Result Above StateFault) → reports is_unread r ≡ false → ((d : Above) → reports is_unread (f d) ≡ false) → reports is_unread (and_then r f) ≡ false
lines_then-quiet (Ok d) f h k = k d
lines_then-quiet (Err e) f h k = h

lines-quiet : (ls : List (TextLine (List ℕ))) (n : ℕ) (d : Above) → reports is_unread (lines_reading n d ls) ≡ false
lines-quiet [] n d = refl
lines-quiet (l ∷ []) n d = at-quiet n _ (unless-quiet _ Truncated _ refl (numbered-quiet n d l.text))
lines-quiet (l ∷ k ∷ ls) n d = lines_then-quiet _ _ (at-quiet n _ (numbered-quiet n d l.text)) (λ e. lines-quiet (k ∷ ls) (n + 1) e)

state-quiet : (r : Result Above StateFault) → reports is_unread r ≡ false → reports is_unread (state_or_fault r) ≡ false
state-quiet (Ok d) h = refl
state-quiet (Err e) h = h

pub reading-quiet : (bytes : List ℕ) (e : StateFault) → state_reading bytes ≡ Err e → is_unread e.fault ≡ false
unfolding state_reading
reading-quiet bytes e h = ap (reports is_unread) (sym h) ∙ state-quiet (above_end bytes) (lines-quiet (lines_of bytes) 1 nothing_above)

-- The fault of a text, or that memory ran out, is neither.
pub fault-unread : (bytes : List ℕ) (e : StateFault) → (e ≡ record { line = 0; fault = OutOfMemory }) ⊎ (state_reading bytes ≡ Err e) → is_unread e.fault ≡ false
fault-unread bytes e (inl m) = ap (λ (x : StateFault). is_unread x.fault) m
fault-unread bytes e (inr h) = reading-quiet bytes e h

pub fault-quiet : (bytes : List ℕ) (e : StateFault) → (e ≡ record { line = 0; fault = OutOfMemory }) ⊎ (state_reading bytes ≡ Err e) → is_read_failed e.fault ≡ false
fault-quiet bytes e h = (or_parts (is_read_failed e.fault) (is_turns_spent e.fault) (fault-unread bytes e h)).0

pub fault-unspent : (bytes : List ℕ) (e : StateFault) → (e ≡ record { line = 0; fault = OutOfMemory }) ⊎ (state_reading bytes ≡ Err e) → is_turns_spent e.fault ≡ false
fault-unspent bytes e h = (or_parts (is_read_failed e.fault) (is_turns_spent e.fault) (fault-unread bytes e h)).1
