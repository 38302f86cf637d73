-- The lines of a text, taken one after the other.
use Rattle.std.proofs.Common.{◌≡◌, ◌⊎◌, inl, inr, ℕ, ◌==◌, Bool, true, false, not, ◌&&◌, cond, List, [], refl, sym, ap, ◌∙◌}
use Rattle.std.specs.Prelude.{Result, Ok, Err, Some, IfOk, IfErr, bytes_eq}
use Rattle.std.specs.FinMap as fin
use Rattle.hub_path.specs.Path.{name_cmp}
use Rattle.hub_text.specs.declared.line.Line.{Line}
use Rattle.hub_state.specs.declared.fault.Fault.{Fault}
use Rattle.hub_state.specs.declared.fault.Fault.TheVariants.{BadHeader, BadLine, BadPath, BadHex, NoParent, Repeated, TooLarge, Truncated, ReadFailed, WriteFailed, TurnsSpent, OutOfMemory, UnknownBlob, WrongDigest}
use Rattle.hub_state.specs.declared.fault.StateFault.{StateFault}
use Rattle.hub_state.specs.declared.draft.Draft.{Draft}
use Rattle.hub_state.specs.declared.form.Version.TheVariants.{One, Two}
use Rattle.hub_state.specs.State.{State}
use Rattle.hub_state.specs.Writing.{state_header, end_line}
use Rattle.hub_state.specs.Reading.{Above, line_reading, unless, is_truncated, header_reading, numbered_reading}
use Rattle.hub_state.specs.Taking.{is_memory, placed, header_taken, numbered_taken, line_taken}
use Rattle.hub_state.specs.Devices.{reports}
use Rattle.hub_state.proofs.Drafts.{Holds, Same, same-unless, holds_other_blobs, ended_is, line_same}

-- The header names the version for both.
header_same : (d : Above) (a : Draft) → Holds d a → (l : List ℕ) → Same (header_reading d l) (header_taken a l)
header_same d a h l = by (bytes_eq l (state_header One))
  where
    by : (b : Bool)
        → Same (cond b (Ok d) (unless (not (bytes_eq l (state_header Two))) BadHeader (Ok (record d { blobs = Some [] }))))
        (cond b (Ok a) (unless (not (bytes_eq l (state_header Two))) BadHeader (Ok (record a { blobs = Some fin.empty }))))
    by true = record { same = h }
    by false =
        same-unless (not (bytes_eq l (state_header Two))) (not (bytes_eq l (state_header Two))) BadHeader (Ok (record d { blobs = Some [] })) (Ok (record a { blobs = Some fin.empty })) refl
        (record { same = (holds_other_blobs d a.state a.current a.entries a.ended (Some []) h.0, (refl, fin.len-empty name_cmp (List ℕ))) })

pub numbered_same : (n : ℕ) (d : Above) (a : Draft) → Holds d a → (l : List ℕ) → Same (numbered_reading n d l) (numbered_taken n a l)
numbered_same n d a h l = by (n == 1)
  where
    by : (b : Bool) → Same (cond b (header_reading d l) (line_reading d l)) (cond b (header_taken a l) (line_taken a l))
    by true = header_same d a h l
    by false = line_same d a h l

-- The last line.
pub last_same : (n : ℕ) (d : Above) (a : Draft) (l : Line (List ℕ)) → Holds d a
    → Same (unless (is_truncated l.is_ended d l.text) Truncated (numbered_reading n d l.text)) (unless (not (bytes_eq l.text end_line) && not (l.is_ended && a.ended)) Truncated (numbered_taken n a l.text))
last_same n d a l h =
    same-unless _ _ Truncated _ _ (ap (λ e. not (bytes_eq l.text end_line) && not (l.is_ended && e)) (ended_is d a h)) (numbered_same n d a h l.text)

-- Where a fault is reported.
pub memory_or : (f : Fault) → (f ≡ OutOfMemory) ⊎ (is_memory f ≡ false)
memory_or BadHeader = inr refl
memory_or BadLine = inr refl
memory_or BadPath = inr refl
memory_or BadHex = inr refl
memory_or NoParent = inr refl
memory_or Repeated = inr refl
memory_or TooLarge = inr refl
memory_or Truncated = inr refl
memory_or ReadFailed = inr refl
memory_or WriteFailed = inr refl
memory_or TurnsSpent = inr refl
memory_or OutOfMemory = inl refl
memory_or UnknownBlob = inr refl
memory_or WrongDigest = inr refl

pub placed_fault : (n : ℕ) (f : Fault) (x : StateFault) (r : Result State StateFault) → x ≡ placed n f → (f ≡ OutOfMemory) ⊎ (r ≡ Err (record { line = n; fault = f }))
    → (x ≡ record { line = 0; fault = OutOfMemory }) ⊎ (r ≡ Err x)
placed_fault n f x r e (inl m) = inl (e ∙ ap (placed n) m)
placed_fault n f x r e (inr h) = by (memory_or f)
  where
    by : (f ≡ OutOfMemory) ⊎ (is_memory f ≡ false) → (x ≡ record { line = 0; fault = OutOfMemory }) ⊎ (r ≡ Err x)
    by (inl m) = inl (e ∙ ap (placed n) m)
    by (inr o) = inr (h ∙ ap Err (sym (e ∙ ap (λ b. record { line = cond b 0 n; fault = f }) o)))

-- What follows of the value of a result, and of its fault.
pub Ok-then : {T E : Type 0} (r : Result T E) (P Q : T → Type 0) → ((x : T) → P x → Q x) → IfOk r P → IfOk r Q
Ok-then (Ok x) P Q f h = f x h
Ok-then (Err e) P Q f h = tt

pub Err-then : {T E : Type 0} (r : Result T E) (P Q : E → Type 0) → ((e : E) → P e → Q e) → IfErr r P → IfErr r Q
Err-then (Ok x) P Q f h = tt
Err-then (Err e) P Q f h = f e h

pub quiet-then : {T : Type 0} (f : Fault → Bool) (r : Result T StateFault) → IfErr r (λ e. f e.fault ≡ false) → reports f r ≡ false
quiet-then f (Ok x) h = refl
quiet-then f (Err e) h = h
