-- A text that comes in blocks is read as the whole text.
use Rattle.std.proofs.Common.{◌≡◌, ◌⊎◌, inl, inr, ⊎_elim, ℕ, ◌+◌, ◌<◌, ◌≤◌, Bool, true, false, cond, List, [], ◌∷◌, ◌++◌, length, refl, sym, ap, ◌∙◌, subst, arith, append-nil, append_assoc, length-append}
use Rattle.std.specs.Prelude.{Option, Some, None, Result, Ok, Err, IfOk, IfErr, IfSome, OnOk}
use Rattle.hub_text.specs.declared.line.Line.{Line}
use Rattle.hub_text.specs.Lines.{is_lf, lines_of, line_text, onto_first_line, ended, text_of_lines}
use Rattle.hub_text.specs.laws.Line.{text_of_lines-lines_of, text-first_line, shorter-first_line}
use Rattle.hub_state.specs.declared.fault.Fault.{Fault}
use Rattle.hub_state.specs.declared.fault.Fault.TheVariants.{OutOfMemory}
use Rattle.hub_state.specs.declared.fault.StateFault.{StateFault}
use Rattle.hub_state.specs.declared.draft.Draft.{Draft}
use Rattle.hub_state.specs.declared.reader.Prefix.{Prefix}
use Rattle.hub_state.specs.State.{State, empty_state}
use Rattle.hub_state.specs.Reading.{Above, nothing_above, state_reading, above_end, lines_reading, fault_at, state_or_fault}
use Rattle.hub_state.specs.Taking.{IsApart, nothing_taken, closed, placed, is_memory, TellsLine, numbered_taken, last_taken}
use Rattle.hub_state.specs.Blocks.{lines_taken, bytes_taken, taken_line_text, out_of_memory, LeavesLine, Leaves, Stops, ReadsOn, Stands, IsWithin}
use Rattle.hub_state.proofs.Drafts.{Holds, Same, closed_is}
use Rattle.hub_state.proofs.Taken.{numbered_same, last_same, memory_or, placed_fault}
use Rattle.hub_text.specs.Fails.{and_then}

-- Lines that a draft takes say what they say of lists of entries.
step_same : (n : ℕ) (k : Line (List ℕ)) (ls : List (Line (List ℕ))) (x : Result Above Fault) (y : Result Draft Fault) → Same x y
    → ((e : Above) (b : Draft) → Holds e b → state_or_fault (lines_reading (n + 1) e (k ∷ ls)) ≡ lines_taken (n + 1) b (k ∷ ls))
    → state_or_fault (and_then (fault_at n x) (λ e. lines_reading (n + 1) e (k ∷ ls))) ≡ and_then (fault_at n y) (λ b. lines_taken (n + 1) b (k ∷ ls))
step_same n k ls (Ok e) (Ok b) s more = more e b s.same
step_same n k ls (Ok e) (Err g) s more = absurd s.same
step_same n k ls (Err f) (Ok b) s more = absurd s.same
step_same n k ls (Err f) (Err g) s more = ap (λ (q : Fault). Err (record { line = n; fault = q })) s.same

end_same : (n : ℕ) (x : Result Above Fault) (y : Result Draft Fault) → Same x y → state_or_fault (fault_at n x) ≡ fault_at n (and_then y (λ b. Ok (closed b.state b.current)))
end_same n (Ok d) (Ok b) s = ap (λ (t : State). Ok t) (sym (closed_is d b.state b.current b.entries b.ended s.same.0))
end_same n (Ok d) (Err g) s = absurd s.same
end_same n (Err f) (Ok b) s = absurd s.same
end_same n (Err f) (Err g) s = ap (λ (q : Fault). Err (record { line = n; fault = q })) s.same

lines_same : (ls : List (Line (List ℕ))) (n : ℕ) (d : Above) (a : Draft) → Holds d a → state_or_fault (lines_reading n d ls) ≡ lines_taken n a ls
lines_same [] n d a h = refl
lines_same (l ∷ []) n d a h = end_same n _ _ (last_same n d a l h)
lines_same (l ∷ k ∷ ls) n d a h = step_same n k ls _ _ (numbered_same n d a h l.text) (λ e b g. lines_same (k ∷ ls) (n + 1) e b g)

is_read : (bytes : List ℕ) → state_reading bytes ≡ state_or_fault (above_end bytes)
unfolding state_reading
is_read bytes = refl

pub reading-taken : (a : Draft) (bytes : List ℕ) → a ≡ nothing_taken empty_state → state_reading bytes ≡ bytes_taken 1 a bytes
reading-taken a bytes start =
    is_read bytes ∙ lines_same (lines_of bytes) 1 nothing_above a (subst (λ (b : Draft). Holds nothing_above b) (sym start) (([], [], refl, refl), tt))

-- What follows a text doesn't change its lines but the last.
line_and_rest : (k l : Line (List ℕ)) (ks ls : List (Line (List ℕ))) → k ∷ ks ≡ l ∷ ls → (k ≡ l) × (ks ≡ ls)
line_and_rest k l ks ls e = ((cc), (cc))

same_text : (s t : List ℕ) → lines_of s ≡ lines_of t → s ≡ t
same_text s t e = sym (text_of_lines-lines_of s) ∙ ap text_of_lines e ∙ text_of_lines-lines_of t

abbrev FirstStays : List ℕ → Type 0
FirstStays s = (t u : List ℕ) (l : Line (List ℕ)) → lines_of s ≡ l ∷ lines_of t → 0 < length t → lines_of (s ++ u) ≡ l ∷ lines_of (t ++ u)

no_lines : (t : List ℕ) → [] ≡ lines_of t → 0 < length t → ⊥
no_lines t e some = let none : t ≡ [] = sym (same_text [] t e) in absurd (omega (arith, ap length none))

onto_stays : (c : ℕ) (cs t u : List ℕ) (l : Line (List ℕ)) (ks : List (Line (List ℕ))) → lines_of cs ≡ ks → onto_first_line c ks ≡ l ∷ lines_of t → 0 < length t → FirstStays cs
    → onto_first_line c (lines_of (cs ++ u)) ≡ l ∷ lines_of (t ++ u)
onto_stays c cs t u l [] is e some more = absurd (no_lines t (line_and_rest _ l [] (lines_of t) e).1 some)
onto_stays c cs t u l (k ∷ ks) is e some more =
    let p = line_and_rest _ l ks (lines_of t) e in
    ap (onto_first_line c) (more t u k (is ∙ ap (λ js. k ∷ js) p.1) some) ∙ ap (λ j. j ∷ lines_of (t ++ u)) p.0

pub first-stays : (s t u : List ℕ) (l : Line (List ℕ)) → lines_of s ≡ l ∷ lines_of t → 0 < length t → lines_of (s ++ u) ≡ l ∷ lines_of (t ++ u)
first-stays [] t u l e some = cc
first-stays (c ∷ cs) t u l e some = by (is_lf c) e (λ v w j f g. first-stays cs v w j f g)
  where
    by : (b : Bool) → cond b (ended [] ∷ lines_of cs) (onto_first_line c (lines_of cs)) ≡ l ∷ lines_of t → FirstStays cs
        → cond b (ended [] ∷ lines_of (cs ++ u)) (onto_first_line c (lines_of (cs ++ u))) ≡ l ∷ lines_of (t ++ u)
    by true f more =
        let p = line_and_rest (ended []) l (lines_of cs) (lines_of t) f in
        ap (λ j. j ∷ lines_of (cs ++ u)) p.0 ∙ ap (λ s. l ∷ lines_of (s ++ u)) (same_text cs t p.1)
    by false f more = onto_stays c cs t u l (lines_of cs) refl f some more

-- A text that isn't empty has a line.
some_line : (ls : List (Line (List ℕ))) → (ls ≡ [] → ⊥) → (l : Line (List ℕ)) × (ks : List (Line (List ℕ))) × (ls ≡ l ∷ ks)
some_line [] h = absurd (h refl)
some_line (l ∷ ks) h = (l, ks, refl)

first_of : (s : List ℕ) → 0 < length s → (l : Line (List ℕ)) × (ks : List (Line (List ℕ))) × (lines_of s ≡ l ∷ ks)
first_of s h = some_line (lines_of s) (λ e. no_lines s (sym e) h)

-- A line that is taken, and the first of those below.
pub record IsAt (n : ℕ) (a : Draft) (bytes : List ℕ) (m : ℕ) (b : Draft) (l : Line (List ℕ)) (below : List ℕ) : Type 0 where
  pub cut : lines_of (line_text l ++ below) ≡ l ∷ lines_of below
  pub same : (t : List ℕ) → bytes_taken n a (bytes ++ t) ≡ bytes_taken m b ((line_text l ++ below) ++ t)
  pub room : m + length (line_text l ++ below) ≤ n + length bytes

pub at-first : (n : ℕ) (a : Draft) (bytes : List ℕ) (l : Line (List ℕ)) (below : List ℕ) → lines_of bytes ≡ l ∷ lines_of below → IsAt n a bytes n a l below
at-first n a bytes l below e =
    let is : bytes ≡ line_text l ++ below = text-first_line bytes below l e in
    record {
      cut = sym (ap lines_of is) ∙ e;
      same = λ t. ap (λ s. bytes_taken n a (s ++ t)) is;
      room = omega (arith, ap length is);
    }

-- What is read of a line with others below.
taken_on : (m : ℕ) (b : Draft) (l : Line (List ℕ)) (below t : List ℕ) → lines_of (line_text l ++ below) ≡ l ∷ lines_of below → 0 < length below
    → bytes_taken m b ((line_text l ++ below) ++ t) ≡ and_then (fault_at m (numbered_taken m b l.text)) (λ c. bytes_taken (m + 1) c (below ++ t))
taken_on m b l below t cut some =
    let w = first_of (below ++ t) (omega (arith, length-append below t)) in
    ap (lines_taken m b) (first-stays (line_text l ++ below) below t l cut some ∙ ap (λ ks. l ∷ ks) w.2)
    ∙ sym (ap (λ ks. and_then (fault_at m (numbered_taken m b l.text)) (λ c. lines_taken (m + 1) c ks)) w.2)

some_below : (below rest : List ℕ) (k : Line (List ℕ)) → lines_of below ≡ k ∷ lines_of rest → 0 < length below
some_below below rest k e = omega (arith, shorter-first_line below rest k e)

pub at-next : (n : ℕ) (a : Draft) (bytes : List ℕ) (m : ℕ) (b c : Draft) (l k : Line (List ℕ)) (below rest : List ℕ) → IsAt n a bytes m b l below → lines_of below ≡ k ∷ lines_of rest
    → numbered_taken m b l.text ≡ Ok c → IsAt n a bytes (m + 1) c k rest
at-next n a bytes m b c l k below rest at e taken =
    let is : below ≡ line_text k ++ rest = text-first_line below rest k e in
    let some : 0 < length below = some_below below rest k e in
    let longer : length below < length (line_text l ++ below) = shorter-first_line (line_text l ++ below) below l at.cut in
    record {
      cut = sym (ap lines_of is) ∙ e;
      same = λ t. at.same t ∙ taken_on m b l below t at.cut some
          ∙ ap (λ (r : Result Draft Fault). and_then (fault_at m r) (λ d. bytes_taken (m + 1) d (below ++ t))) taken
          ∙ ap (λ s. bytes_taken (m + 1) c (s ++ t)) is;
      room = omega (arith, at.room, longer, ap length is);
    }

pub at-last : (n : ℕ) (a : Draft) (bytes : List ℕ) (m : ℕ) (b : Draft) (l : Line (List ℕ)) (below : List ℕ) → IsAt n a bytes m b l below → below ≡ [] → LeavesLine n a bytes m b l
at-last n a bytes m b l below at none =
    let is : line_text l ++ below ≡ line_text l = ap (λ s. line_text l ++ s) none ∙ append-nil (line_text l) in
    record {
      one = sym (ap lines_of is) ∙ at.cut ∙ ap (λ s. l ∷ lines_of s) none;
      same = λ t. at.same t ∙ ap (λ s. bytes_taken m b (s ++ t)) is;
      room = omega (arith, at.room, ap length is);
    }

pub at-fault : (n : ℕ) (a : Draft) (bytes : List ℕ) (m : ℕ) (b : Draft) (l k : Line (List ℕ)) (below rest : List ℕ) (e : StateFault) → IsAt n a bytes m b l below → lines_of below ≡ k ∷ lines_of rest
    → TellsLine m (numbered_taken m b l.text) e → Stops n a bytes e
at-fault n a bytes m b l k below rest e at more tells = by (memory_or tells.0) tells.2
  where
    by : (tells.0 ≡ OutOfMemory) ⊎ (is_memory tells.0 ≡ false) → (tells.0 ≡ OutOfMemory) ⊎ (numbered_taken m b l.text ≡ Err tells.0) → Stops n a bytes e
    by (inl o) h = inl (tells.1 ∙ ap (placed m) o)
    by (inr o) (inl h) = inl (tells.1 ∙ ap (placed m) h)
    by (inr o) (inr h) =
        inr (λ t. at.same t ∙ taken_on m b l below t at.cut (some_below below rest k more)
        ∙ ap (λ (r : Result Draft Fault). and_then (fault_at m r) (λ d. bytes_taken (m + 1) d (below ++ t))) h
        ∙ ap Err (sym (tells.1 ∙ ap (λ w. record { line = cond w 0 m; fault = tells.0 }) o)))

-- The last line.
whole_taken : (n : ℕ) (a : Draft) (bytes : List ℕ) (m : ℕ) (b : Draft) (l : Line (List ℕ)) → LeavesLine n a bytes m b l → bytes_taken n a bytes ≡ fault_at m (last_taken m b l.is_ended l.text)
whole_taken n a bytes m b l left =
    ap (bytes_taken n a) (sym (append-nil bytes)) ∙ left.same [] ∙ ap (bytes_taken m b) (append-nil (line_text l)) ∙ ap (lines_taken m b) left.one

pub last-Ok : (n : ℕ) (a : Draft) (bytes : List ℕ) (m : ℕ) (b : Draft) (l : Line (List ℕ)) (r : Result State StateFault) → LeavesLine n a bytes m b l → IfOk r (λ s. last_taken m b l.is_ended l.text ≡ Ok s)
    → IfOk r (λ s. bytes_taken n a bytes ≡ Ok s)
last-Ok n a bytes m b l (Ok s) left h = whole_taken n a bytes m b l left ∙ ap (fault_at m) h
last-Ok n a bytes m b l (Err e) left h = tt

pub last-Err : (n : ℕ) (a : Draft) (bytes : List ℕ) (m : ℕ) (b : Draft) (l : Line (List ℕ)) (r : Result State StateFault) → LeavesLine n a bytes m b l → IfErr r (λ e. TellsLine m (last_taken m b l.is_ended l.text) e)
    → IfErr r (λ e. (e ≡ out_of_memory) ⊎ (bytes_taken n a bytes ≡ Err e))
last-Err n a bytes m b l (Ok s) left h = tt
last-Err n a bytes m b l (Err e) left h =
    placed_fault m h.0 e (bytes_taken n a bytes) h.1 (⊎_elim inl (λ f. inr (whole_taken n a bytes m b l left ∙ ap (fault_at m) f)) h.2)

pub stops-whole : (n : ℕ) (a : Draft) (bytes : List ℕ) (e : StateFault) → Stops n a bytes e → (e ≡ out_of_memory) ⊎ (bytes_taken n a bytes ≡ Err e)
stops-whole n a bytes e h = ⊎_elim inl (λ f. inr (ap (bytes_taken n a) (sym (append-nil bytes)) ∙ f [])) h

-- One more block.
pub continues-block : (bytes block : List ℕ) (p q : Prefix) → ReadsOn bytes p → q.number ≡ p.number → q.draft ≡ p.draft → q.rest.items ≡ p.rest.items ++ block → ReadsOn (bytes ++ block) q
continues-block bytes block p q c number draft rest = record {
  same = λ t. ap state_reading (append_assoc bytes block t) ∙ c.same (block ++ t)
      ∙ ap (bytes_taken p.number p.draft) (sym (append_assoc p.rest.items block t))
      ∙ sym (ap (λ n. bytes_taken n q.draft (q.rest.items ++ t)) number ∙ ap (λ a. bytes_taken p.number a (q.rest.items ++ t)) draft ∙ ap (λ s. bytes_taken p.number p.draft (s ++ t)) rest);
}

-- The lines that have come are taken.
pub continues-lines : (bytes : List ℕ) (p q : Prefix) (o : Option (Line (List ℕ))) → ReadsOn bytes p → Leaves p.number p.draft p.rest.items q.number q.draft o → q.rest.items ≡ taken_line_text o → ReadsOn bytes q
continues-lines bytes p q None c left rest = record {
  same = λ t. c.same t ∙ ap (λ s. bytes_taken p.number p.draft (s ++ t)) left.0
      ∙ sym (ap (λ n. bytes_taken n q.draft (q.rest.items ++ t)) left.1 ∙ ap (λ a. bytes_taken p.number a (q.rest.items ++ t)) left.2 ∙ ap (λ s. bytes_taken p.number p.draft (s ++ t)) rest);
}
continues-lines bytes p q (Some l) c left rest = record {
  same = λ t. c.same t ∙ left.same t ∙ ap (λ s. bytes_taken q.number q.draft (s ++ t)) (sym rest);
}

pub stands-longer : (bytes block : List ℕ) (e : StateFault) → (e ≡ out_of_memory) ⊎ ((t : List ℕ) → state_reading (bytes ++ t) ≡ Err e)
    → (e ≡ out_of_memory) ⊎ ((t : List ℕ) → state_reading ((bytes ++ block) ++ t) ≡ Err e)
stands-longer bytes block e h = ⊎_elim inl (λ f. inr (λ t. ap state_reading (append_assoc bytes block t) ∙ f (block ++ t))) h

pub stands-same : {T : Type 0} (bytes block other : List ℕ) (p : Prefix) (r : Result T StateFault) → Stands (bytes ++ block) p r → block ≡ other → Stands (bytes ++ other) p r
stands-same bytes block other p r h is = subst (λ (b : List ℕ). Stands (bytes ++ b) p r) is h

pub continues-begun : (p : Prefix) → p.number ≡ 1 → p.draft ≡ nothing_taken empty_state → p.rest.items ≡ [] → ReadsOn [] p
continues-begun p number draft rest = record {
  same = λ t. reading-taken p.draft t draft ∙ sym (ap (λ n. bytes_taken n p.draft (p.rest.items ++ t)) number ∙ ap (λ s. bytes_taken 1 p.draft (s ++ t)) rest);
}

-- The whole text has come.
whole_read : (bytes : List ℕ) (p : Prefix) → ReadsOn bytes p → state_reading bytes ≡ bytes_taken p.number p.draft p.rest.items
whole_read bytes p c = ap state_reading (sym (append-nil bytes)) ∙ c.same [] ∙ ap (bytes_taken p.number p.draft) (append-nil p.rest.items)

pub stands-Ok : (bytes : List ℕ) (p : Prefix) (r : Result State StateFault) → ReadsOn bytes p → IfOk r (λ s. bytes_taken p.number p.draft p.rest.items ≡ Ok s) → IfOk r (λ s. state_reading bytes ≡ Ok s)
stands-Ok bytes p (Ok s) c h = whole_read bytes p c ∙ h
stands-Ok bytes p (Err e) c h = tt

pub stands-Err : (bytes : List ℕ) (p : Prefix) (r : Result State StateFault) → ReadsOn bytes p → IfErr r (λ e. (e ≡ out_of_memory) ⊎ (bytes_taken p.number p.draft p.rest.items ≡ Err e))
    → IfErr r (λ e. (e ≡ out_of_memory) ⊎ (state_reading bytes ≡ Err e))
stands-Err bytes p (Ok s) c h = tt
stands-Err bytes p (Err e) c h = ⊎_elim inl (λ f. inr (whole_read bytes p c ∙ f)) h

pub stands-fault : (bytes : List ℕ) (e : StateFault) → (e ≡ out_of_memory) ⊎ ((t : List ℕ) → state_reading (bytes ++ t) ≡ Err e) → (e ≡ out_of_memory) ⊎ (state_reading bytes ≡ Err e)
stands-fault bytes e h = ⊎_elim inl (λ f. inr (ap state_reading (sym (append-nil bytes)) ∙ f [])) h

-- What the bytes are of which a text is read.
pub known : (o : Option (List ℕ)) (read : List ℕ) (r : Result State StateFault) → IfSome o (λ bytes. read ≡ bytes) → state_reading read ≡ r → IfSome o (λ bytes. state_reading bytes ≡ r)
known None read r h e = tt
known (Some bytes) read r h e = sym (ap state_reading h) ∙ e

-- How many lines and bytes there may be.
pub within-begun : (p : Prefix) → p.number ≡ 1 → p.draft ≡ nothing_taken empty_state → p.rest.items ≡ [] → IsWithin p 1
within-begun p number draft rest = record {
  apart = subst (λ (a : Draft). IsApart a.current) (sym draft) tt;
  room = omega (arith, number, ap length rest);
}

pub within-block : {T : Type 0} (s r : Result T StateFault) (p q : Prefix) (k m : ℕ) (block other : List ℕ) → OnOk s (IsWithin p k) → OnOk r (OnOk s (IsWithin q (p.number + length p.rest.items + length block)))
    → IfErr s (λ e. r ≡ Err e) → block ≡ other → k + length other ≤ m → OnOk r (IsWithin q m)
within-block (Ok u) (Ok v) p q k m block other h g x is le = record { apart = g.apart; room = omega (arith, g.room, h.room, ap length is, le) }
within-block (Ok u) (Err e) p q k m block other h g x is le = tt
within-block (Err f) (Ok v) p q k m block other h g x is le = let w : Err f ≡ Ok v = sym x in cc
within-block (Err f) (Err e) p q k m block other h g x is le = tt
