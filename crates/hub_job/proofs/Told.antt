-- What the entries of a log tell of the Looks that wait.
use Rattle.std.proofs.Common.{◌≡◌, ◌≤◌, ◌+◌, Bool, true, false, cond, not, ◌&&◌, ◌||◌, List, [], ◌∷◌, ◌++◌, length, map, take, drop, Option, Some, None, refl, ap, sym, ◌∙◌, subst, append-nil, append_assoc, arith}
use Rattle.std.specs.Prelude.{ℕ, zero, suc, ◌==◌, slice_get, filter, find, fold, unwrap_or}
use Rattle.std.specs.List.{list_any, flat_map, AllByRecursion}
use Rattle.std.specs.List.Sorted.{IsStrictlySortedBy}
use Rattle.std.proofs.lemmas.Bool.{false≢true, and_parts, eqb-true, eqb-false, not-true}
use Rattle.std.proofs.lemmas.Grind.{flat_map-append}
use Rattle.std.proofs.lemmas.Option.{slice_get_past}
use Rattle.std.proofs.Math.Bool.{or-true}
use Rattle.hub_reconcile.specs.laws.Ascend.{ascending_sorted}
use Rattle.hub_reconcile.specs.laws.Views.{apart_from, paths_same}
use Rattle.hub_path.specs.Path.{Path, path_cmp, path_eq, ascending, children_named}
use Rattle.hub_path.specs.declared.side.Side.{Side}
use Rattle.hub_path.specs.declared.side.Side.TheVariants.{Left, Right}
use Rattle.hub_profile.specs.Parts.{Parts}
use Rattle.hub_reach.specs.Reach.{reach}
use Rattle.hub_tree.specs.Tree.{Archive}
use Rattle.hub_reconcile.specs.Sight.{Sight}
use Rattle.hub_reconcile.specs.Picture.{first_looks, needed, was_seen}
use Rattle.hub_job.specs.declared.op.Op.{Op}
use Rattle.hub_job.specs.declared.op.Op.TheVariants.{Look, Fetch, Set}
use Rattle.hub_job.specs.declared.op.Next.{Next}
use Rattle.hub_job.specs.declared.op.Next.TheVariants.{Ask, Finished, Stopped}
use Rattle.hub_job.specs.declared.answer.Answer.{Answer}
use Rattle.hub_job.specs.declared.answer.Answer.TheVariants.{Seen, Bytes, Done, Refused}
use Rattle.hub_job.specs.declared.log.Logged.{Logged}
use Rattle.hub_job.specs.declared.looks.Looks.{Looks}
use Rattle.hub_job.specs.Machine.{Fits}
use Rattle.hub_job.specs.Job.{told, sights, missing, is_refused, is_look, Step, contents_with, op_of, ask, step_or_end, look_or, next}
use Rattle.hub_job.specs.Run.{Runs}
use Rattle.hub_job.specs.forms.Waiting.{put_all, looks_for, put_kept}
use Rattle.hub_job.specs.Phase.{IsWaiting, told_to, told_on, told_more, look_at, first_look, are_looks, AreLooks, AreLooksOf}
use Rattle.hub_job.proofs.Waits.{AllBefore, ascending-append, ascending_is, put_all-append, all_before, children_wait, find_behind}
use Rattle.hub_job.proofs.Performs.{any_middle, past_all}
use Rattle.hub_job.specs.laws.Logs.{sights_own, sights_other}
use Rattle.hub_reconcile.specs.Merge.{seen_paths}

-- One more Look.
abbrev kids : Path × Sight → List Path
kids s = map (λ n. s.0 ++ n ∷ []) s.1.names

needed_more : (P : Parts) (ss : List (Path × Sight)) (s : Path × Sight) → needed P (ss ++ s ∷ []) ≡ put_all (needed P ss) (children_named s.0 s.1.names)
needed_more P ss s =
    ap (λ ps. ascending (first_looks P ++ ps)) (flat_map-append kids ss (s ∷ []) ∙ ap (λ ps. flat_map kids ss ++ ps) (append-nil (kids s)))
    ∙ (ap ascending (sym (append_assoc (first_looks P) (flat_map kids ss) (kids s)))
    ∙ ascending-append (first_looks P ++ flat_map kids ss) (kids s))

seen-push : (ss : List (Path × Sight)) (s : Path × Sight) → seen_paths (ss ++ s ∷ []) ≡ seen_paths ss ++ s.0 ∷ []
seen-push [] s = refl
seen-push (t ∷ ss) s = ap (λ ps. t.0 ∷ ps) (seen-push ss s)

pub sorted_needed : (P : Parts) (ss : List (Path × Sight)) (qs : List Path) → needed P ss ≡ seen_paths ss ++ qs → IsStrictlySortedBy path_cmp (seen_paths ss ++ qs)
sorted_needed P ss qs w = subst (λ ps. IsStrictlySortedBy path_cmp ps) w (ascending_sorted (first_looks P ++ flat_map kids ss))

waiting_more : (P : Parts) (ss : List (Path × Sight)) (s : Path × Sight) (qs : List Path) → needed P ss ≡ seen_paths ss ++ s.0 ∷ qs
    → needed P (ss ++ s ∷ []) ≡ seen_paths (ss ++ s ∷ []) ++ put_all qs (children_named s.0 s.1.names)
waiting_more P ss s qs w =
    needed_more P ss s
    ∙ (ap (λ ps. put_all ps (children_named s.0 s.1.names)) w
    ∙ (children_wait (seen_paths ss) qs s.0 s.1.names (sorted_needed P ss (s.0 ∷ qs) w)
    ∙ ap (λ ps. ps ++ put_all qs (children_named s.0 s.1.names)) (sym (seen-push ss s))))

told_look : (P : Parts) (log : List Logged) (e : Logged) (k : Side) (d : Path) (qs : List Path) (a : Answer) → sights (log ++ e ∷ []) k ≡ sights log k ++ told (Look d) a → Fits (Look d) a
    → IsWaiting P log k (d ∷ qs) → IsWaiting P (log ++ e ∷ []) k (told_to (d ∷ qs) (Look d) a)
told_look P log e k d qs (Seen v) s fits w =
    subst (λ ss. needed P ss ≡ seen_paths ss ++ put_all qs (children_named d v.names)) (sym s) (waiting_more P (sights log k) (d, v) qs w)
told_look P log e k d qs (Bytes b) s fits w = absurd fits
told_look P log e k d qs Done s fits w = absurd fits
told_look P log e k d qs (Refused f) s fits w = absurd fits

not_told : (P : Parts) (log : List Logged) (e : Logged) (k : Side) (qs : List Path) → sights (log ++ e ∷ []) k ≡ sights log k → IsWaiting P log k qs → IsWaiting P (log ++ e ∷ []) k qs
not_told P log e k qs s w = subst (λ ss. needed P ss ≡ seen_paths ss ++ qs) (sym s) w

-- The first that waits is what is missing.
not_seen : (ss : List (Path × Sight)) (p : Path) → AllBefore (seen_paths ss) p → was_seen ss p ≡ false
not_seen [] p a = refl
not_seen (s ∷ ss) p a = ap (λ b. b || was_seen ss p) (apart_from s.0 p a.0) ∙ not_seen ss p a.1

seen_middle : (front rest : List (Path × Sight)) (s : Path × Sight) → was_seen (front ++ s ∷ rest) s.0 ≡ true
seen_middle [] rest s = ap (λ b. b || was_seen rest s.0) (paths_same s.0)
seen_middle (t ∷ front) rest s = ap (λ b. path_eq t.0 s.0 || b) (seen_middle front rest s) ∙ or-true (path_eq t.0 s.0)

all_seen : (front rest : List (Path × Sight)) → AllByRecursion (λ p. not (was_seen (front ++ rest) p) ≡ false) (seen_paths rest)
all_seen front [] = tt
all_seen front (s ∷ rest) = (
  ap not (seen_middle front rest s),
  subst (λ ss. AllByRecursion (λ p. not (was_seen ss p) ≡ false) (seen_paths rest)) (append_assoc front (s ∷ []) rest) (all_seen (front ++ s ∷ []) rest),
)

head_missing : (P : Parts) (ss : List (Path × Sight)) (qs : List Path) → IsStrictlySortedBy path_cmp (seen_paths ss ++ qs) → find (λ p. not (was_seen ss p)) qs ≡ slice_get qs 0
head_missing P ss [] s = refl
head_missing P ss (q ∷ qs) s = ap (λ b. cond (not b) (Some q) (find (λ p. not (was_seen ss p)) qs)) (not_seen ss q (all_before (seen_paths ss) qs q s))

pub missing_is : (P : Parts) (log : List Logged) (k : Side) (qs : List Path) → IsWaiting P log k qs → missing P log k ≡ slice_get qs 0
missing_is P log k qs w =
    let ss = sights log k in
    ap (find (λ p. not (was_seen ss p))) w
    ∙ (find_behind (λ p. not (was_seen ss p)) (seen_paths ss) qs (all_seen [] ss)
    ∙ head_missing P ss qs (sorted_needed P ss qs w))

-- What a job does next during its Looks.
pub none_refused : (log : List Logged) → are_looks log ≡ true → list_any (λ e. is_refused e.step.answer) log ≡ false
none_refused [] h = refl
none_refused (e ∷ log) h =
    let parts = and_parts (is_look e.step.op && not (is_refused e.step.answer)) (are_looks log) h in
    let own = and_parts (is_look e.step.op) (not (is_refused e.step.answer)) parts.0 in
    ap (λ b. b || list_any (λ (e : Logged). is_refused e.step.answer) log) (not-true (is_refused e.step.answer) own.1) ∙ none_refused log parts.1

look_first : (a b : Option Path) (n : Next) → look_or Left (look_or Right n b) a ≡ unwrap_or (look_at Left a (look_at Right b None)) n
look_first (Some p) b n = refl
look_first None (Some q) n = refl
look_first None None n = refl

pub next_looks : (P : Parts) (O : Archive) (log : List Logged) (l : Looks) → AreLooks P log l → next P O log ≡ unwrap_or (first_look l) (step_or_end P O log)
unfolding next
next_looks P O log l h =
    ap (λ b. cond b Stopped (look_or Left (look_or Right (step_or_end P O log) (missing P log Right)) (missing P log Left))) (none_refused log h.looks)
    ∙ (ap (λ o. look_or Left (look_or Right (step_or_end P O log) (missing P log Right)) o) (missing_is P log Left l.left h.left)
    ∙ (ap (λ o. look_or Left (look_or Right (step_or_end P O log) o) (slice_get l.left 0)) (missing_is P log Right l.right h.right)
    ∙ look_first (slice_get l.left 0) (slice_get l.right 0) (step_or_end P O log)))

-- A step is no Look.
fetch_or_set : (bytes : List ℕ) (s : Step) → is_look (op_of bytes s) ≡ false
fetch_or_set bytes s = elim s.fetches as (λ b. is_look (cond b (Fetch s.path) (Set s.path (contents_with bytes s.mark))) ≡ false) [ true ↦ refl | false ↦ refl ]

abbrev op_in : Op → Next → Op
op_in op (Ask side asked) = asked
op_in op Finished = op
op_in op Stopped = op

abbrev side_in : Side → Next → Side
side_in side (Ask asked op) = asked
side_in side Finished = side
side_in side Stopped = side

two_sides : Left ≡ Right → ⊥
two_sides e = cc

abbrev path_in : Path → Next → Path
path_in p (Ask side (Look d)) = d
path_in p (Ask side (Fetch d)) = d
path_in p (Ask side (Set d c)) = d
path_in p Finished = p
path_in p Stopped = p

pub step_is_no_look : (bytes : List ℕ) (o : Option Step) (side : Side) (op : Op) → ask bytes o ≡ Ask side op → is_look op ≡ false
step_is_no_look bytes None side op h = cc
step_is_no_look bytes (Some s) side op h = ap (λ n. is_look (op_in op n)) (sym h) ∙ fetch_or_set bytes s

-- One more entry of a run during the Looks.
abbrev Both : Parts → List Logged → Looks → Type 0
Both P log l = IsWaiting P log Left l.left × IsWaiting P log Right l.right

abbrev logged_as : ℕ → Side → Op → Answer → Logged
logged_as j side op a = record { side = side; step = record { job = j; op = op; answer = a } }

abbrev queues : List Path → List Path → ℕ → Looks
queues left right n = record { left = left; right = right; told = n }

tell_entry : (P : Parts) (O : Archive) (front : List Logged) (j : ℕ) (side : Side) (op : Op) (a : Answer) (left right : List Path) (n : ℕ) → IsWaiting P front Left left → IsWaiting P front Right right
    → unwrap_or (look_at Left (slice_get left 0) (look_at Right (slice_get right 0) None)) (step_or_end P O front) ≡ Ask side op → Fits op a → is_look op ≡ true
    → Both P (front ++ logged_as j side op a ∷ []) (told_on side (queues left right n) op a)
tell_entry P O front j side (Fetch p) a left right n wl wr e fits is = absurd (false≢true is)
tell_entry P O front j side (Set p c) a left right n wl wr e fits is = absurd (false≢true is)
tell_entry P O front j side (Look d) a [] [] n wl wr e fits is = absurd (false≢true (sym (step_is_no_look _ _ side (Look d) e) ∙ is))
tell_entry P O front j Left (Look d) a (q ∷ qs) right n wl wr e fits is =
    let same : q ≡ d = ap (path_in d) e in (
      told_look P front (logged_as j Left (Look d) a) Left d qs a (sights_own front (logged_as j Left (Look d) a) Left refl) fits (subst (λ p. IsWaiting P front Left (p ∷ qs)) same wl),
      not_told P front (logged_as j Left (Look d) a) Right right (sights_other front (logged_as j Left (Look d) a) Right refl) wr,
    )
tell_entry P O front j Right (Look d) a (q ∷ qs) right n wl wr e fits is = absurd (two_sides (ap (side_in Left) e))
tell_entry P O front j Left (Look d) a [] (q ∷ qs) n wl wr e fits is = absurd (two_sides (sym (ap (side_in Left) e)))
tell_entry P O front j Right (Look d) a [] (q ∷ qs) n wl wr e fits is =
    let same : q ≡ d = ap (path_in d) e in (
      not_told P front (logged_as j Right (Look d) a) Left [] (sights_other front (logged_as j Right (Look d) a) Left refl) wl,
      told_look P front (logged_as j Right (Look d) a) Right d qs a (sights_own front (logged_as j Right (Look d) a) Right refl) fits (subst (λ p. IsWaiting P front Right (p ∷ qs)) same wr),
    )

told_count : (l : Looks) (side : Side) (op : Op) (a : Answer) → (told_on side l op a).told ≡ l.told + 1
told_count l Left op a = refl
told_count l Right op a = refl

-- Runs.
pub runs-last : (P : Parts) (O : Archive) (j : ℕ) (front es : List Logged) (e : Logged) → Runs P O j front (es ++ e ∷ []) → (next P O (front ++ es) ≡ Ask e.side e.step.op) × Fits e.step.op e.step.answer
runs-last P O j front [] e r = (ap (next P O) (append-nil front) ∙ r.0, r.1)
runs-last P O j front (x ∷ es) e r =
    let w = runs-last P O j (front ++ x ∷ []) es e r.3 in
    (ap (next P O) (sym (append_assoc front (x ∷ []) es)) ∙ w.0, w.1)

-- The last entry of a list.
pub last_split : {X : Type 0} (xs : List X) (n : ℕ) → length xs ≡ n + 1 → (x : X) × (slice_get xs n ≡ Some x) × (xs ≡ take n xs ++ x ∷ [])
last_split [] n h = absurd (omega (arith, h))
last_split (x ∷ []) zero h = (x, refl, refl)
last_split (x ∷ y ∷ xs) zero h = absurd (omega (arith, h))
last_split (x ∷ xs) (suc n) h = let w = last_split xs n (omega (arith, h)) in (w.0, w.1, ap (λ ys. x ∷ ys) w.2)

pub take_all : {X : Type 0} (xs : List X) (n : ℕ) → n ≡ length xs → take n xs ≡ xs
take_all [] zero h = refl
take_all [] (suc n) h = refl
take_all (x ∷ xs) zero h = absurd (omega (arith, h))
take_all (x ∷ xs) (suc n) h = ap (λ ys. x ∷ ys) (take_all xs n (omega (arith, h)))

last_look : (front : List Logged) (e : Logged) → are_looks (front ++ e ∷ []) ≡ true → is_look e.step.op ≡ true
last_look [] e h = (and_parts (is_look e.step.op) (not (is_refused e.step.answer)) (and_parts (is_look e.step.op && not (is_refused e.step.answer)) true h).0).0
last_look (x ∷ front) e h = last_look front e (and_parts (is_look x.step.op && not (is_refused x.step.answer)) (are_looks (front ++ e ∷ [])) h).1

-- After all entries were told.
abbrev pub AllTold : Parts → List Logged → Looks → Type 0
AllTold P log l = AreLooks P log l × (l.told ≡ length log)

told_last : (P : Parts) (O : Archive) (j : ℕ) (log : List Logged) (l : Looks) → Runs P O j [] log → AreLooksOf P log l → length log ≡ l.told + 1 → AllTold P log (told_more l (slice_get log l.told))
told_last P O j log l r h len =
    let w = last_split log l.told len in
    let e = w.0 in
    let front = take l.told log in
    let run = runs-last P O j [] front e (subst (λ es. Runs P O j [] es) w.2 r) in
    let look = last_look front e (ap are_looks (sym w.2) ∙ h.looks) in
    let both = tell_entry P O front e.step.job e.side e.step.op e.step.answer l.left l.right l.told h.told.left h.told.right (sym (next_looks P O front l h.told) ∙ run.0) run.1 look in
    subst (λ o. AllTold P log (told_more l o)) (sym w.1) (
      record {
        looks = h.looks;
        left = subst (λ es. IsWaiting P es Left (told_on e.side l e.step.op e.step.answer).left) (sym w.2) both.0;
        right = subst (λ es. IsWaiting P es Right (told_on e.side l e.step.op e.step.answer).right) (sym w.2) both.1;
      },
      told_count l e.side e.step.op e.step.answer ∙ sym len,
    )

told_none : (P : Parts) (log : List Logged) (l : Looks) → AreLooksOf P log l → l.told ≡ length log → AllTold P log (told_more l (slice_get log l.told))
told_none P log l h same =
    subst (λ o. AllTold P log (told_more l o)) (sym (slice_get_past log l.told (omega (arith, same))))
    (subst (λ es. AreLooks P es l) (take_all log l.told same) h.told, same)

one_later : (a b : ℕ) → (a ≡ b → ⊥) → b ≤ a → a ≤ b + 1 → a ≡ b + 1
one_later a b other low high = omega arith

by_length : (P : Parts) (O : Archive) (j : ℕ) (log : List Logged) (l : Looks) (b : Bool) → (length log == l.told) ≡ b → Runs P O j [] log → AreLooksOf P log l → AllTold P log (told_more l (slice_get log l.told))
by_length P O j log l true e r h = told_none P log l h (sym (eqb-true (length log) l.told e))
by_length P O j log l false e r h = told_last P O j log l r h (one_later (length log) l.told (eqb-false (length log) l.told e) h.within h.one)

pub told_all : (P : Parts) (O : Archive) (j : ℕ) (log : List Logged) (l : Looks) → Runs P O j [] log → AreLooksOf P log l → AllTold P log (told_more l (slice_get log l.told))
told_all P O j log l r h = by_length P O j log l (length log == l.told) refl r h

-- The first Looks, one kept value after the other.
filter_own : (f : Path → Bool) (front rest : List Path) → filter (λ s. list_any (path_eq s) (front ++ rest) && f s) rest ≡ filter f rest
filter_own f front [] = refl
filter_own f front (s ∷ rest) =
    ap (λ b. cond (b && f s) (s ∷ filter (λ x. list_any (path_eq x) (front ++ s ∷ rest) && f x) rest) (filter (λ x. list_any (path_eq x) (front ++ s ∷ rest) && f x) rest)) (any_middle front rest s)
    ∙ ap (λ ps. cond (f s) (s ∷ ps) ps) (ap (λ all. filter (λ x. list_any (path_eq x) all && f x) rest) (sym (append_assoc front (s ∷ []) rest)) ∙ filter_own f (front ++ s ∷ []) rest)

put_each : (P : Parts) (ps qs : List Path) → put_all qs (flat_map looks_for (filter (λ s. length s == 0 || reach P s) ps)) ≡ fold (λ qs s. put_kept P qs s) qs ps
put_each P [] qs = refl
put_each P (p ∷ ps) qs =
    elim (length p == 0 || reach P p) as (λ b. put_all qs (flat_map looks_for (cond b (p ∷ filter (λ s. length s == 0 || reach P s) ps) (filter (λ s. length s == 0 || reach P s) ps)))
    ≡ fold (λ qs s. put_kept P qs s) (cond b (put_all qs (looks_for p)) qs) ps) [
      | true ↦ put_all-append (looks_for p) (flat_map looks_for (filter (λ s. length s == 0 || reach P s) ps)) qs ∙ put_each P ps (put_all qs (looks_for p))
      | false ↦ put_each P ps qs
    ]

pub first_looks_are : (P : Parts) → ascending (first_looks P) ≡ fold (λ qs s. put_kept P qs s) [] P.paths
first_looks_are P =
    ascending_is (first_looks P)
    ∙ (ap (λ ps. put_all [] (flat_map looks_for ps)) (filter_own (λ s. length s == 0 || reach P s) [] P.paths)
    ∙ put_each P P.paths [])

pub kept_done : (P : Parts) (ps ws : List Path) (n : ℕ) → length ps ≤ n → ps ≡ P.paths → fold (λ qs s. put_kept P qs s) ws (drop n ps) ≡ fold (λ qs s. put_kept P qs s) [] ps
    → ws ≡ ascending (first_looks P)
kept_done P ps ws n h e inv =
    ap (λ rest. fold (λ qs s. put_kept P qs s) ws rest) (sym (past_all n ps h))
    ∙ (inv ∙ (ap (λ ps. fold (λ qs s. put_kept P qs s) [] ps) e ∙ sym (first_looks_are P)))
