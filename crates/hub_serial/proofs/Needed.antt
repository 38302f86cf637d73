-- Two starts of one profile that overlap in time: no serial run leaves the same world.
use Rattle.std.specs.FinMap as fin
use Rattle.std.proofs.Common.{◌≡◌, ◌≢◌, Bool, true, false, cond, ◌||◌, T, List, [], ◌∷◌, Option, Some, None, refl, ap, sym, ◌∙◌, subst}
use Rattle.std.specs.Prelude.{⊤, ◌==◌, ℕ, zero, suc, slice_get, unwrap_or}
use Rattle.std.specs.List.{list_any}
use Rattle.std.specs.FinMap.{get-from_sorted, entries-from_sorted, is_sorted, from_sorted}
use Rattle.std.specs.Ordering.{eq_by_cmp}
use Rattle.std.proofs.lemmas.Bool.{false≢true}
use Rattle.std.proofs.lemmas.Option.{same_Some}
use borrow.Author.Tests.{eqb-true}
use Rattle.hub_path.specs.Path.{Path, path_cmp, path_eq, parent}
use Rattle.hub_path.specs.declared.side.Side.TheVariants.{Left, Right}
use Rattle.hub_glob.specs.Glob.{matches}
use Rattle.hub_profile.specs.Parts.{Parts, IsProfile}
use Rattle.hub_profile.specs.examples.Profiles.{hub, s1}
use Rattle.hub_reach.specs.Reach.{reach}
use Rattle.hub_reconcile.specs.Sight.{sight}
use Rattle.hub_reconcile.specs.Items.{items, plan}
use Rattle.hub_tree.specs.Tree.{Archive, Replica, IsTree, contents_at, is_absent, is_directory}
use Rattle.hub_tree.specs.declared.contents.Contents.{Contents}
use Rattle.hub_tree.specs.declared.contents.Contents.TheVariants as contents
use Rattle.hub_tree.specs.declared.contents.Mark.TheVariants as mark
use Rattle.hub_tree.specs.laws.Order.{same_path}
use Rattle.hub_job.specs.declared.op.Op.TheVariants.{Look, Set}
use Rattle.hub_job.specs.declared.op.Next.TheVariants.{Ask}
use Rattle.hub_job.specs.declared.log.Logged.{Logged}
use Rattle.hub_job.specs.Job.{next, is_refused}
use Rattle.hub_job.specs.Machine.{answer, after, sees}
use Rattle.hub_serial.specs.Clash.{AreProfiles}
use Rattle.hub_serial.specs.Schedule.{AreDistinct, after_turns, serial_turns}
use Rattle.hub_serial.specs.Serial.{IsNotSerializable, WorkInTurn}
use Rattle.hub_serial.specs.World.{RootPair, World, act, event, opening, run, turn, turn_of, with_entry}
use Rattle.hub_serial.specs.examples.Starts.{P, a, looked_by, nothing, the_second_deletion_is_refused, with_a}
use Rattle.hub_serial.specs.examples.Clashes.{deletes, marks, there, twice}
use Rattle.hub_serial.proofs.InTurn.{SetsKeepTrees, has, has_serial_turns, left_by_turns, works_in_turn}
use Rattle.hub_serial.proofs.Recorded.{distinct_once}

-- What is computed here.
computed : ⊤
unfolding answer after next sight items plan reach matches
computed = tt

abbrev pub empty : Replica
empty = from_sorted {R = path_cmp} nothing

abbrev pub replicas : Path → Replica
replicas r = cond (path_eq r s1) there empty

abbrev pub archives : RootPair → Archive
archives k = marks

abbrev with_logs : (ℕ → List Logged) → World
with_logs f = record { replica = replicas; archive = archives; log = f; done = λ j. false; items = λ j. [] }

either : (b : Bool) (m : Replica) → cond b m m ≡ m
either true m = refl
either false m = refl

seen_left : answer empty P hub (Look a) ≡ sees mark.Absent [] false
unfolding computed
seen_left = let h : T (is_sorted path_cmp nothing) = tt in simp (get-from_sorted, entries-from_sorted)

seen_right : answer there P s1 (Look a) ≡ sees mark.Directory [] false
unfolding computed
seen_right = let h : T (is_sorted path_cmp with_a) = tt in simp (get-from_sorted, entries-from_sorted)

first_look : next P marks [] ≡ Ask Left (Look a)
unfolding computed
first_look = refl

second_look : (j : ℕ) → next P marks (looked_by j Left mark.Absent ∷ []) ≡ Ask Right (Look a)
unfolding computed
second_look j = refl

look_left : (j : ℕ) (f : ℕ → List Logged) → slice_get twice j ≡ Some P → f j ≡ [] → turn twice j (with_logs f) ≡ with_logs (with_entry f j (looked_by j Left mark.Absent))
unfolding turn after
look_left j f is e =
    ap (turn_of j (with_logs f)) is
    ∙ (ap (act P j (with_logs f)) (ap (next P marks) e ∙ first_look)
    ∙ (λ z. record {
      replica = λ s. either (path_eq hub s) (replicas s) z;
      archive = archives;
      log = with_entry f j (record { side = Left; step = record { job = j; op = Look a; answer = seen_left z } });
      done = λ i. false;
      items = λ i. [];
    }))

look_right : (j : ℕ) (f : ℕ → List Logged) → slice_get twice j ≡ Some P → f j ≡ looked_by j Left mark.Absent ∷ [] → turn twice j (with_logs f) ≡ with_logs (with_entry f j (looked_by j Right mark.Directory))
unfolding turn after
look_right j f is e =
    ap (turn_of j (with_logs f)) is
    ∙ (ap (act P j (with_logs f)) (ap (next P marks) e ∙ second_look j)
    ∙ (λ z. record {
      replica = λ s. either (path_eq s1 s) (replicas s) z;
      archive = archives;
      log = with_entry f j (record { side = Right; step = record { job = j; op = Look a; answer = seen_right z } });
      done = λ i. false;
      items = λ i. [];
    }))

abbrev f1 : ℕ → List Logged
f1 = with_entry (λ j. []) 0 (looked_by 0 Left mark.Absent)

abbrev f2 : ℕ → List Logged
f2 = with_entry f1 0 (looked_by 0 Right mark.Directory)

abbrev f3 : ℕ → List Logged
f3 = with_entry f2 1 (looked_by 1 Left mark.Absent)

abbrev f4 : ℕ → List Logged
f4 = with_entry f3 1 (looked_by 1 Right mark.Directory)

abbrev pub js : List ℕ
js = 0 ∷ 0 ∷ 1 ∷ 1 ∷ 0 ∷ 1 ∷ []

both_looked : run twice js (opening replicas archives) ≡ turn twice 1 (turn twice 0 (with_logs f4))
both_looked =
    ap (after_turns (turn twice) (0 ∷ 1 ∷ 1 ∷ 0 ∷ 1 ∷ [])) (look_left 0 (λ j. []) refl refl)
    ∙ (ap (after_turns (turn twice) (1 ∷ 1 ∷ 0 ∷ 1 ∷ [])) (look_right 0 f1 refl refl)
    ∙ (ap (after_turns (turn twice) (1 ∷ 0 ∷ 1 ∷ [])) (look_left 1 f2 refl refl)
    ∙ ap (after_turns (turn twice) (0 ∷ 1 ∷ [])) (look_right 1 f3 refl refl)))

abbrev refusals : World → ℕ → Bool
refusals w j = list_any (λ e. is_refused e.step.answer) (w.log j)

refused_there : refusals (run twice js (opening replicas archives)) 1 ≡ true
refused_there =
    ap (λ w. refusals w 1) both_looked
    ∙ (ap (λ w. refusals (turn twice 1 w) 1) (deletes 0 (with_logs f4) refl refl refl refl)
    ∙ (ap (λ w. refusals w 1) (deletes 1 (event P 0 Right (Set a contents.Absent) (with_logs f4) (Some s1)) refl refl refl refl)
    ∙ ap (λ x. is_refused x || false) the_second_deletion_is_refused))

-- The profile and the replicas.
is_profile : IsProfile P
is_profile = record { roots = refl; paths = refl }

pub are_profiles : AreProfiles twice
are_profiles zero Q e = subst IsProfile (same_Some P Q e) is_profile
are_profiles (suc zero) Q e = subst IsProfile (same_Some P Q e) is_profile
are_profiles (suc (suc j)) Q e = cc

empty_get : (p : Path) → fin.get empty p ≡ None
empty_get p = let h : T (is_sorted path_cmp nothing) = tt in get-from_sorted path_cmp nothing p h

there_get : (p : Path) → fin.get there p ≡ cond (eq_by_cmp path_cmp p a) (Some contents.Directory) None
there_get p = let h : T (is_sorted path_cmp with_a) = tt in get-from_sorted path_cmp with_a p h

not_present : (m : Replica) (p : Path) → fin.get m p ≡ None → fin.get m p ≢ Some contents.Absent
not_present m p e f = let g : None ≡ Some contents.Absent = sym e ∙ f in cc

parent_by : (p : Path) (o : Option Contents) → fin.get empty p ≡ None → p ≡ p → is_absent (contents_at empty p) ≡ false → is_directory (contents_at empty (parent p)) ≡ true
parent_by [] o e f h = refl
parent_by (n ∷ p) o e f h = absurd (false≢true (sym h ∙ ap (λ u. is_absent (unwrap_or u contents.Absent)) e))

empty_tree : IsTree empty
empty_tree = record {
  parents = λ p h. parent_by p None (empty_get p) refl h;
  present = λ p. not_present empty p (empty_get p);
  no_top = empty_get [];
}

there_parent : (p : Path) (b : Bool) → eq_by_cmp path_cmp p a ≡ b → fin.get there p ≡ cond b (Some contents.Directory) None → is_absent (contents_at there p) ≡ false
    → is_directory (contents_at there (parent p)) ≡ true
there_parent [] b e g h = refl
there_parent (n ∷ p) true e g h = subst (λ q. is_directory (contents_at there (parent q)) ≡ true) (sym (same_path (n ∷ p) a e)) refl
there_parent (n ∷ p) false e g h = absurd (false≢true (sym h ∙ ap (λ u. is_absent (unwrap_or u contents.Absent)) g))

there_present : (p : Path) (b : Bool) → fin.get there p ≡ cond b (Some contents.Directory) None → fin.get there p ≢ Some contents.Absent
there_present p true e f = let g : Some contents.Directory ≡ Some contents.Absent = sym e ∙ f in cc
there_present p false e f = not_present there p e f

there_tree : IsTree there
there_tree = record {
  parents = λ p h. there_parent p (eq_by_cmp path_cmp p a) refl (there_get p) h;
  present = λ p. there_present p (eq_by_cmp path_cmp p a) (there_get p);
  no_top = there_get [];
}

tree_if : (b : Bool) → IsTree (cond b there empty)
tree_if true = there_tree
tree_if false = empty_tree

pub are_trees : (r : Path) → IsTree (replicas r)
are_trees r = tree_if (path_eq r s1)

-- Nothing is refused where jobs work one after another.
unrefused : (turns : ℕ → ℕ) (end : World) (jobs : List ℕ) (w : World) (l : ℕ) (P : Parts) → slice_get twice l ≡ Some P → has l jobs ≡ true → WorkInTurn twice turns end jobs w
    → refusals end l ≡ false
unrefused turns end [] w l P is h work = absurd (false≢true h)
unrefused turns end (j ∷ jobs) w l P is h (v, own, more) =
    elim (j == l) as (λ b. (j == l) ≡ b → (b || has l jobs) ≡ true → refusals end l ≡ false) [
      | true ↦ λ e g.
          subst (λ i. refusals end i ≡ false) (eqb-true j l e)
          (ap (list_any (λ (e : Logged). is_refused e.step.answer)) own.log ∙ own.ok P (ap (slice_get twice) (eqb-true j l e) ∙ is))
      | false ↦ λ e g. unrefused turns end jobs v l P is g more
    ] refl h

none_refused : SetsKeepTrees → (jobs : List ℕ) (turns : ℕ → ℕ) → AreDistinct jobs → refusals (run twice (serial_turns turns jobs) (opening replicas archives)) 1 ≡ false
none_refused sets jobs turns once =
    elim (has 1 jobs) as (λ b. has 1 jobs ≡ b → refusals (run twice (serial_turns turns jobs) (opening replicas archives)) 1 ≡ false) [
      | true ↦ λ h.
          unrefused turns (run twice (serial_turns turns jobs) (opening replicas archives)) jobs (opening replicas archives) 1 P refl h
          (works_in_turn sets twice are_profiles turns jobs (opening replicas archives) (distinct_once jobs once) are_trees (λ l m. record { log = refl; done = refl }))
      | false ↦ λ h.
          ap (list_any (λ (e : Logged). is_refused e.step.answer)) (left_by_turns twice 1 (serial_turns turns jobs) (opening replicas archives) (has_serial_turns turns 1 jobs h)).log
    ] refl

pub not_serializable : SetsKeepTrees → IsNotSerializable twice js replicas archives
not_serializable sets jobs turns once e =
    false≢true (sym (none_refused sets jobs turns once) ∙ (sym (ap (λ w. refusals w 1) e) ∙ refused_there))
