-- A book with one operation more.
use Rattle.std.proofs.Common.{◌≡◌, ◌<◌, inl, inr, ℕ, List, [], ◌∷◌, ◌++◌, length, get_or, Option, Some, refl, ap, sym, ◌∙◌, subst}
use Rattle.std.specs.Prelude.{IsTrue, slice_get}
use Rattle.std.proofs.lemmas.Option.{slice_get_cases, slice_get-get_or}
use Rattle.std.proofs.lemmas.Bool.{false≢true}
use Rattle.hub_job.specs.laws.Histories.{replay-push, legal-push}
use Rattle.hub_path.specs.Path.{Path}
use Rattle.hub_profile.specs.Parts.{Parts, some_passes}
use Rattle.hub_reach.specs.Reach.{has_root}
use Rattle.hub_tree.specs.Tree.{Replica}
use Rattle.hub_job.specs.declared.answer.Answer.{Answer}
use Rattle.hub_job.specs.declared.answer.Answer.TheVariants.{Seen, Bytes, Done, Refused}
use Rattle.hub_job.specs.declared.log.Entry.{Entry}
use Rattle.hub_job.specs.declared.op.Op.{Op}
use Rattle.hub_job.specs.declared.op.Op.TheVariants.{Look, Fetch, Set}
use Rattle.hub_job.specs.Machine.{answer, after, is_shared, Fits}
use Rattle.hub_job.specs.History.{IsAnswerOf}
use Rattle.hub_history.specs.Book.{BookValue, IsBook, has_job, entry_of}

-- what copies share was read, and changed nothing
pub nothing_changed : (m : Replica) (op : Op) (a : Answer) → Fits op a → IsTrue (is_shared a) → after m op ≡ m
unfolding after
nothing_changed m (Look d) a fits t = refl
nothing_changed m (Fetch p) a fits t = refl
nothing_changed m (Set p c) (Seen s) fits t = absurd fits
nothing_changed m (Set p c) (Bytes b) fits t = absurd fits
nothing_changed m (Set p c) Done fits t = absurd (false≢true t)
nothing_changed m (Set p c) (Refused f) fits t = absurd (false≢true t)

-- the profile of a job that has the root, as an index reads it
has_within : (Ps : List Parts) (r : Path) (j : ℕ) → IsTrue (has_job Ps r j) → j < length Ps
has_within Ps r j has =
    elim (slice_get_cases Ps j).1 [
      | inl w ↦ w.1
      | inr w ↦ absurd (false≢true (sym (ap (some_passes (λ P. has_root P r)) w.1) ∙ has))
    ]

answer_of : (r : Path) (m : Replica) (j : ℕ) (op : Op) (a : Answer) (P : Parts) (o : Option Parts) → o ≡ Some P → IsTrue (some_passes (λ P. has_root P r) o) → a ≡ answer m P r op → IsAnswerOf r m (entry_of j op a) o
answer_of r m j op a P o is has says =
    subst (IsAnswerOf r m (entry_of j op a)) (sym is) (subst (λ o. IsTrue (some_passes (λ P. has_root P r) o)) is has, says)

pub answer_at : (Ps : List Parts) (r : Path) (m : Replica) (j : ℕ) (op : Op) (a : Answer) (d : Parts) → IsTrue (has_job Ps r j) → a ≡ answer m (get_or Ps j d) r op → IsAnswerOf r m (entry_of j op a) (slice_get Ps j)
answer_at Ps r m j op a d has says = answer_of r m j op a (get_or Ps j d) (slice_get Ps j) (slice_get-get_or Ps j d (has_within Ps r j has)) has says

abbrev book : List Parts → Path → Replica → Replica → List Entry → BookValue
book Ps r o m h = record { profiles = Ps; root = r; opening = o; tree = m; history = h }

book-push : (Ps : List Parts) (r : Path) (o m : Replica) (h : List Entry) (e : Entry) → IsBook (book Ps r o m h) → IsAnswerOf r m e (slice_get Ps e.job) → IsBook (book Ps r o (after m e.op) (h ++ e ∷ []))
book-push Ps r o m h e is more = record {
  legal = legal-push Ps r o h e is.legal (subst (λ k. IsAnswerOf r k e (slice_get Ps e.job)) is.replays more);
  replays = ap (λ k. after k e.op) is.replays ∙ sym (replay-push o h e);
}

pub pushed : (Ps : List Parts) (r : Path) (o m k : Replica) (h g i : List Entry) (j : ℕ) (op : Op) (a b : Answer) → IsBook (book Ps r o m h) → IsAnswerOf r m (entry_of j op a) (slice_get Ps j)
    → k ≡ after m op → b ≡ a → g ≡ h → i ≡ g ++ entry_of j op b ∷ [] → IsBook (book Ps r o k i)
pushed Ps r o m k h g i j op a b is says changed same front all =
    let here = book-push Ps r o m h (entry_of j op a) is says in
    let whole : i ≡ h ++ entry_of j op a ∷ [] = all ∙ λ n. front n ++ entry_of j op (same n) ∷ [] in
    rw (changed, whole) here
