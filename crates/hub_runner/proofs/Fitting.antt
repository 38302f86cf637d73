-- Books and jobs that were compared fit together, and so settle what they leave.
use Rattle.std.proofs.Common.{◌≡◌, ◌<◌, ◌≤◌, Bool, true, List, [], ◌∷◌, length, map, filter, Some, None, Result, Ok, Err, IfOk, refl, ap, sym, ◌∙◌, subst, arith}
use Rattle.std.specs.Prelude.{◌==◌, ℕ, All, slice_get, unwrap_or}
use Rattle.std.specs.List.{list_any}
use Rattle.std.specs.FinMap as fin
use Rattle.std.proofs.lemmas.Bool.Decides.{nat_tests}
use Rattle.std.proofs.lemmas.List.Sums.{length-filter}
use Rattle.std.proofs.lemmas.Option.{same_Some, slice_get_within}
use Rattle.hub_reconcile.specs.laws.Views.{same_paths}
use Rattle.hub_path.specs.Path.{Path, path_eq}
use Rattle.hub_profile.specs.Parts.{Parts}
use Rattle.hub_reach.specs.Reach.{has_root}
use Rattle.hub_tree.specs.Tree.{Replica}
use Rattle.hub_state.specs.State.{State, replica_at}
use Rattle.hub_job.specs.declared.outcome.Outcome.{Outcome}
use Rattle.hub_job.specs.JobValue.{JobValue}
use Rattle.hub_job.specs.Outcome.{archive_of, jobs_of, replicas_of, IsOutcomeWith}
use Rattle.hub_job.specs.Run.{Runs, root_at}
use Rattle.hub_job.specs.laws.Untouched.{path-of_Some}
use Rattle.hub_history.specs.Book.{BookValue, IsBook}
use Rattle.hub_schedule.specs.declared.slot.WorkingTree.{WorkingTree}
use Rattle.hub_schedule.specs.Ended.{AreEndedWith, IsEnded, ended_value}
use Rattle.hub_job.specs.History.{replay, entries_at, IsLegal, Agree}
use Rattle.hub_schedule.specs.Promise.{HasReplicas, Settles, log_or_none, logs_in}
use Rattle.hub_schedule.specs.Refusals.{first_missing}
use Rattle.hub_schedule.specs.Settled.{AreProfiles, IsSettled}
use Rattle.hub_schedule.specs.Table.{AreTrees, IsTreeNumber}
use Rattle.hub_schedule.specs.laws.Lists.{as_long, any-at, one_with, map_at, map_get}
use Rattle.hub_job.specs.laws.Roots.{has_own}
use Rattle.hub_schedule.specs.laws.Missing.{have_replicas}
use Rattle.hub_runner.specs.forms.Ordered.{AreInOrder, AreNumbered, AreTreesOf, is_due, of_book, of_tree}
use Rattle.hub_runner.specs.Settling.{AreCompared, AreConsistent, EndAsTheyAre, Agrees, OpensAs, books_at, history_at, history_or_none, log_at, log_or_nothing, compared_places}
use Rattle.hub_runner.proofs.Lists.{all_at, count_filter, count_map, found_first, is_only, only, passed, passes, same_place}
use Rattle.hub_runner.proofs.Roots.{at_book, at_job}

abbrev has_number : ℕ → JobValue → Bool
has_number j J = J.number == j

number_is : (J : JobValue) (j : ℕ) → has_number j J ≡ true → J.number ≡ j
number_is J j e = grind (arith, nat_tests, e)

is_number : (J : JobValue) (j : ℕ) → J.number ≡ j → has_number j J ≡ true
is_number J j e = grind (arith, nat_tests, e)

-- The jobs, each by its number.
module _ (S : State) (Ps : List Parts) (jobs : List JobValue) (due : AreConsistent S Ps jobs) where
  below : (k : ℕ) (J : JobValue) → slice_get jobs k ≡ Some J → J.number < length Ps
  below k J at = slice_get_within Ps J.number J.profile (due.0 k J at).0

  one_job : (j : ℕ) → j < length Ps → (J : JobValue) × (filter (has_number j) jobs ≡ J ∷ [])
  one_job j h = only (has_number j) jobs (length-filter (has_number j) jobs ∙ due.1 j h)

  has_job : (j : ℕ) → j < length Ps → (k : ℕ) × (J : JobValue) × (slice_get jobs k ≡ Some J) × (J.number ≡ j)
  has_job j h =
      let one = one_job j h in
      let w = passed (has_number j) jobs 0 one.0 (ap (λ Js. slice_get Js 0) one.1) in
      (w.0.0, one.0, w.0.1, number_is one.0 j w.1)

  pub are_numbered : AreNumbered (length Ps) jobs
  are_numbered = record { below = below; all = has_job }

  -- Two jobs of one number are one job.
  pub same_job : (i k : ℕ) (J K : JobValue) → slice_get jobs i ≡ Some J → slice_get jobs k ≡ Some K → J.number ≡ K.number → J ≡ K
  same_job i k J K at too same =
      let j = K.number in
      let one = one_job j (below k K too) in
      sym (is_only (has_number j) jobs one.0 i J one.1 at (is_number J j same))
      ∙ is_only (has_number j) jobs one.0 k K one.1 too (is_number K j refl)

  log_is : (k : ℕ) (J : JobValue) → slice_get jobs k ≡ Some J → log_at jobs J.number ≡ J.log
  log_is k J at =
      let j = J.number in
      let one = one_job j (below k J at) in
      let is : one.0 ≡ J = is_only (has_number j) jobs one.0 k J one.1 at (is_number J j refl) in
      ap log_or_nothing (found_first (has_number j) jobs ∙ ap (λ Js. slice_get Js 0) one.1)
      ∙ ap (λ (K : JobValue). K.log) is

  module _ (ended : List JobValue) (order : AreInOrder (length Ps) jobs ended) where
    is_ended : (j : ℕ) (e : JobValue) → slice_get ended j ≡ Some e → IsEnded S Ps j e
    is_ended j e at =
        let w = order.each j e at in
        let made = due.0 w.0.place e w.0.there in
        record { is = ap (slice_get Ps) (sym w.1) ∙ made.0; archive = made.1; number = w.1 }

    pub ended_there : (j : ℕ) (P : Parts) → slice_get Ps j ≡ Some P → (e : JobValue) × (slice_get ended j ≡ Some e)
    ended_there j P at = as_long ended Ps j P order.count at

    -- What is told of a job's end holds of the job that has its number.
    module _ (o : Outcome) (ends : o.jobs ≡ map ended_value ended) where
      log_in : (j : ℕ) (e : JobValue) → slice_get ended j ≡ Some e → logs_in o j ≡ e.log
      log_in j e at = ap (λ es. log_or_none (slice_get es j)) ends ∙ ap log_or_none (map_at ended_value ended j e at)

      pub end_as_they_are : EndAsTheyAre jobs o
      end_as_they_are k J at =
          let within = below k J at in
          let there = due.0 k J at in
          let one = ended_there J.number J.profile there.0 in
          let w = order.each J.number one.0 one.1 in
          let same : one.0 ≡ J = same_job w.0.place k one.0 J w.0.there at w.1 in
          ap (λ es. slice_get es J.number) ends ∙ (map_at ended_value ended J.number one.0 one.1 ∙ ap (λ (K : JobValue). Some (ended_value K)) same)

      runs : (j : ℕ) (P : Parts) → slice_get Ps j ≡ Some P → Runs P (archive_of S (slice_get Ps j)) j [] (logs_in o j)
      runs j P at =
          let one = ended_there j P at in
          let e = one.0 in
          let w = order.each j e one.1 in
          let is = is_ended j e one.1 in
          let own : e.profile ≡ P = same_Some e.profile P (sym is.is ∙ at) in
          let archive : e.archive ≡ archive_of S (slice_get Ps j) = is.archive ∙ ap (archive_of S) (sym is.is) in
          subst (λ log. Runs P (archive_of S (slice_get Ps j)) j [] log) (sym (log_in j e one.1))
          (subst (λ n. Runs P (archive_of S (slice_get Ps j)) n [] e.log) w.1
          (subst (λ O. Runs P O e.number [] e.log) archive
          (subst (λ Q. Runs Q e.archive e.number [] e.log) own w.0.run)))

      pub log_at_is : (j : ℕ) (P : Parts) → slice_get Ps j ≡ Some P → log_at jobs j ≡ logs_in o j
      log_at_is j P at =
          let one = ended_there j P at in
          let w = order.each j one.0 one.1 in
          ap (log_at jobs) (sym w.1) ∙ (log_is w.0.place one.0 w.0.there ∙ sym (log_in j one.0 one.1))

-- The books, each by its root.
module _ (S : State) (Ps : List Parts) (books : List BookValue) (jobs : List JobValue) (right : All (Agrees S Ps books jobs) (compared_places Ps)) where
  abbrev dues : List BookValue
  dues = filter (is_due Ps) books

  abbrev left : Path → Replica
  left r = replay (replicas_of S r) (history_at books r)

  -- The book of a root of a profile.
  record IsBookOf (r : Path) (B : BookValue) : Type 0 where
    pub alone : books_at books r ≡ B ∷ []
    pub opens : OpensAs S Ps B
    pub root : B.root ≡ r
    pub place : ℕ
    pub there : slice_get dues place ≡ Some B

  module _ (j : ℕ) (P : Parts) (r : Path) (at : slice_get Ps j ≡ Some P) (has : has_root P r ≡ true) where
    book_of : (B : BookValue) × IsBookOf r B
    book_of =
        let w = at_book (Agrees S Ps books jobs) Ps right j P r at has in
        let B = w.0 in
        let from = passed (λ C. path_eq C.root r) books 0 B (ap (λ Bs. slice_get Bs 0) w.1) in
        let root : B.root ≡ r = same_paths B.root r from.1 in
        let due : is_due Ps B ≡ true = subst (λ q. list_any (λ Q. has_root Q q) Ps ≡ true) (sym root) (any-at (λ Q. has_root Q r) Ps j P at has) in
        let at_root = passes (is_due Ps) books from.0.0 B from.0.1 due in (
          B,
          record { alone = w.1; opens = w.2; root = root; place = at_root.0; there = at_root.1 },
        )

  history_is : (r : Path) (B : BookValue) → IsBookOf r B → history_at books r ≡ B.history
  history_is r B is = ap (λ Bs. history_or_none (slice_get Bs 0)) is.alone

  opening_is : (r : Path) (B : BookValue) → IsBookOf r B → replicas_of S r ≡ B.opening
  opening_is r B is = ap (λ q. unwrap_or (replica_at S q) fin.empty) (sym is.root) ∙ ap (λ o. unwrap_or o fin.empty) is.opens.1

  module _ (trees : List WorkingTree) (are : AreTreesOf Ps books trees) where
    -- The book of a replica.
    record HasBook (t : WorkingTree) : Type 0 where
      pub book : BookValue
      pub same : of_book book ≡ of_tree t
      pub is : IsBookOf t.root.now book
      pub legal : IsBook book
      pub due : list_any (λ P. has_root P t.root.now) Ps ≡ true

    has_book : (k : ℕ) (t : WorkingTree) → slice_get trees k ≡ Some t → HasBook t
    has_book k t at =
        let at_root = sym (ap (λ zs. slice_get zs k) are.values) ∙ map_at of_tree trees k t at in
        let w = map_get of_book dues k (of_tree t) at_root in
        let B = w.0 in
        let from = passed (is_due Ps) books k B w.1 in
        let root : B.root ≡ t.root.now = ap (λ z. z.0) (sym w.2) in
        let any = one_with (λ P. has_root P B.root) Ps from.1 in
        let own = book_of any.0 any.1 B.root any.2 any.3 in
        let same : own.0 ≡ B = is_only (λ C. path_eq C.root B.root) books own.0 from.0.0 B own.1.alone from.0.1 (path-of_Some B.root B.root refl) in
        record {
          book = B;
          same = sym w.2;
          is = subst (λ q. IsBookOf q B) root (subst (λ C. IsBookOf B.root C) same own.1);
          legal = all_at IsBook dues k B are.legal w.1;
          due = subst (λ q. list_any (λ P. has_root P q) Ps ≡ true) root from.1;
        }

    tree_is : (k : ℕ) (t : WorkingTree) → slice_get trees k ≡ Some t → t.tree ≡ left t.root.now
    tree_is k t at =
        let b = has_book k t at in
        let B = b.book in
        sym (ap (λ z. z.1) b.same)
        ∙ (b.legal.replays ∙ (ap (λ m. replay m B.history) (sym (opening_is t.root.now B b.is)) ∙ ap (replay (replicas_of S t.root.now)) (sym (history_is t.root.now B b.is))))

    once : (i k : ℕ) (t u : WorkingTree) → slice_get trees i ≡ Some t → slice_get trees k ≡ Some u → t.root.now ≡ u.root.now → i ≡ k
    once i k t u at too same =
        let r = u.root.now in
        let b = has_book k u too in
        let q : Path × Replica → Bool = λ z. path_eq z.0 r in
        let one : length (books_at books r) ≡ 1 = ap length b.is.alone in
        let fewer = count_filter (λ C. path_eq C.root r) (is_due Ps) books in
        let all : length (filter q (map of_tree trees)) ≡ length (filter (λ C. path_eq C.root r) dues) = ap (λ zs. length (filter q zs)) are.values ∙ count_map q of_book dues in
        let few : length (filter q (map of_tree trees)) ≤ 1 = omega (arith, one, fewer, all) in
        same_place q (map of_tree trees) i k (of_tree t) (of_tree u) few (map_at of_tree trees i t at) (path-of_Some t.root.now r (ap (λ p. Some p) same)) (map_at of_tree trees k u too) (path-of_Some r r refl)

    are_trees : AreTrees left trees
    are_trees = record { each = tree_is; once = once }

    placed : (j : ℕ) (P : Parts) (r : Path) → slice_get Ps j ≡ Some P → has_root P r ≡ true → (n : ℕ) × IsTreeNumber trees r n
    placed j P r at has =
        let b = book_of j P r at has in
        let at_root = ap (λ zs. slice_get zs b.1.place) are.values ∙ map_at of_book dues b.1.place b.0 b.1.there in
        let w = map_get of_tree trees b.1.place (of_book b.0) at_root in
        (b.1.place, (w.0, w.1, ap (λ z. z.0) (sym w.2) ∙ b.1.root))

    legal_at : (j : ℕ) (P : Parts) (r : Path) → slice_get Ps j ≡ Some P → has_root P r ≡ true → IsLegal Ps r (replicas_of S r) (history_at books r)
    legal_at j P r at has =
        let b = book_of j P r at has in
        let B = b.0 in
        let book : IsBook B = all_at IsBook dues b.1.place B are.legal b.1.there in
        subst (λ h. IsLegal Ps r (replicas_of S r) h) (sym (history_is r B b.1))
        (subst (λ m. IsLegal Ps r m B.history) (sym (opening_is r B b.1))
        (subst (λ q. IsLegal Ps q B.opening B.history) b.1.root
        (subst (λ Qs. IsLegal Qs B.root B.opening B.history) b.1.opens.0 book.legal)))

    -- They fit together with the jobs.
    module _ (due : AreConsistent S Ps jobs) (ended : List JobValue) (order : AreInOrder (length Ps) jobs ended) (facts : AreProfiles Ps) where
      pub are_ended : AreEndedWith S Ps left ended trees
      are_ended = record {
        each = is_ended S Ps jobs due ended order;
        count = order.count;
        replicas = are_trees;
        places = λ j P at k. placed j P (root_at P k) at (has_own P (facts j P at) k (root_at P k) refl);
        roots = λ k t at. (has_book k t at).due;
      }

      module _ (o : Outcome) (ends : o.jobs ≡ map ended_value ended) where
        agree : Agree Ps (history_at books) (logs_in o)
        agree j P r at has =
            at_job (Agrees S Ps books jobs) Ps right j P r at has j (slice_get_within Ps j P at) P at has
            ∙ ap (entries_at P r) (log_at_is S Ps jobs due ended order o ends j P at)

        are_settled : IsSettled (jobs_of S Ps) (replicas_of S) (history_at books) (logs_in o)
        are_settled = record { runs = runs S Ps jobs due ended order o ends; legal = legal_at; agree = agree }

        pub settles : IsOutcomeWith S Ps (logs_in o) left o → Settles S Ps (history_at books) o
        settles is = record { settled = are_settled; outcome = is }

    -- What is told of an outcome that there may be.
    module _ (E : Type 0) (there : first_missing S Ps ≡ None) (due : AreConsistent S Ps jobs) (ended : List JobValue) (order : AreInOrder (length Ps) jobs ended) (facts : AreProfiles Ps) where
      pub settled_for : (r : Result Outcome E) → IfOk r (λ o. (Qs : List Parts) (replica : Path → Replica) → HasReplicas S Qs → AreEndedWith S Qs replica ended trees → IsOutcomeWith S Qs (logs_in o) replica o)
          → IfOk r (λ o. o.jobs ≡ map ended_value ended) → IfOk r (Settles S Ps (history_at books))
      settled_for (Ok o) outcome ends = settles due ended order facts o ends (outcome Ps left (have_replicas S Ps there) (are_ended due ended order facts))
      settled_for (Err e) outcome ends = tt

      pub ends_for : (r : Result Outcome E) → IfOk r (λ o. o.jobs ≡ map ended_value ended) → IfOk r (EndAsTheyAre jobs)
      ends_for (Ok o) ends = end_as_they_are S Ps jobs due ended order o ends
      ends_for (Err e) ends = tt

-- The same, where Qs are the profiles as the program reads them.
module _ (S : State) {Qs Ps : List Parts} (value : Qs ≡ Ps) (books : List BookValue) (jobs : List JobValue) (compared : AreCompared S Ps books jobs) (facts : AreProfiles Ps) {trees : List WorkingTree} (are : AreTreesOf Qs books trees) {ended : List JobValue} (order : AreInOrder (length Qs) jobs ended) where
  their_trees : AreTreesOf Ps books trees
  their_trees = subst (λ (Rs : List Parts). AreTreesOf Rs books trees) value are

  their_order : AreInOrder (length Ps) jobs ended
  their_order = subst (λ (n : ℕ). AreInOrder n jobs ended) (ap length value) order

  pub fit_together : (Rs : List Parts) × (replica : Path → Replica) × AreEndedWith S Rs replica ended trees
  fit_together = (Ps, (λ (r : Path). replay (replicas_of S r) (history_at books r)), are_ended S Ps books jobs compared.right trees their_trees compared.due ended their_order facts)

  module _ {E : Type 0} (r : Result Outcome E) (ends : IfOk r (λ o. o.jobs ≡ map ended_value ended)) where
    pub all_settle : IfOk r (λ o. (Rs : List Parts) (replica : Path → Replica) → HasReplicas S Rs → AreEndedWith S Rs replica ended trees → IsOutcomeWith S Rs (logs_in o) replica o) → IfOk r (Settles S Ps (history_at books))
    all_settle outcome = settled_for S Ps books jobs compared.right trees their_trees E compared.there compared.due ended their_order facts r outcome ends

    pub all_end : IfOk r (EndAsTheyAre jobs)
    all_end = ends_for S Ps books jobs compared.right trees their_trees E compared.there compared.due ended their_order facts r ends
