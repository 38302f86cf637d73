-- Worked examples of histories.
use Rattle.std.specs.Prelude.{⊤, ◌≡◌, ◌≢◌, false, cond, T, List, [], ◌∷◌, length, map, None, Some, refl, codes}
use Rattle.std.proofs.Common.{ap, sym, ◌∙◌, subst}
use Rattle.std.specs.FinMap.{insert, put, get-insert, same_map, get-from_sorted, entries-from_sorted, is_sorted, from_sorted}
use Rattle.std.specs.FinMap.Entries.{find-put}
use Rattle.std.specs.Ordering.{eq_by_cmp}
use Rattle.hub_path.specs.laws.General.{path_cmp-total, path_cmp-exact}
use Rattle.hub_path.specs.Path.{Path, path_of, path_cmp}
use Rattle.hub_path.specs.declared.side.Side.{Side}
use Rattle.hub_path.specs.declared.side.Side.TheVariants.{Left, Right}
use Rattle.hub_profile.specs.Parts.{Parts}
use Rattle.hub_profile.specs.examples.Profiles.{hub, of_kept}
use Rattle.hub_tree.specs.Tree.{Replica, set_fault}
use Rattle.hub_tree.specs.declared.contents.Contents.{Contents}
use Rattle.hub_tree.specs.declared.contents.Contents.TheVariants as contents
use Rattle.hub_tree.specs.declared.contents.Mark.TheVariants as mark
use Rattle.hub_tree.specs.declared.fault.SetFault.TheVariants as set
use Rattle.hub_job.specs.declared.op.Op.TheVariants.{Look, Set}
use Rattle.hub_job.specs.declared.answer.OpFault.TheVariants.{NoParent}
use Rattle.hub_job.specs.declared.answer.Answer.TheVariants.{Done, Refused}
use Rattle.hub_job.specs.declared.log.Entry.{Entry}
use Rattle.hub_job.specs.declared.log.Logged.{Logged}
use Rattle.hub_glob.specs.Glob.{matches}
use Rattle.hub_reach.specs.Reach.{reach}
use Rattle.hub_reconcile.specs.Sight.{sight}
use Rattle.hub_job.specs.Machine.{answer, after, changed_unless, sees}
use Rattle.hub_job.specs.History.{replay, IsLegal, entries_of, entries_at}

-- What these examples compute.
computed : ⊤
unfolding answer after sight reach matches
computed = tt

-- A map of a list, with one entry more, is the map of a list: so what stands after a Set is
-- computed too.
inserted : {X : Type 0} (es : List (Path × X)) (p : Path) (x : X) → T (is_sorted path_cmp es)
    → T (is_sorted path_cmp (put path_cmp p x es))
    → insert (from_sorted {R = path_cmp} es) p x ≡ from_sorted {R = path_cmp} (put path_cmp p x es)
inserted es p x h k =
    same_map path_cmp-total path_cmp-exact (insert (from_sorted {R = path_cmp} es) p x)
    (from_sorted {R = path_cmp} (put path_cmp p x es))
    (λ q. get-insert path_cmp-total (from_sorted {R = path_cmp} es) p x q
    ∙ (ap (cond (eq_by_cmp path_cmp q p) (Some x)) (get-from_sorted path_cmp es q h)
    ∙ sym (get-from_sorted path_cmp (put path_cmp p x es) q k
    ∙ find-put path_cmp path_cmp-total q p x es)))

abbrev profiles : List Parts
profiles = of_kept (codes "docs") ∷ of_kept (codes "photos") ∷ []

abbrev none : List (Path × Contents)
none = []

abbrev nobody : Replica
nobody = from_sorted {R = path_cmp} none

abbrev docs : Path
docs = path_of (codes "docs")

abbrev with_docs : List (Path × Contents)
with_docs = (docs, contents.Directory) ∷ []

abbrev one : Replica
one = from_sorted {R = path_cmp} with_docs

abbrev made : Entry
made = record { job = 0; op = Set docs contents.Directory; answer = Done }

abbrev seen : Entry
seen = record { job = 0; op = Look docs; answer = sees mark.Directory [] false }

abbrev refused : Entry
refused = record {
  job = 0;
  op = Set (path_of (codes "docs/x/y")) (contents.File []);
  answer = Refused NoParent;
}

nothing_hinders : set_fault nobody docs contents.Directory ≡ None
nothing_hinders =
    let h : T (is_sorted path_cmp none) = tt in simp (get-from_sorted, entries-from_sorted)

after_the_first : after nobody made.op ≡ one
unfolding computed
after_the_first =
    ap (λ o. changed_unless o nobody (insert nobody docs contents.Directory)) nothing_hinders
    ∙ inserted none docs contents.Directory tt tt

it_is_made : made.answer ≡ answer nobody (of_kept (codes "docs")) hub made.op
unfolding computed
it_is_made = let h : T (is_sorted path_cmp none) = tt in simp (get-from_sorted, entries-from_sorted)

it_is_seen : seen.answer ≡ answer one (of_kept (codes "docs")) hub seen.op
unfolding computed
it_is_seen =
    let h : T (is_sorted path_cmp with_docs) = tt in simp (get-from_sorted, entries-from_sorted)

it_is_refused : refused.answer ≡ answer one (of_kept (codes "docs")) hub refused.op
unfolding computed
it_is_refused =
    let h : T (is_sorted path_cmp with_docs) = tt in simp (get-from_sorted, entries-from_sorted)

-- An empty replica: a directory is made and seen, and a file without a parent is refused.
abbrev history : List Entry
history = made ∷ seen ∷ refused ∷ []

from_the_second : IsLegal profiles hub one (seen ∷ refused ∷ [])
unfolding computed
from_the_second = ((refl, it_is_seen), ((refl, it_is_refused), tt))

the_history_is_legal : IsLegal profiles hub nobody history
the_history_is_legal = (
  (refl, it_is_made),
  subst (λ m. IsLegal profiles hub m (seen ∷ refused ∷ [])) (sym after_the_first) from_the_second,
)

a_parent_is_missing :
    set_fault one (path_of (codes "docs/x/y")) (contents.File []) ≡ Some set.NoParent
a_parent_is_missing =
    let h : T (is_sorted path_cmp with_docs) = tt in simp (get-from_sorted, entries-from_sorted)

it_leaves_the_directory : replay nobody history ≡ one
unfolding computed
it_leaves_the_directory =
    ap (λ m. replay m (seen ∷ refused ∷ [])) after_the_first
    ∙ ap (λ o. changed_unless o one (insert one (path_of (codes "docs/x/y")) (contents.File [])))
    a_parent_is_missing

-- A history with an entry of a job that isn't there is not legal, nor is one with another answer.
a_foreign_job_has_no_entry : ¬ (IsLegal profiles hub nobody (record made { job = 2 } ∷ []))
a_foreign_job_has_no_entry h = h.0

-- The entries of job 1 are not those of job 0.
by_job : map length (entries_of 0 history ∷ entries_of 1 history ∷ []) ≡ 3 ∷ 0 ∷ []
by_job = refl

-- A log of two Looks, one on each side: each root has one of them.
abbrev looked : Side → Logged
looked side = record {
  side = side;
  step = record { job = 0; op = Look docs; answer = sees mark.Absent [] false };
}

abbrev log : List Logged
log = looked Left ∷ looked Right ∷ []

by_root : map (λ r. length (entries_at (of_kept (codes "docs")) r log))
    (hub ∷ path_of (codes "srv/s1") ∷ path_of (codes "srv/s2") ∷ []) ≡ 1 ∷ 1 ∷ 0 ∷ []
by_root = refl

-- One Look more was stepped in the job's name than its log has: the lists differ.
abbrev one_more : List Entry
one_more = (looked Left).step ∷ (looked Left).step ∷ []

they_differ : entries_of 0 one_more ≢ entries_at (of_kept (codes "docs")) hub log
they_differ e = cc (ap length e)

-- With no more, they agree.
they_agree : entries_of 0 ((looked Left).step ∷ []) ≡ entries_at (of_kept (codes "docs")) hub log
they_agree = refl
