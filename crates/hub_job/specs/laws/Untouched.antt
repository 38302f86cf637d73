-- What one job of a safe set writes, the others depend on nowhere.
use Rattle.std.proofs.Common.{◌≡◌, ◌<◌, inl, inr, true, false, cond, not, ◌&&◌, ◌||◌, length, Option, Some, None, refl, ap, ◌∙◌}
use Rattle.std.specs.Prelude.{◌==◌, if◌then◌else◌, IsTrue}
use Rattle.std.proofs.lemmas.Bool.{and_parts}
use Rattle.std.proofs.lemmas.Option.{same_Some}
use Rattle.hub_path.specs.laws.General.{is_over-reflexive, is_over-parent, path_eq-decides}
use Rattle.hub_path.specs.Path.{Path, path_eq, is_over, parent}
use Rattle.hub_profile.specs.Parts.{Parts}
use Rattle.hub_reach.specs.Reach.{reach, may_at, write, has_root, PassesThrough}
use Rattle.hub_reach.specs.Safe.{Overlap}
use Rattle.hub_profile.specs.declared.verb.Verb.TheVariants.{Create, Update, Delete}
use Rattle.hub_tree.specs.Tree.{Replica, contents_at, with_contents}
use Rattle.hub_tree.specs.declared.contents.Contents.{Contents}
use Rattle.hub_tree.specs.declared.fault.SetFault.{SetFault}
use Rattle.hub_job.specs.Machine.{changed_unless}
use Rattle.hub_job.specs.Alike.{Depends}

-- What the laws of hub_tree say, as lemmas take it.
abbrev pub SetsOne : Type 0
SetsOne =
    (m : Replica) (p q : Path) (c : Contents) → 0 < length p
    → contents_at (with_contents m p c) q ≡ (if path_eq q p then c else contents_at m q)

pub path-of_Some : (p q : Path) → Some p ≡ Some q → path_eq p q ≡ true
path-of_Some p q e = (path_eq-decides p q).1 (same_Some p q e)

-- reach and write
pub write-reaches : (P : Parts) (r p : Path) → IsTrue (write P r p) → IsTrue (reach P p)
write-reaches P r p h =
    (and_parts (has_root P r && (may_at P r p Create || may_at P r p Update || may_at P r p Delete))
    (reach P p) h).1

pub passes-itself : (P : Parts) (p : Path) → IsTrue (reach P p) → PassesThrough P p
passes-itself P p h = (p, rw (is_over-reflexive p, h) refl)

pub passes-parent : (P : Parts) (s : Path) → IsTrue (reach P s) → PassesThrough P (parent s)
passes-parent P s h = (s, rw (is_over-parent s, h) refl)

-- What one job writes, the other depends on nowhere.
pub untouched : (P Q : Parts) (r p : Path) → ¬ (Overlap (write P r) Q) → ¬ (Overlap (write Q r) P)
    → IsTrue (write P r p) → Depends Q r p → ⊥
untouched P Q r p apart back w (inl passes) =
    let two = and_parts (is_over p passes.0) (reach Q passes.0) passes.1 in
    apart (p, passes.0, two.0, w, two.1)
untouched P Q r p apart back w (inr holds) =
    let two = and_parts (not (length p == 0)) (write Q r (parent p)) holds in
    back (parent p, p, is_over-parent p, two.1, write-reaches P r p w)

pub elsewhere : SetsOne → (m : Replica) (p q : Path) (c : Contents) (o : Option SetFault)
    → 0 < length p → path_eq q p ≡ false → contents_at (changed_unless o m (with_contents m p c)) q
    ≡ contents_at m q
elsewhere sets m p q c None l e = sets m p q c l ∙ ap (λ b. cond b c (contents_at m q)) e
elsewhere sets m p q c (Some f) l e = refl
