-- The folders of files that were read.
use Rattle.std.proofs.Common.{◌≡◌, ◌∙◌, ◌++◌, ◌+◌, ◌<◌, ◌≤◌, ℕ, true, false, List, [], ◌∷◌, Option, Some, None, get_or, length, map, take, ⊎_elim, ap, refl, sym}
use Rattle.std.proofs.lemmas.Bool.{false≢true, or_cases}
use Rattle.std.proofs.lemmas.List.Elements.{All-cons, All-head, All-nil, All-tail}
use Rattle.std.proofs.Math.Numerals.{add-one}
use Rattle.std.proofs.Math.Seq.{take-suc}
use Rattle.std.proofs.lemmas.List.{map-append, take_all}
use Rattle.hub_text.specs.laws.List.{cons-here, cons-there}
use Rattle.std.specs.Prelude.{IfSome}
use Rattle.std.specs.List.{All, Contains, list_any}
use Rattle.hub_path.specs.Path.{Path, path_eq}
use Rattle.hub_path.specs.laws.General.{path_eq-decides}
use Rattle.hub_bundle.specs.declared.part.Kind.{Kind}
use Rattle.hub_bundle.specs.declared.part.Kind.TheVariants.{Profile}
use Rattle.hubsync.specs.Bundled.{AreFolders, Disk, HasFolderAmong, Label, Sources}
use Rattle.hubsync.specs.Named.{AreAmong, is_of_profile, label_held}
use Rattle.hubsync.specs.declared.files.Held.{Held}

told_more : (o : Option Path) (old new : List Path) → AreAmong old new → IfSome o (Contains old) → IfSome o (Contains new)
told_more None old new among h = h
told_more (Some p) old new among h = among p h

has_more : (disk : Disk) (old new : List Path) (l : Label) → AreAmong old new → HasFolderAmong disk old l
    → HasFolderAmong disk new l
has_more disk old new l among has is = let h = has is in (h.0, h.1, told_more h.0 old new among h.2)

all_more : (disk : Disk) (old new : List Path) (ls : List Label) → AreAmong old new
    → All (HasFolderAmong disk old) ls → All (HasFolderAmong disk new) ls
all_more disk old new [] among all = All-nil (HasFolderAmong disk new)
all_more disk old new (l ∷ ls) among all =
    All-cons (HasFolderAmong disk new) l ls
    (has_more disk old new l among (All-head (HasFolderAmong disk old) l ls all))
    (all_more disk old new ls among (All-tail (HasFolderAmong disk old) l ls all))

all_with : (disk : Disk) (new : List Path) (ls : List Label) (l : Label) → All (HasFolderAmong disk new) ls
    → HasFolderAmong disk new l → All (HasFolderAmong disk new) (ls ++ l ∷ [])
all_with disk new [] l all has = All-cons (HasFolderAmong disk new) l [] has all
all_with disk new (k ∷ ks) l all has =
    All-cons (HasFolderAmong disk new) k (ks ++ l ∷ []) (All-head (HasFolderAmong disk new) k ks all)
    (all_with disk new ks l (All-tail (HasFolderAmong disk new) k ks all) has)

-- The folder of one more file is there.
pub one_more : (disk : Disk) (old new : List Path) (ls : List Label) (l : Label) → AreAmong old new
    → All (HasFolderAmong disk old) ls → HasFolderAmong disk new l → All (HasFolderAmong disk new) (ls ++ l ∷ [])
one_more disk old new ls l among all has = all_with disk new ls l (all_more disk old new ls among all) has

-- Folders of files that are read plainly, and for Unison.
pub plain_folders : (disk : Disk) (sources : Sources) (ls : List Label) → sources.is_for_unison ≡ false
    → AreFolders disk sources ls []
plain_folders disk sources ls plain = record {
  plain = λ is. refl;
  unison = λ is. absurd (false≢true (sym plain ∙ is));
}

pub unison_folders : (disk : Disk) (sources : Sources) (ls : List Label) (folders : List Path)
    → sources.is_for_unison ≡ true → All (HasFolderAmong disk folders) ls → AreFolders disk sources ls folders
unison_folders disk sources ls folders unison all = record {
  plain = λ is. absurd (false≢true (sym is ∙ unison));
  unison = λ is. all;
}

pub no_profile : (k : Kind) → is_of_profile k ≡ false → k ≡ Profile → ⊥
no_profile k none is = false≢true (sym none ∙ ap is_of_profile is)

-- A folder that is found is there.
pub there : (fs : List Path) (f : Path) → list_any (λ g. path_eq g f) fs ≡ true → Contains fs f
there [] f h = absurd (false≢true h)
there (g ∷ fs) f h =
    ⊎_elim (λ e. cons-here g f fs ((path_eq-decides g f).0 e)) (λ rest. cons-there g f fs (there fs f rest))
    (or_cases (path_eq g f) (list_any (λ k. path_eq k f) fs) h)

-- The labels of one more file.
pub labels_more : (held : List Held) (n : ℕ) (h : Held) → n < length held → h ≡ get_or held n h
    → map label_held (take (n + 1) held) ≡ map label_held (take n held) ++ label_held h ∷ []
labels_more held n h lt is =
    ap (λ k. map label_held (take k held)) (add-one n)
    ∙ (ap (map label_held) (take-suc held n h lt)
    ∙ (map-append label_held (take n held) (get_or held n h ∷ [])
    ∙ ap (λ x. map label_held (take n held) ++ label_held x ∷ []) (sym is)))

pub all_labels : (held : List Held) (n : ℕ) → length held ≤ n → map label_held (take n held) ≡ map label_held held
all_labels held n le = ap (map label_held) (take_all n held le)
