-- What is left out by told files is that by their names.
use Rattle.std.proofs.Common.{◌≡◌, ◌∙◌, ◌<◌, ◌+◌, ◌&&◌, ◌++◌, not, ℕ, Bool, cond, List, [], ◌∷◌, String, Global, filter, get_or, length, map, take, bytes_eq, string_bytes, refl, sym, ap, subst, append_assoc}
use Rattle.std.specs.List.{All}
use Rattle.std.proofs.lemmas.List.{append-nil, map-append}
use Rattle.std.proofs.lemmas.List.Elements.{All-head, All-tail, All-weaker}
use denote.Ref.{Bor}
use Rattle.hub_include.specs.Files.{Known}
use Rattle.hub_folder.specs.Folders.{have_file, have_root, is_profile, is_rootless, leaves_out, left_out_by, rootless_of, say_something}
use Rattle.hub_folder.specs.Machines.{source_of}
use Rattle.hub_folder.specs.Noted.{Noted, AreNoted, IsNoted, joined, nothing}
use Rattle.hub_folder.specs.Reading.{Lists, Reads}
use Rattle.hub_folder.specs.Told.{AreTold, IsTold, file_told, is_profile_told, is_rootless_told, leaves_out_told, left_out_told, left_outs_told, noted_of, path_and_text, paths_left_out, rootless_told}
use Rattle.hub_folder.specs.declared.folder.FolderProfile.{FolderProfile}
use Rattle.hub_folder.specs.declared.told.Told.{Told}
use Rattle.hub_folder.proofs.OperandFacts.{taken-more}
use Rattle.hub_folder.proofs.ToldFacts.{included-told, lines-told, map-cond, profile-told}

-- What is made of those that pass, by names and by files.
picked-each : {Y : Type 0} (f : List ℕ → Y) (g : Told → Y) (p : List ℕ → Bool) (q : Told → Bool) (ts : List Told)
    → All (λ t. p (file_told t) ≡ q t) ts → All (λ t. f (file_told t) ≡ g t) ts
    → map f (filter p (map file_told ts)) ≡ map g (filter q ts)
picked-each f g p q [] a b = refl
picked-each f g p q (t ∷ ts) a b =
    let more = picked-each f g p q ts (All-tail (λ t. p (file_told t) ≡ q t) t ts a) (All-tail (λ t. f (file_told t) ≡ g t) t ts b) in
    let passes = All-head (λ t. p (file_told t) ≡ q t) t ts a in
    let same = All-head (λ t. f (file_told t) ≡ g t) t ts b in
    map-cond f (file_told t) (filter p (map file_told ts)) (p (file_told t))
    ∙ (λ i. cond (passes i) (same i ∷ more i) (more i))
    ∙ sym (map-cond g t (filter q ts) (q t))

leaves-told : (known : Known) (t other : Told) → IsTold known t → IsTold known other
    → leaves_out known (file_told t) (file_told other) ≡ leaves_out_told t other
leaves-told known t other h o =
    λ i. have_root (lines-told known other o i)
    && (not (bytes_eq (file_told t) (file_told other)) && have_file (file_told other) (lines-told known t h i))

left-told : (known : Known) (place : List ℕ) (all : List Told) (t : Told) → All (IsTold known) all → IsTold known t
    → left_out_by known place (map file_told all) (file_told t) ≡ left_out_told place all t
left-told known place all t a h =
    picked-each (λ other. place ++ other) (λ other. place ++ file_told other) (leaves_out known (file_told t)) (leaves_out_told t) all
    (All-weaker (IsTold known) (λ o. leaves_out known (file_told t) (file_told o) ≡ leaves_out_told t o) (λ o is. leaves-told known t o h is) all a)
    (All-weaker (IsTold known) (λ o. (place ++ file_told o) ≡ (place ++ file_told o)) (λ o is. refl) all a)

lefts-told : (known : Known) (place : List ℕ) (all ts : List Told) → All (IsTold known) all → All (IsTold known) ts
    → map (left_out_by known place (map file_told all)) (filter (is_profile known (map file_told all)) (map file_told ts)) ≡ left_outs_told place all ts
lefts-told known place all ts a b =
    picked-each (left_out_by known place (map file_told all)) (left_out_told place all) (is_profile known (map file_told all)) (is_profile_told all) ts
    (All-weaker (IsTold known) (λ t. is_profile known (map file_told all) (file_told t) ≡ is_profile_told all t) (λ t h. profile-told known all t a h) ts b)
    (All-weaker (IsTold known) (λ t. left_out_by known place (map file_told all) (file_told t) ≡ left_out_told place all t) (λ t h. left-told known place all t a h) ts b)

is-rootless-told : (known : Known) (all : List Told) (t : Told) → All (IsTold known) all → IsTold known t
    → is_rootless known (map file_told all) (file_told t) ≡ is_rootless_told all t
is-rootless-told known all t a h =
    λ i. (not (have_root (lines-told known t h i)) && say_something (lines-told known t h i)) && not (included-told known (file_told t) all a i)

rootless-each : (known : Known) (place : List ℕ) (all ts : List Told) → All (IsTold known) all → All (IsTold known) ts
    → map (λ name. place ++ name) (filter (is_rootless known (map file_told all)) (map file_told ts)) ≡ rootless_told place all ts
rootless-each known place all ts a b =
    picked-each (λ name. place ++ name) (λ t. place ++ file_told t) (is_rootless known (map file_told all)) (is_rootless_told all) ts
    (All-weaker (IsTold known) (λ t. is_rootless known (map file_told all) (file_told t) ≡ is_rootless_told all t) (λ t h. is-rootless-told known all t a h) ts b)
    (All-weaker (IsTold known) (λ t. (place ++ file_told t) ≡ (place ++ file_told t)) (λ t h. refl) ts b)

-- The files that profiles leave out, and the rootless ones, by told files.
pub told-lefts : (known : Known) (place : List ℕ) (names : List (List ℕ)) (ts : List Told) → AreTold known names ts
    → left_outs_told place ts ts ≡ map (left_out_by known place names) (filter (is_profile known names) names)
told-lefts known place names ts are =
    sym (lefts-told known place ts ts are.lines_are are.lines_are)
    ∙ (λ i. map (left_out_by known place (are.names_are i)) (filter (is_profile known (are.names_are i)) (are.names_are i)))

pub told-rootless : (known : Known) (place : List ℕ) (names : List (List ℕ)) (ts : List Told) → AreTold known names ts
    → rootless_told place ts ts ≡ rootless_of known place names
told-rootless known place names ts are =
    sym (rootless-each known place ts ts are.lines_are are.lines_are) ∙ (λ i. rootless_of known place (are.names_are i))

joined-nothing : (n : Noted) → joined n nothing ≡ n
joined-nothing n =
    λ i. record { files = append-nil n.files i; left_out = append-nil n.left_out i; rootless = append-nil n.rootless i }

joined-assoc : (a b c : Noted) → joined (joined a b) c ≡ joined a (joined b c)
joined-assoc a b c =
    λ i. record {
      files = append_assoc a.files b.files c.files i;
      left_out = append_assoc a.left_out b.left_out c.left_out i;
      rootless = append_assoc a.rootless b.rootless c.rootless i;
    }

-- One more operand.
AreNoted-more : (reads : Reads) (lists : Lists) (os : List (List ℕ)) (o : List ℕ) (n own : Noted)
    → AreNoted reads lists os n → IsNoted reads lists (source_of o) own → AreNoted reads lists (os ++ o ∷ []) (joined n own)
AreNoted-more reads lists [] o n own none is = (own, nothing, ap (λ m. joined m own) none ∙ sym (joined-nothing own), is, refl)
AreNoted-more reads lists (p ∷ os) o n own are is =
    (are.0, joined are.1 own, ap (λ m. joined m own) are.2 ∙ joined-assoc are.0 are.1 own, are.3, AreNoted-more reads lists os o are.1 own are.4 is)

joined-noted : (files own all : List FolderProfile) (paths others every : List (String Global)) → all ≡ files ++ own → every ≡ paths ++ others
    → noted_of all every ≡ joined (noted_of files paths) (noted_of own others)
joined-noted files own all paths others every e f =
    (λ i. noted_of (e i) (f i))
    ∙ (λ i. record {
      files = map-append path_and_text files own i;
      left_out = map-append paths_left_out files own i;
      rootless = map-append string_bytes paths others i;
    })

-- What the first operands name, and the next one.
pub noted-more : (reads : Reads) (lists : Lists) (operands : List (Bor (List ℕ))) (i : ℕ) (d : Bor (List ℕ)) (files own all : List FolderProfile)
    (paths others every : List (String Global)) → i < length operands → all ≡ files ++ own → every ≡ paths ++ others
    → AreNoted reads lists (map (λ o. o.now) (take i operands)) (noted_of files paths)
    → IsNoted reads lists (source_of (get_or operands i d).now) (noted_of own others)
    → AreNoted reads lists (map (λ o. o.now) (take (i + 1) operands)) (noted_of all every)
noted-more reads lists operands i d files own all paths others every lt e f are is =
    subst (AreNoted reads lists (map (λ o. o.now) (take (i + 1) operands))) (sym (joined-noted files own all paths others every e f))
    (subst (λ os. AreNoted reads lists os (joined (noted_of files paths) (noted_of own others))) (taken-more (λ o. o.now) operands i d lt)
    (AreNoted-more reads lists (map (λ o. o.now) (take i operands)) (get_or operands i d).now (noted_of files paths) (noted_of own others) are is))
