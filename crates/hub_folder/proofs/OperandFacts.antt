-- Operands one by one.
use Rattle.std.proofs.Common.{◌≡◌, ◌∙◌, ◌<◌, ◌+◌, ℕ, List, [], ◌∷◌, ◌++◌, Option, drop, get_or, length, map, take, inr, refl, sym, ap, subst, append_assoc, arith}
use Rattle.std.proofs.lemmas.Grind.{common_steps}
use Rattle.std.proofs.lemmas.List.{append-nil, map-append, take-append-drop}
use Rattle.std.proofs.lemmas.List.Sums.{sum_by-append, sum_by-cons}
use denote.Ref.{Bor}
use Rattle.hub_folder.specs.Machines.{machine_in, machine_of, source_of}
use Rattle.hub_folder.specs.Operands.{File, AreNamed, IsFault, IsNamed, IsUnnamed, Owned, bytes_in, files_of, owned}
use Rattle.hub_folder.specs.Reading.{Lists, Reads}
use Rattle.hub_folder.specs.Told.{folder_profiles, named, owned_of, path_and_text, profile_bytes}
use Rattle.hub_folder.specs.declared.fault.Untaken.{Untaken}
use Rattle.hub_folder.specs.declared.folder.FolderProfile.{FolderProfile}
use Rattle.hub_folder.specs.declared.operands.NamedProfile.{NamedProfile}

-- One more operand.
pub AreNamed-more : (reads : Reads) (lists : Lists) (os : List (List ℕ)) (o : List ℕ) (ps : List Owned) (own : List File)
    → AreNamed reads lists os ps → IsNamed reads lists (source_of o) own
    → AreNamed reads lists (os ++ o ∷ []) (ps ++ map (owned (machine_of o)) own)
AreNamed-more reads lists [] o ps own none is =
    let these = map (owned (machine_of o)) own in (own, [], ap (λ qs. qs ++ these) none ∙ sym (append-nil these), is, refl)
AreNamed-more reads lists (p ∷ os) o ps own are is =
    let first = are.0 in
    let rest = are.1 in
    let these = map (owned (machine_of o)) own in (
      first,
      rest ++ these,
      ap (λ qs. qs ++ these) are.2 ∙ append_assoc (map (owned (machine_of p)) first) rest these,
      are.3,
      AreNamed-more reads lists os o rest own are.4 is,
    )

-- The first ones of a list, one more, and the rest.
pub taken-more : {X Y : Type 0} (f : X → Y) (xs : List X) (i : ℕ) (d : X) → i < length xs
    → map f (take i xs) ++ f (get_or xs i d) ∷ [] ≡ map f (take (i + 1) xs)
taken-more f xs i d lt = grind (arith, common_steps)

pub parted-at : {X Y : Type 0} (f : X → Y) (xs : List X) (i : ℕ) (d : X) → i < length xs
    → map f xs ≡ map f (take i xs) ++ f (get_or xs i d) ∷ map f (drop (i + 1) xs)
parted-at f xs i d lt =
    sym (ap (map f) (take-append-drop (i + 1) xs))
    ∙ map-append f (take (i + 1) xs) (drop (i + 1) xs)
    ∙ ap (λ ys. ys ++ map f (drop (i + 1) xs)) (sym (taken-more f xs i d lt))
    ∙ append_assoc (map f (take i xs)) (f (get_or xs i d) ∷ []) (map f (drop (i + 1) xs))

pub parted-item : {X Y : Type 0} (f : X → Y) (xs : List X) (i : ℕ) (x : X) → i < length xs → x ≡ get_or xs i x
    → map f xs ≡ map f (take i xs) ++ f x ∷ map f (drop (i + 1) xs)
parted-item f xs i x lt is = parted-at f xs i x lt ∙ ap (λ y. map f (take i xs) ++ f y ∷ map f (drop (i + 1) xs)) (sym is)

-- The bytes of the texts of profiles.
pub profile_bytes_cons : (p : FolderProfile) (ps : List FolderProfile) → profile_bytes (p ∷ ps) ≡ length p.text.items + profile_bytes ps
profile_bytes_cons p ps = sum_by-cons (λ (file : File). length file.1) (path_and_text p) (map path_and_text ps)

pub profile_bytes_more : (ps qs all : List FolderProfile) → all ≡ ps ++ qs → profile_bytes all ≡ profile_bytes ps + profile_bytes qs
profile_bytes_more ps qs all e =
    ap profile_bytes e ∙ ap bytes_in (map-append path_and_text ps qs)
    ∙ sum_by-append (λ (file : File). length file.1) (map path_and_text ps) (map path_and_text qs)

map-map : {X Y Z : Type 0} (f : Y → Z) (g : X → Y) (xs : List X) → map f (map g xs) ≡ map (λ x. f (g x)) xs
map-map f g [] = refl
map-map f g (x ∷ xs) = ap (λ ys. f (g x) ∷ ys) (map-map f g xs)

map-same : {X : Type 0} (xs : List X) → map (λ x. x) xs ≡ xs
map-same [] = refl
map-same (x ∷ xs) = ap (λ ys. x ∷ ys) (map-same xs)

-- Profiles of a machine: as contracts see them, and without it.
owned-named : (machine : Option (Bor (List ℕ))) (m : Option (List ℕ)) (own : List FolderProfile) → machine_in machine ≡ m
    → map owned_of (map (named machine) own) ≡ map (owned m) (map path_and_text own)
owned-named machine m own is =
    map-map owned_of (named machine) own
    ∙ (ap (λ n. map (λ p. owned n (path_and_text p)) own) is ∙ sym (map-map (owned m) path_and_text own))

pub folder_profiles-more : (ps all : List NamedProfile) (machine : Option (Bor (List ℕ))) (own : List FolderProfile)
    → all ≡ ps ++ map (named machine) own → folder_profiles all ≡ folder_profiles ps ++ own
folder_profiles-more ps all machine own e =
    ap folder_profiles e
    ∙ (map-append (λ p. p.profile) ps (map (named machine) own)
    ∙ ap (λ qs. folder_profiles ps ++ qs) (map-map (λ p. p.profile) (named machine) own ∙ map-same own))

files-of : (ps : List NamedProfile) → files_of (map owned_of ps) ≡ map path_and_text (folder_profiles ps)
files-of ps = map-map (λ p. p.file) owned_of ps ∙ sym (map-map path_and_text (λ p. p.profile) ps)

-- The profiles of the first operands, and those of the next one.
pub named-more : (reads : Reads) (lists : Lists) (operands : List (Bor (List ℕ))) (i : ℕ) (d : Bor (List ℕ)) (ps : List NamedProfile)
    (own : List FolderProfile) (machine : Option (Bor (List ℕ))) (all : List NamedProfile) → i < length operands
    → all ≡ ps ++ map (named machine) own → machine_in machine ≡ machine_of (get_or operands i d).now
    → AreNamed reads lists (map (λ o. o.now) (take i operands)) (map owned_of ps)
    → IsNamed reads lists (source_of (get_or operands i d).now) (map path_and_text own)
    → AreNamed reads lists (map (λ o. o.now) (take (i + 1) operands)) (map owned_of all)
named-more reads lists operands i d ps own machine all lt e of are is =
    let next = (get_or operands i d).now in
    let these = map (owned (machine_of next)) (map path_and_text own) in
    let whole : map owned_of all ≡ map owned_of ps ++ these =
    ap (map owned_of) e
    ∙ (map-append owned_of ps (map (named machine) own)
    ∙ ap (λ qs. map owned_of ps ++ qs) (owned-named machine (machine_of next) own of)) in
    subst (λ qs. AreNamed reads lists (map (λ o. o.now) (take (i + 1) operands)) qs) (sym whole)
    (subst (λ os. AreNamed reads lists os (map owned_of ps ++ these)) (taken-more (λ o. o.now) operands i d lt)
    (AreNamed-more reads lists (map (λ o. o.now) (take i operands)) next (map owned_of ps) (map path_and_text own) are is))

-- The profiles of an operand can't be taken, after those of the operands before it.
pub unnamed-at : (reads : Reads) (lists : Lists) (operands : List (Bor (List ℕ))) (i : ℕ) (d : Bor (List ℕ)) (ps : List NamedProfile)
    (taken : ℕ) (e : Untaken) → i < length operands → AreNamed reads lists (map (λ o. o.now) (take i operands)) (map owned_of ps)
    → taken ≡ profile_bytes (folder_profiles ps) → IsFault reads lists taken (source_of (get_or operands i d).now) e
    → IsUnnamed reads lists (map (λ o. o.now) operands) e
unnamed-at reads lists operands i d ps taken e lt are is fault =
    let path = source_of (get_or operands i d).now in
    inr (
      map (λ o. o.now) (take i operands),
      (get_or operands i d).now,
      map (λ o. o.now) (drop (i + 1) operands),
      parted-at (λ o. o.now) operands i d lt,
      (map owned_of ps, are, subst (λ n. IsFault reads lists n path e) (is ∙ ap bytes_in (sym (files-of ps))) fault),
    )
