-- What is known of the files that were read.
use Rattle.std.proofs.Common.{◌≡◌, ◌∙◌, ◌<◌, ◌++◌, ℕ, List, [], ◌∷◌, Option, Some, None, get_or, length, map, Result, Ok, Err, IfErr, IsErrAnd, ap, refl, subst, sym}
use Rattle.std.proofs.lemmas.List.{get_or-map, length-map, map-append}
use Rattle.std.proofs.lemmas.List.Elements.{All-cons, All-head, All-nil, All-tail, Contains-append_right, Contains-get_or}
use Rattle.std.specs.List.{All, Contains}
use Rattle.hub_cli.specs.Words.{Names}
use Rattle.hub_folder.specs.Reading.{Reads}
use Rattle.hub_bundle.specs.declared.part.Kind.{Kind}
use Rattle.hub_bundle.specs.declared.part.Kind.TheVariants.{Certificates, Profile, Rules, State}
use Rattle.hub_folder.specs.Machines.{second_machine}
use Rattle.hub_folder.specs.Operands.{AreNamed, File, Owned}
use Rattle.hub_folder.specs.Told.{owned_of}
use Rattle.hub_folder.specs.declared.operands.NamedProfile.{NamedProfile}
use Rattle.hub_hosts.specs.Table.{Row}
use Rattle.hub_hosts.specs.declared.fault.HostsFault.{HostsFault}
use denote.Ref.{Bor}
use Rattle.hubsync.specs.Bundled.{AreSections, AreTaken, Disk, HasContents, IsTable, Label, Sources, for_hosts, for_section, label_alone, label_if, labels, option_labels, profile_label, unknown_host}
use Rattle.hubsync.specs.Named.{HaveLabels, HaveTexts, IsUnreadFile, IsUnreadOf, IsUnserved, bytes_held, label_held}
use Rattle.hubsync.specs.declared.files.Held.{Held}
use Rattle.hubsync.specs.declared.files.Unserved.{Unserved}
use Rattle.hubsync.specs.declared.files.Unserved.TheVariants as unserved_as

-- a file that is named and wasn't read
pub unread-of : (reads : Reads) (ls : List Label) (label : Label) (u : Unserved) → Contains ls label → IsUnreadFile reads label u → IsUnreadOf reads ls u
unread-of reads ls label (unserved_as.File file fault) named is = (label, named, is.0, is.1)
unread-of reads ls label (unserved_as.Untaken e) named is = absurd is
unread-of reads ls label (unserved_as.Hosts file fault) named is = absurd is
unread-of reads ls label (unserved_as.BadHosts file fault) named is = absurd is
unread-of reads ls label (unserved_as.SecondMachine operand) named is = absurd is
unread-of reads ls label (unserved_as.UnknownHost operand) named is = absurd is
unread-of reads ls label unserved_as.OutOfMemory named is = tt

-- it is among those that are named
pub unserved : (disk : Disk) (names : Names) (ls : List Label) (u : Unserved) → ((label : Label) → Contains ls label → Contains (labels names) label)
    → IsUnreadOf disk.reads ls u → IsUnserved disk names u
unserved disk names ls (unserved_as.File file fault) within is = (is.0, within is.0 is.1, is.2, is.3)
unserved disk names ls (unserved_as.Untaken e) within is = absurd is
unserved disk names ls (unserved_as.Hosts file fault) within is = absurd is
unserved disk names ls (unserved_as.BadHosts file fault) within is = absurd is
unserved disk names ls (unserved_as.SecondMachine operand) within is = absurd is
unserved disk names ls (unserved_as.UnknownHost operand) within is = absurd is
unserved disk names ls unserved_as.OutOfMemory within is = tt

-- an operand whose machine is named twice, or unknown
pub of-second-machine : (disk : Disk) (names : Names) (u : Unserved) (operand : Bor (List ℕ)) → u ≡ unserved_as.SecondMachine operand
    → IsUnserved disk names u → second_machine names.profiles ≡ Some operand.now
of-second-machine disk names u operand e is = subst (IsUnserved disk names) e is

pub of-unknown-host : (disk : Disk) (names : Names) (u : Unserved) (operand : Bor (List ℕ)) → u ≡ unserved_as.UnknownHost operand
    → IsUnserved disk names u → IsUnserved disk names (unserved_as.UnknownHost operand)
of-unknown-host disk names u operand e is = subst (IsUnserved disk names) e is

-- what is wrong with a table of hosts
pub of-bad-hosts : (disk : Disk) (names : Names) (u : Unserved) (file : Bor (List ℕ)) (fault : HostsFault) → u ≡ unserved_as.BadHosts file fault
    → IsUnserved disk names u → IsUnserved disk names (unserved_as.BadHosts file fault)
of-bad-hosts disk names u file fault e is = subst (IsUnserved disk names) e is

pub plain-unserved : (disk : Disk) (names : Names) (ls : List Label) (u : Unserved) → ls ≡ labels names → IsUnreadOf disk.reads ls u
    → IsUnserved disk names u
plain-unserved disk names ls u e is = unserved disk names ls u (λ l c. subst (λ all. Contains all l) e c) is

pub option-unserved : (disk : Disk) (names : Names) (ls : List Label) (u : Unserved) → ls ≡ option_labels names → IsUnreadOf disk.reads ls u
    → IsUnserved disk names u
option-unserved disk names ls u e is =
    unserved disk names ls u
    (λ l c. Contains-append_right (map (label_alone Profile) names.profiles) (option_labels names) l (subst (λ all. Contains all l) e c))
    is

-- The sections are those of other lists that are the same.
pub sections-same : (disk : Disk) (sources : Sources) {ks ls : List Label} {fs gs : List File} → ks ≡ ls → fs ≡ gs
    → AreSections disk sources ls gs → AreSections disk sources ks fs
sections-same disk sources {ks = ks} {ls = ls} {fs = fs} {gs = gs} e f are =
    subst (λ all. AreSections disk sources all fs) (sym e) (subst (λ files. AreSections disk sources ls files) (sym f) are)

pub Contains-map_at : {X Y : Type 0} (f : X → Y) (xs : List X) (i : ℕ) (d : X) → i < length xs → Contains (map f xs) (f (get_or xs i d))
Contains-map_at f xs i d lt =
    subst (Contains (map f xs)) (get_or-map f xs i d (f d) lt) (Contains-get_or (map f xs) i (f d) (subst (λ n. i < n) (sym (length-map xs f)) lt))

pub passed_up : {T E : Type 0} (r : Result T E) (e : E) (P : E → Type 0) → IsErrAnd r (λ y. y ≡ e) → P e → IfErr r P
passed_up (Ok x) e P is p = tt
passed_up (Err y) e P is p = subst P (sym is) p

map-map : {X Y Z : Type 0} (f : Y → Z) (g : X → Y) (xs : List X) → map f (map g xs) ≡ map (λ x. f (g x)) xs
map-map f g [] = refl
map-map f g (x ∷ xs) = ap (λ ys. f (g x) ∷ ys) (map-map f g xs)

-- The section of a file that was read, and what it has.
abbrev section_held : Held → Kind × File
section_held h = (h.kind, bytes_held h)

have-bytes : (reads : Reads) (others : List Held) → All (HasContents reads) (map bytes_held others)
    → All (λ o. HasContents reads o.1) (map section_held others)
have-bytes reads [] all = All-nil (λ (o : Kind × File). HasContents reads o.1)
have-bytes reads (h ∷ hs) all =
    All-cons (λ (o : Kind × File). HasContents reads o.1) (section_held h) (map section_held hs)
    (All-head (HasContents reads) (bytes_held h) (map bytes_held hs) all)
    (have-bytes reads hs (All-tail (HasContents reads) (bytes_held h) (map bytes_held hs) all))

-- The labels of options have no machine.
abbrev alone : Label → Label
alone label = label_alone label.0 label.1

alone-if : (kind : Kind) (file : Option (List ℕ)) → map alone (label_if kind file) ≡ label_if kind file
alone-if kind None = refl
alone-if kind (Some file) = refl

alone-options : (names : Names) → map alone (option_labels names) ≡ option_labels names
alone-options names =
    let rest = label_if State names.state ++ label_if Certificates names.certificates in
    map-append alone (label_if Rules names.rules) rest
    ∙ ((λ i. alone-if Rules names.rules i ++ map alone rest)
    ∙ ap (λ ls. label_if Rules names.rules ++ ls)
    (map-append alone (label_if State names.state) (label_if Certificates names.certificates)
    ∙ (λ i. alone-if State names.state i ++ alone-if Certificates names.certificates i)))

labels-alone : (names : Names) (others : List Held) → map label_held others ≡ option_labels names
    → map (λ o. label_alone o.0 o.1.0) (map section_held others) ≡ option_labels names
labels-alone names others labels =
    map-map (λ (o : Kind × File). label_alone o.0 o.1.0) section_held others
    ∙ (sym (map-map alone label_held others) ∙ (ap (map alone) labels ∙ alone-options names))

-- What is held has the sections of the profiles, and of the others with paths in place of the roots of hosts in rules.
pub hold_taken : (disk : Disk) (names : Names) (profiles : List NamedProfile) (table : Option (List Row)) (others held : List Held)
    → AreNamed disk.reads disk.lists names.profiles (map owned_of profiles) → second_machine names.profiles ≡ None
    → IsTable disk.reads names.hosts table → unknown_host table names.profiles ≡ None → map label_held others ≡ option_labels names → All (HasContents disk.reads) (map bytes_held others)
    → HaveLabels profiles others held → HaveTexts table profiles others held
    → AreTaken disk names (map label_held held) (map bytes_held held)
hold_taken disk names profiles table others held named apart is_table known labels bytes are_labels are_texts = record {
  profiles = map owned_of profiles;
  named = named;
  apart = apart;
  table = table;
  is_table = is_table;
  known = known;
  others = map section_held others;
  others_are = labels-alone names others labels;
  bytes_are = have-bytes disk.reads others bytes;
  labels_are = are_labels ∙ ap (λ ls. map profile_label (map owned_of profiles) ++ ls) labels;
  files_are = are_texts
      ∙ ap (λ fs. map (for_hosts table) (map owned_of profiles) ++ fs) (sym (map-map (λ o. for_section table o.0 o.1) section_held others));
}
