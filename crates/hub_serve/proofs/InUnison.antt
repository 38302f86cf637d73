-- From what is safe of readings for Unison to what is safe in Unison.
use Rattle.std.proofs.Common.{◌≡◌, ◌≢◌, ◌∙◌, ◌<◌, ◌+◌, ◌++◌, ◌||◌, codes, ℕ, zero, suc, Bool, true, false, cond, List, [], ◌∷◌, length, Option, Some, None, refl, sym, ap, ap₂, subst, arith}
use Rattle.std.specs.Prelude.{⊤, Contains, bytes_eq, encode_utf8_all, filter, map, slice_get}
use Rattle.std.specs.List.{list_all, list_any, range_with_len}
use Rattle.std.proofs.lemmas.Bool.Decides.{nat_tests}
use Rattle.std.proofs.lemmas.Bool.{false≢true}
use Rattle.std.proofs.lemmas.Option.{none-some, same_Some, slice_get_within}
use Rattle.hub_path.specs.Path.{Path}
use Rattle.hub_profile.specs.Parts.{Parts}
use Rattle.hub_reach.specs.Reach as hub
use Rattle.hub_profile.specs.declared.rule.Rule.{Rule}
use Rattle.hub_cert.specs.Set.{IsSafeSet, Members, forbidden_by}
use Rattle.hub_cert.specs.declared.fault.CheckFault.{CheckFault}
use Rattle.hub_rounds.specs.Rounds.{AreRounds, is_in_round, profiles_in_round}
use Rattle.hub_rounds.specs.declared.placing.Placed.{Placed}
use Rattle.hub_rounds.specs.declared.rounds.Rounds.{Rounds}
use Rattle.hub_bundle.specs.declared.sections.BundleContents.{BundleContents}
use Rattle.hub_bundle.specs.Sections.{Spells, members}
use Rattle.hub_cli.specs.declared.words.Reading.{Reading}
use Rattle.hub_cli.specs.declared.words.Reading.TheVariants.{Plain, Unison}
use Rattle.hub_unison.specs.Matching.{IsMatching, Matching}
use Rattle.hub_unison.specs.UnisonReach.{IsCautious, reach_by}
use Rattle.hub_unison.specs.Rules.{AreReadForUnison, IsReadingOf}
use Rattle.hub_unison.specs.Written.{AreWrittenAs, Written}
use Rattle.hub_preferences.specs.Counted.{counted_bundle}
use Rattle.hub_serve.proofs.WrittenSections.{bundle-written}
use Rattle.hub_unison.specs.laws.Rules.{read-safe, read-keeps}
use Rattle.hub_serve.specs.Reached.{first_named}
use Rattle.hub_path.specs.Path.{path_eq}
use Rattle.hub_path.specs.declared.side.Side.{Side}
use Rattle.hub_path.specs.declared.side.Side.TheVariants.{Left, Right}
use Rattle.hub_profile.specs.Parts.{at_side}
use Rattle.hub_text.specs.laws.List.{has-item, to-map}
use Rattle.hub_apart.specs.ApartLines.{pair_line}
use Rattle.hub_rounds.specs.Lines.{names_pair, subject_of}
use Rattle.hub_cli.specs.Words.{Request, reading_for}
use Rattle.hub_report.specs.Archive.{archive_line, joined_roots, roots_text_of}
use Rattle.hub_report.specs.Refusal.{joined, name_at, name_text, text_of_root}
use Rattle.hub_serve.specs.Rounds.{AreLinesAs}
use Rattle.hub_serve.specs.Shown.{ShowsArchive}
use Rattle.hub_unison.specs.Shared.{ShareNoArchive, is_shared, shared_pairs}
use Rattle.hub_serve.specs.Unison.{SpellsAs, SpellsSafeInUnison, SpellsUnreachedInUnison, first_written, written_in}
use Rattle.hub_serve.proofs.SharedPairs.{all-shared, behind-others, first-shared, no-archive}

is_unison : Reading → Bool
is_unison Plain = false
is_unison Unison = true

plain≢unison : Plain ≢ Unison
unfolding is_unison
plain≢unison e = false≢true (ap is_unison e)

-- What is safe of the readings of a bundle's profiles is so in Unison of its own ones, if they share no archive.
pub apart-in_unison : (bytes : List ℕ) (c : BundleContents) → SpellsAs Unison bytes c → IsSafeSet (members c) → ShareNoArchive c.profiles → SpellsSafeInUnison bytes
apart-in_unison bytes c h safe apart =
    let own = h.0 in
    let rules : c.rules ≡ own.rules = ap (λ (d : BundleContents). d.rules) h.2.others in
    let Ws : List Written = written_in h.1.sections in
    let read : AreReadForUnison Ws own.rules c.profiles = h.2.profiles Ws (bundle-written (counted_bundle bytes) own h.1) in
    record {
      own = own;
      spelled = h.1;
      safe = read-safe Ws own.rules c.profiles (map forbidden_by c.rules) read safe apart;
      kept = read-keeps Ws own.rules c.profiles (map forbidden_by c.rules) (ap (map forbidden_by) rules) read safe;
    }

module _ (R : Written → Parts → Type 0) where
  -- Each of the profiles is so to the written one at its place.
  abbrev Each : List Written → List Parts → Type 0
  Each [] [] = ⊤
  Each [] (C ∷ Cs) = ⊥
  Each (P ∷ Ps) [] = ⊥
  Each (P ∷ Ps) (C ∷ Cs) = R P C × Each Ps Cs

  abbrev At : List Written → List Parts → Type 0
  At Ps Cs = (i : ℕ) (P : Written) → slice_get Ps i ≡ Some P → (C : Parts) × (slice_get Cs i ≡ Some C) × R P C

  each-of : (Ps : List Written) (Cs : List Parts) → length Cs ≡ length Ps → At Ps Cs → Each Ps Cs
  each-of [] [] e h = tt
  each-of [] (C ∷ Cs) e h = absurd (omega (arith, e))
  each-of (P ∷ Ps) [] e h = absurd (omega (arith, e))
  each-of (P ∷ Ps) (C ∷ Cs) e h =
      let first = h 0 P refl in
      let same : first.0 ≡ C = same_Some first.0 C (sym first.1) in
      (subst (λ D. R P D) same first.2, each-of Ps Cs (omega (arith, e)) (λ i Q at. h (suc i) Q at))

  each-at : (Ps : List Written) (Cs : List Parts) → Each Ps Cs → At Ps Cs
  each-at [] Cs h i P at = absurd (none-some P at)
  each-at (P ∷ Ps) [] h i Q at = absurd h
  each-at (P ∷ Ps) (C ∷ Cs) h zero Q at = (C, refl, subst (λ D. R D C) (same_Some P Q at) h.0)
  each-at (P ∷ Ps) (C ∷ Cs) h (suc i) Q at = each-at Ps Cs h.1 i Q at

  -- And each of the first is one to which the second one at its place is so.
  own-at : (Ps : List Written) (Cs : List Parts) → length Cs ≡ length Ps → At Ps Cs → (i : ℕ) (C : Parts) → slice_get Cs i ≡ Some C → (P : Written) × (slice_get Ps i ≡ Some P) × R P C
  own-at Ps Cs count each i C at =
      let below = slice_get_within Cs i C at in
      let own = has-item Ps i (omega (arith, below, count)) in
      let read = each i own.0 own.1 in
      (own.0, own.1, subst (R own.0) (same_Some read.0 C (sym read.1 ∙ at)) read.2)

  each-length : (Ps : List Written) (Cs : List Parts) → Each Ps Cs → length Cs ≡ length Ps
  each-length [] [] h = refl
  each-length [] (C ∷ Cs) h = absurd h
  each-length (P ∷ Ps) [] h = absurd h
  each-length (P ∷ Ps) (C ∷ Cs) h = ap suc (each-length Ps Cs h.1)

  each-names : ((P : Written) (C : Parts) → R P C → C.name ≡ P.parts.name) → (Ps : List Written) (Cs : List Parts) → Each Ps Cs → map (λ P. P.parts.name) Ps ≡ map (λ C. C.name) Cs
  each-names named [] [] h = refl
  each-names named [] (C ∷ Cs) h = absurd h
  each-names named (P ∷ Ps) [] h = absurd h
  each-names named (P ∷ Ps) (C ∷ Cs) h = λ i. (sym (named P C h.0) i) ∷ (each-names named Ps Cs h.1 i)

  abbrev FirstIs : List ℕ → List Written → Parts → Type 0
  FirstIs name Ps D = (Q : Written) × (first_written name Ps ≡ Some Q) × R Q D

  one-first : (P : Written) (C : Parts) → C.name ≡ P.parts.name → R P C → (Ps : List Written) (Cs : List Parts) (name : List ℕ) (D : Parts) (b : Bool) → bytes_eq (encode_utf8_all C.name) name ≡ b
      → first_named name (C ∷ Cs) ≡ Some D → (first_named name Cs ≡ Some D → FirstIs name Ps D) → FirstIs name (P ∷ Ps) D
  one-first P C named r Ps Cs name D b is e others = go b is
    where
      like : bytes_eq (encode_utf8_all P.parts.name) name ≡ bytes_eq (encode_utf8_all C.name) name
      like = ap (λ n. bytes_eq (encode_utf8_all n) name) (sym named)

      go : (b : Bool) → bytes_eq (encode_utf8_all C.name) name ≡ b → FirstIs name (P ∷ Ps) D
      go true is =
          let same : C ≡ D = same_Some C D (sym (ap (λ (b : Bool). cond b (Some C) (first_named name Cs)) is) ∙ e) in
          (P, ap (λ (b : Bool). cond b (Some P) (first_written name Ps)) (like ∙ is), subst (λ E. R P E) same r)
      go false is =
          let later = others (sym (ap (λ (b : Bool). cond b (Some C) (first_named name Cs)) is) ∙ e) in
          (later.0, ap (λ (b : Bool). cond b (Some P) (first_written name Ps)) (like ∙ is) ∙ later.1, later.2)

  -- The first reading of a name is that of the first profile of this name.
  first-read : ((P : Written) (C : Parts) → R P C → C.name ≡ P.parts.name) → (Ps : List Written) (Cs : List Parts) → Each Ps Cs → (name : List ℕ) (D : Parts) → first_named name Cs ≡ Some D
      → FirstIs name Ps D
  first-read named [] [] h name D e = absurd (none-some D e)
  first-read named [] (C ∷ Cs) h name D e = absurd h
  first-read named (P ∷ Ps) [] h name D e = absurd h
  first-read named (P ∷ Ps) (C ∷ Cs) h name D e =
      one-first P C (named P C h.0) h.0 Ps Cs name D (bytes_eq (encode_utf8_all C.name) name) refl e (first-read named Ps Cs h.1 name D)

-- The roots at a side of two; and what two profiles' roots share.
abbrev side_of : List Path → Side → Option Path
side_of rs side = at_side rs side

abbrev roots_shared : List Path → List Path → Bool
roots_shared rs ss =
    list_all (λ r. list_any (λ own. path_eq own r) ss) rs || list_all (λ r. list_any (λ own. path_eq own r) rs) ss

-- Two profiles with a line of their own are about each other.
pub itself-pair : (i j : ℕ) → names_pair (subject_of (pair_line (i, j))) i j ≡ true
itself-pair i j = grind (arith, nat_tests)

-- The line of two profiles that share an archive has their names and roots alone.
abbrev line_of : List ℕ → List ℕ → List ℕ → List ℕ
line_of first second roots =
    joined (codes "same archive: " ∷ first ∷ codes " and " ∷ second ∷ roots ∷ [])

pub same-line : (Ps Cs : List Parts) (n : ℕ × ℕ) (P Q C D : Parts) → slice_get Ps n.0 ≡ Some P → slice_get Ps n.1 ≡ Some Q → slice_get Cs n.0 ≡ Some C → slice_get Cs n.1 ≡ Some D
    → C.name ≡ P.name → D.name ≡ Q.name → C.roots ≡ P.roots → archive_line Cs n ≡ archive_line Ps n
same-line Ps Cs n P Q C D own_first own_second first second name other_name roots =
    let names : name_at Cs n.0 ≡ name_at Ps n.0 = ap name_text first ∙ (ap encode_utf8_all name ∙ sym (ap name_text own_first)) in
    let others : name_at Cs n.1 ≡ name_at Ps n.1 = ap name_text second ∙ (ap encode_utf8_all other_name ∙ sym (ap name_text own_second)) in
    let rooted : roots_text_of (slice_get Cs n.0) ≡ roots_text_of (slice_get Ps n.0) =
    ap roots_text_of first ∙ (ap (λ rs. joined_roots (text_of_root (side_of rs Left)) (text_of_root (side_of rs Right))) roots ∙ sym (ap roots_text_of own_first)) in
    λ t. line_of (names t) (others t) (rooted t)

-- What a cautious reading doesn't reach, Unison doesn't.
unreached : (P : Written) (C : Parts) → IsCautious P C → (p : Path) → hub.reach C p ≡ false → (m : Matching) → IsMatching m → reach_by m P p ≡ false
unreached P C cautious p not m known = go (reach_by m P p) refl
  where
    go : (b : Bool) → reach_by m P p ≡ b → b ≡ false
    go false is = refl
    go true is = absurd (false≢true (sym not ∙ cautious.reach m known p is))

pub unreached-in_unison : (reading : Reading) (bytes : List ℕ) (c : BundleContents) → SpellsAs reading bytes c → (name : List ℕ) (C : Parts) (p : Path)
    → first_named name c.profiles ≡ Some C → hub.reach C p ≡ false → reading ≡ Unison → SpellsUnreachedInUnison bytes name p
unreached-in_unison Plain bytes c h name C p first not is = absurd (plain≢unison is)
unreached-in_unison Unison bytes c h name C p first not is =
    let own = h.0 in
    let Reads : Written → Parts → Type 0 = IsReadingOf own.rules in
    let Ws : List Written = written_in h.1.sections in
    let read : AreReadForUnison Ws own.rules c.profiles = h.2.profiles Ws (bundle-written (counted_bundle bytes) own h.1) in
    let each = each-of Reads Ws c.profiles read.count read.each in
    let found = first-read Reads (λ P C h. h.cautious.name) Ws c.profiles each name C first in
    record { own = own; spelled = h.1; W = found.0; profile = found.1; unreached = unreached found.0 C found.2.cautious p not }
