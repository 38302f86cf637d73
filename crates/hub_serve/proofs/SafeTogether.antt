-- From profiles without lines to what is safe together in Unison.
use Rattle.std.proofs.Common.{◌≡◌, ◌≢◌, ◌∙◌, ◌<◌, ◌+◌, ◌++◌, ⊎_elim, ℕ, zero, suc, Bool, true, List, [], ◌∷◌, length, Some, refl, sym, ap, subst, arith}
use Rattle.std.specs.Prelude.{Contains, map, slice_get}
use Rattle.std.specs.List.{range_with_len}
use Rattle.std.proofs.Math.Bool.{or_comm}
use Rattle.std.proofs.lemmas.List.Elements.{Contains-append_left, Contains-append_right}
use Rattle.std.proofs.lemmas.Option.{none-some, same_Some, slice_get_within}
use Rattle.hub_text.specs.laws.List.{has-item, to-map}
use Rattle.hub_profile.specs.Parts.{Parts}
use Rattle.hub_profile.specs.declared.rule.Rule.{Rule}
use Rattle.hub_reach.specs.Safe.{share_archive}
use Rattle.hub_cert.specs.declared.fault.CheckFault.{CheckFault}
use Rattle.hub_apart.specs.ApartLines.{pair_line, with_pairs}
use Rattle.hub_apart.specs.WithoutLines.{AreSome, HaveNoOwnLine, HaveNoPair}
use Rattle.hub_parts.specs.InUnison.{parts_read}
use Rattle.hub_preferences.specs.Counted.{counted_bundle}
use Rattle.hub_rounds.specs.Lines.{HasNoOwnLine, HasPair}
use Rattle.hub_rounds.specs.Numbered.{IsRoundOfLines}
use Rattle.hub_unison.specs.Shared.{ShareNoArchive, is_shared, shared_pairs}
use Rattle.hub_unison.specs.Written.{AreWrittenAs, Written}
use Rattle.hub_unison.specs.laws.Shared.{none-shared}
use Rattle.hub_serve.specs.InUnison.{AreSafeWithoutLines, HaveNothing, RoundsInUnison}
use Rattle.hub_serve.specs.Plans.{CutsAlone}
use Rattle.hub_serve.specs.Unison.{IsSafeRound, SpellsSafeTogether, written_in}
use Rattle.hub_serve.proofs.InUnison.{itself-pair}
use Rattle.hub_serve.proofs.SharedPairs.{all-shared, no-archive, two-places}
use Rattle.hub_serve.proofs.WrittenSections.{bundle-written, taken-written}

-- The numbers from one on, so many, and what stands at a place of them.
at-range : (s n a i : ℕ) → slice_get (range_with_len s n) a ≡ Some i → i ≡ s + a
at-range s zero a i at = absurd (none-some i at)
at-range s (suc n) zero i at = let e : s ≡ i = same_Some s i at in omega (arith, e)
at-range s (suc n) (suc a) i at = let e = at-range (s + 1) n a i at in omega (arith, e)

in-range : (s n a : ℕ) → a < n → slice_get (range_with_len s n) a ≡ Some (s + a)
in-range s zero a l = absurd (omega (arith, l))
in-range s (suc n) zero l = ap Some (omega arith)
in-range s (suc n) (suc a) l =
    let same : (s + 1) + a ≡ s + suc a = omega arith in
    in-range (s + 1) n a (omega (arith, l)) ∙ ap Some same

-- All profiles are some of them, by all numbers.
all-some : (Ws : List Written) → AreSome Ws Ws (range_with_len 0 (length Ws))
all-some Ws = record {
  place = λ a W at. (0 + a, in-range 0 (length Ws) a (slice_get_within Ws a W at), subst (λ (n : ℕ). slice_get Ws n ≡ Some W) (zero-plus a) at);
  once = λ a b i at_a at_b.
      let e = at-range 0 (length Ws) a i at_a in
      let f = at-range 0 (length Ws) b i at_b in
      omega (arith, e, f);
}
  where
    zero-plus : (a : ℕ) → a ≡ 0 + a
    zero-plus a = omega arith

-- Without lines, no line is about anyone.
no-line : (e : CheckFault) → Contains [] e → ⊥
no-line e h = omega (arith, h.1)

-- A profile at a place of those that are read.
part-of : (Vs : List Written) (i : ℕ) (P : Parts) → slice_get (parts_read Vs) i ≡ Some P → (V : Written) × (slice_get Vs i ≡ Some V) × (V.parts ≡ P)
part-of [] i P at = absurd (none-some P at)
part-of (V ∷ Vs) zero P at = (V, refl, same_Some V.parts P at)
part-of (V ∷ Vs) (suc i) P at = part-of Vs i P at

-- Where the parts of these are those of some profiles, no two of which share an archive, no two of these do.
parts-share-none : (Ws : List Written) (Ps : List Parts) → AreWrittenAs Ws Ps → ShareNoArchive Ps → ShareNoArchive (parts_read Ws)
parts-share-none Ws Ps written none = λ i j P Q at_i at_j other.
    let V = part-of Ws i P at_i in
    let W = part-of Ws j Q at_j in
    let first = written.each i V.0 V.1 in
    let second = written.each j W.0 W.1 in
    none i j P Q (first.1 ∙ ap Some (sym first.2.parts ∙ V.2)) (second.1 ∙ ap Some (sym second.2.parts ∙ W.2)) other

-- So all own profiles of an input without lines are safe together.
pub nothing-safe : (bytes : List ℕ) → HaveNothing bytes → SpellsSafeTogether bytes
nothing-safe bytes h =
    let f = h.input in
    let Ws : List Written = written_in f.spelled.sections in
    let written : AreWrittenAs Ws f.own.profiles = bundle-written (counted_bundle bytes) f.own f.spelled in
    let numbers = range_with_len 0 (length Ws) in
    let no_pair : HaveNoPair f.lines numbers = λ a b i j other at_a at_b has. no-line has.0 (subst (λ es. Contains es has.0) h.none has.1) in
    let no_own : HaveNoOwnLine f.lines numbers = λ a i at why has. no-line has.0 (subst (λ es. Contains es has.0) h.none has.1) in
    record {
      own = f.own;
      spelled = f.spelled;
      together = f.found.safe Ws Ws numbers written (all-some Ws) no_pair no_own
          (parts-share-none Ws f.own.profiles written (none-shared f.own.profiles h.apart));
    }

-- The profiles of these numbers.
record Picked (Ws : List Written) (ns : List ℕ) : Type 0 where
  profiles : List Written
  count : length profiles ≡ length ns
  place : (a : ℕ) (W : Written) → slice_get profiles a ≡ Some W → (i : ℕ) × (slice_get ns a ≡ Some i) × (slice_get Ws i ≡ Some W)

picked : (Ws : List Written) (ns : List ℕ) → ((a i : ℕ) → slice_get ns a ≡ Some i → i < length Ws) → Picked Ws ns
picked Ws [] below = record { profiles = []; count = refl; place = λ a W at. absurd (none-some W at) }
picked Ws (n ∷ ns) below =
    let own = has-item Ws n (below 0 n refl) in
    let rest = picked Ws ns (λ a i at. below (suc a) i at) in
    record { profiles = own.0 ∷ rest.profiles; count = ap suc rest.count; place = go own.0 own.1 rest }
  where
    go : (V : Written) → slice_get Ws n ≡ Some V → (rest : Picked Ws ns) (a : ℕ) (W : Written) → slice_get (V ∷ rest.profiles) a ≡ Some W → (i : ℕ) × (slice_get (n ∷ ns) a ≡ Some i) × (slice_get Ws i ≡ Some W)
    go V own rest zero W at = (n, refl, own ∙ at)
    go V own rest (suc a) W at = rest.place a W at

-- What no line of more is about, none of these is about.
fewer-pairs : (es more : List CheckFault) (i j : ℕ) → HasPair es i j → HasPair (es ++ more) i j
fewer-pairs es more i j h = (h.0, Contains-append_left es more h.0 h.1, h.2)

fewer-own : (es more : List CheckFault) (i : ℕ) → HasNoOwnLine (es ++ more) i → HasNoOwnLine es i
fewer-own es more i none = λ why h. none why (h.0, Contains-append_left es more h.0 h.1, h.2)

either-way : (P Q : Parts) → is_shared P Q ≡ true → is_shared Q P ≡ true
either-way P Q is = or_comm (share_archive Q P) (share_archive P Q) ∙ is

-- The profiles of a round are safe together.
module _ (Ws : List Written) (Ps : List Parts) (Rs : List Rule) (es : List CheckFault) (count : ℕ) (ns : List ℕ) where
  abbrev AllLines : List CheckFault
  AllLines = with_pairs (shared_pairs Ps) es

  -- Two that share an archive have a line.
  has-line : AreWrittenAs Ws Ps → (i j : ℕ) (V W : Written) → i < j → slice_get Ws i ≡ Some V → slice_get Ws j ≡ Some W → is_shared V.parts W.parts ≡ true → HasPair AllLines i j
  has-line written i j V W l at_i at_j is =
      let first = written.each i V at_i in
      let second = written.each j W at_j in
      let own : is_shared first.0 second.0 ≡ true =
      subst (λ Q. is_shared first.0 Q ≡ true) second.2.parts (subst (λ P. is_shared P W.parts ≡ true) first.2.parts is) in
      let among = all-shared Ps i j first.0 second.0 l first.1 second.1 own in
      (pair_line (i, j), Contains-append_right es (map pair_line (shared_pairs Ps)) (pair_line (i, j)) (to-map pair_line (shared_pairs Ps) (i, j) among), itself-pair i j)

  round-shares-none : AreWrittenAs Ws Ps → (p : Picked Ws ns) → IsRoundOfLines count AllLines ns → ShareNoArchive (parts_read p.profiles)
  round-shares-none written p r = no-archive (parts_read p.profiles) (λ a b P Q l at_a at_b is.
      let V = part-of p.profiles a P at_a in
      let W = part-of p.profiles b Q at_b in
      let first = p.place a V.0 V.1 in
      let second = p.place b W.0 W.1 in
      let other : a ≢ b = λ e. omega (arith, l, e) in
      let differ : first.0 ≢ second.0 = λ e. other (r.once a b second.0 (first.1 ∙ ap Some e) second.1) in
      let own : is_shared V.0.parts W.0.parts ≡ true =
      subst (λ Y. is_shared V.0.parts Y ≡ true) (sym W.2) (subst (λ X. is_shared X Q ≡ true) (sym V.2) is) in
      ⊎_elim
      (λ k. r.apart a b first.0 second.0 other first.1 second.1 (has-line written first.0 second.0 V.0 W.0 k first.2 second.2 own))
      (λ k. r.apart b a second.0 first.0 (λ e. other (sym e)) second.1 first.1 (has-line written second.0 first.0 W.0 V.0 k second.2 first.2 (either-way V.0.parts W.0.parts own)))
      (two-places first.0 second.0 differ))

  pub round-safe : AreWrittenAs Ws Ps → AreSafeWithoutLines Ps Rs es → IsRoundOfLines count AllLines ns → count ≡ length Ps → IsSafeRound Ws Rs ns
  round-safe written safe r many =
      let p = picked Ws ns (λ a i at. let l = r.below a i at in let e = written.count in omega (arith, l, e, many)) in
      let some : AreSome Ws p.profiles ns = record { place = p.place; once = r.once } in
      let no_pair : HaveNoPair es ns = λ a b i j other at_a at_b has.
      r.apart a b i j other at_a at_b (fewer-pairs es (map pair_line (shared_pairs Ps)) i j has) in
      let no_own : HaveNoOwnLine es ns = λ a i at. fewer-own es (map pair_line (shared_pairs Ps)) i (r.alone a i at) in
      record {
        profiles = p.profiles;
        count = p.count;
        some = some;
        together = safe Ws p.profiles ns written some no_pair no_own (round-shares-none written p r);
      }

-- And so are those of each round of an input,
pub rounds-safe : (bytes text : List ℕ) (well : Bool) (r : RoundsInUnison bytes text well) (k : ℕ) (numbers : List ℕ) → slice_get r.rounds.rounds k ≡ Some numbers
    → IsSafeRound (written_in r.input.spelled.sections) r.input.own.rules numbers
rounds-safe bytes text well r k numbers at =
    let own = r.input.own in
    round-safe (written_in r.input.spelled.sections) own.profiles own.rules r.input.lines (length own.profiles) numbers
    (bundle-written (counted_bundle bytes) own r.input.spelled) r.input.found.safe (r.cut.each k numbers at) refl

-- and of each round of those of its profiles that are read.
pub rounds-alone-safe : (bytes text : List ℕ) (well : Bool) (r : CutsAlone bytes text well) (k : ℕ) (numbers : List ℕ) → slice_get r.rounds.rounds k ≡ Some numbers
    → IsSafeRound (written_in r.takes.sections) r.own.rules numbers
rounds-alone-safe bytes text well r k numbers at =
    round-safe (written_in r.takes.sections) r.own.profiles r.own.rules r.lines (length r.own.profiles) numbers
    (taken-written (counted_bundle bytes) r.own r.takes) r.found.safe (r.cut.each k numbers at) refl
