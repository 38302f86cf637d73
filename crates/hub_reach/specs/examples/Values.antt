-- Worked values of reach, of what is written where, and of safety.
use Rattle.std.specs.Prelude.{⊤, ◌≡◌, Bool, true, false, List, ℕ, [], ◌∷◌, ◌++◌, map, Some, Result, Ok, Err, refl, codes}
use Rattle.std.proofs.Common.{inl}
use Rattle.std.proofs.lemmas.Option.{none-some}
use Rattle.hub_path.specs.Path.{Path, path_of}
use Rattle.hub_glob.specs.Glob.{matches}
use Rattle.hub_glob.specs.Specification.{Specification}
use Rattle.hub_glob.specs.declared.path_spec.Kind.TheVariants as Kind
use Rattle.hub_glob.specs.declared.piece.Part.{Part}
use Rattle.hub_glob.specs.declared.piece.Part.TheVariants.{One}
use Rattle.hub_glob.specs.declared.piece.Piece.TheVariants.{Lit, Run}
use Rattle.hub_path.specs.declared.side.Side.{Side}
use Rattle.hub_path.specs.declared.side.Side.TheVariants.{Left, Right}
use Rattle.hub_profile.specs.Parts.{Parts}
use Rattle.hub_profile.specs.examples.Profiles.{hub, s1, s2, of_kept}
use Rattle.hub_profile.specs.Protection.{no_bars}
use Rattle.hub_profile.specs.Reading.{profile_reading}
use Rattle.hub_profile.specs.declared.fault.ProfileFault.{ProfileFault}
use Rattle.hub_profile.specs.declared.bars.Bars.{Bars}
use Rattle.hub_profile.specs.declared.partial.Partial.{Partial}
use Rattle.hub_profile.specs.declared.verb.Verb.TheVariants.{Create, Update, Delete}
use Rattle.hub_reach.specs.Reach.{reach, may, may_at, writes, writes_at, write}
use Rattle.hub_reach.specs.Bars.{may_at_side, writes_at_side}
use Rattle.hub_reach.specs.Mention.{mentioned_by}
use Rattle.hub_reach.specs.Stage.{spot_count_of, stage_of}
use Rattle.hub_reach.specs.Safe.{Rule, Clash, Overlap, Breach, IsSafe, share_archive}

-- What these examples compute.
computed : ⊤
unfolding reach matches
computed = tt

-- One of the whole replica, and one of no path at all.
abbrev whole : Parts
whole = record (of_kept []) { paths = [] ∷ [] }

abbrev reached : Parts → List (List ℕ) → List Bool
reached P ts = map (λ t. reach P (path_of t)) ts

-- what is kept is reached with all below it, by names and not by text; what is above it isn't
at_and_below : reached (of_kept (codes "docs"))
    (codes "docs" ∷ codes "docs/x/y" ∷ codes "docs2" ∷ codes "doc" ∷ codes "photos" ∷ [])
    ≡ true ∷ true ∷ false ∷ false ∷ false ∷ []
unfolding computed
at_and_below = refl

above : reached (of_kept (codes "docs/x")) (codes "docs" ∷ codes "docs/x" ∷ codes "docs/y" ∷ [])
    ≡ false ∷ true ∷ false ∷ []
unfolding computed
above = refl

-- the empty value keeps every path, and the whole replica is no path; nor is a list with a name
-- that is none
every_path : reached whole (codes "a" ∷ codes "a/b" ∷ codes "a/../b" ∷ codes "a//b" ∷ [])
    ≡ true ∷ true ∷ false ∷ false ∷ []
unfolding computed
every_path = refl

the_whole_replica : map (λ P. reach P []) (whole ∷ of_kept (codes "docs") ∷ []) ≡ false ∷ false ∷ []
unfolding computed
the_whole_replica = refl

-- The pattern of these characters, none of which means more than itself.
abbrev literals : List ℕ → List Part
literals t = map (λ c. One (Lit c)) t

abbrev star : List Part
star = One Run ∷ []

abbrev path_is : List Part → Specification
path_is pattern = record { kind = Kind.Path; pattern = pattern }

abbrev name_is : List Part → Specification
name_is pattern = record { kind = Kind.Name; pattern = pattern }

abbrev below_is : List Part → Specification
below_is pattern = record { kind = Kind.BelowPath; pattern = pattern }

-- all that stands at the top is ignored but for what begins with a dot; what lies below is, even
-- where it is an exception
abbrev top_ignored : Parts
top_ignored =
    record whole { ignore = path_is star ∷ []; ignorenot = path_is (literals (codes "a/b")) ∷ [] }

below_what_is_ignored : reached top_ignored
    (codes "a" ∷ codes "a/b" ∷ codes ".x" ∷ codes ".x/y" ∷ []) ≡ false ∷ false ∷ true ∷ true ∷ []
unfolding computed
below_what_is_ignored = refl

-- an exception itself is reached
exceptions : reached (record whole {
  ignore = name_is star ∷ [];
  ignorenot =
      name_is (literals (codes "a")) ∷ [];
}) (codes "a" ∷ codes "a/b" ∷ codes "b" ∷ codes "a/a" ∷ [])
    ≡ true ∷ false ∷ false ∷ true ∷ []
unfolding computed
exceptions = refl

-- a kept value is tested, what is above it isn't
kept_values_are_tested : reached (record
    (of_kept (codes "docs/x")) { ignore = path_is (literals (codes "docs/x")) ∷ [] })
    (codes "docs/x" ∷ codes "docs/x/y" ∷ []) ≡ false ∷ false ∷ []
unfolding computed
kept_values_are_tested = refl

parents_are_not_tested : reached (record
    (of_kept (codes "docs/x")) {
      ignore = path_is (literals (codes "docs"))
          ∷ below_is (literals (codes "x")) ∷ [];
    }) (codes "docs/x" ∷ codes "docs/x/y" ∷ [])
    ≡ true ∷ true ∷ []
unfolding computed
parents_are_not_tested = refl

-- below which of two kept values a text lies makes no difference to its stage
abbrev two_kept : Parts
two_kept = record whole { paths = path_of (codes "a") ∷ path_of (codes "b") ∷ [] }

one_stage_below_two_kept_values : stage_of two_kept (codes "a/c") ≡ stage_of two_kept (codes "b/cd")
unfolding computed
one_stage_below_two_kept_values = refl

-- a profile writes at its own roots alone
written_roots : map (writes whole) (hub ∷ s1 ∷ s2 ∷ path_of (codes "srv")
    ∷ path_of (codes "srv/hub/docs") ∷ []) ≡ true ∷ true ∷ false ∷ false ∷ false ∷ []
written_roots = refl

-- What a profile may do at a root: create, update, delete.
abbrev allowed : Parts → Path → List Bool
allowed P r = map (may P r) (Create ∷ Update ∷ Delete ∷ [])

abbrev all_three : List Bool
all_three = true ∷ true ∷ true ∷ []

abbrev none_of_three : List Bool
none_of_three = false ∷ false ∷ false ∷ []

-- a profile that protects nothing may do everything; at a root that isn't its own nothing is
-- forbidden either
nothing_is_protected : map (allowed whole) (hub ∷ s1 ∷ s2 ∷ path_of (codes "srv/hub/docs") ∷ [])
    ≡ all_three ∷ all_three ∷ all_three ∷ all_three ∷ []
nothing_is_protected = refl

-- nothing is changed at the forced root; at the other one everything is allowed
forced_roots : map (λ side. map (allowed (record whole { force = Some side }))
    (hub ∷ s1 ∷ s2 ∷ [])) (Left ∷ Right ∷ [])
    ≡ (none_of_three ∷ all_three ∷ all_three ∷ []) ∷ (all_three ∷ none_of_three ∷ all_three ∷ [])
    ∷ []
forced_roots = refl

-- `prefer` decides conflicts alone: it forbids nothing
preferred_roots : map (λ side. map (allowed (record whole { prefer = Some side })) (hub ∷ s1 ∷ []))
    (Left ∷ Right ∷ [])
    ≡ (all_three ∷ all_three ∷ []) ∷ (all_three ∷ all_three ∷ []) ∷ []
preferred_roots = refl

abbrev bars : (create update delete : Bool) → Bars
bars create update delete = record { create = create; update = update; delete = delete }

-- Profiles with these bars at the hub, and at s1.
abbrev barred_left : Bars → Parts
barred_left left = record whole { bars = left ∷ no_bars ∷ [] }

abbrev barred_right : Bars → Parts
barred_right right = record whole { bars = no_bars ∷ right ∷ [] }

-- each bar forbids its own kind of change
each_bar : map (λ left. allowed (barred_left left) hub)
    (bars true false false ∷ bars false true false ∷ bars false false true ∷ [])
    ≡ (false ∷ true ∷ true ∷ []) ∷ (true ∷ false ∷ true ∷ []) ∷ (true ∷ true ∷ false ∷ []) ∷ []
each_bar = refl

-- A profile with these lines below its roots, the hub and s1.
abbrev or_whole : Result Parts ProfileFault → Parts
or_whole (Ok P) = P
or_whole (Err fault) = whole

abbrev with_lines : List ℕ → Parts
with_lines t = or_whole (profile_reading [] (codes "root = /srv/hub\nroot = /srv/s1\n" ++ t))

-- `noupdate` forbids deletions too
lines_that_forbid : map (λ t. allowed (with_lines t) s1)
    (codes "nodeletion = /srv/s1" ∷ codes "noupdate = /srv/s1" ∷ codes "nocreation = /srv/s1"
    ∷ codes "noupdate = /srv/s1/\nnocreation = /srv/s1" ∷ codes "noupdate = /srv/hub"
    ∷ codes "force = /srv/s1/" ∷ codes "prefer = /srv/s1" ∷ [])
    ≡ (true ∷ true ∷ false ∷ []) ∷ (true ∷ false ∷ false ∷ []) ∷ (false ∷ true ∷ true ∷ [])
    ∷ none_of_three ∷ all_three ∷ none_of_three ∷ all_three ∷ []
lines_that_forbid = refl

-- bars at one root leave the other root free
other_roots_of_bars : map (λ r. allowed (barred_right (bars true true true)) r)
    (hub ∷ s1 ∷ s2 ∷ []) ≡ all_three ∷ none_of_three ∷ all_three ∷ []
other_roots_of_bars = refl

-- bars and `force` add up
bars_beside_force : map (λ r. allowed (record
    (barred_right (bars true false false)) { force = Some Left; prefer = Some Right }) r)
    (hub ∷ s1 ∷ []) ≡ none_of_three ∷ (false ∷ true ∷ true ∷ []) ∷ []
bars_beside_force = refl

-- a profile writes at a root where one kind of change is left to it
abbrev writes_there : Parts → List Bool
writes_there P = map (writes P) (hub ∷ s1 ∷ s2 ∷ [])

where_it_writes : map writes_there (record whole { force = Some Left }
    ∷ record whole { prefer = Some Left } ∷ barred_left (bars true true true)
    ∷ barred_left (bars true true false) ∷ barred_left (bars true false true)
    ∷ barred_left (bars false true true)
    ∷ record (barred_right (bars true true true)) { force = Some Left } ∷ [])
    ≡ (false ∷ true ∷ false ∷ []) ∷ (true ∷ true ∷ false ∷ []) ∷ (false ∷ true ∷ false ∷ [])
    ∷ (true ∷ true ∷ false ∷ []) ∷ (true ∷ true ∷ false ∷ []) ∷ (true ∷ true ∷ false ∷ [])
    ∷ (false ∷ false ∷ false ∷ []) ∷ []
where_it_writes = refl

-- it writes the paths there that it reaches
written_paths : map (λ r. write (of_kept (codes "docs")) r (path_of (codes "docs/x"))) (hub ∷ s2 ∷ [])
    ≡ true ∷ false ∷ []
unfolding computed
written_paths = refl

not_reached_not_written : write (of_kept (codes "docs")) hub (path_of (codes "photos")) ≡ false
unfolding computed
not_reached_not_written = refl

forced_not_written : map (λ r. write (record (of_kept (codes "docs")) { force = Some Left }) r
    (path_of (codes "docs/x"))) (hub ∷ s1 ∷ []) ≡ false ∷ true ∷ []
unfolding computed
forced_not_written = refl

-- A profile of the whole replica with this partial bar, and what a profile may do at a path of a
-- root.
abbrev bar : Side → Bars → Specification → Partial
bar side bs s = record { side = side; bars = bs; spec = s }

abbrev partly : Side → Bars → Specification → Parts
partly side bs s = record whole { partial = bar side bs s ∷ [] }

abbrev allowed_at : Parts → Path → List ℕ → List Bool
allowed_at P r t = map (may_at P r (path_of t)) (Create ∷ Update ∷ Delete ∷ [])

abbrev all_bars : Bars
all_bars = bars true true true

-- a partial bar forbids its own kinds of change, on the paths that its specification matches
what_it_matches : map (allowed_at (partly Left (bars true true false)
    (path_is (literals (codes "a")))) hub) (codes "a" ∷ codes "a/b" ∷ codes "b" ∷ [])
    ≡ (false ∷ false ∷ true ∷ []) ∷ all_three ∷ all_three ∷ []
unfolding computed
what_it_matches = refl

and_what_is_below : map (allowed_at (partly Right (bars false false true)
    (below_is (literals (codes "a")))) s1) (codes "a" ∷ codes "a/b" ∷ codes "ab" ∷ [])
    ≡ (true ∷ true ∷ false ∷ []) ∷ (true ∷ true ∷ false ∷ []) ∷ all_three ∷ []
unfolding computed
and_what_is_below = refl

-- a bar on a path below leaves the path above free
a_bar_on_a_path_below : map (allowed_at (partly Left all_bars
    (path_is (literals (codes "a/b")))) hub) (codes "a" ∷ codes "a/b" ∷ codes "a/b/c" ∷ [])
    ≡ all_three ∷ none_of_three ∷ all_three ∷ []
unfolding computed
a_bar_on_a_path_below = refl

-- it is a bar on the root of its side alone; at a root that isn't the profile's nothing is
-- forbidden
a_bar_of_each_side : map (λ side. map (λ r. allowed_at
    (partly side all_bars (path_is (literals (codes "a")))) r (codes "a")) (hub ∷ s1 ∷ s2 ∷ []))
    (Left ∷ Right ∷ [])
    ≡ (none_of_three ∷ all_three ∷ all_three ∷ []) ∷ (all_three ∷ none_of_three ∷ all_three ∷ [])
    ∷ []
unfolding computed
a_bar_of_each_side = refl

-- none counts at the whole replica, which no specification matches, nor without a path
none_at_the_whole_replica : map (may_at (partly Left all_bars (name_is star)) hub [])
    (Create ∷ Update ∷ Delete ∷ []) ≡ all_three
unfolding computed
none_at_the_whole_replica = refl

without_a_path : allowed (partly Left all_bars (name_is star)) hub ≡ all_three
without_a_path = refl

-- partial bars add up, also with bars on the whole root and `force`
two_partial_bars : map (allowed_at (record
    (barred_left (bars false false true)) {
      partial =
          bar Left (bars true false false) (path_is (literals (codes "a")))
          ∷ bar Left (bars false true false) (name_is star) ∷ [];
    }) hub)
    (codes "a" ∷ codes "b" ∷ codes ".b" ∷ [])
    ≡ none_of_three ∷ (true ∷ false ∷ false ∷ []) ∷ (true ∷ true ∷ false ∷ []) ∷ []
unfolding computed
two_partial_bars = refl

beside_force : map (λ r. allowed_at (record
    (partly Right (bars true false false) (name_is (literals (codes "a")))) {
      force =
          Some Left;
    }) r (codes "x/a")) (hub ∷ s1 ∷ []) ≡ none_of_three ∷ (false ∷ true ∷ true ∷ []) ∷ []
unfolding computed
beside_force = refl

-- a profile writes at a path of its root where one kind of change is left to it; the root counts as
-- written all the same
where_it_writes_paths : map (λ bs. map (λ t. writes_at
    (partly Left bs (path_is (literals (codes "a")))) hub (path_of t))
    (codes "a" ∷ codes "a/b" ∷ [])) (all_bars ∷ bars true true false ∷ bars false true true ∷ [])
    ≡ (false ∷ true ∷ []) ∷ (true ∷ true ∷ []) ∷ (true ∷ true ∷ []) ∷ []
unfolding computed
where_it_writes_paths = refl

the_root_is_written : map (writes (partly Left all_bars (name_is star))) (hub ∷ s1 ∷ s2 ∷ [])
    ≡ true ∷ true ∷ false ∷ []
the_root_is_written = refl

paths_of_other_roots : map (λ r. writes_at
    (partly Left all_bars (path_is (literals (codes "a")))) r (path_of (codes "a")))
    (hub ∷ s1 ∷ s2 ∷ []) ≡ false ∷ true ∷ false ∷ []
unfolding computed
paths_of_other_roots = refl

-- and it writes of these the paths that it reaches
barred_not_written : map (λ t. write (record
    (of_kept (codes "docs")) {
      partial = bar Left all_bars (path_is (literals (codes "docs/x")))
          ∷ [];
    }) hub (path_of t)) (codes "docs" ∷ codes "docs/x" ∷ codes "docs/x/y" ∷ codes "photos"
    ∷ []) ≡ true ∷ false ∷ true ∷ false ∷ []
unfolding computed
barred_not_written = refl

-- by sides: what is allowed at the left and at the right root
by_sides : map (λ side. may_at_side (partly Right (bars false true false)
    (path_is (literals (codes "a")))) side (path_of (codes "a")) Update) (Left ∷ Right ∷ [])
    ≡ true ∷ false ∷ []
unfolding computed
by_sides = refl

written_sides : map (λ side. writes_at_side
    (partly Left all_bars (path_is (literals (codes "a")))) side (path_of (codes "a")))
    (Left ∷ Right ∷ []) ≡ false ∷ true ∷ []
unfolding computed
written_sides = refl

-- the pattern of a partial bar has spots, its characters are mentioned, and a stage has its
-- positions and its flag
the_spots_of_bars : map spot_count_of (whole ∷ partly Left all_bars (path_is (literals (codes "ab")))
    ∷ record (partly Left all_bars (path_is (literals (codes "ab")))) {
      ignore =
          name_is star ∷ [];
    } ∷ []) ≡ 0 ∷ 3 ∷ 5 ∷ []
the_spots_of_bars = refl

what_bars_mention : mentioned_by (record
    (of_kept (codes "d/e")) {
      ignore = name_is (literals (codes "i")) ∷ [];
      ignorenot =
          name_is (literals (codes "n")) ∷ [];
      partial =
          bar Left all_bars (path_is (literals (codes "p"))) ∷ [];
    }) ≡ codes "deinp"
what_bars_mention = refl

stages_of_bars : map (λ t. (stage_of (partly Left all_bars
    (path_is (literals (codes "a")))) t).spots.row) (codes "" ∷ codes "a" ∷ codes "b" ∷ [])
    ≡ (1 ∷ 0 ∷ []) ∷ (2 ∷ 0 ∷ []) ∷ (0 ∷ 0 ∷ []) ∷ []
unfolding computed
stages_of_bars = refl

stages_without_bars : map (λ t. (stage_of whole t).spots.row)
    (codes "" ∷ codes "a" ∷ codes "b" ∷ []) ≡ [] ∷ [] ∷ [] ∷ []
unfolding computed
stages_without_bars = refl

-- `path = a` and `path = a/b` clash at the hub, each way round, and in the archive
one_over_the_other : Overlap (write (of_kept (codes "a")) hub) (of_kept (codes "a/b"))
unfolding computed
one_over_the_other = (path_of (codes "a"), path_of (codes "a/b"), refl, refl, refl)

the_other_way_round : Overlap (write (of_kept (codes "a/b")) hub) (of_kept (codes "a"))
unfolding computed
the_other_way_round = (path_of (codes "a/b"), path_of (codes "a/b"), refl, refl, refl)

in_their_archive : Overlap (reach (of_kept (codes "a"))) (of_kept (codes "a/b"))
unfolding computed
in_their_archive = (path_of (codes "a"), path_of (codes "a/b"), refl, refl, refl)

-- nobody clashes where the writer has no root
a_foreign_root : ¬ (Overlap (write (of_kept (codes "a")) s2) (of_kept (codes "a/b")))
unfolding computed
a_foreign_root h = let written : false ≡ true = h.3 in cc

-- nor where the writer may change nothing; the other profile's `force` is no help
nothing_written_there :
    ¬ (Overlap (write (record (of_kept (codes "a")) { force = Some Left }) hub)
    (of_kept (codes "a/b")))
unfolding computed
nothing_written_there h = let written : false ≡ true = h.3 in cc

read_where_it_may_not_write : Overlap (write (of_kept (codes "a")) hub)
    (record (of_kept (codes "a/b")) { force = Some Left })
unfolding computed
read_where_it_may_not_write = (path_of (codes "a"), path_of (codes "a/b"), refl, refl, refl)

-- one archive takes both roots, in either order
archives : map (share_archive whole) (of_kept (codes "a") ∷ record whole { roots = s1 ∷ hub ∷ [] }
    ∷ record whole { roots = hub ∷ s2 ∷ [] } ∷ []) ≡ true ∷ true ∷ false ∷ []
archives = refl

-- who reaches what a rule guards, and may do what it forbids, breaches it
abbrev guards : Path → Rule
guards r = record { root = r; verb = Delete; matches = reach (of_kept (codes "books")) }

a_breach : Breach whole (guards hub)
unfolding computed
a_breach = (path_of (codes "books/x"), refl, refl, refl, refl)

a_rule_of_another_root : ¬ (Breach whole (guards s2))
unfolding computed
a_rule_of_another_root h = let own : false ≡ true = h.1 in cc

-- who may not do it breaches nothing: at the forced root, or where a bar forbids that kind of
-- change
forced_no_breach : ¬ (Breach (record whole { force = Some Left }) (guards hub))
unfolding computed
forced_no_breach h = let allowed_there : false ≡ true = h.3 in cc

barred_no_breach : ¬ (Breach (barred_left (bars false false true)) (guards hub))
unfolding computed
barred_no_breach h = let allowed_there : false ≡ true = h.3 in cc

-- another bar, a bar at the other root, and `prefer` don't rule it out
still_a_breach : Breach (record (barred_left (bars true true false)) { prefer = Some Left })
    (guards hub) × Breach (barred_right (bars true true true)) (guards hub)
    × Breach (record whole { force = Some Right }) (guards hub)
unfolding computed
still_a_breach = (
  (path_of (codes "books/x"), refl, refl, refl, refl),
  (path_of (codes "books/x"), refl, refl, refl, refl),
  (path_of (codes "books/x"), refl, refl, refl, refl),
)

-- these two profiles are not safe
overlapping : ¬ (IsSafe (of_kept (codes "a") ∷ of_kept (codes "a/b") ∷ []) [])
overlapping safe =
    let clash : Clash (of_kept (codes "a")) (of_kept (codes "a/b")) =
    inl (hub, refl, refl, one_over_the_other) in
    safe.no_clash 0 1 (of_kept (codes "a")) (of_kept (codes "a/b")) refl refl (λ h. cc) clash

-- nor is a single one whose root lies in a rule's root
nested : ¬ (IsSafe (whole ∷ []) (guards (path_of (codes "srv")) ∷ []))
nested safe =
    let same : path_of (codes "srv") ≡ hub =
    safe.apart 2 0 (path_of (codes "srv")) hub refl refl refl in cc

-- no profiles are safe
none_at_all : IsSafe [] []
none_at_all = record {
  apart = λ i j r s a b over. absurd (none-some r a);
  no_clash = λ i j P Q a b different. absurd (none-some P a);
  no_breach = λ i k P R a b. absurd (none-some P a);
}
