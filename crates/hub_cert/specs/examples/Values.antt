-- Worked values: goals, stages, what is accepted, and which texts are certificates.
use Rattle.std.specs.Prelude.{⊤, ◌≡◌, ◌<◌, ℕ, Bool, true, false, List, [], ◌∷◌, map, Some, None, Result, Ok, Err, refl, codes}
use Rattle.std.proofs.Common.{arith}
use Rattle.std.specs.List.{flat_map}
use Rattle.std.specs.Fmt.{digits}
use Rattle.hub_path.specs.Path.{path_of}
use Rattle.hub_path.specs.declared.side.Side.{Side}
use Rattle.hub_path.specs.declared.side.Side.TheVariants.{Left, Right}
use Rattle.hub_glob.specs.Glob.{matches}
use Rattle.hub_glob.specs.declared.path_spec.Kind.{Kind}
use Rattle.hub_glob.specs.declared.path_spec.Kind.TheVariants as kind
use Rattle.hub_glob.specs.declared.piece.Part.TheVariants.{One}
use Rattle.hub_glob.specs.declared.piece.Piece.TheVariants.{Lit, Run}
use Rattle.hub_automaton.specs.Alphabet.{sample}
use Rattle.hub_profile.specs.Parts.{Parts}
use Rattle.hub_profile.specs.examples.Profiles.{hub, s1, s2, of_kept}
use Rattle.hub_profile.specs.Protection.{no_bars}
use Rattle.hub_profile.specs.declared.partial.Partial.{Partial}
use Rattle.hub_profile.specs.declared.verb.Verb.TheVariants.{Update, Delete}
use Rattle.hub_reach.specs.Reach.{reach}
use Rattle.hub_cert.specs.declared.goal.Place.TheVariants.{Replica, Archive}
use Rattle.hub_cert.specs.declared.goal.Goal.{Goal}
use Rattle.hub_cert.specs.declared.goal.Goal.TheVariants.{Clash, Breach}
use Rattle.hub_profile.specs.declared.rule.Rule.{Rule}
use Rattle.hub_cert.specs.declared.product.stage.GoalStage.TheVariants.{Broken}
use Rattle.hub_cert.specs.declared.certificate.Certificate.{Certificate}
use Rattle.hub_cert.specs.declared.fault.CheckFault.{CheckFault}
use Rattle.hub_cert.specs.declared.fault.CheckFault.TheVariants.{BadText}
use Rattle.hub_cert.specs.Set.{Members, alphabet_of}
use Rattle.hub_cert.specs.Aim.{Aim, Clashing, Breaching, accepts, goal_stage, is_held}
use Rattle.hub_cert.specs.Goals.{goals, aim_of}
use Rattle.hub_cert.specs.Inductive.{IsInductive, RulesOut}
use Rattle.hub_cert.specs.Reading.{certificates_in}
use Rattle.hub_cert.specs.Writing.{goal_text}
use Rattle.hex.proofs.OnLiterals.{hex_on_literals}
use Rattle.std.specs.Str.{is_utf8, chars}
use lib.Utf8.{encode}

-- What these examples compute.
computed : ⊤
unfolding reach matches goal_stage
computed = tt

abbrev set_of : Parts → Parts → Members
set_of P Q = record { profiles = P ∷ Q ∷ []; rules = [] }

-- two profiles over the same roots share three places, each way round
six_goals : goals (set_of (of_kept (codes "docs")) (of_kept (codes "photos")))
    ≡ Clash 0 1 (Replica Left) ∷ Clash 0 1 (Replica Right) ∷ Clash 0 1 Archive
    ∷ Clash 1 0 (Replica Left) ∷ Clash 1 0 (Replica Right) ∷ Clash 1 0 Archive ∷ []
six_goals = refl

-- one root in common, on either side of either profile
abbrev over_s2 : Parts → Parts
over_s2 P = record P { roots = s2 ∷ hub ∷ [] }

one_root_in_common : goals (set_of (of_kept (codes "a")) (over_s2 (of_kept (codes "b"))))
    ≡ Clash 0 1 (Replica Left) ∷ Clash 1 0 (Replica Right) ∷ []
one_root_in_common = refl

no_root_in_common : goals (set_of (of_kept (codes "a"))
    (record (of_kept (codes "b")) { roots = s2 ∷ [] })) ≡ []
no_root_in_common = refl

no_profile_is_its_own_other : aim_of (set_of (of_kept (codes "a")) (of_kept (codes "b")))
    (Clash 0 0 (Replica Left)) ∷ aim_of (set_of (of_kept (codes "a")) (of_kept (codes "b")))
    (Clash 0 2 (Replica Left)) ∷ [] ≡ None ∷ None ∷ []
no_profile_is_its_own_other = refl

-- a profile that may change nothing at a root has no goal there as the writer; the archive is no
-- replica
abbrev forced : Side → List ℕ → Parts
forced side t = record (of_kept t) { force = Some side }

no_goals_at_a_forced_root : goals (set_of (forced Left (codes "a")) (of_kept (codes "b")))
    ≡ Clash 0 1 (Replica Right) ∷ Clash 0 1 Archive ∷ Clash 1 0 (Replica Left)
    ∷ Clash 1 0 (Replica Right) ∷ Clash 1 0 Archive ∷ []
no_goals_at_a_forced_root = refl

no_goals_at_the_hub : goals (set_of (forced Left (codes "a")) (over_s2 (forced Right (codes "b"))))
    ≡ []
no_goals_at_the_hub = refl

goals_at_the_hub : goals (set_of (forced Right (codes "a")) (over_s2 (forced Right (codes "b"))))
    ∷ goals (set_of (record (of_kept (codes "a")) { prefer = Some Left })
    (over_s2 (of_kept (codes "b")))) ∷ [] ≡ (Clash 0 1 (Replica Left) ∷ [])
    ∷ (Clash 0 1 (Replica Left) ∷ Clash 1 0 (Replica Right) ∷ []) ∷ []
goals_at_the_hub = refl

-- bars that leave one kind of change are no hindrance
abbrev barred : (create update delete : Bool) → List ℕ → Parts
barred create update delete t =
    record (of_kept t) {
      bars = record { create = create; update = update; delete = delete } ∷ no_bars
          ∷ [];
    }

goals_beside_bars : map (λ P. goals (set_of P (over_s2 (forced Right (codes "b")))))
    (barred false true true (codes "a") ∷ barred true true false (codes "a")
    ∷ barred true true true (codes "a") ∷ [])
    ≡ (Clash 0 1 (Replica Left) ∷ []) ∷ (Clash 0 1 (Replica Left) ∷ []) ∷ [] ∷ []
goals_beside_bars = refl

-- a rule against deletions below `books`, for the profiles that have its root
abbrev no_lose : Rule
no_lose =
    record {
      root = hub;
      verb = Delete;
      spec =
          record { kind = kind.BelowPath; pattern = map (λ c. One (Lit c)) (codes "books") };
    }

abbrev guarded : Members
guarded =
    record {
      profiles = of_kept (codes "a") ∷ record (of_kept (codes "b")) { roots = s1 ∷ s2 ∷ [] } ∷ [];
      rules = no_lose ∷ [];
    }

a_breach_for_the_rules_root : goals guarded
    ≡ Clash 0 1 (Replica Right) ∷ Clash 1 0 (Replica Left) ∷ Breach 0 0 ∷ []
a_breach_for_the_rules_root = refl

-- none for a profile that may not delete at the rule's root, also where no other profile is
abbrev alone : Parts → Members
alone P =
    record {
      profiles = P ∷ [];
      rules = no_lose ∷ record no_lose { verb = Update }
          ∷ record no_lose { root = s1 } ∷ record no_lose { root = s2 } ∷ [];
    }

who_may_breach : map (λ P. goals (alone P))
    (of_kept (codes "a") ∷ forced Left (codes "a") ∷ forced Right (codes "a")
    ∷ barred false false true (codes "a") ∷ barred true false false (codes "a")
    ∷ record (of_kept (codes "a")) { prefer = Some Left } ∷ [])
    ≡ (Breach 0 0 ∷ Breach 0 1 ∷ Breach 0 2 ∷ []) ∷ (Breach 0 2 ∷ [])
    ∷ (Breach 0 0 ∷ Breach 0 1 ∷ []) ∷ (Breach 0 1 ∷ Breach 0 2 ∷ [])
    ∷ (Breach 0 0 ∷ Breach 0 1 ∷ Breach 0 2 ∷ []) ∷ (Breach 0 0 ∷ Breach 0 1 ∷ Breach 0 2 ∷ [])
    ∷ []
who_may_breach = refl

-- the number names the rule
abbrev no_change : Rule
no_change =
    record { root = hub; verb = Update; spec = record { kind = kind.Name; pattern = One Run ∷ [] } }

rules_by_their_numbers : map (aim_of (record
    (alone (of_kept (codes "a"))) { rules = no_lose ∷ no_change ∷ [] }))
    (Breach 0 0 ∷ Breach 0 1 ∷ Breach 0 2 ∷ Breach 1 0 ∷ [])
    ≡ Some (Breaching (of_kept (codes "a")) no_lose) ∷ Some (Breaching (of_kept (codes "a")) no_change)
    ∷ None ∷ None ∷ []
rules_by_their_numbers = refl

what_a_rule_forbids : map (accepts (Breaching (record (of_kept []) { paths = [] ∷ [] }) no_lose))
    (codes "books" ∷ codes "books/x" ∷ codes "book" ∷ codes "a/books" ∷ [])
    ≡ true ∷ true ∷ false ∷ false ∷ []
unfolding computed
what_a_rule_forbids = refl

-- `path = a` and `path = a/b`: the text `a/b` is accepted both ways round, and `a` is no text of the
-- other's path
abbrev a_over_b : Aim
a_over_b = Clashing (of_kept (codes "a")) (of_kept (codes "a/b")) (Replica Left)

abbrev b_under_a : Aim
b_under_a = Clashing (of_kept (codes "a/b")) (of_kept (codes "a")) (Replica Left)

a_path_under_one_that_is_written : map (accepts a_over_b)
    (codes "" ∷ codes "a" ∷ codes "a/b" ∷ codes "a/b/c" ∷ codes "a/bc" ∷ [])
    ≡ false ∷ false ∷ true ∷ true ∷ false ∷ []
unfolding computed
a_path_under_one_that_is_written = refl

a_path_over_one_that_is_written : map (accepts b_under_a)
    (codes "a" ∷ codes "a/b" ∷ codes "a/c" ∷ []) ≡ false ∷ true ∷ false ∷ []
unfolding computed
a_path_over_one_that_is_written = refl

-- A partial bar: what it forbids at the root of that side, on the paths that the pattern of these
-- characters matches.
abbrev partly : Side → (create update delete : Bool) → Kind → List ℕ → Partial
partly side create update delete k t = record {
  side = side;
  bars = record { create = create; update = update; delete = delete };
  spec = record { kind = k; pattern = map (λ c. One (Lit c)) t };
}

-- a writer of `a` leaves `a/b` to another profile, and these bars forbid it to update, delete or
-- create `a` itself
abbrev around_b : List Partial → Parts
around_b bars =
    record (of_kept (codes "a")) {
      ignore =
          record { kind = kind.Path; pattern = map (λ c. One (Lit c)) (codes "a/b") } ∷ [];
      partial =
          bars;
    }

abbrev no_update : Side → Partial
no_update side = partly side false true true kind.Path (codes "a")

abbrev no_creation : Side → Partial
no_creation side = partly side true false false kind.Path (codes "a")

-- Both bars at that root, in either order; none; one of them; one at the other root; both there;
-- one for another path; and all changes of whatever is below `a`.
abbrev several_bars : List (List Partial)
several_bars =
    (no_update Left ∷ no_creation Left ∷ [])
    ∷ (no_creation Left ∷ no_update Left ∷ [])
    ∷ []
    ∷ (no_update Left ∷ [])
    ∷ (no_creation Left ∷ [])
    ∷ (no_update Left ∷ no_creation Right ∷ [])
    ∷ (no_update Right ∷ no_creation Right ∷ [])
    ∷ (no_update Left ∷ partly Left true false false kind.BelowPath (codes "a/b") ∷ [])
    ∷ (partly Left true true true kind.BelowPath (codes "a") ∷ [])
    ∷ []

-- both bars together keep it off `a/b`, and so does the last one
what_bars_leave : map (λ bars. map (accepts
    (Clashing (around_b bars) (of_kept (codes "a/b")) (Replica Left)))
    (codes "a" ∷ codes "a/b" ∷ codes "a/b/c" ∷ [])) several_bars
    ≡ (false ∷ false ∷ false ∷ [])
    ∷ (false ∷ false ∷ false ∷ [])
    ∷ (false ∷ true ∷ true ∷ [])
    ∷ (false ∷ true ∷ true ∷ [])
    ∷ (false ∷ true ∷ true ∷ [])
    ∷ (false ∷ true ∷ true ∷ [])
    ∷ (false ∷ true ∷ true ∷ [])
    ∷ (false ∷ true ∷ true ∷ [])
    ∷ (false ∷ false ∷ false ∷ [])
    ∷ []
unfolding computed
what_bars_leave = refl

-- at a replica a path is held where it is written, in an archive where it is reached
where_a_barred_path_is_held : map (λ place. map
    (is_held (around_b (no_update Left ∷ no_creation Left ∷ [])) place)
    (path_of (codes "a/b") ∷ path_of (codes "a/c/d") ∷ []))
    (Replica Left ∷ Replica Right ∷ Archive ∷ [])
    ≡ (false ∷ true ∷ []) ∷ (true ∷ true ∷ []) ∷ (true ∷ true ∷ []) ∷ []
unfolding computed
where_a_barred_path_is_held = refl

archives_know_no_bars : accepts (Clashing (around_b (no_update Left ∷ no_creation Left ∷ []))
    (of_kept (codes "a/b")) Archive) (codes "a/b") ≡ true
unfolding computed
archives_know_no_bars = refl

-- partial bars make no difference to the list of goals
goals_beside_partial_bars : map (λ bars. goals
    (set_of (around_b bars) (over_s2 (of_kept (codes "a/b"))))) several_bars
    ≡ map (λ bars. Clash 0 1 (Replica Left) ∷ Clash 1 0 (Replica Right) ∷ []) several_bars
goals_beside_partial_bars = refl

-- whoever may not delete a path there breaks no rule against it; another path, another kind of
-- change and another root don't help
who_may_delete_a_book : map
    (λ bars. accepts (Breaching (record (of_kept []) {
      paths = [] ∷ [];
      partial =
          bars ∷ [];
    }) no_lose) (codes "books/a"))
    (partly Left false false true kind.BelowPath (codes "books")
    ∷ partly Left false true true kind.Name (codes "a")
    ∷ partly Left false false true kind.Path (codes "books")
    ∷ partly Left true false false kind.BelowPath (codes "books")
    ∷ partly Right false false true kind.BelowPath (codes "books")
    ∷ [])
    ≡ false ∷ false ∷ true ∷ true ∷ true ∷ []
unfolding computed
who_may_delete_a_book = refl

-- nothing is shown by what is no path's text
no_path_no_clash : map (accepts a_over_b)
    (codes "a//b" ∷ codes "/a/b" ∷ codes "a/b/" ∷ codes "a/b/.." ∷ [])
    ≡ false ∷ false ∷ false ∷ false ∷ []
unfolding computed
no_path_no_clash = refl

-- `path = a` and `path = b`: the classes, and the texts of the first goal's certificate
abbrev a_and_b : Members
a_and_b = set_of (of_kept (codes "a")) (of_kept (codes "b"))

five_classes : map (sample (alphabet_of a_and_b)) (0 ∷ 1 ∷ 2 ∷ 3 ∷ 4 ∷ []) ≡ codes "c./ab"
five_classes = refl

abbrev first : Aim
first = Clashing (of_kept (codes "a")) (of_kept (codes "b")) (Replica Left)

abbrev sixteen : List (List ℕ)
sixteen =
    codes "" ∷ codes "c" ∷ codes "." ∷ codes "/" ∷ codes "a" ∷ codes "b" ∷ codes "c/" ∷ codes ".."
    ∷ codes "a/" ∷ codes "b/" ∷ codes "a/c" ∷ codes "a/." ∷ codes "b/c" ∷ codes "b/."
    ∷ codes "a/.." ∷ codes "b/.." ∷ []

none_accepts : map (accepts first) sixteen
    ≡ false ∷ false ∷ false ∷ false ∷ false ∷ false ∷ false ∷ false ∷ false ∷ false ∷ false ∷ false
    ∷ false ∷ false ∷ false ∷ false ∷ []
unfolding computed
none_accepts = refl

-- with one more character each is where another one of them is: from `a`, from `b/` and from
-- `a/..`, by each class
goes_on : map (goal_stage first) (codes "ac" ∷ codes "a." ∷ codes "a/" ∷ codes "aa" ∷ codes "ab"
    ∷ []) ≡ map (goal_stage first) (codes "c" ∷ codes "c" ∷ codes "a/" ∷ codes "c" ∷ codes "c" ∷ [])
unfolding computed
goes_on = refl

goes_on_below : map (goal_stage first) (codes "b/c" ∷ codes "b/." ∷ codes "b//" ∷ codes "b/a"
    ∷ codes "b/b" ∷ []) ≡ map (goal_stage first)
    (codes "b/c" ∷ codes "b/." ∷ codes "/" ∷ codes "b/c" ∷ codes "b/c" ∷ [])
unfolding computed
goes_on_below = refl

goes_on_behind_dots : map (goal_stage first)
    (codes "a/..c" ∷ codes "a/..." ∷ codes "a/../" ∷ codes "a/..a" ∷ [])
    ≡ map (goal_stage first) (codes "a/c" ∷ codes "a/c" ∷ codes "/" ∷ codes "a/c" ∷ [])
unfolding computed
goes_on_behind_dots = refl

-- a text that begins no path's text has one stage, whatever its characters
broken_alike : map (goal_stage first) (codes "/" ∷ codes "a//b" ∷ codes "../a" ∷ codes "a\n"
    ∷ (1114112 ∷ []) ∷ []) ≡ Broken ∷ Broken ∷ Broken ∷ Broken ∷ Broken ∷ []
unfolding computed
broken_alike = refl

-- both ignore all that begins with a dot, and both reach `a`
abbrev no_dots : Parts
no_dots =
    record (of_kept []) {
      paths = [] ∷ [];
      ignore =
          record { kind = kind.Name; pattern = One (Lit 46) ∷ One Run ∷ [] } ∷ [];
    }

only_what_is_mentioned_is_silent : map (accepts (Clashing no_dots no_dots (Replica Left)))
    (codes "" ∷ codes "." ∷ codes ".." ∷ codes "/" ∷ codes ".a" ∷ codes "a" ∷ [])
    ≡ false ∷ false ∷ false ∷ false ∷ false ∷ true ∷ []
unfolding computed
only_what_is_mentioned_is_silent = refl

-- without any text no list is inductive
no_texts_at_all : IsInductive first [] → ⊥
no_texts_at_all h = let at : h.start.1.0 < 0 = h.start.1.1 in omega arith

-- nor does it rule out a goal
no_texts_rule_out : RulesOut first [] → ⊥
no_texts_rule_out h = let at : h.start.1.0 < 0 = h.start.1.1 in omega arith

-- What the examples on texts compute.
reading : ⊤
unfolding hex_on_literals is_utf8 chars encode
reading = tt

abbrev read : List (List ℕ) → Result (List Certificate) CheckFault
read ls = certificates_in (flat_map (λ l. l) ls)

abbrev top : List ℕ
top = codes "hubsync certificates 1\n"

abbrev certificate : Goal → List (List ℕ) → Certificate
certificate g ts = record { goal = g; stages = ts }

abbrev clash_line : List ℕ
clash_line = codes "goal clash 0 1 root 0\n"

abbrev bad : ℕ → Result (List Certificate) CheckFault
bad n = Err (BadText n)

no_certificates : read (top ∷ codes "end\n" ∷ []) ≡ Ok []
no_certificates = refl

a_goal_without_stages : read (top ∷ codes "goal clash 0 1 archive\nend" ∷ [])
    ≡ Ok (certificate (Clash 0 1 Archive) [] ∷ [])
a_goal_without_stages = refl

-- the digits are of either case, and of any text that is UTF-8
stages_below_their_goals : read (top ∷ clash_line
    ∷ codes "stage -\nstage 63\nstage c3A9\ngoal breach 12 0\nstage 2f0a\nend\n" ∷ [])
    ≡ Ok (certificate (Clash 0 1 (Replica Left)) ([] ∷ codes "c" ∷ (233 ∷ []) ∷ [])
    ∷ certificate (Breach 12 0) ((47 ∷ 10 ∷ []) ∷ []) ∷ [])
unfolding reading
stages_below_their_goals = refl

the_end_has_to_be_there : map read ([] ∷ (top ∷ []) ∷ (codes "hubsync certificates 1" ∷ [])
    ∷ (top ∷ codes "en" ∷ []) ∷ (top ∷ clash_line ∷ []) ∷ (codes "end" ∷ []) ∷ [])
    ≡ bad 1 ∷ bad 2 ∷ bad 1 ∷ bad 2 ∷ bad 3 ∷ bad 1 ∷ []
unfolding reading
the_end_has_to_be_there = refl

nothing_stands_behind_the_end : map (λ t. read (top ∷ codes "end\n" ∷ t ∷ []))
    ([] ∷ codes "\n" ∷ codes "end" ∷ codes "end\n" ∷ codes " " ∷ [])
    ≡ Ok [] ∷ bad 3 ∷ bad 3 ∷ bad 3 ∷ bad 3 ∷ []
unfolding reading
nothing_stands_behind_the_end = refl

goal_lines : map (λ l. read (top ∷ l ∷ codes "\nend\n" ∷ []))
    (codes "goal clash 00 1 root 0" ∷ codes "goal clash 0 1 root 2"
    ∷ codes "goal clash 0 12345 archive" ∷ codes "goal  clash 0 1 archive"
    ∷ codes "goal clash 0 1 archive " ∷ codes "goal breach 0" ∷ codes "goal clash 0 1"
    ∷ codes "goal clash 0 1 archive\r" ∷ [])
    ≡ bad 2 ∷ bad 2 ∷ bad 2 ∷ bad 2 ∷ bad 2 ∷ bad 2 ∷ bad 2 ∷ bad 2 ∷ []
unfolding reading
goal_lines = refl

a_goal_of_no_set : read (top ∷ codes "goal clash 9999 9999 root 1\nend\n" ∷ [])
    ≡ Ok (certificate (Clash 9999 9999 (Replica Right)) [] ∷ [])
a_goal_of_no_set = refl

stage_lines : map (λ l. read (top ∷ clash_line ∷ l ∷ codes "\nend\n" ∷ []))
    (codes "stage 6" ∷ codes "stage ff" ∷ codes "stage " ∷ codes "stage" ∷ codes "stage --"
    ∷ codes "stage eda080" ∷ codes "" ∷ codes "stage 61 " ∷ [])
    ≡ bad 3 ∷ bad 3 ∷ bad 3 ∷ bad 3 ∷ bad 3 ∷ bad 3 ∷ bad 3 ∷ bad 3 ∷ []
unfolding reading
stage_lines = refl

no_stage_above_the_first_goal : read (top ∷ codes "stage -\n" ∷ clash_line ∷ codes "end\n" ∷ [])
    ≡ bad 2
unfolding reading
no_stage_above_the_first_goal = refl

-- the lowest line is told
the_first_fault : read (top ∷ clash_line ∷ codes "stage 6\nstage 7\nen" ∷ []) ≡ bad 3
unfolding reading
the_first_fault = refl

-- What the examples on writing compute.
writing : ⊤
unfolding hex_on_literals digits
writing = tt

goals_are_written : map goal_text (Clash 0 1 (Replica Left) ∷ Clash 12 3 Archive ∷ Breach 0 63
    ∷ []) ≡ codes "goal clash 0 1 root 0" ∷ codes "goal clash 12 3 archive"
    ∷ codes "goal breach 0 63" ∷ []
unfolding writing
goals_are_written = refl
