-- Worked values of graphs.
use Rattle.std.specs.Prelude.{⊤, ◌≡◌, List, [], ◌∷◌, ◌++◌, ℕ, codes, refl}
use Rattle.std.specs.Str.{chars}
use Rattle.hub_path.specs.Path.{path_of}
use Rattle.hub_path.specs.declared.side.Side.TheVariants.{Left}
use Rattle.hub_profile.specs.Parts.{Parts}
use Rattle.hub_cert.specs.declared.fault.CheckFault.{CheckFault}
use Rattle.hub_cert.specs.declared.fault.CheckFault.TheVariants as fault
use Rattle.hub_cert.specs.declared.goal.Goal.TheVariants as goal
use Rattle.hub_cert.specs.declared.goal.Place.TheVariants.{Replica}
use Rattle.hub_report.specs.Graph.{box_line, box_style, edge, escaped, folder_line}
use Rattle.hub_report.specs.Graph.{graph_text, joining_lines, red_edge, root_edge, root_texts_of}
use Rattle.hub_report.specs.examples.Jobs.{profile_of}
use lib.Utf8.{encode}

-- What these examples compute.
computed : ⊤
unfolding chars encode escaped box_line edge root_edge folder_line red_edge
computed = tt

abbrev docs : Parts
docs = profile_of (codes "docs") (codes "srv/hub") (codes "srv/s1")

abbrev lists : Parts
lists = profile_of (codes "lists") (codes "srv/hub") (codes "srv/s4")

abbrev overlap : ℕ → ℕ → List ℕ → CheckFault
overlap w o path = fault.Overlap w o (Replica Left) (path_of (codes "docs")) (path_of path)

abbrev large_pair : ℕ → ℕ → CheckFault
large_pair w o = fault.TooLarge (goal.Clash w o (Replica Left))

abbrev breach : ℕ → CheckFault
breach i = fault.Breach i 0 (path_of (codes "docs"))

abbrev large_breach : ℕ → CheckFault
large_breach i = fault.TooLarge (goal.Breach i 0)

-- the red line of unsafe-star.bundle
abbrev red : List ℕ
red =
    codes "    \"profile docs\" -- \"profile lists\" "
    ++ codes "[color = red, fontcolor = red, label = \"docs/lists\"];\n"

abbrev dashed : List ℕ
dashed = codes "    \"profile docs\" -- \"profile lists\" [color = red, style = dashed];\n"

two_profiles_that_clash :
    graph_text (docs ∷ lists ∷ []) (overlap 0 1 (codes "docs/lists") ∷ []) []
    ≡ codes "graph clashes {\n    graph [rankdir = LR];\n"
    ++ (codes "    node [fontname = \"sans-serif\"];\n    edge [fontname = \"sans-serif\"];\n"
    ++ (codes "    \"profile docs\" [shape = box, label = \"docs\"];\n"
    ++ (codes "    \"profile docs\" -- \"root /srv/hub\" [color = gray50];\n"
    ++ (codes "    \"profile docs\" -- \"root /srv/s1\" [color = gray50];\n"
    ++ (codes "    \"profile lists\" [shape = box, label = \"lists\"];\n"
    ++ (codes "    \"profile lists\" -- \"root /srv/hub\" [color = gray50];\n"
    ++ (codes "    \"profile lists\" -- \"root /srv/s4\" [color = gray50];\n"
    ++ (codes "    \"root /srv/hub\" [shape = folder, label = \"/srv/hub\"];\n"
    ++ (codes "    \"root /srv/s1\" [shape = folder, label = \"/srv/s1\"];\n"
    ++ (codes "    \"root /srv/s4\" [shape = folder, label = \"/srv/s4\"];\n"
    ++ (red ++ codes "}\n")))))))))))
unfolding computed
two_profiles_that_clash = refl

two_profiles_have_one_line_with_the_first_path :
    joining_lines (docs ∷ lists ∷ [])
    (overlap 0 1 (codes "docs/lists") ∷ overlap 1 0 (codes "docs") ∷ large_pair 1 0 ∷ []) []
    ≡ red
unfolding computed
two_profiles_have_one_line_with_the_first_path = refl

a_red_line_leaves_no_dashed_one :
    joining_lines (docs ∷ lists ∷ []) (large_pair 1 0 ∷ overlap 0 1 (codes "docs/lists") ∷ []) []
    ≡ red
unfolding computed
a_red_line_leaves_no_dashed_one = refl

a_pair_that_is_too_large_is_dashed_once :
    joining_lines (docs ∷ lists ∷ []) (large_pair 0 1 ∷ large_pair 1 0 ∷ []) [] ≡ dashed
unfolding computed
a_pair_that_is_too_large_is_dashed_once = refl

nested_roots_are_dashed :
    joining_lines (docs ∷ lists ∷ [])
    (fault.Missing (goal.Clash 0 1 (Replica Left)) ∷ large_pair 1 0 ∷ []) []
    ≡ dashed
unfolding computed
nested_roots_are_dashed = refl

-- the red line of two profiles that share an archive
abbrev archive : List ℕ
archive =
    codes "    \"profile docs\" -- \"profile lists\" "
    ++ codes "[color = red, fontcolor = red, label = \"same archive\"];\n"

a_shared_archive_leaves_no_dashed_line :
    joining_lines (docs ∷ lists ∷ []) (large_pair 1 0 ∷ []) ((0, 1) ∷ []) ≡ archive
unfolding computed
a_shared_archive_leaves_no_dashed_line = refl

a_path_is_shown_before_a_shared_archive :
    joining_lines (docs ∷ lists ∷ []) (overlap 1 0 (codes "docs/lists") ∷ []) ((0, 1) ∷ [])
    ≡ codes "    \"profile lists\" -- \"profile docs\" "
    ++ codes "[color = red, fontcolor = red, label = \"docs/lists\"];\n"
unfolding computed
a_path_is_shown_before_a_shared_archive = refl

a_breach_is_red : box_style (large_breach 1 ∷ breach 1 ∷ []) 1 ≡ codes ", color = red"
a_breach_is_red = refl

a_breach_that_is_too_large_is_dashed :
    box_style (breach 0 ∷ large_breach 1 ∷ []) 1 ≡ codes ", color = red, style = dashed"
a_breach_that_is_too_large_is_dashed = refl

a_breach_of_another_profile : box_style (breach 0 ∷ overlap 1 0 (codes "docs") ∷ []) 1 ≡ []
a_breach_of_another_profile = refl

roots_are_in_the_order_of_their_texts :
    root_texts_of [] (profile_of (codes "p") (codes "srv/hub") (codes "srv-x")
    ∷ profile_of (codes "q") (codes "a") (codes "srv/hub") ∷ [])
    ≡ codes "/a" ∷ codes "/srv-x" ∷ codes "/srv/hub" ∷ []
unfolding computed
roots_are_in_the_order_of_their_texts = refl

a_quote_and_a_backslash : escaped (codes "a\"b\\c") ≡ codes "a\\\"b\\\\c"
unfolding computed
a_quote_and_a_backslash = refl
