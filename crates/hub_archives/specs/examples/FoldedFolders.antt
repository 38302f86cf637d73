-- Values worked by hand: which folders are kept out where names fold.
use Rattle.std.specs.Prelude.{⊤, ◌≡◌, ℕ, Bool, true, false, List, [], ◌∷◌, ◌++◌, map, refl, codes}
use Rattle.std.proofs.lemmas.Bool.{false≢true}
use Rattle.hub_path.specs.Path.{Path, path_of}
use Rattle.hub_glob.specs.Glob.{matches}
use Rattle.hub_glob.specs.declared.path_spec.Kind.TheVariants as Kind
use Rattle.hub_profile.specs.Parts.{Parts}
use Rattle.hub_profile.specs.examples.Profiles.{between, hub}
use Rattle.hub_reach.specs.Reach.{reach}
use Rattle.hub_unison.specs.Matching.{line_matches}
use Rattle.hub_unison.specs.ReadingOf.{cautious_of}
use Rattle.hub_unison.specs.UnisonReach.{reach_by}
use Rattle.hub_folded.specs.InUnison.{Lined, norm_of, reach_at}
use Rattle.hub_folded.specs.Lines.{folded_member, line_of}
use Rattle.hub_folded.specs.Table.{unicode}
use Rattle.hub_folded.specs.declared.member.Member.{Member}
use Rattle.hub_archives.specs.Folded.{IsFoldedHeld, IsFoldedHeldBy, IsFoldedKeptOut}
use Rattle.hub_archives.specs.KeptOut.{keeps_out}
use Rattle.hub_archives.specs.Seen.{keeps_out_folded}
use Rattle.hub_archives.specs.examples.Folders.{literal}

-- What these examples compute.
computed : ⊤
unfolding reach reach_by matches
computed = tt

-- Profiles of `/home/eva`: with one kept value; of the whole replica; and of that but for one path.
abbrev home : Path
home = path_of (codes "home/eva")

abbrev archives : Path
archives = path_of (codes ".unison")

abbrev keeping : List ℕ → Parts
keeping t = between (codes "eva") home hub (path_of t)

abbrev whole : Parts
whole = record (keeping (codes "docs")) { paths = [] ∷ [] }

abbrev ignoring : List ℕ → Parts
ignoring t =
    record whole { ignore = (record { kind = Kind.Path; pattern = literal t }) ∷ [] }

-- Where names fold, Unison reaches `.unison` by `path = .UNISON`. By the lines as they stand it is kept
-- out.
abbrev lined : Parts → Lined
lined P =
    record {
      folds = true;
      written =
          record { parts = P; ignore = map line_of P.ignore; ignorenot = []; partial = [] };
    }

unison_reaches_it : reach_at (norm_of unicode) line_matches (lined (keeping (codes ".UNISON"))) archives
    ≡ true
unfolding computed
unison_reaches_it = refl

as_they_stand : keeps_out (cautious_of (keeping (codes ".UNISON"))) archives ≡ true
unfolding computed
as_they_stand = refl

-- The folded lines don't keep it out, nor do those of the whole replica.
abbrev member : Bool → Parts → Member
member folds P = record { folds = folds; parts = P }

abbrev kept_out : Path → List Parts → List Bool
kept_out x Ps =
    map (λ P. keeps_out_folded (cautious_of (folded_member unicode (member true P))) x) Ps

held : kept_out archives (keeping (codes ".UNISON") ∷ whole ∷ []) ≡ false ∷ false ∷ []
unfolding computed
held = refl

-- With an `ignore` line in whatever case they do, and so do those of another kept value.
ignored : kept_out archives
    (ignoring (codes ".unison") ∷ ignoring (codes ".Unison") ∷ keeping (codes "docs") ∷ [])
    ≡ true ∷ true ∷ true ∷ []
unfolding computed
ignored = refl

-- The folder may be written in another case, too.
in_capitals : kept_out (path_of (codes ".UNISON"))
    (keeping (codes ".unison") ∷ ignoring (codes ".unison") ∷ []) ≡ false ∷ true ∷ []
unfolding computed
in_capitals = refl

-- A folder with a name of which it isn't known what it folds to, here of Hangul, is held by each.
abbrev unknown : Path
unknown = (0xAC00 ∷ []) ∷ []

not_known : kept_out unknown (keeping (codes "docs") ∷ ignoring (codes ".unison") ∷ [])
    ≡ false ∷ false ∷ []
unfolding computed
not_known = refl

-- A member whose names don't fold is passed over: nothing is claimed of it, and it holds no folder.
passed_over : IsFoldedKeptOut ((home ++ archives) ∷ []) (member false whole)
passed_over j f folds = absurd (false≢true folds)

not_held : (j : ℕ) (x : Path) → ¬ (IsFoldedHeldBy ((home ++ archives) ∷ []) (member false whole) j x)
not_held j x h = false≢true h.0

-- So of these two the second one holds the folder, by the path that it has below `/home/eva`.
second : IsFoldedHeld ((home ++ archives) ∷ [])
    (member false whole ∷ member true (keeping (codes ".UNISON")) ∷ [])
    (record { section = 1; folder = 0; path = archives })
unfolding computed
second =
    (member true (keeping (codes ".UNISON")), refl, (refl, (home ++ archives, home, refl, refl, refl, refl)))
