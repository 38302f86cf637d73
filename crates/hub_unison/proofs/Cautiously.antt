-- The cautious reading of a profile, in its three cases.
use Rattle.std.proofs.Common.{◌≡◌, Bool, true, false, List, [], ◌++◌, map, Option, Some, None, sym, ap, ◌∙◌}
use Rattle.std.specs.Prelude.{if◌then◌else◌}
use Rattle.std.specs.List.{flat_map, list_all}
use Rattle.hub_path.specs.Path.{Path}
use Rattle.hub_glob.specs.Specification.{Specification}
use Rattle.hub_profile.specs.declared.partial.Partial.{Partial}
use Rattle.hub_profile.specs.Parts.{Parts}
use Rattle.hub_unison.specs.Cautious.{has_star, with_patterns, with_tops}
use Rattle.hub_unison.specs.Kept.{own_lines, spare_lines}
use Rattle.hub_unison.specs.Matching.{widened}
use Rattle.hub_unison.specs.ReadingOf.{cautious_of, each_kept, kept_bars, spare_stays, top_values, with_kept}
use Rattle.hub_unison.proofs.KeptLines.{none-if, some-if}

module _ (P C : Parts) (ignore ignorenot : List Specification) (bars partial : List Partial)
    (star : Bool) (starred : star ≡ has_star P) (are : bars ≡ P.partial)
    (kept : partial ≡ kept_bars bars) where
  abbrev reading : Bool → Bool → Parts
  reading a b =
      if a then with_tops P (top_values P.paths) (kept_bars P.partial)
      else (if b
      then with_kept P (each_kept P.ignore (map widened P.ignorenot)) (map widened P.ignorenot) (kept_bars P.partial)
      else with_patterns P [] [] (kept_bars P.partial))

  own : partial ≡ kept_bars P.partial
  own = kept ∙ ap kept_bars are

  pub by-tops : (K : Parts) (tops paths : List Path) → C ≡ with_patterns K ignore ignorenot partial
      → ignore ≡ [] → ignorenot ≡ [] → K ≡ record P { paths = tops } → paths ≡ P.paths
      → tops ≡ top_values paths → star ≡ true → C ≡ cautious_of P
  by-tops K tops paths e one two changed values top is =
      e ∙ ((λ i. with_patterns (changed i) (one i) (two i) partial)
      ∙ ((λ i. with_tops P ((top ∙ ap top_values values) i) (own i))
      ∙ ap (λ a. reading a (list_all spare_stays P.ignorenot)) (sym (sym starred ∙ is))))

  module _ (o : Option (List Specification)) (oldnot : List Specification)
      (spares : o ≡ (if list_all spare_stays oldnot then Some (map widened oldnot) else None))
      (not_are : oldnot ≡ P.ignorenot) (e : C ≡ with_patterns P ignore ignorenot partial)
      (is : star ≡ false) where
    at : (b : Bool) → list_all spare_stays oldnot ≡ b → reading false b ≡ cautious_of P
    at b h =
        (λ i. reading ((sym is ∙ starred) i) ((sym h ∙ ap (list_all spare_stays) not_are) i))

    pub by-lines : (spared old : List Specification) → o ≡ Some spared → old ≡ P.ignore
        → ignore ≡ flat_map own_lines (each_kept old spared)
        → ignorenot ≡ spared ++ flat_map spare_lines (each_kept old spared)
        → C ≡ cautious_of P
    by-lines spared old some lines stay added =
        let two = some-if (list_all spare_stays oldnot) (map widened oldnot) spared o some spares in
        let same : spared ≡ map widened P.ignorenot = two.1 ∙ ap (map widened) not_are in
        e ∙ ((λ i. with_patterns P (stay i) (added i) (own i))
        ∙ ((λ i. with_kept P (each_kept (lines i) (same i)) (same i) (kept_bars P.partial)) ∙ at true two.0))

    pub by-none : o ≡ None → ignore ≡ [] → ignorenot ≡ [] → C ≡ cautious_of P
    by-none none one two =
        e ∙ ((λ i. with_patterns P (one i) (two i) (own i))
        ∙ at false (none-if (list_all spare_stays oldnot) (map widened oldnot) o none spares))
