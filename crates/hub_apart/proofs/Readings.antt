-- The reading of a profile beside rules, made of its cautious one.
use Rattle.std.proofs.Common.{◌≡◌, ◌==◌, suc, Bool, true, false, List, [], ◌∷◌, length, map, refl, sym, ap}
use Rattle.std.specs.Prelude.{if◌then◌else◌}
use Rattle.std.specs.List.{list_all}
use Rattle.hub_profile.specs.Parts.{IsProfile, Parts}
use Rattle.hub_profile.specs.declared.rule.Rule.{Rule}
use Rattle.hub_unison.specs.Cautious.{has_star, with_patterns, with_tops}
use Rattle.hub_unison.specs.ReadingOf.{cautious_of, each_kept, kept_bars, reading_of, spare_stays, top_values, with_kept}
use Rattle.hub_unison.specs.Matching.{widened}
use Rattle.hub_unison.specs.Rules.{for_rules}
use Rattle.hub_apart.specs.UnisonLines.{AreValid, beside, cautious, wide}
use Rattle.hub_apart.proofs.Tops.{own-tops, tops-kept}

-- The cautious reading, by whether there are stars and whether `ignorenot` lines can stay.
abbrev by_case : Parts → Bool → Bool → Parts
by_case P b c =
    if b then with_tops P (top_values P.paths) (kept_bars P.partial)
    else (if c
    then with_kept P (each_kept P.ignore (map widened P.ignorenot)) (map widened P.ignorenot) (kept_bars P.partial)
    else with_patterns P [] [] (kept_bars P.partial))

pub wide-is : (R : Rule) (Rs : List Rule) (P : Parts) → IsProfile (cautious_of P) → wide (cautious_of P) ≡ reading_of (R ∷ Rs) P
wide-is R Rs P valid = go (has_star P) refl (list_all spare_stays P.ignorenot) valid
  where
    go : (b : Bool) → has_star P ≡ b → (c : Bool) → IsProfile (by_case P b c) → wide (by_case P b c) ≡ for_rules P (top_values P.paths)
    go true e c own = refl
    go false e true own = ap (for_rules P) (sym (own-tops P.paths e own.paths))
    go false e false own = ap (for_rules P) (sym (own-tops P.paths e own.paths))

pub all-wide : (Rs : List Rule) (Ps : List Parts) → (length Rs == 0) ≡ false → AreValid (cautious Ps)
    → map wide (cautious Ps) ≡ beside Rs Ps
all-wide [] Ps some valid = cc
all-wide (R ∷ Rs) Ps some valid = all Ps valid
  where
    all : (Ps : List Parts) → AreValid (cautious Ps) → map wide (cautious Ps) ≡ beside (R ∷ Rs) Ps
    all [] valid = refl
    all (P ∷ Ps) valid = λ i. wide-is R Rs P (valid 0 (cautious_of P) refl) i ∷ all Ps (λ k Q at. valid (suc k) Q at) i

pub cautious-valid : (P : Parts) → IsProfile P → IsProfile (cautious_of P)
cautious-valid P valid = go (has_star P) (list_all spare_stays P.ignorenot)
  where
    go : (b c : Bool) → IsProfile (by_case P b c)
    go true c = record { roots = valid.roots; paths = tops-kept P.paths }
    go false true = record { roots = valid.roots; paths = valid.paths }
    go false false = record { roots = valid.roots; paths = valid.paths }

pub beside-valid : (Rs : List Rule) (P : Parts) → IsProfile P → IsProfile (reading_of Rs P)
beside-valid [] P valid = cautious-valid P valid
beside-valid (R ∷ Rs) P valid = record { roots = valid.roots; paths = tops-kept P.paths }
