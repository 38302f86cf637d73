use Rattle.std.proofs.Common.{◌∙◌, ℕ, List, length, take, get_or, sym, subst}
use Rattle.std.proofs.lemmas.List.{take_more}
use Rattle.std.proofs.lemmas.List.Elements.{Contains-get_or}
use Rattle.hub_profile.specs.Parts.{Parts}
use Rattle.hub_apart.specs.ApartLines.{Adds}
use Rattle.hub_apart.specs.NestedLines.{HasLinesOfNear}
use Rattle.hub_apart.specs.UnisonLines.{AreLinesOfPairs, IsWithin}
use Rattle.hub_apart.proofs.LinesOfPairs.{one-pair-more}
use Rattle.hub_apart.proofs.pairs.search_pairs.Goals as goal

pub search_pair-requires : goal.search_pair-requires
search_pair-requires c =
    let pairs = c.args.pairs.now in
    let k = c.loop-pair.pair-index in
    subst (λ (Ps : List Parts). IsWithin (length Ps) (get_or pairs k (0, 0))) (sym c.loop-pair.invariant.profiles)
    (c.requires (get_or pairs k (0, 0)) (Contains-get_or pairs k (0, 0) c.loop-pair-test.true))

pub loop-pair-preserved : goal.loop-pair-preserved
loop-pair-preserved c =
    let Ps = c.args.profiles.items in
    let pairs = c.args.pairs.now in
    let k = c.loop-pair.pair-index in
    let pair = get_or pairs k (0, 0) in
    let old = c.args.lines.now.items in
    let mid = c.loop-pair.lines.items in
    let new = c.search_pair.new.lines.items in
    let i = c.loop-pair.invariant in
    let own = subst (λ (Qs : List Parts). Adds (HasLinesOfNear Qs pair.0 pair.1) mid new) i.profiles c.in_ok-profiles.ensures.lines in
    record {
      profiles = c.in_ok-profiles.ensures.profiles ∙ i.profiles;
      lines = subst (λ (ps : List (ℕ × ℕ)). Adds (AreLinesOfPairs Ps ps) old new) (sym (take_more pairs k (0, 0) c.loop-pair-test.true))
          (one-pair-more Ps (take k pairs) pair.0 pair.1 old mid new i.lines own);
    }
