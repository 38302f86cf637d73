-- An alphabet that mentions all that a profile mentions.
use Rattle.std.proofs.Common.{◌≡◌, ℕ, true, List, ◌++◌}
use Rattle.std.specs.List.{flat_map}
use Rattle.hub_automaton.specs.Alphabet.{mentions, path_characters, spec_characters}
use Rattle.hub_automaton.specs.laws.AddedInTurn.{parts-mentioned, each-mentioned}
use Rattle.hub_profile.specs.Parts.{Parts}
use Rattle.hub_reach.specs.Mention.{Mentions, mentioned_by, partial_characters}

pub says-all : (P : Parts) (ms : List ℕ) → mentions ms (mentioned_by P) ≡ true → Mentions ms P
says-all P ms h =
    let bars = flat_map partial_characters P.partial in
    let exceptions = flat_map spec_characters P.ignorenot in
    let ignored = flat_map spec_characters P.ignore in
    let w = parts-mentioned ms (flat_map path_characters P.paths)
    (ignored ++ (exceptions ++ bars)) h in
    let v = parts-mentioned ms ignored (exceptions ++ bars) w.1 in
    let u = parts-mentioned ms exceptions bars v.1 in
    record {
      paths = each-mentioned path_characters ms P.paths w.0;
      ignore = each-mentioned spec_characters ms P.ignore v.0;
      ignorenot = each-mentioned spec_characters ms P.ignorenot u.0;
      partial = each-mentioned partial_characters ms P.partial u.1;
    }
