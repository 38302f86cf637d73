-- An alphabet mentions what a profile mentions.
use Rattle.std.specs.Prelude.{◌≡◌, ℕ, List, ◌++◌, IsTrue}
use Rattle.std.specs.List.{list_all, flat_map}
use Rattle.hub_profile.specs.Parts.{Parts}
use Rattle.hub_automaton.specs.Alphabet.{mentions, path_characters, spec_characters, with_characters}
use Rattle.hub_profile.specs.declared.partial.Partial.{Partial}
use Rattle.hub_profile.specs.declared.rule.Rule.{Rule}

-- The characters that a partial bar mentions.
abbrev pub partial_characters : Partial → List ℕ
partial_characters b = spec_characters b.spec

-- The characters that a rule mentions.
abbrev pub rule_characters : Rule → List ℕ
rule_characters R = spec_characters R.spec

pub record Mentions (ms : List ℕ) (P : Parts) : Type 0 where
  pub paths : IsTrue (list_all (λ p. mentions ms (path_characters p)) P.paths)
  pub ignore : IsTrue (list_all (λ s. mentions ms (spec_characters s)) P.ignore)
  pub ignorenot : IsTrue (list_all (λ s. mentions ms (spec_characters s)) P.ignorenot)
  pub partial : IsTrue (list_all (λ b. mentions ms (partial_characters b)) P.partial)

-- All characters that a profile mentions: those of its kept values, and those of its patterns. The
-- patterns of partial bars come last.
abbrev pub mentioned_by : Parts → List ℕ
mentioned_by P =
    flat_map path_characters P.paths
    ++ (flat_map spec_characters P.ignore
    ++ (flat_map spec_characters P.ignorenot ++ flat_map partial_characters P.partial))

-- The new alphabet mentions all characters that the old one mentions.
abbrev pub StillMentions : List ℕ → List ℕ → Type 0
StillMentions old new = (cs : List ℕ) → IsTrue (mentions old cs) → IsTrue (mentions new cs)

-- Of some characters the first ones have been added to an alphabet, and the others haven't.
pub record IsPartly (old cs new : List ℕ) : Type 0 where
  pub added : List ℕ
  pub left : List ℕ
  pub all : added ++ left ≡ cs
  pub mentioned : new ≡ with_characters old added
