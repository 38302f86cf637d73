-- The texts of paths that are met on a walk.
use Rattle.std.specs.Prelude.{◌≡◌, ℕ, List, [], ◌∷◌, ◌++◌, encode_utf8_all}
use Rattle.hub_path.specs.Path.{Name, Path, text_of}

-- The new bytes are the old ones, followed by what comes before this name in the text of its path:
-- the directory and `/`.
abbrev pub EndsBeforeName : List ℕ → List ℕ → Path → Name → Type 0
EndsBeforeName old new directory n =
    new ++ encode_utf8_all n ≡ old ++ encode_utf8_all (text_of (directory ++ n ∷ []))
