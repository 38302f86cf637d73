-- How Unison folds names on a host whose names fold, as far as it is known.
use Rattle.std.specs.Prelude.{◌≡◌, ℕ, ◌+◌, Bool, true, false, not, ◌&&◌, ◌||◌, ◌==◌, nat_lt, nat_le, slice_index, List, [], ◌∷◌, map, length, if◌then◌else◌}
use Rattle.std.specs.List.{list_all, flat_map}
use Rattle.hub_path.specs.Path.{Name, Path}

-- What each character folds to; of which characters that is known; and which of these are marks,
-- which follow a letter.
pub record Folding : Type 0 where
  pub to : ℕ → List ℕ
  pub is_known : ℕ → Bool
  pub is_mark : ℕ → Bool

-- A name is folded character by character, a path name by name.
abbrev pub fold_name : Folding → Name → Name
fold_name F n = flat_map F.to n

abbrev pub fold_path : Folding → Path → Path
fold_path F p = map (fold_name F) p

-- A letter that folds to one character. One mark may follow it: with two, their order would matter,
-- since Unison puts marks in an order of its own.
abbrev pub is_bare : Folding → ℕ → Bool
is_bare F c = not (F.is_mark c) && length (F.to c) == 1

-- Each mark follows a bare letter. The flag says whether one comes before the text.
abbrev pub marks_stand : Folding → Bool → List ℕ → Bool
marks_stand F bare [] = true
marks_stand F bare (c ∷ t) = (not (F.is_mark c) || bare) && marks_stand F (is_bare F c) t

-- It is known what a name folds to: its characters are known, and no letter has more than one mark.
abbrev pub knows : Folding → Name → Bool
knows F n = list_all F.is_known n && marks_stand F false n

abbrev pub knows_path : Folding → Path → Bool
knows_path F p = list_all (knows F) p

-- In Latin-1 mode (`unicode = false`) names in UTF-8 fold A to Z alone, and all characters are
-- known (observed with Unison 2.52.1).
abbrev pub is_upper : ℕ → Bool
is_upper c = nat_le 65 c && nat_le c 90

abbrev pub lower : ℕ → ℕ
lower c = if is_upper c then c + 32 else c

abbrev pub latin : Folding
latin = record { to = λ c. lower c ∷ []; is_known = λ c. true; is_mark = λ c. false }

-- What a folding must do for patterns to fold as names do. A character of ASCII folds to one. A
-- known character folds to at least one, none of them a `/`, and the first of them a dot only if it
-- is a dot.
pub record IsTextual (F : Folding) : Type 0 where
  pub ascii : (c : ℕ) → nat_lt c 128 ≡ true → F.to c ≡ lower c ∷ []
  pub ascii_known : (c : ℕ) → nat_lt c 128 ≡ true → F.is_known c ≡ true
  pub some : (c : ℕ) → F.is_known c ≡ true → (length (F.to c) == 0) ≡ false
  pub no_slash : (c : ℕ) → F.is_known c ≡ true → (c == 47) ≡ false
      → list_all (λ d. not (d == 47)) (F.to c) ≡ true
  pub no_dot : (c : ℕ) → F.is_known c ≡ true → (c == 46) ≡ false
      → (slice_index (F.to c) 0 == 46) ≡ false
