-- A pattern is matched with a text character by character. What is kept of the text read so far is
-- the places of the pattern, in its order, before which a match of that text may stand.
use Rattle.std.specs.Prelude.{◌≡◌, ℕ, Bool, true, false, not, ◌&&◌, ◌||◌, ◌==◌, List, [], ◌∷◌, ◌++◌, length, slice_index_or, if◌then◌else◌}
use Rattle.std.specs.List.{list_any}
use Rattle.hub_glob.specs.declared.piece.Piece.{Piece}
use Rattle.hub_glob.specs.declared.piece.Part.{Part}
use Rattle.hub_glob.specs.declared.piece.Part.TheVariants.{One, Brace}
use Rattle.hub_glob.specs.declared.piece.NextCharacter.{NextCharacter}
use Rattle.hub_glob.specs.declared.sweep.Carry.{Carry}
use Rattle.hub_glob.specs.Taking.{takes, is_star}

-- The places swept so far, and whether a match may stand at the next one: of the text before the
-- character, and of the text with it.
pub record Swept : Type 0 where
  pub live : List Bool
  pub carry : Carry

-- By a sweep these places and this carry become those.
abbrev pub SweepsTo : (Swept → Swept) → List Bool → Carry → List Bool → Carry → Type 0
SweepsTo sweep old entry new end =
    sweep (record { live = old; carry = entry }) ≡ record { live = new; carry = end }

-- Past one piece, where `here` says whether a match of the text before the character may stand
-- before it. A `*` that takes the character stays where it is.
abbrev pub past_piece : NextCharacter → Piece → Bool → Swept → Swept
past_piece x p here s = record {
  live = s.live ++ (s.carry.after || is_star p && (here && takes x p)) ∷ [];
  carry = record { before = is_star p && here; after = not (is_star p) && (here && takes x p) };
}

abbrev pub swept_piece : NextCharacter → List Bool → Piece → Swept → Swept
swept_piece x old p s =
    past_piece x p (s.carry.before || slice_index_or old (length s.live) false) s

abbrev pub swept_pieces : NextCharacter → List Bool → List Piece → Swept → Swept
swept_pieces x old [] s = s
swept_pieces x old (p ∷ ps) s = swept_pieces x old ps (swept_piece x old p s)

abbrev pub nowhere : Carry
nowhere = record { before = false; after = false }

abbrev pub with_carry : Carry → Swept → Swept
with_carry c s =
    record {
      live = s.live;
      carry = record {
        before = c.before || s.carry.before;
        after =
            c.after || s.carry.after;
      };
    }

-- Each choice of a brace is entered as the brace is, and after the brace stands what stands after
-- some choice.
abbrev pub swept_choices : NextCharacter → List Bool → Carry → List (List Piece) → Swept → Swept
swept_choices x old entry [] s = s
swept_choices x old entry (c ∷ cs) s =
    swept_choices x old entry cs (with_carry s.carry
    (swept_pieces x old c (record { live = s.live; carry = entry })))

abbrev pub swept_part : NextCharacter → List Bool → Part → Swept → Swept
swept_part x old (One p) s = swept_piece x old p s
swept_part x old (Brace cs) s =
    swept_choices x old s.carry cs (record { live = s.live; carry = nowhere })

abbrev pub swept_parts : NextCharacter → List Bool → List Part → Swept → Swept
swept_parts x old [] s = s
swept_parts x old (p ∷ ps) s = swept_parts x old ps (swept_part x old p s)

-- What is known of the text read so far: the places at which a match of it may stand, whether it is
-- empty, whether it is matched whole, and whether it ends at the start of a component.
pub record Standing : Type 0 where
  pub live : List Bool
  pub fresh : Bool
  pub ended : Bool
  pub first : Bool

abbrev pub at_start : Standing
at_start = record { live = []; fresh = true; ended = false; first = true }

abbrev pub swept : List Part → Standing → ℕ → Swept
swept ps w c =
    swept_parts (record { character = c; first = w.first }) w.live ps
    (record { live = []; carry = record { before = w.fresh; after = false } })

-- No place is active: the text read so far is not empty, and no further text is matched.
abbrev pub is_stuck : Standing → Bool
is_stuck w = not w.fresh && length w.live == 0

abbrev pub stuck_after : ℕ → Standing
stuck_after c = record { live = []; fresh = false; ended = false; first = c == 47 }

-- The places, or none at all if none of them is active.
abbrev pub pruned : List Bool → List Bool
pruned live = if list_any (λ b. b) live then live else []

abbrev pub pushed_by : Swept → ℕ → Standing
pushed_by s c =
    record { live = pruned s.live; fresh = false; ended = s.carry.after; first = c == 47 }

-- With one more character; and whether the text before it is matched.
abbrev pub pushed : List Part → Standing → ℕ → Standing
pushed ps w c = if is_stuck w then stuck_after c else pushed_by (swept ps w c) c

abbrev pub is_matched_so_far : List Part → Standing → ℕ → Bool
is_matched_so_far ps w c = if is_stuck w then w.ended else (swept ps w c).carry.before || w.ended

-- With all characters of a text.
abbrev pub pushed_all : List Part → Standing → List ℕ → Standing
pushed_all ps w [] = w
pushed_all ps w (c ∷ t) = pushed_all ps (pushed ps w c) t

-- Whether the text with these characters is matched, where a `/` comes next.
abbrev pub is_matched_at_slash : List Part → Standing → List ℕ → Bool
is_matched_at_slash ps w t = is_matched_so_far ps (pushed_all ps w t) 47
