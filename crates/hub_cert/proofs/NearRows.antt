-- The table of which lists are near.
use Rattle.std.proofs.Common.{◌≡◌, ◌≢◌, ◌∙◌, ℕ, zero, suc, ◌+◌, ◌<◌, ◌==◌, Bool, false, not, List, [], ◌∷◌, ◌++◌, map, length, take, get_or, refl, sym, ap, arith, add-one, if◌then◌else◌}
use Rattle.std.specs.Prelude.{Option, Some, None, slice_get, option_map, option_and_then}
use Rattle.std.proofs.lemmas.Bool.Decides.{nat_tests}
use Rattle.std.proofs.lemmas.List.{map-append}
use Rattle.std.proofs.lemmas.Option.{get_or_from_slice_get, none-some, same_Some, slice_get-map}
use Rattle.hub_text.specs.laws.List.{has-item}
use Rattle.hub_path.specs.Path.{Path}
use Rattle.hub_profile.specs.Parts.{Parts, some_passes}
use Rattle.hub_reach.specs.Apart.{are_near}
use Rattle.hub_cert.specs.Apart.{is_apart, is_apart_goal}
use Rattle.hub_cert.specs.Goals.{clashing}
use Rattle.hub_cert.specs.Nearness.{AreNearAt, IsRowAt, entry_at, kept_values, near_row, near_rows}
use Rattle.hub_cert.specs.Set.{Members}
use Rattle.hub_cert.specs.declared.goal.Goal.TheVariants.{Clash}
use Rattle.hub_cert.specs.declared.goal.Place.{Place}
use Rattle.hub_cert.proofs.NearInOrder.{near-turned}

-- One item more.
taken : {X : Type 0} (xs : List X) (i : ℕ) (x : X) → slice_get xs i ≡ Some x → take (suc i) xs ≡ take i xs ++ x ∷ []
taken [] i x e = absurd (none-some x e)
taken (y ∷ xs) zero x e = ap (λ z. z ∷ []) (same_Some y x e)
taken (y ∷ xs) (suc i) x e = ap (λ zs. y ∷ zs) (taken xs i x e)

mapped-more : {X Y : Type 0} (f : X → Y) (xs : List X) (i : ℕ) (x : X) (ys zs : List Y) (y : Y) → slice_get xs i ≡ Some x → ys ≡ map f (take i xs) → y ≡ f x
    → zs ≡ ys ++ y ∷ [] → zs ≡ map f (take (i + 1) xs)
mapped-more f xs i x ys zs y at so is e =
    e ∙ (ap (λ us. us ++ y ∷ []) so
    ∙ (ap (λ v. map f (take i xs) ++ v ∷ []) is
    ∙ (sym (map-append f (take i xs) (x ∷ []))
    ∙ ap (map f) (sym (ap (λ n. take n xs) (add-one i) ∙ taken xs i x at)))))

pub row-more : (lists : List (List Path)) (ps : List Path) (i j : ℕ) (row new : List Bool) (b : Bool) → slice_get lists i ≡ Some ps → j < length lists
    → row ≡ near_row ps (take j lists) → AreNearAt lists i j b → new ≡ row ++ b ∷ [] → new ≡ near_row ps (take (j + 1) lists)
row-more lists ps i j row new b at within so is e =
    let there = has-item lists j within in
    mapped-more (are_near ps) lists j there.0 row new b there.1 so (is ps there.0 at there.1) e

pub rows-more : (lists : List (List Path)) (i : ℕ) (rows new : List (List Bool)) (row : List Bool) → i < length lists
    → rows ≡ near_rows lists (take i lists) → IsRowAt lists i row → new ≡ rows ++ row ∷ [] → new ≡ near_rows lists (take (i + 1) lists)
rows-more lists i rows new row within so is e =
    let there = has-item lists i within in
    mapped-more (λ ps. near_row ps lists) lists i there.0 rows new row there.1 so (is there.0 there.1) e

-- What the first rows tell of two lists.
in-taken : {X : Type 0} (xs : List X) (n i : ℕ) (x : X) → slice_get (take n xs) i ≡ Some x → slice_get xs i ≡ Some x
in-taken [] zero i x e = e
in-taken [] (suc n) i x e = e
in-taken (y ∷ xs) zero i x e = absurd (none-some x e)
in-taken (y ∷ xs) (suc n) zero x e = e
in-taken (y ∷ xs) (suc n) (suc i) x e = in-taken xs n i x e

abbrev at_place : ℕ → Option (List Bool) → Option Bool
at_place j o = option_and_then (λ row. slice_get row j) o

pub told : (lists : List (List Path)) (rows : List (List Bool)) (n i j : ℕ) (b : Bool) → rows ≡ near_rows lists (take n lists) → entry_at rows j i ≡ Some b
    → AreNearAt lists i j b
told lists rows n i j b so entry ps qs at_first at_second = go (slice_get (take n lists) j) refl
  where
    go : (o : Option (List Path)) → slice_get (take n lists) j ≡ o → b ≡ are_near ps qs
    go None e =
        absurd (none-some b (sym (ap (at_place i) (slice_get-map (λ us. near_row us lists) (take n lists) j ∙ ap (option_map (λ us. near_row us lists)) e))
        ∙ (sym (ap (λ rs. entry_at rs j i) so) ∙ entry)))
    go (Some us) e =
        let same : us ≡ qs = same_Some us qs (sym (in-taken lists n j us e) ∙ at_second) in
        let row = slice_get-map (λ us. near_row us lists) (take n lists) j ∙ ap (option_map (λ us. near_row us lists)) e in
        let there = slice_get-map (are_near us) lists i ∙ ap (option_map (are_near us)) at_first in
        same_Some b (are_near us ps) (sym entry ∙ (ap (λ rs. entry_at rs j i) so ∙ (ap (at_place i) row ∙ there)))
        ∙ (ap (λ vs. are_near vs ps) same ∙ near-turned qs ps)

pub compared : (lists : List (List Path)) (i j : ℕ) (us vs : List Path) (b : Bool) → us ≡ get_or lists i us → vs ≡ get_or lists j vs → b ≡ are_near us vs
    → AreNearAt lists i j b
compared lists i j us vs b first second e ps qs at_first at_second =
    e ∙ (ap (λ ws. are_near ws vs) (first ∙ get_or_from_slice_get lists i ps us at_first)
    ∙ ap (are_near ps) (second ∙ get_or_from_slice_get lists j qs vs at_second))

-- What the whole table tells of a clash.
row-at : (Ps : List Parts) (w : ℕ) (a : Option Parts) → slice_get Ps w ≡ a
    → slice_get (near_rows (kept_values Ps) (kept_values Ps)) w ≡ option_map (λ (P : Parts). near_row P.paths (kept_values Ps)) a
row-at Ps w a e =
    slice_get-map (λ ps. near_row ps (kept_values Ps)) (kept_values Ps) w
    ∙ (ap (option_map (λ ps. near_row ps (kept_values Ps))) (slice_get-map (λ (P : Parts). P.paths) Ps w ∙ ap (option_map (λ (P : Parts). P.paths)) e) ∙ both a)
  where
    both : (a : Option Parts) → option_map (λ ps. near_row ps (kept_values Ps)) (option_map (λ (P : Parts). P.paths) a)
        ≡ option_map (λ (P : Parts). near_row P.paths (kept_values Ps)) a
    both None = refl
    both (Some P) = refl

item-at : (W : Parts) (Ps : List Parts) (o : ℕ) (b : Option Parts) → slice_get Ps o ≡ b
    → slice_get (near_row W.paths (kept_values Ps)) o ≡ option_map (are_near W.paths) (option_map (λ (P : Parts). P.paths) b)
item-at W Ps o b e =
    slice_get-map (are_near W.paths) (kept_values Ps) o
    ∙ ap (option_map (are_near W.paths)) (slice_get-map (λ (P : Parts). P.paths) Ps o ∙ ap (option_map (λ (P : Parts). P.paths)) e)

told_of : (Ps : List Parts) (w : ℕ) (o : ℕ) (a b : Option Parts) → slice_get Ps w ≡ a → slice_get Ps o ≡ b → (place : Place)
    → some_passes not (entry_at (near_rows (kept_values Ps) (kept_values Ps)) w o) ≡ some_passes is_apart (clashing place a b)
told_of Ps w o None b first second place =
    ap (λ r. some_passes not (at_place o r)) (row-at Ps w None first)
told_of Ps w o (Some W) None first second place =
    ap (λ r. some_passes not (at_place o r)) (row-at Ps w (Some W) first) ∙ ap (some_passes not) (item-at W Ps o None second)
told_of Ps w o (Some W) (Some Q) first second place =
    ap (λ r. some_passes not (at_place o r)) (row-at Ps w (Some W) first) ∙ ap (some_passes not) (item-at W Ps o (Some Q) second)

pub clash-told : (S : Members) (w o : ℕ) (place : Place) (rows : List (List Bool)) (r : Option Bool) → w ≢ o
    → rows ≡ near_rows (kept_values S.profiles) (kept_values S.profiles) → entry_at rows w o ≡ r → some_passes not r ≡ is_apart_goal S (Clash w o place)
clash-told S w o place rows r other so entry =
    let differ : (w == o) ≡ false = grind (arith, nat_tests) in
    ap (some_passes not) (sym entry ∙ ap (λ rs. entry_at rs w o) so)
    ∙ (told_of S.profiles w o (slice_get S.profiles w) (slice_get S.profiles o) refl refl place
    ∙ sym (ap (λ b. some_passes is_apart (if b then None else clashing place (slice_get S.profiles w) (slice_get S.profiles o))) differ))
