-- A profile that ignores and bars at least as much only takes away.
use Rattle.std.proofs.Common.{◌≡◌, Bool, true, false, not, ◌&&◌, ◌||◌, refl, ap, ◌∙◌, subst}
use Rattle.std.specs.List.{list_any}
use Rattle.std.proofs.lemmas.Bool.{and_parts, and_from, or_right}
use Rattle.hub_text.specs.laws.Test.{any-weaker, not-weaker}
use Rattle.hub_path.specs.Path.{Path, is_over, is_path, prefixes, path_eq}
use Rattle.hub_path.specs.declared.side.Side.{Side}
use Rattle.hub_path.specs.declared.side.Side.TheVariants.{Left, Right}
use Rattle.hub_glob.specs.Glob.{matches}
use Rattle.hub_profile.specs.declared.partial.Partial.{Partial}
use Rattle.hub_profile.specs.declared.verb.Verb.{Verb}
use Rattle.hub_profile.specs.declared.verb.Verb.TheVariants.{Create, Update, Delete}
use Rattle.hub_profile.specs.Parts.{Parts, some_passes, at_side, is_root_at, has_root}
use Rattle.hub_reach.specs.Reach.{reach, is_ignored, is_open, is_forced_root, is_barred, is_barred_at, is_partly_barred, is_partly_barred_by, may, may_at, covers, writes_at}
use Rattle.hub_mend.specs.TakesAway.{HoldsMore, IsAlike, TakesAway}

no : false ≡ true → ⊥
no i = cc

or-weaker : (a b c d : Bool) → (a ≡ true → c ≡ true) → (b ≡ true → d ≡ true) → (a || b) ≡ true → (c || d) ≡ true
or-weaker true b c d v w h = ap (λ x. x || d) (v refl)
or-weaker false b c d v w h = or_right c d (w h)

and-weaker : (a b c d : Bool) → (a ≡ true → c ≡ true) → (b ≡ true → d ≡ true) → (a && b) ≡ true → (c && d) ≡ true
and-weaker a b c d v w h =
    let parts = and_parts a b h in
    and_from c d (v parts.0) (w parts.1)

module _ (P Q : Parts) (alike : IsAlike P Q)
    (ignore : (q : Path) → list_any (λ s. matches s q) P.ignore ≡ true → list_any (λ s. matches s q) Q.ignore ≡ true)
    (ignorenot : (q : Path) → list_any (λ s. matches s q) Q.ignorenot ≡ true → list_any (λ s. matches s q) P.ignorenot ≡ true)
    (bars : (side : Side) (verb : Verb) → some_passes (covers verb) (at_side P.bars side) ≡ true → some_passes (covers verb) (at_side Q.bars side) ≡ true)
    (partial : (f : Partial → Bool) → list_any f P.partial ≡ true → list_any f Q.partial ≡ true) where
  ignored : (q : Path) → is_ignored P q ≡ true → is_ignored Q q ≡ true
  ignored q h =
      and-weaker (list_any (λ s. matches s q) P.ignore) (not (list_any (λ s. matches s q) P.ignorenot))
      (list_any (λ s. matches s q) Q.ignore) (not (list_any (λ s. matches s q) Q.ignorenot))
      (ignore q) (not-weaker (list_any (λ s. matches s q) Q.ignorenot) (list_any (λ s. matches s q) P.ignorenot) (ignorenot q)) h

  opened : (s p : Path) → is_open Q s p ≡ true → is_open P s p ≡ true
  opened s p =
      not-weaker (list_any (λ q. is_over s q && is_ignored P q) (prefixes p)) (list_any (λ q. is_over s q && is_ignored Q q) (prefixes p))
      (any-weaker (λ q. is_over s q && is_ignored P q) (λ q. is_over s q && is_ignored Q q) (prefixes p)
      (λ q. and-weaker (is_over s q) (is_ignored P q) (is_over s q) (is_ignored Q q) (λ e. e) (ignored q)))

  reached : (p : Path) → reach Q p ≡ true → reach P p ≡ true
  unfolding reach
  reached p =
      and-weaker (is_path p) (list_any (λ s. is_over s p && is_open Q s p) Q.paths) (is_path p) (list_any (λ s. is_over s p && is_open P s p) P.paths) (λ e. e)
      (λ h. any-weaker (λ s. is_over s p && is_open Q s p) (λ s. is_over s p && is_open P s p) P.paths
      (λ s. and-weaker (is_over s p) (is_open Q s p) (is_over s p) (is_open P s p) (λ e. e) (opened s p))
      (subst (λ ss. list_any (λ s. is_over s p && is_open Q s p) ss ≡ true) alike.paths h))

  root_at : (r : Path) (side : Side) → is_root_at Q r side ≡ is_root_at P r side
  root_at r side = ap (λ rs. some_passes (path_eq r) (at_side rs side)) alike.roots

  forced : (r : Path) → is_forced_root Q r ≡ is_forced_root P r
  forced r = λ i. some_passes (λ side. some_passes (path_eq r) (at_side (alike.roots i) side)) (alike.force i)

  barred_at : (r : Path) (verb : Verb) (side : Side) → is_barred_at P r verb side ≡ true → is_barred_at Q r verb side ≡ true
  barred_at r verb side =
      and-weaker (is_root_at P r side) (some_passes (covers verb) (at_side P.bars side)) (is_root_at Q r side) (some_passes (covers verb) (at_side Q.bars side))
      (λ e. root_at r side ∙ e) (bars side verb)

  allowed : (r : Path) (verb : Verb) → may Q r verb ≡ true → may P r verb ≡ true
  allowed r verb =
      not-weaker (is_forced_root P r || is_barred P r verb) (is_forced_root Q r || is_barred Q r verb)
      (or-weaker (is_forced_root P r) (is_barred P r verb) (is_forced_root Q r) (is_barred Q r verb) (λ e. forced r ∙ e)
      (or-weaker (is_barred_at P r verb Left) (is_barred_at P r verb Right) (is_barred_at Q r verb Left) (is_barred_at Q r verb Right)
      (barred_at r verb Left) (barred_at r verb Right)))

  partly : (r p : Path) (verb : Verb) → is_partly_barred P r p verb ≡ true → is_partly_barred Q r p verb ≡ true
  partly r p verb h =
      any-weaker (is_partly_barred_by P r verb p) (is_partly_barred_by Q r verb p) Q.partial
      (λ b. and-weaker (is_root_at P r b.side && covers verb b.bars) (matches b.spec p) (is_root_at Q r b.side && covers verb b.bars) (matches b.spec p)
      (and-weaker (is_root_at P r b.side) (covers verb b.bars) (is_root_at Q r b.side) (covers verb b.bars) (λ e. root_at r b.side ∙ e) (λ e. e)) (λ e. e))
      (partial (is_partly_barred_by P r verb p) h)

  allowed_at : (r p : Path) (verb : Verb) → may_at Q r p verb ≡ true → may_at P r p verb ≡ true
  allowed_at r p verb =
      and-weaker (may Q r verb) (not (is_partly_barred Q r p verb)) (may P r verb) (not (is_partly_barred P r p verb)) (allowed r verb)
      (not-weaker (is_partly_barred P r p verb) (is_partly_barred Q r p verb) (partly r p verb))

  rooted : (r : Path) → has_root Q r ≡ true → has_root P r ≡ true
  rooted r h = subst (λ rs. list_any (λ own. path_eq own r) rs ≡ true) alike.roots h

  written_at : (r p : Path) → writes_at Q r p ≡ true → writes_at P r p ≡ true
  written_at r p =
      and-weaker (has_root Q r) ((may_at Q r p Create || may_at Q r p Update) || may_at Q r p Delete)
      (has_root P r) ((may_at P r p Create || may_at P r p Update) || may_at P r p Delete) (rooted r)
      (or-weaker (may_at Q r p Create || may_at Q r p Update) (may_at Q r p Delete) (may_at P r p Create || may_at P r p Update) (may_at P r p Delete)
      (or-weaker (may_at Q r p Create) (may_at Q r p Update) (may_at P r p Create) (may_at P r p Update) (allowed_at r p Create) (allowed_at r p Update))
      (allowed_at r p Delete))

  taken : TakesAway P Q
  taken = record {
    alike = alike;
    reaches = reached;
    changes = allowed_at;
    writes = λ r p. and-weaker (writes_at Q r p) (reach Q p) (writes_at P r p) (reach P p) (written_at r p) (reached p);
  }

pub takes_away : (P Q : Parts) → HoldsMore P Q → TakesAway P Q
takes_away P Q h = taken P Q h.alike (λ q. h.ignore (λ s. matches s q)) (λ q. h.ignorenot (λ s. matches s q)) h.bars.held h.partial
