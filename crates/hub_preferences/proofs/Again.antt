-- What counts of a bundle, read again.
use Rattle.std.proofs.Common.{◌≡◌, ◌⊎◌, ⊎_elim, inl, inr, ℕ, Bool, true, false, ◌&&◌, ◌||◌, not, List, [], ◌∷◌, ◌++◌, reverse, drop, length, ◌==◌, Option, Some, None, refl, sym, ap, subst, ◌∙◌, lit<}
use Rattle.std.specs.Prelude.{if◌then◌else◌, is_some}
use Rattle.std.specs.List.{list_any}
use Rattle.std.specs.Str.{IsUtf8, is_utf8, chars}
use Rattle.std.proofs.lemmas.Bool.{and_parts, and_from, or_from, or_left, or_right, false≢true}
use Rattle.std.proofs.lemmas.List.{reverse-append}
use Rattle.std.proofs.lemmas.Str.{encode_ascii, chars-append}
use Rattle.hub_bundle.specs.Files.{is_heading}
use Rattle.hub_text.specs.Blanks.{is_blank, skip_blanks}
use Rattle.hub_text.specs.declared.line.Line.{Line}
use Rattle.hub_text.specs.Lines.{lines_of, text_of_lines, without_last}
use Rattle.hub_profile.specs.Lines.{trimmed, trimmed_line, is_setting, has_equals, name_and_value}
use Rattle.hub_preferences.specs.Kinds.{kind_of, kind_of_text, kind_of_pair, overrides_force, sets_force, is_unread_ignorenot}
use Rattle.hub_preferences.specs.Counted.{kinds_below, section_at, is_profile_heading, is_kind_left_out, is_left_out, comment, spelling_in, counted_line, counted_lines, counted_bundle, no_profile}
use Rattle.hub_preferences.specs.Spellings.{spelling, spelling_of_text, spelling_of_pair, spelling_as, other_spelling, or_spelling}
use Rattle.hub_preferences.specs.laws.Spelling.{other_spelling-is, root-stays}
use Rattle.hub_preferences.specs.laws.Counted.{lines_of-counted_bundle, spelling-in}
use Rattle.hub_preferences.specs.declared.kind.LineKind.{LineKind}
use Rattle.hub_preferences.specs.declared.kind.LineKind.TheVariants as kind
use Rattle.hub_preferences.specs.declared.section.Section.{Section}
use Rattle.hub_preferences.proofs.Same.{and_none, heading_stays, stands}
use Rattle.hub_path.specs.Path.{Path}
use Rattle.hub_preferences.specs.Places.{root_on, root_in_text, root_of_pair, in_list, roots_below, roots_in}

IsUtf8-hash : IsUtf8 (35 ∷ [])
IsUtf8-hash = (35 ∷ [], (refl, λ i. encode_ascii 35 (lit< tt) i ++ []))

chars-hash : (bs : List ℕ) → chars (35 ∷ bs) ≡ 35 ∷ chars bs
unfolding chars
chars-hash bs = chars-append (35 ∷ []) bs IsUtf8-hash

skip_blanks-push : (us : List ℕ) → skip_blanks (us ++ 35 ∷ []) ≡ skip_blanks us ++ 35 ∷ []
skip_blanks-push [] = refl
skip_blanks-push (u ∷ us) = by (is_blank u) refl (skip_blanks-push us)
  where
    by : (b : Bool) → is_blank u ≡ b → skip_blanks (us ++ 35 ∷ []) ≡ skip_blanks us ++ 35 ∷ [] → skip_blanks (u ∷ us ++ 35 ∷ []) ≡ skip_blanks (u ∷ us) ++ 35 ∷ []
    by true e more = rw e more
    by false e more = rw e refl

trimmed-hash : (ws : List ℕ) → trimmed (35 ∷ ws) ≡ 35 ∷ reverse (skip_blanks (reverse ws))
trimmed-hash ws =
    ap (λ t. reverse (skip_blanks t)) (reverse-append (35 ∷ []) ws) ∙ ap reverse (skip_blanks-push (reverse ws))
    ∙ reverse-append (skip_blanks (reverse ws)) (35 ∷ [])

not_setting : (vs : List ℕ) → is_setting (35 ∷ vs) ≡ false
not_setting vs = and_none (not (length (35 ∷ vs) == 0))

hash_stays : (rs : List Path) (vs : List ℕ) → kind_of_text rs (35 ∷ vs) ≡ kind.Stays
hash_stays rs vs =
    λ i. if (not_setting vs i && has_equals (35 ∷ vs)) then kind_of_pair rs (name_and_value (35 ∷ vs)) else kind.Stays

line-hash : (cs : List ℕ) → (ws : List ℕ) × (trimmed_line (35 ∷ cs) ≡ trimmed (35 ∷ ws))
line-hash [] = ([], refl)
line-hash (c ∷ cs) = (without_last 13 (c ∷ cs), refl)

kind-trimmed : (rs : List Path) (cs : List ℕ) → kind_of_text rs (trimmed_line (35 ∷ cs)) ≡ kind.Stays
kind-trimmed rs cs =
    let line = line-hash cs in
    ap (kind_of_text rs) (line.1 ∙ trimmed-hash line.0) ∙ hash_stays rs (reverse (skip_blanks (reverse line.0)))

spelling_stays : (vs : List ℕ) → spelling_of_text (35 ∷ vs) ≡ None
spelling_stays vs = λ i. if (not_setting vs i && has_equals (35 ∷ vs)) then spelling_of_pair (name_and_value (35 ∷ vs)) else None

spelling-trimmed : (cs : List ℕ) → spelling_of_text (trimmed_line (35 ∷ cs)) ≡ None
spelling-trimmed cs =
    let line = line-hash cs in
    ap spelling_of_text (line.1 ∙ trimmed-hash line.0) ∙ spelling_stays (reverse (skip_blanks (reverse line.0)))

-- A comment stays.
pub kind_of-comment : (rs : List Path) (bs : List ℕ) → kind_of rs (35 ∷ bs) ≡ kind.Stays
kind_of-comment rs bs = by (is_utf8 (35 ∷ bs)) refl
  where
    by : (b : Bool) → is_utf8 (35 ∷ bs) ≡ b → kind_of rs (35 ∷ bs) ≡ kind.Stays
    by true e = rw e (ap (λ cs. kind_of_text rs (trimmed_line cs)) (chars-hash bs) ∙ kind-trimmed rs (chars bs))
    by false e = rw e refl

-- A line of what counts passes only if one of the bundle does: a line in the place of another one, or the line itself.
one-quiet : (rs : List Path) (p : LineKind → Bool) → p kind.Stays ≡ false → (l k : Line (List ℕ)) (ls ms : List (Line (List ℕ))) → is_heading k.text ≡ false → kind_of rs k.text ≡ kind.Stays
    → is_heading l.text ≡ false → (list_any p (kinds_below rs ms) ≡ true → list_any p (kinds_below rs ls) ≡ true)
    → list_any p (kinds_below rs (k ∷ ms)) ≡ true → list_any p (kinds_below rs (l ∷ ls)) ≡ true
one-quiet rs p stays l k ls ms head quiet plain more h =
    let here : list_any p (kinds_below rs (k ∷ ms)) ≡ p (kind_of rs k.text) || list_any p (kinds_below rs ms) = rw head refl in
    let none : p (kind_of rs k.text) ≡ false = ap p quiet ∙ stays in
    let rest : list_any p (kinds_below rs ms) ≡ true = ap (λ b. b || list_any p (kinds_below rs ms)) (sym none) ∙ (sym here ∙ h) in
    rw plain (or_right (p (kind_of rs l.text)) (list_any p (kinds_below rs ls)) (more rest))

one-same : (rs : List Path) (p : LineKind → Bool) → (l : Line (List ℕ)) (ls ms : List (Line (List ℕ))) → (list_any p (kinds_below rs ms) ≡ true → list_any p (kinds_below rs ls) ≡ true)
    → list_any p (kinds_below rs (l ∷ ms)) ≡ true → list_any p (kinds_below rs (l ∷ ls)) ≡ true
one-same rs p l ls ms more h = by (is_heading l.text) refl (p (kind_of rs l.text)) refl h
  where
    by : (heading : Bool) → is_heading l.text ≡ heading → (b : Bool) → p (kind_of rs l.text) ≡ b → list_any p (kinds_below rs (l ∷ ms)) ≡ true → list_any p (kinds_below rs (l ∷ ls)) ≡ true
    by true e b f h =
        let none : list_any p (kinds_below rs (l ∷ ms)) ≡ false = rw e refl in
        absurd (false≢true (sym none ∙ h))
    by false e true f h = rw e (or_left (p (kind_of rs l.text)) (list_any p (kinds_below rs ls)) f)
    by false e false f h =
        let here : list_any p (kinds_below rs (l ∷ ms)) ≡ p (kind_of rs l.text) || list_any p (kinds_below rs ms) = rw e refl in
        rw e (or_right (p (kind_of rs l.text)) (list_any p (kinds_below rs ls)) (more (ap (λ c. c || list_any p (kinds_below rs ms)) (sym f) ∙ sym here ∙ h)))

-- A line that is left out is no heading.
plain_out : (rs : List Path) (s : Section) (l : List ℕ) (below : List (Line (List ℕ))) → is_left_out rs s l below ≡ true → is_heading l ≡ false
plain_out rs s l below h = by (is_heading l) refl
  where
    by : (b : Bool) → is_heading l ≡ b → is_heading l ≡ false
    by true e = absurd (false≢true (sym (heading_stays rs s l below e) ∙ h))
    by false e = e

-- A comment sets no root.
root_stays : (vs : List ℕ) → root_in_text (35 ∷ vs) ≡ None
root_stays vs = λ i. if (not_setting vs i && has_equals (35 ∷ vs)) then root_of_pair (name_and_value (35 ∷ vs)) else None

root-trimmed : (cs : List ℕ) → root_in_text (trimmed_line (35 ∷ cs)) ≡ None
root-trimmed cs =
    let line = line-hash cs in
    ap root_in_text (line.1 ∙ trimmed-hash line.0) ∙ root_stays (reverse (skip_blanks (reverse line.0)))

no_root-comment : (bs : List ℕ) → root_on (35 ∷ bs) ≡ None
no_root-comment bs = by (is_utf8 (35 ∷ bs)) refl
  where
    by : (b : Bool) → is_utf8 (35 ∷ bs) ≡ b → root_on (35 ∷ bs) ≡ None
    by true e = rw e (ap (λ cs. root_in_text (trimmed_line cs)) (chars-hash bs) ∙ root-trimmed (chars bs))
    by false e = rw e refl

-- A line that stays isn't left out, so one that is left out sets no root.
quiet_kept : (rs : List Path) (s : Section) (l : List ℕ) (below : List (Line (List ℕ))) → kind_of rs l ≡ kind.Stays → is_left_out rs s l below ≡ false
quiet_kept rs s l below quiet =
    ap (λ j. s.is_profile && (not (is_heading l) && is_kind_left_out s j (kinds_below rs below))) quiet
    ∙ ap (λ b. s.is_profile && b) (and_none (not (is_heading l))) ∙ and_none s.is_profile

out-rootless : (rs : List Path) (s : Section) (l : List ℕ) (below : List (Line (List ℕ))) → is_left_out rs s l below ≡ true → root_on l ≡ None
out-rootless rs s l below h =
    ⊎_elim (λ e. e) (λ q. absurd (false≢true (sym (quiet_kept rs s l below q) ∙ h))) (root-stays rs l)

-- A line that stays and has no other spelling as a path has none.
other_none : (rs : List Path) (l : List ℕ) → kind_of rs l ≡ kind.Stays → spelling l ≡ None → other_spelling rs l ≡ None
other_none rs l quiet last = ap (λ k. spelling_as k l) quiet ∙ last

-- What stands in the place of a line: a line that stays and is no heading, or the line itself.
record IsReplaced (rs : List Path) (s : Section) (l : Line (List ℕ)) (ls : List (Line (List ℕ))) (k : Line (List ℕ)) : Type 0 where
  head : is_heading k.text ≡ false
  quiet : kind_of rs k.text ≡ kind.Stays
  last : other_spelling rs k.text ≡ None
  rootless : root_on k.text ≡ None
  before : root_on l.text ≡ None
  plain : is_heading l.text ≡ false

no_spelling-comment : (bs : List ℕ) → spelling (35 ∷ bs) ≡ None
no_spelling-comment bs = by (is_utf8 (35 ∷ bs)) refl
  where
    by : (b : Bool) → is_utf8 (35 ∷ bs) ≡ b → spelling (35 ∷ bs) ≡ None
    by true e = rw e (ap (λ cs. spelling_of_text (trimmed_line cs)) (chars-hash bs) ∙ spelling-trimmed (chars bs))
    by false e = rw e refl

replaced : (rs : List Path) (s : Section) (l : Line (List ℕ)) (ls : List (Line (List ℕ))) → IsReplaced rs s l ls (counted_line rs s l ls) ⊎ ((counted_line rs s l ls ≡ l) × (is_left_out rs s l.text ls ≡ false) × (spelling_in rs s l.text ≡ None))
replaced rs s l ls = by (is_left_out rs s l.text ls) refl (spelling_in rs s l.text) refl
  where
    by : (out : Bool) → is_left_out rs s l.text ls ≡ out → (o : Option (List ℕ)) → spelling_in rs s l.text ≡ o
        → IsReplaced rs s l ls (counted_line rs s l ls) ⊎ ((counted_line rs s l ls ≡ l) × (is_left_out rs s l.text ls ≡ false) × (spelling_in rs s l.text ≡ None))
    by true e o f =
        let whole : counted_line rs s l ls ≡ comment l = rw e refl in
        inl (subst (IsReplaced rs s l ls) (sym whole) (record {
          head = refl;
          quiet = kind_of-comment rs (drop 1 l.text);
          last = other_none rs (35 ∷ drop 1 l.text) (kind_of-comment rs (drop 1 l.text)) (no_spelling-comment (drop 1 l.text));
          rootless = no_root-comment (drop 1 l.text);
          before = out-rootless rs s l.text ls e;
          plain = plain_out rs s l.text ls e;
        }))
    by false e None f =
        let whole : counted_line rs s l ls ≡ l = rw e (λ i. record { text = or_spelling (f i) l.text; is_ended = l.is_ended }) in
        inr (whole, e, f)
    by false e (Some t) f =
        let in_profile = spelling-in rs s l.text t f in
        let is = other_spelling-is rs l.text t in_profile.2 in
        let whole : counted_line rs s l ls ≡ record { text = t; is_ended = l.is_ended } =
        rw e (λ i. record { text = or_spelling (f i) l.text; is_ended = l.is_ended }) in
        inl (subst (IsReplaced rs s l ls) (sym whole) (record { head = is.plain; quiet = is.quiet; last = other_none rs t is.quiet is.last; rootless = is.rootless; before = is.before; plain = in_profile.1 }))

any-counted : (rs : List Path) (p : LineKind → Bool) → p kind.Stays ≡ false → (s : Section) (ls : List (Line (List ℕ))) → list_any p (kinds_below rs (counted_lines rs s ls)) ≡ true → list_any p (kinds_below rs ls) ≡ true
any-counted rs p stays s [] h = h
any-counted rs p stays s (l ∷ ls) h =
    let t = section_at rs s l.text ls in
    let more = any-counted rs p stays t ls in
    ⊎_elim
    (λ (r : IsReplaced rs t l ls (counted_line rs t l ls)). one-quiet rs p stays l (counted_line rs t l ls) ls (counted_lines rs t ls) r.head r.quiet r.plain more h)
    (λ r. one-same rs p l ls (counted_lines rs t ls) more (ap (λ k. list_any p (kinds_below rs (k ∷ counted_lines rs t ls))) (sym r.0) ∙ h))
    (replaced rs t l ls)

-- What the first section says, the other one says too.
record IsLess (s t : Section) : Type 0 where
  profile : s.is_profile ≡ true → t.is_profile ≡ true
  force : s.overrides_force ≡ true → t.overrides_force ≡ true
  ignore : s.lacks_ignorenot ≡ true → t.lacks_ignorenot ≡ true

less-same : (s : Section) → IsLess s s
less-same s = record { profile = λ h. h; force = λ h. h; ignore = λ h. h }

less-at : (rs : List Path) (s t r : Section) (l : List ℕ) (ls : List (Line (List ℕ))) → IsLess s t → IsLess (section_at rs s l (counted_lines rs r ls)) (section_at rs t l ls)
less-at rs s t r l ls w = by (is_heading l) refl (is_profile_heading l) refl
  where
    by : (b : Bool) → is_heading l ≡ b → (c : Bool) → is_profile_heading l ≡ c → IsLess (section_at rs s l (counted_lines rs r ls)) (section_at rs t l ls)
    by false e c f = rw e w
    by true e false f = rw e (rw f (less-same no_profile))
    by true e true f = rw e (rw f (record {
      profile = λ h. h;
      force = any-counted rs overrides_force refl r ls;
      ignore = any-counted rs is_unread_ignorenot refl r ls;
    }))

less-kind : (s t : Section) (k : LineKind) (ks js : List LineKind) → IsLess s t → (list_any sets_force ks ≡ true → list_any sets_force js ≡ true)
    → is_kind_left_out s k ks ≡ true → is_kind_left_out t k js ≡ true
less-kind s t kind.Stays ks js w more h = h
less-kind s t kind.LeftOut ks js w more h = refl
less-kind s t kind.Force ks js w more h = by s.overrides_force refl
  where
    by : (b : Bool) → s.overrides_force ≡ b → t.overrides_force || list_any sets_force js ≡ true
    by true e = or_left t.overrides_force (list_any sets_force js) (w.force e)
    by false e = or_right t.overrides_force (list_any sets_force js) (more (ap (λ b. b || list_any sets_force ks) (sym e) ∙ h))
less-kind s t kind.ForcesNoRoot ks js w more h = refl
less-kind s t kind.OverridesForce ks js w more h = refl
less-kind s t kind.Ignore ks js w more h = w.ignore h
less-kind s t kind.UnreadIgnoreNot ks js w more h = refl
less-kind s t kind.InRoot ks js w more h = h

less-out : (rs : List Path) (s t r : Section) (l : List ℕ) (ls : List (Line (List ℕ))) → IsLess s t → is_left_out rs s l (counted_lines rs r ls) ≡ true → is_left_out rs t l ls ≡ true
less-out rs s t r l ls w h =
    let ks = kinds_below rs (counted_lines rs r ls) in
    let parts = and_parts s.is_profile (not (is_heading l) && is_kind_left_out s (kind_of rs l) ks) h in
    let inner = and_parts (not (is_heading l)) (is_kind_left_out s (kind_of rs l) ks) parts.1 in
    and_from t.is_profile (not (is_heading l) && is_kind_left_out t (kind_of rs l) (kinds_below rs ls)) (w.profile parts.0)
    (and_from (not (is_heading l)) (is_kind_left_out t (kind_of rs l) (kinds_below rs ls)) inner.0
    (less-kind s t (kind_of rs l) ks (kinds_below rs ls) w (any-counted rs sets_force refl r ls) inner.1))

-- A line that stays and has no other spelling stands.
quiet_stands : (rs : List Path) (s : Section) (k : Line (List ℕ)) (below : List (Line (List ℕ))) → kind_of rs k.text ≡ kind.Stays → other_spelling rs k.text ≡ None → counted_line rs s k below ≡ k
quiet_stands rs s k below quiet last = stands rs s k below (or_from (is_left_out rs s k.text below) (is_some (spelling_in rs s k.text)) kept (ap is_some none))
  where
    kept : is_left_out rs s k.text below ≡ false
    kept = ap (λ j. s.is_profile && (not (is_heading k.text) && is_kind_left_out s j (kinds_below rs below))) quiet
        ∙ ap (λ b. s.is_profile && b) (and_none (not (is_heading k.text))) ∙ and_none s.is_profile

    none : spelling_in rs s k.text ≡ None
    none = by (s.is_profile && not (is_heading k.text)) refl
      where
        by : (b : Bool) → s.is_profile && not (is_heading k.text) ≡ b → spelling_in rs s k.text ≡ None
        by true e = rw e last
        by false e = rw e refl

stays_false : (b c : Bool) → (b ≡ true → c ≡ true) → c ≡ false → b ≡ false
stays_false true c f e = absurd (false≢true (sym e ∙ f refl))
stays_false false c f e = refl

spelling_less : (rs : List Path) (s t : Section) (l : List ℕ) → IsLess s t → spelling_in rs t l ≡ None → spelling_in rs s l ≡ None
spelling_less rs s t l w h = by s.is_profile refl
  where
    by : (b : Bool) → s.is_profile ≡ b → spelling_in rs s l ≡ None
    by true e =
        let same : spelling_in rs s l ≡ spelling_in rs t l = λ i. if ((e ∙ sym (w.profile e)) i && not (is_heading l)) then other_spelling rs l else None in
        same ∙ h
    by false e = rw e refl

again : (rs : List Path) (s t : Section) (ls : List (Line (List ℕ))) → IsLess s t → counted_lines rs s (counted_lines rs t ls) ≡ counted_lines rs t ls
again rs s t [] w = refl
again rs s t (l ∷ ls) w = ⊎_elim
    (by_quiet (λ v x. again rs v (section_at rs t l.text ls) ls x))
    (by_same (λ v x. again rs v (section_at rs t l.text ls) ls x))
    (replaced rs (section_at rs t l.text ls) l ls)
  where
    u : Section
    u = section_at rs t l.text ls

    ms : List (Line (List ℕ))
    ms = counted_lines rs (section_at rs t l.text ls) ls

    by_quiet : ((v : Section) → IsLess v u → counted_lines rs v ms ≡ ms) → IsReplaced rs u l ls (counted_line rs u l ls)
        → counted_lines rs s (counted_line rs u l ls ∷ ms) ≡ counted_line rs u l ls ∷ ms
    by_quiet more r =
        let k = counted_line rs u l ls in
        let here : section_at rs s k.text ms ≡ s = rw r.head refl in
        let above : u ≡ t = rw r.plain refl in
        let weak : IsLess s u = subst (λ v. IsLess s v) (sym above) w in
        (λ i. counted_line rs (here i) k ms ∷ counted_lines rs (here i) ms)
        ∙ (λ i. quiet_stands rs s k ms r.quiet r.last i ∷ more s weak i)

    by_same : ((v : Section) → IsLess v u → counted_lines rs v ms ≡ ms) → (counted_line rs u l ls ≡ l) × (is_left_out rs u l.text ls ≡ false) × (spelling_in rs u l.text ≡ None)
        → counted_lines rs s (counted_line rs u l ls ∷ ms) ≡ counted_line rs u l ls ∷ ms
    by_same more r =
        let v = section_at rs s l.text ms in
        let weak : IsLess v u = less-at rs s t u l.text ls w in
        let kept : is_left_out rs v l.text ms ≡ false = stays_false (is_left_out rs v l.text ms) (is_left_out rs u l.text ls) (less-out rs v u u l.text ls weak) r.1 in
        let none : spelling_in rs v l.text ≡ None = spelling_less rs v u l.text weak r.2 in
        let same : counted_line rs v l ms ≡ l = stands rs v l ms (or_from (is_left_out rs v l.text ms) (is_some (spelling_in rs v l.text)) kept (ap is_some none)) in
        (λ i. counted_lines rs s (r.0 i ∷ ms)) ∙ (λ i. same i ∷ more v weak i) ∙ (λ i. sym r.0 i ∷ ms)

-- The roots of what counts are those of the bundle.
roots-line : (rs : List Path) (s : Section) (l : Line (List ℕ)) (ls : List (Line (List ℕ))) → root_on (counted_line rs s l ls).text ≡ root_on l.text
roots-line rs s l ls = ⊎_elim
    (λ (r : IsReplaced rs s l ls (counted_line rs s l ls)). r.rootless ∙ sym r.before)
    (λ r. ap (λ (k : Line (List ℕ)). root_on k.text) r.0)
    (replaced rs s l ls)

roots-lines : (rs : List Path) (s : Section) (ls : List (Line (List ℕ))) → roots_below (counted_lines rs s ls) ≡ roots_below ls
roots-lines rs s [] = refl
roots-lines rs s (l ∷ ls) =
    λ i. in_list (roots-line rs (section_at rs s l.text ls) l ls i) ++ roots-lines rs (section_at rs s l.text ls) ls i

-- Of what counts all counts.
pub counted_bundle-again : (bytes : List ℕ) → counted_bundle (counted_bundle bytes) ≡ counted_bundle bytes
counted_bundle-again bytes =
    let rs = roots_in bytes in
    let counted = counted_lines rs no_profile (lines_of bytes) in
    ap (λ ls. text_of_lines (counted_lines (roots_below ls) no_profile ls)) (lines_of-counted_bundle bytes)
    ∙ ap (λ qs. text_of_lines (counted_lines qs no_profile counted)) (roots-lines rs no_profile (lines_of bytes))
    ∙ ap text_of_lines (again rs no_profile no_profile (lines_of bytes) (less-same no_profile))
