-- A stack: its end is the front of an ascending list.
use Rattle.std.proofs.Common.{◌≡◌, ◌<◌, ◌≤◌, ◌+◌, ◌-◌, ℕ, List, [], ◌∷◌, ◌++◌, length, take, drop, get_or, refl, ap, sym, ◌∙◌, arith}
use Rattle.std.specs.Prelude.{reverse}
use Rattle.std.specs.BTreeSet.{insert_key}
use Rattle.std.specs.Ordering.{match_ordering}
use Rattle.std.specs.declared.cmp.Ordering.TheVariants.{Less, Equal, Greater}
use Rattle.std.proofs.lemmas.List.{reverse-append, take-append-drop, take_more}
use Rattle.hub_path.specs.Path.{Name, Path, path_cmp, children_named}
use Rattle.hub_path.specs.laws.General.{path_cmp-total, path_cmp-exact}
use Rattle.hub_job.specs.forms.Waiting.{put_all}
use Rattle.hub_job.proofs.Waits.{put_all-append, turned, turned_back}

reverse-push : (xs : List Path) (x : Path) → reverse (xs ++ x ∷ []) ≡ x ∷ reverse xs
reverse-push xs x = reverse-append xs (x ∷ [])

-- A path that is put in.
skips : (x p : Path) (xs : List Path) → path_cmp p x ≡ Greater → insert_key path_cmp (x ∷ xs) p ≡ x ∷ insert_key path_cmp xs p
skips x p xs h = ap (λ o. match_ordering o (p ∷ x ∷ xs) (x ∷ xs) (x ∷ insert_key path_cmp xs p)) h

goes_first : (x p : Path) (xs : List Path) → path_cmp p x ≡ Less → insert_key path_cmp (x ∷ xs) p ≡ p ∷ x ∷ xs
goes_first x p xs h = ap (λ o. match_ordering o (p ∷ x ∷ xs) (x ∷ xs) (x ∷ insert_key path_cmp xs p)) h

is_first : (x p : Path) (xs : List Path) → path_cmp p x ≡ Equal → insert_key path_cmp (x ∷ xs) p ≡ x ∷ xs
is_first x p xs h = ap (λ o. match_ordering o (p ∷ x ∷ xs) (x ∷ xs) (x ∷ insert_key path_cmp xs p)) h

-- The place of a path is among the first k, from the front of the stack.
abbrev pub IsAmong : List Path → ℕ → Path → Type 0
IsAmong xs k p = insert_key path_cmp (reverse xs) p ≡ reverse (drop k xs) ++ insert_key path_cmp (reverse (take k xs)) p

last_taken : (xs : List Path) (k : ℕ) (x : Path) → k < length xs → x ≡ get_or xs k x → reverse (take (k + 1) xs) ≡ x ∷ reverse (take k xs)
last_taken xs k x h is = ap reverse (take_more xs k x h ∙ ap (λ y. take k xs ++ y ∷ []) (sym is)) ∙ reverse-push (take k xs) x

pub there_at : (xs : List Path) (at : ℕ) (x p : Path) → 0 < at → at ≤ length xs → x ≡ get_or xs (at - 1) x → path_cmp p x ≡ Equal → IsAmong xs at p
    → insert_key path_cmp (reverse xs) p ≡ reverse xs
there_at xs at x p some within is equal among =
    let k = at - 1 in
    let one : at ≡ k + 1 = omega arith in
    let last : reverse (take at xs) ≡ x ∷ reverse (take k xs) = ap (λ n. reverse (take n xs)) one ∙ last_taken xs k x (omega arith) is in
    among
    ∙ (ap (λ ys. reverse (drop at xs) ++ insert_key path_cmp ys p) last
    ∙ (ap (λ ys. reverse (drop at xs) ++ ys) (is_first x p (reverse (take k xs)) equal ∙ sym last)
    ∙ (sym (reverse-append (take at xs) (drop at xs)) ∙ ap reverse (take-append-drop at xs))))

-- Paths may be put in in any order.
insert_less : (a b : Path) (xs : List Path) → path_cmp a b ≡ Less → insert_key path_cmp (insert_key path_cmp xs a) b ≡ insert_key path_cmp (insert_key path_cmp xs b) a
insert_less a b [] h = skips a b [] (turned a b h) ∙ sym (goes_first b a [] h)
insert_less a b (x ∷ xs) h =
    elim (path_cmp a x) as (λ o. path_cmp a x ≡ o → insert_key path_cmp (insert_key path_cmp (x ∷ xs) a) b ≡ insert_key path_cmp (insert_key path_cmp (x ∷ xs) b) a) [
      | Less ↦ λ g.
          ap (λ ys. insert_key path_cmp ys b) (goes_first x a xs g)
          ∙ (skips a b (x ∷ xs) (turned a b h)
          ∙ elim (path_cmp b x) as (λ o. a ∷ match_ordering o (b ∷ x ∷ xs) (x ∷ xs) (x ∷ insert_key path_cmp xs b) ≡ insert_key path_cmp (match_ordering o (b ∷ x ∷ xs) (x ∷ xs) (x ∷ insert_key path_cmp xs b)) a) [
            | Less ↦ sym (goes_first b a (x ∷ xs) h)
            | Equal ↦ sym (goes_first x a xs g)
            | Greater ↦ sym (goes_first x a (insert_key path_cmp xs b) g)
          ])
      | Equal ↦ λ g.
          let later : path_cmp b x ≡ Greater = ap (λ y. path_cmp b y) (sym (path_cmp-exact a x g)) ∙ turned a b h in
          ap (λ ys. insert_key path_cmp ys b) (is_first x a xs g)
          ∙ (skips x b xs later
          ∙ (sym (is_first x a (insert_key path_cmp xs b) g) ∙ ap (λ ys. insert_key path_cmp ys a) (sym (skips x b xs later))))
      | Greater ↦ λ g.
          let later : path_cmp b x ≡ Greater = turned x b (path_cmp-total.trans x a b (turned_back a x g) h) in
          ap (λ ys. insert_key path_cmp ys b) (skips x a xs g)
          ∙ (skips x b (insert_key path_cmp xs a) later
          ∙ (ap (λ ys. x ∷ ys) (insert_less a b xs h)
          ∙ (sym (skips x a (insert_key path_cmp xs b) g) ∙ ap (λ ys. insert_key path_cmp ys a) (sym (skips x b xs later)))))
    ] refl

insert-insert : (a b : Path) (xs : List Path) → insert_key path_cmp (insert_key path_cmp xs a) b ≡ insert_key path_cmp (insert_key path_cmp xs b) a
insert-insert a b xs =
    elim (path_cmp a b) as (λ o. path_cmp a b ≡ o → insert_key path_cmp (insert_key path_cmp xs a) b ≡ insert_key path_cmp (insert_key path_cmp xs b) a) [
      | Less ↦ λ h. insert_less a b xs h
      | Equal ↦ λ h. let same = path_cmp-exact a b h in λ i. insert_key path_cmp (insert_key path_cmp xs (same i)) (sym same i)
      | Greater ↦ λ h. sym (insert_less b a xs (turned_back a b h))
    ] refl

put_all-insert : (ps qs : List Path) (p : Path) → put_all (insert_key path_cmp qs p) ps ≡ insert_key path_cmp (put_all qs ps) p
put_all-insert [] qs p = refl
put_all-insert (q ∷ ps) qs p = ap (λ ys. put_all ys ps) (insert-insert p q qs) ∙ put_all-insert ps (insert_key path_cmp qs q) p

listed-push : (d : Path) (ns : List Name) (n : Name) → children_named d (ns ++ n ∷ []) ≡ children_named d ns ++ (d ++ n ∷ []) ∷ []
listed-push d [] n = refl
listed-push d (m ∷ ns) n = ap (λ ps. (d ++ m ∷ []) ∷ ps) (listed-push d ns n)

-- The last of some children is put in first.
pub last_child : (qs : List Path) (d : Path) (ns : List Name) (k : ℕ) (n : Name) → k < length ns → n ≡ get_or ns k n
    → put_all (insert_key path_cmp qs (d ++ n ∷ [])) (children_named d (take k ns)) ≡ put_all qs (children_named d (take (k + 1) ns))
last_child qs d ns k n h is =
    put_all-insert (children_named d (take k ns)) qs (d ++ n ∷ [])
    ∙ (sym (put_all-append (children_named d (take k ns)) ((d ++ n ∷ []) ∷ []) qs)
    ∙ ap (λ ps. put_all qs ps) (sym (listed-push d (take k ns) n) ∙ ap (children_named d) (sym (take_more ns k n h ∙ ap (λ m. take k ns ++ m ∷ []) (sym is)))))
