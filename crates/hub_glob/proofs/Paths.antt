-- The texts of the front of a path, as they are read name by name, each name with a `/` behind it.
use Rattle.std.proofs.Common.{◌≡◌, ℕ, suc, zero, ◌+◌, ◌<◌, ◌≤◌, Bool, true, false, ◌||◌, List, [], ◌∷◌, ◌++◌, length, take, drop, Some, refl, sym, ap, ◌∙◌, arith, add-one, append_assoc}
use Rattle.std.specs.Prelude.{slice_get, IsTrue, not, ◌&&◌, ◌==◌, chars, encode_utf8_all}
use Rattle.std.specs.List.{list_any}
use Rattle.hub_path.specs.Path.{Name, Path, text_of, last_name, prefixes, is_name}
use Rattle.hub_path.specs.laws.General.{last_name-push}
use Rattle.hub_path.specs.laws.Text.{prefixes-push, any-prefixes}
use Rattle.hub_glob.specs.declared.piece.Part.{Part}
use Rattle.std.proofs.lemmas.List.{take-take, take-append-drop, length-take}
use Rattle.std.proofs.lemmas.Bool.Decides.{nat_tests}
use Rattle.hub_glob.specs.declared.path_spec.Kind.{Kind}
use Rattle.hub_glob.specs.Specification.{Specification}
use Rattle.hub_glob.specs.Glob.{glob, matches, by_kind}
use Rattle.hub_glob.specs.Sweep.{Standing, at_start, pushed, pushed_all, is_matched_so_far}
use Rattle.hub_text.specs.laws.Test.{any-append}
use Rattle.std.proofs.Math.Bool.{or-false}
use Rattle.hub_path.specs.laws.NameFacts.{name_chars}
use Rattle.hub_glob.proofs.Sweeps.{is_matched_text}

abbrev pub slashed : Path → List ℕ
slashed [] = []
slashed (n ∷ p) = n ++ 47 ∷ slashed p

slashed-push : (p : Path) (n : Name) → slashed (p ++ n ∷ []) ≡ slashed p ++ (n ++ 47 ∷ [])
slashed-push [] n = refl
slashed-push (m ∷ p) n = ap (λ t. m ++ 47 ∷ t) (slashed-push p n) ∙ sym (append_assoc m (47 ∷ slashed p) (n ++ 47 ∷ []))

text_of-push : (p : Path) (n : Name) → text_of (p ++ n ∷ []) ≡ slashed p ++ n
text_of-push [] n = refl
text_of-push (m ∷ []) n = sym (append_assoc m (47 ∷ []) n)
text_of-push (m ∷ k ∷ p) n = ap (λ t. m ++ 47 ∷ t) (text_of-push (k ∷ p) n) ∙ sym (append_assoc m (47 ∷ slashed (k ∷ p)) n)

take-suc : (p : Path) (i : ℕ) (n : Name) → slice_get p i ≡ Some n → take (suc i) p ≡ take i p ++ n ∷ []
take-suc [] i n h = cc
take-suc (m ∷ p) zero n h = let e : m ≡ n = cc in ap (λ k. k ∷ []) e
take-suc (m ∷ p) (suc i) n h = ap (λ q. m ∷ q) (take-suc p i n h)

pub take-one : (p : Path) (i : ℕ) (n : Name) → slice_get p i ≡ Some n → take (i + 1) p ≡ take i p ++ n ∷ []
take-one p i n h = ap (λ k. take k p) (add-one i) ∙ take-suc p i n h

pub pushed_all-append : (ps : List Part) (w : Standing) (t u : List ℕ) → pushed_all ps w (t ++ u) ≡ pushed_all ps (pushed_all ps w t) u
pushed_all-append ps w [] u = refl
pushed_all-append ps w (c ∷ t) u = pushed_all-append ps (pushed ps w c) t u

pub pushed_all-push : (ps : List Part) (w : Standing) (t : List ℕ) (c : ℕ) → pushed_all ps w (t ++ c ∷ []) ≡ pushed ps (pushed_all ps w t) c
pushed_all-push ps w t c = pushed_all-append ps w t (c ∷ [])

pub push_more : (ps : List Part) (start w v : Standing) (t : List ℕ) (c : ℕ) → v ≡ pushed ps w c → w ≡ pushed_all ps start t
    → v ≡ pushed_all ps start (t ++ c ∷ [])
push_more ps start w v t c h e = h ∙ ap (λ u. pushed ps u c) e ∙ sym (pushed_all-push ps start t c)

pub push_matched : (ps : List Part) (start w : Standing) (t : List ℕ) (c : ℕ) (b : Bool) → b ≡ is_matched_so_far ps w c → w ≡ pushed_all ps start t
    → b ≡ is_matched_so_far ps (pushed_all ps start t) c
push_matched ps start w t c b h e = h ∙ ap (λ u. is_matched_so_far ps u c) e

-- One more name: the text up to it, and what has been read behind it.
pub read_name : (ps : List Part) (w : Standing) (p : Path) (i : ℕ) (n : Name) → slice_get p i ≡ Some n
    → w ≡ pushed_all ps at_start (slashed (take i p))
    → pushed_all ps w (n ++ 47 ∷ []) ≡ pushed_all ps at_start (slashed (take (i + 1) p))
read_name ps w p i n h e =
    ap (λ v. pushed_all ps v (n ++ 47 ∷ [])) e ∙ sym (pushed_all-append ps at_start (slashed (take i p)) (n ++ 47 ∷ []))
    ∙ ap (pushed_all ps at_start) (sym (slashed-push (take i p) n)) ∙ ap (λ q. pushed_all ps at_start (slashed q)) (sym (take-one p i n h))

pub matched_text : (ps : List Part) (w : Standing) (p : Path) (i : ℕ) (n : Name) → slice_get p i ≡ Some n
    → w ≡ pushed_all ps at_start (slashed (take i p))
    → is_matched_so_far ps (pushed_all ps w n) 47 ≡ glob ps true (text_of (take (i + 1) p))
matched_text ps w p i n h e =
    ap (λ v. is_matched_so_far ps (pushed_all ps v n) 47) e ∙ ap (λ v. is_matched_so_far ps v 47) (sym (pushed_all-append ps at_start (slashed (take i p)) n))
    ∙ is_matched_text ps (slashed (take i p) ++ n) 47
    ∙ ap (glob ps true) (sym (text_of-push (take i p) n)) ∙ ap (λ q. glob ps true (text_of q)) (sym (take-one p i n h))

pub matched_name : (ps : List Part) (p : Path) (i : ℕ) (n : Name) → slice_get p i ≡ Some n
    → is_matched_so_far ps (pushed_all ps at_start n) 47 ≡ glob ps true (last_name (take (i + 1) p))
matched_name ps p i n h =
    is_matched_text ps n 47 ∙ ap (glob ps true) (sym (last_name-push (take i p) n)) ∙ ap (λ q. glob ps true (last_name q)) (sym (take-one p i n h))

abbrev pub any_above : List Part → Path → Bool
any_above ps p = list_any (λ q. glob ps true (text_of q)) (prefixes p)

pub above_more : (ps : List Part) (p : Path) (i : ℕ) (n : Name) → slice_get p i ≡ Some n
    → any_above ps (take (i + 1) p) ≡ (any_above ps (take i p) || glob ps true (text_of (take (i + 1) p)))
above_more ps p i n h =
    ap (any_above ps) (take-one p i n h) ∙ ap (list_any (λ q. glob ps true (text_of q))) (prefixes-push (take i p) n)
    ∙ sym (any-append (λ q. glob ps true (text_of q)) (prefixes (take i p)) ((take i p ++ n ∷ []) ∷ []))
    ∙ (λ j. any_above ps (take i p) || or-false (glob ps true (text_of (take i p ++ n ∷ []))) j)
    ∙ ap (λ q. any_above ps (take i p) || glob ps true (text_of q)) (sym (take-one p i n h))

-- The same, by the text of the name.
pub next_name : (ps : List Part) (w v : Standing) (p : Path) (i : ℕ) (n t : List ℕ) → slice_get p i ≡ Some n → t ≡ encode_utf8_all n → IsTrue (is_name n)
    → w ≡ pushed_all ps at_start (slashed (take i p)) → v ≡ pushed_all ps w (chars t ++ 47 ∷ [])
    → v ≡ pushed_all ps at_start (slashed (take (i + 1) p))
next_name ps w v p i n t h e valid start read =
    read ∙ ap (λ m. pushed_all ps w (m ++ 47 ∷ [])) (name_chars n t e valid) ∙ read_name ps w p i n h start

pub next_matched : (ps : List Part) (w : Standing) (p : Path) (i : ℕ) (n t : List ℕ) (b : Bool) → slice_get p i ≡ Some n → t ≡ encode_utf8_all n → IsTrue (is_name n)
    → w ≡ pushed_all ps at_start (slashed (take i p)) → b ≡ is_matched_so_far ps (pushed_all ps w (chars t)) 47
    → b ≡ glob ps true (text_of (take (i + 1) p))
next_matched ps w p i n t b h e valid start matched =
    matched ∙ ap (λ m. is_matched_so_far ps (pushed_all ps w m) 47) (name_chars n t e valid) ∙ matched_text ps w p i n h start

pub last_matched : (ps : List Part) (w : Standing) (p : Path) (i len : ℕ) (n t : List ℕ) (b : Bool) → slice_get p i ≡ Some n → t ≡ encode_utf8_all n → IsTrue (is_name n)
    → w ≡ at_start → i + 1 ≡ len → b ≡ is_matched_so_far ps (pushed_all ps w (chars t)) 47
    → b ≡ glob ps true (last_name (take len p))
last_matched ps w p i len n t b h e valid start last matched =
    matched ∙ (λ j. is_matched_so_far ps (pushed_all ps (start j) (name_chars n t e valid j)) 47) ∙ matched_name ps p i n h ∙ ap (λ k. glob ps true (last_name (take k p))) last

pub above_after : (ps : List Part) (p : Path) (i : ℕ) (n : Name) (b : Bool) → slice_get p i ≡ Some n → any_above ps (take i p) ≡ false
    → b ≡ glob ps true (text_of (take (i + 1) p)) → any_above ps (take (i + 1) p) ≡ b
above_after ps p i n b h none matched =
    above_more ps p i n h ∙ ap (λ a. a || glob ps true (text_of (take (i + 1) p))) none ∙ sym matched

pub above_within : (ps : List Part) (p : Path) (k len : ℕ) → k ≤ len → any_above ps (take k p) ≡ true → any_above ps (take len p) ≡ true
above_within ps p k len l h =
    let whole : take k p ++ drop k (take len p) ≡ take len p =
    ap (λ q. q ++ drop k (take len p)) (sym (take-take k len p l)) ∙ take-append-drop k (take len p) in
    ap (any_above ps) (sym whole) ∙ any-prefixes (λ q. glob ps true (text_of q)) (take k p) (drop k (take len p)) h

-- The front of a path, by kinds.
pub matches_none : (s : Specification) (p : Path) (n : ℕ) → n ≡ 0 → false ≡ matches s (take n p)
unfolding matches
matches_none s p n e = ap (λ k. matches s (take k p)) (sym e)

pub matches_kind : (s : Specification) (k : Kind) (ps qs : List Part) (p : Path) (n : ℕ) (b : Bool)
    → (let v : Specification = record { kind = k; pattern = ps } in v) ≡ s → qs ≡ ps → (n ≡ 0 → ⊥) → n ≤ length p
    → b ≡ by_kind k qs (take n p) → b ≡ matches s (take n p)
unfolding matches
matches_kind s k ps qs p n b view same some within h =
    let some_names : (length (take n p) == 0) ≡ false = some_left (length (take n p)) (omega (arith, length-take n p)) in
    h ∙ ap (λ rs. by_kind k rs (take n p)) same ∙ (λ i. not (sym some_names i) && by_kind k ps (take n p)) ∙ ap (λ v. matches v (take n p)) view
  where
    some_left : (m : ℕ) → 0 < m → (m == 0) ≡ false
    some_left m l = grind (arith, nat_tests)
