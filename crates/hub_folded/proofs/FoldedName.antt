-- What a known name folds to, as a name.
use Rattle.std.proofs.Common.{◌≡◌, true, false, List, Option, Some, None, ℕ, sym, ap, ◌∙◌, chars, encode_utf8_all}
use Rattle.std.specs.Prelude.{if◌then◌else◌}
use Rattle.hub_path.specs.Path.{Name, is_name, name_in}
use Rattle.hub_path.specs.laws.NameFacts.{name_chars}
use Rattle.hub_folded.specs.Fold.{fold_name, knows}
use Rattle.hub_folded.specs.Table.{unicode}
use Rattle.hub_folded.proofs.Names.{unicode-name}

-- The text of a name is known where the name is.
pub known-text : (n : Name) (bs : List ℕ) → is_name n ≡ true → bs ≡ encode_utf8_all n
    → knows unicode (chars bs) ≡ knows unicode n
known-text n bs is e = ap (knows unicode) (name_chars n bs e is)

pub unknown-name : (n : Name) (bs : List ℕ) → is_name n ≡ true → bs ≡ encode_utf8_all n
    → knows unicode (chars bs) ≡ false
    → None ≡ (if knows unicode n then Some (fold_name unicode n) else None)
unknown-name n bs is e unknown =
    ap (λ b. if b then Some (fold_name unicode n) else None)
    (sym unknown ∙ known-text n bs is e)

pub folded-name : (n : Name) (bs fs : List ℕ) (o : Option Name) → is_name n ≡ true
    → bs ≡ encode_utf8_all n → fs ≡ encode_utf8_all (fold_name unicode (chars bs))
    → knows unicode (chars bs) ≡ true → o ≡ name_in (chars fs)
    → o ≡ (if knows unicode n then Some (fold_name unicode n) else None)
folded-name n bs fs o is text folded known read =
    read ∙ (ap name_in same ∙ (ap (λ b. if b then Some (fold_name unicode n) else None) named
    ∙ sym (ap (λ b. if b then Some (fold_name unicode n) else None) own)))
  where
    own : knows unicode n ≡ true
    own = sym (known-text n bs is text) ∙ known

    named : is_name (fold_name unicode n) ≡ true
    named = unicode-name n is own

    same : chars fs ≡ fold_name unicode n
    same =
        name_chars (fold_name unicode n) fs (folded ∙ ap (λ m. encode_utf8_all (fold_name unicode m)) (name_chars n bs text is))
        named
