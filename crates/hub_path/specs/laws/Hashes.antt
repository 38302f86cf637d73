-- Names, and paths, that are equal are hashed alike.
use Rattle.std.proofs.Common.{◌≡◌, true, ap}
use Rattle.std.specs.Hash as fed
use Rattle.std.specs.Hash.{items_Alike}
use Rattle.std.specs.Str.{encode_utf8_all}
use Rattle.std.proofs.lemmas.Slice.Eq.{bytes_eq-Decides}
use Rattle.hub_path.specs.Path.{Name, Path, name_eq, path_eq}

pub name_hashed : (n m : Name) → name_eq n m ≡ true
    → fed.str (encode_utf8_all n) ≡ fed.str (encode_utf8_all m)
name_hashed n m h = ap (λ k. fed.str (encode_utf8_all k)) ((bytes_eq-Decides n m).0 h)

pub path_hashed : (p q : Path) → path_eq p q ≡ true
    → fed.slice (λ n. fed.str (encode_utf8_all n)) p
    ≡ fed.slice (λ n. fed.str (encode_utf8_all n)) q
path_hashed = (items_Alike (record { fed = name_hashed })).fed
