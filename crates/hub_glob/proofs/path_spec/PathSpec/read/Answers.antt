use Rattle.std.proofs.Common.{◌≡◌, chars, Ok, sym, ap, ◌∙◌}
use Rattle.std.proofs.lemmas.Str.{scalars-chars}
use Rattle.hub_glob.specs.Reading.{kind_reading, pattern_reading}
use Rattle.hub_glob.proofs.Roundtrip.{read_readable}
use Rattle.hub_glob.proofs.path_spec.PathSpec.read.Goals as goal

pub invariant_of-result : goal.invariant_of-result
invariant_of-result c =
    let word = chars c.split_kind.result.0.now in
    let rest = chars c.split_kind.result.1.now in
    let k : kind_reading word ≡ Ok c.in_ok-kind.kind = sym c.in_ok-kind.ensures in
    let p : pattern_reading c.in_ok-kind.kind rest ≡ Ok c.into_vec-pattern.result.items = c.in_ok-read_pattern.ensures.ok ∙ ap Ok (sym c.into_vec-pattern.ensures) in
    read_readable (chars c.args.text.now) word rest c.in_ok-kind.kind c.into_vec-pattern.result.items
    (scalars-chars c.args.text.now c.utf8.text) c.split_kind.ensures.word c.split_kind.ensures.pattern k p
