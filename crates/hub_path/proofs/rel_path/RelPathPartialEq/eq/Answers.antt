use Rattle.std.proofs.Common.{ap, ◌∙◌, encode_utf8_all}
use Rattle.std.specs.Str.{bytes_eq}
use Rattle.hub_path.specs.Path.{text_of}
use Rattle.hub_path.proofs.PathTexts.{texts-eq}
use Rattle.hub_path.proofs.rel_path.RelPathPartialEq.eq.Goals as goal

pub returns : goal.returns
returns c =
    c.eq.ensures
    ∙ (ap (λ t. bytes_eq t c.as_str-2.result.now) c.as_str.ensures.text
    ∙ (ap (bytes_eq (encode_utf8_all (text_of c.args.self.now))) c.as_str-2.ensures.text
    ∙ texts-eq c.args.self.now c.args.other.now c.as_str.ensures.valid c.as_str-2.ensures.valid))
