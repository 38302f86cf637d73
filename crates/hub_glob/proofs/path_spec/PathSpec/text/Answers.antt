use Rattle.std.proofs.Common.{rules, arith, ◌≡◌, ◌≤◌, chars, string_bytes, encode_utf8_all, Ok, IfOk, length, subst}
use Rattle.std.proofs.lemmas.Grind.{common_steps}
use Rattle.std.proofs.lemmas.Result.{IfOk-weaker}
use Rattle.hub_glob.specs.declared.piece.TheConstants.{PATTERN_CHARACTERS}
use Rattle.hub_glob.specs.Readable.{IsReadable}
use Rattle.hub_glob.specs.Reading.{spec_reading}
use Rattle.hub_glob.specs.Writing.{pattern_text, spec_text}
use Rattle.hub_glob.proofs.Roundtrip.{text_read_back}
use Rattle.hub_glob.proofs.path_spec.PathSpec.text.Goals as goal

pub returns-clause-read_back : goal.returns-clause-read_back
returns-clause-read_back c =
    let s = c.args.self.now in
    let known : IsReadable s = subst IsReadable c.self.view_is c.self.invariant in
    let written : IfOk c.text_of.result (λ t. string_bytes t ≡ encode_utf8_all (spec_text s)) = first_of (search rules, grind (arith, common_steps)) in
    IfOk-weaker c.text_of.result (λ t. string_bytes t ≡ encode_utf8_all (spec_text s))
    (λ t. length (pattern_text s.pattern) ≤ PATTERN_CHARACTERS → spec_reading (chars (string_bytes t)) ≡ Ok s)
    (λ t e. text_read_back s (string_bytes t) known e) written
