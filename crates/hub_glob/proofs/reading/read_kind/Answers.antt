use Rattle.std.proofs.Common.{◌≡◌, Ok, Err, ◌∙◌, rules}
use Rattle.hub_glob.specs.declared.path_spec.Kind.TheVariants as kind
use Rattle.hub_glob.specs.declared.fault.GlobFault.TheVariants as fault
use Rattle.hub_glob.specs.Reading as reading
use Rattle.hub_glob.proofs.Readings.{kind_word}
use Rattle.hub_glob.proofs.reading.read_kind.Goals as goal

pub returns-then-eq : goal.returns-then-eq
returns-then-eq c = let h : Ok kind.Name ≡ reading.kind_reading c.args.word.now = search rules in h ∙ kind_word c.args.word.now c.utf8.word

pub returns-then-eq-2 : goal.returns-then-eq-2
returns-then-eq-2 c = let h : Ok kind.Path ≡ reading.kind_reading c.args.word.now = search rules in h ∙ kind_word c.args.word.now c.utf8.word

pub returns-then-eq-3 : goal.returns-then-eq-3
returns-then-eq-3 c = let h : Ok kind.BelowPath ≡ reading.kind_reading c.args.word.now = search rules in h ∙ kind_word c.args.word.now c.utf8.word

pub returns-then-eq-4 : goal.returns-then-eq-4
returns-then-eq-4 c = let h : Err fault.RegexLeftOut ≡ reading.kind_reading c.args.word.now = search rules in h ∙ kind_word c.args.word.now c.utf8.word

pub returns-else-eq-4 : goal.returns-else-eq-4
returns-else-eq-4 c = let h : Err fault.NoKind ≡ reading.kind_reading c.args.word.now = search rules in h ∙ kind_word c.args.word.now c.utf8.word
