use Rattle.std.proofs.Common.{◌∙◌, List, ℕ, bytes_eq}
use denote.Ref.{Bor}
use Rattle.hub_text.specs.laws.Test.{any-map}
use Rattle.hub_include.proofs.lines.is_open.Goals as goal

pub returns : goal.returns
returns c =
    c.has_name.ensures ∙ any-map (λ (o : List ℕ). bytes_eq o c.args.name.now) (λ (o : Bor (List ℕ)). o.now) c.args.opened.now
