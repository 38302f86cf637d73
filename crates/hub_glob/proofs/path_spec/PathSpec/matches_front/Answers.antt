use Rattle.std.proofs.Common.{sym, ap, ◌∙◌}
use Rattle.hub_glob.specs.Specification.{Specification}
use Rattle.hub_glob.specs.declared.path_spec.Kind.TheVariants as kind
use Rattle.hub_glob.proofs.Paths.{matches_none, matches_kind}
use Rattle.hub_glob.proofs.path_spec.PathSpec.matches_front.Goals as goal

pub returns-then-len-eq0 : goal.returns-then-len-eq0
returns-then-len-eq0 c = matches_none c.args.self.now c.args.path.now c.args.len c.if-len-eq0.true

pub returns-in-Name : goal.returns-in-Name
returns-in-Name c =
    matches_kind c.args.self.now kind.Name c.self.inside.pattern.items c.as_slice-parts.result.now c.args.path.now c.args.len c.matches_name.result
    (ap (λ k. let v : Specification = record { kind = k; pattern = c.self.inside.pattern.items } in v) (sym c.in-Name.is) ∙ c.self.view_is)
    c.as_slice-parts.ensures.value c.if-len-eq0.false c.requires c.matches_name.ensures

pub returns-in-Path : goal.returns-in-Path
returns-in-Path c =
    matches_kind c.args.self.now kind.Path c.self.inside.pattern.items c.as_slice-parts.result.now c.args.path.now c.args.len c.matches_text.result
    (ap (λ k. let v : Specification = record { kind = k; pattern = c.self.inside.pattern.items } in v) (sym c.in-Path.is) ∙ c.self.view_is)
    c.as_slice-parts.ensures.value c.if-len-eq0.false c.requires c.matches_text.ensures

pub returns-in-BelowPath : goal.returns-in-BelowPath
returns-in-BelowPath c =
    matches_kind c.args.self.now kind.BelowPath c.self.inside.pattern.items c.as_slice-parts.result.now c.args.path.now c.args.len c.matches_above.result
    (ap (λ k. let v : Specification = record { kind = k; pattern = c.self.inside.pattern.items } in v) (sym c.in-BelowPath.is) ∙ c.self.view_is)
    c.as_slice-parts.ensures.value c.if-len-eq0.false c.requires c.matches_above.ensures
