use Rattle.std.proofs.Common.{◌∙◌, ◌≡◌, ◌⊎◌, List, ap, inl, inr, refl, sym}
use Rattle.hub_path.specs.declared.fault.PathFault.TheVariants as path
use Rattle.hub_profile.specs.Parts.{Parts}
use Rattle.hub_cli.specs.Words.{reach}
use Rattle.hub_serve.specs.Reached.{first_named}
use Rattle.hub_serve.specs.Told.{HasBadPath}
use Rattle.hub_serve.proofs.Told.{path-told}
use Rattle.hub_serve.proofs.reach.report_on_reach.Goals as goal

pub returns : goal.returns
returns c =
    let profile = c.args.profile.now in
    let found = ap (λ (Ps : List Parts). first_named profile Ps) (sym c.as_slice.ensures) ∙ c.in-Some.ensures in
    let reading = c.args.reading in
    let faulty : (c.in-Err.fault ≡ path.OutOfMemory) ⊎ HasBadPath (reach reading profile c.args.path.now) c.args.contents.now.profiles c.in-Err.fault =
    elim c.in-Err.ensures.err [
      | inl e ↦ inl e
      | inr e ↦ inr (record { reading = reading; profile = profile; path = c.args.path.now; asked = refl; P = c.in-Some.found.now; profile_is = found; fault = e })
    ] in
    record {
      told = path-told (reach reading profile c.args.path.now) c.args.contents.now c.in-Err.fault c.bad_path.result c.bad_path.ensures.memory c.bad_path.ensures.fault faulty;
      read = c.bad_path.ensures.read;
    }
