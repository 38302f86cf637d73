use Rattle.std.proofs.Common.{◌≡◌, sym, subst}
use Rattle.hub_cert.specs.Set.{AreApart, HasValidProfiles, Members}
use Rattle.hub_search.specs.Faults.{AreFaults}
use Rattle.hub_apart.specs.ApartLines.{set_of}
use Rattle.hub_apart.proofs.nested.found_in.Goals as goal

pub returns-clause-found : goal.returns-clause-found
returns-clause-found c =
    let is : c.in_ok-set.set ≡ set_of c.args.profiles c.args.rules = c.in_ok-set.ensures.ok in
    record {
      valid = subst HasValidProfiles is c.profiles.ensures.valid;
      apart = subst AreApart is c.profiles.ensures.apart;
      faults = subst (AreFaults (set_of c.args.profiles c.args.rules)) (sym c.into_vec.ensures)
          (subst (λ (S : Members). AreFaults S c.in_ok-found.found) is c.in_ok-found.ensures);
    }
