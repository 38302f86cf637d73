use Rattle.std.proofs.Common.{ℕ, refl, ap, sym, ◌∙◌, subst}
use Rattle.hub_path.specs.Path.{Path}
use Rattle.hub_path.specs.declared.side.Side.TheVariants.{Left, Right}
use Rattle.hub_profile.specs.Parts.{Parts, IsProfile}
use Rattle.hub_job.specs.Run.{root_at}
use Rattle.hub_schedule.specs.declared.slot.Slot.{Slot}
use Rattle.hub_schedule.specs.Table.{IsTreeNumber}
use Rattle.hub_schedule.proofs.EndedJobs.{on_both_sides}
use Rattle.hub_schedule.proofs.Places.{left_is, right_is}
use Rattle.hub_schedule.proofs.ended.slot_of.Goals as goal

pub index_of-left-requires : goal.index_of-left-requires
index_of-left-requires c =
    let root = left_is c.profile.result.now c.roots-roots.ensures.valid c.roots-roots.result.now c.roots-roots.ensures.value c.index-roots-0.result ∙ ap (λ (Q : Parts). root_at Q Left) c.profile.ensures in
    subst (λ (r : Path). (n : ℕ) × IsTreeNumber c.args.trees.now r n) (sym root) (c.requires Left)

pub index_of-right-requires : goal.index_of-right-requires
index_of-right-requires c =
    let root = right_is c.profile.result.now c.roots-roots.ensures.valid c.roots-roots.result.now c.roots-roots.ensures.value c.index-roots-1.result ∙ ap (λ (Q : Parts). root_at Q Right) c.profile.ensures in
    subst (λ (r : Path). (n : ℕ) × IsTreeNumber c.args.trees.now r n) (sym root) (c.requires Right)

pub returns : goal.returns
returns c =
    let P = c.profile.result.now in
    let rs = c.roots-roots.result.now in
    let facts = c.roots-roots.ensures.valid in
    let is = c.roots-roots.ensures.value in
    let s : Slot = record { job = c.args.job; left = c.index_of-left.result; right = c.index_of-right.result } in
    let left = left_is P facts rs is c.index-roots-0.result ∙ ap (λ (Q : Parts). root_at Q Left) c.profile.ensures in
    let right = right_is P facts rs is c.index-roots-1.result ∙ ap (λ (Q : Parts). root_at Q Right) c.profile.ensures in
    record {
      valid = subst IsProfile c.profile.ensures facts;
      job = refl;
      places = on_both_sides c.args.trees.now c.args.job.profile s
          (subst (λ r. IsTreeNumber c.args.trees.now r c.index_of-left.result) left c.index_of-left.ensures)
          (subst (λ r. IsTreeNumber c.args.trees.now r c.index_of-right.result) right c.index_of-right.ensures);
    }
