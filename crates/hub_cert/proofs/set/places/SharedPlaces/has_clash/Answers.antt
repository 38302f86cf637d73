use Rattle.std.proofs.Common.{◌≡◌, ◌∙◌, List, Some, refl, sym, ap}
use Rattle.std.specs.Prelude.{slice_get}
use Rattle.std.proofs.lemmas.Option.{slice_get_read}
use Rattle.hub_cert.specs.Goals.{is_goal}
use Rattle.hub_cert.specs.Set.{Members}
use Rattle.hub_cert.specs.declared.goal.Goal.TheVariants.{Clash}
use Rattle.hub_cert.specs.declared.set.places.RootNumbers.{RootNumbers}
use Rattle.hub_cert.proofs.PlaceNumbers.{shared-by}
use Rattle.hub_cert.proofs.set.places.SharedPlaces.has_clash.Goals as goal

pub returns : goal.returns
returns c =
    let ns = c.self.inside.numbers.items in
    let first : slice_get ns c.args.writer ≡ Some c.in-Some.first.now = ap (λ (ms : List RootNumbers). slice_get ms c.args.writer) (sym c.deref.ensures.value) ∙ slice_get_read c.deref.result.now _ c.args.writer c.in-Some.first.now refl c.in-Some.ensures.lookup.3.0 c.in-Some.ensures.lookup.1 in
    let second : slice_get ns c.args.other ≡ Some c.in-Some-get.second.now = ap (λ (ms : List RootNumbers). slice_get ms c.args.other) (sym c.deref-2.ensures.value) ∙ slice_get_read c.deref-2.result.now _ c.args.other c.in-Some-get.second.now refl c.in-Some-get.ensures.lookup.3.0 c.in-Some-get.ensures.lookup.1 in
    c.share_by.ensures
    ∙ (shared-by c.self.inside.set.now ns c.args.writer c.args.other c.in-Some.first.now c.in-Some-get.second.now c.args.place c.self.invariant c.if-writer-other.false first second
    ∙ ap (λ (S : Members). is_goal S (Clash c.args.writer c.args.other c.args.place)) c.self.view_is)
