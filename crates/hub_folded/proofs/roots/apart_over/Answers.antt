use Rattle.hub_folded.specs.Table.{unicode}
use Rattle.hub_path.specs.laws.General.{is_over-reflexive}
use Rattle.hub_folded.proofs.FirstPlaces.{apart-looked, looks-less, looks-next}
use Rattle.hub_folded.proofs.roots.apart_over.Goals as goal

pub loop-next-init : goal.loop-next-init
loop-next-init c = (is_over-reflexive c.args.folded, λ fits. fits)

pub returns-in-Some-apart_at : goal.returns-in-Some-apart_at
returns-in-Some-apart_at c =
    apart-looked c.loop-next.next c.in-Some.path c.in-Some.is unicode c.args.roots.now c.args.root.now
    c.args.folded c.loop-next.invariant c.in-Some-apart_at.first c.in-Some-apart_at.ensures

pub loop-next-smaller-in_ok-next : goal.loop-next-smaller-in_ok-next
loop-next-smaller-in_ok-next c =
    looks-less c.loop-next.next c.in-Some.path c.in-Some.is c.in_ok-next.next c.in_ok-next.ensures.none
    c.in_ok-next.ensures.parent

pub loop-next-preserved-in_ok-next : goal.loop-next-preserved-in_ok-next
loop-next-preserved-in_ok-next c =
    looks-next c.loop-next.next c.in-Some.path c.in-Some.is unicode c.args.roots.now c.args.root.now
    c.args.folded c.loop-next.invariant c.in_ok-next.next c.in_ok-next.ensures.none
    c.in_ok-next.ensures.parent c.in_default-apart_at.ensures
