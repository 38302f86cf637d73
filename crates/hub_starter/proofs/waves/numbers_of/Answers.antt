use Rattle.std.proofs.Common.{◌∙◌, ◌+◌, List, ℕ, ap, length, subst, sym}
use Rattle.hub_starter.specs.Waves.{AreLow, IsNextWave, RiseBy}
use Rattle.hub_starter.proofs.Rising.{length_more, low_more, none_low, none_rise, rise_more}
use Rattle.hub_starter.proofs.waves.numbers_of.Goals as goal

pub loop-init : goal.loop-init
loop-init c =
    let Ps = c.args.profiles.now in
    let pairs = c.args.pairs.now in
    let none = c.new-numbers.ensures.items in
    record {
      count = ap length none;
      rise = subst (λ (ns : List ℕ). RiseBy Ps pairs ns) (sym none) (none_rise Ps pairs);
      low = subst (λ (ns : List ℕ). AreLow ns) (sym none) none_low;
    }

pub next_wave-next-requires : goal.next_wave-next-requires
next_wave-next-requires c = record {
  low = subst (λ (ns : List ℕ). AreLow ns) (sym c.as_slice.ensures.value) c.loop.invariant.low;
}

pub loop-preserved : goal.loop-preserved
loop-preserved c =
    let Ps = c.args.profiles.now in
    let pairs = c.args.pairs.now in
    let ns = c.loop.numbers.items in
    let x = c.next_wave-next.result in
    let are = c.loop.invariant in
    let pushed = c.in_ok-push.ensures.items in
    let next : IsNextWave Ps pairs ns x =
    subst (λ (xs : List ℕ). IsNextWave Ps pairs xs x) c.as_slice.ensures.value c.next_wave-next.ensures in
    record {
      count = ap length pushed ∙ (length_more ns x ∙ ap (λ n. n + 1) are.count);
      rise = subst (λ (xs : List ℕ). RiseBy Ps pairs xs) (sym pushed) (rise_more Ps pairs ns x are.rise next);
      low = subst (λ (xs : List ℕ). AreLow xs) (sym pushed) (low_more Ps pairs ns x are.low next);
    }
