use Rattle.std.proofs.Common.{◌≡◌, ◌∙◌, ◌<◌, ◌≤◌, ◌^◌, ◌+◌, arith, ℕ, List, sym, ap, inl, inr, ⊎_elim, length, chars}
use Rattle.std.proofs.lemmas.List.{length_push}
use Rattle.std.proofs.lemmas.Str.{encodes-chars, length-le-encodes}
use Rattle.std.proofs.lemmas.Iterator.Consumers.{YieldsList-turn, YieldsList-end}
use Rattle.std.specs.List.{enumerate_from}
use Rattle.std.specs.declared.iter.Enumerate.{Enumerate}
use Rattle.std.specs.Iterator.Adapters.{enumerate_source, enumerate_count, enumerate_steps}
use Rattle.std.proofs.lemmas.Iterator.{YieldsList}
use Rattle.hub_text.specs.declared.line.Line.{Line}
use Rattle.hub_text.specs.Lines.{lines_of}
use Rattle.hub_text.specs.Takes.{Takes, of_text}
use Rattle.hub_text.specs.laws.Takes.{yields-numbered_lines, numbered_turn, numbered_end}
use Rattle.hub_profile.proofs.Runs.{taken, at_fault, all_taken}
use Rattle.hub_profile.proofs.line_by_line.read_lines.Goals as goal

-- The lines that the loop goes over.
numbered : {s r : Enumerate (List ℕ)} {t : List ℕ} (cs : List ℕ) → s ≡ r → enumerate_source r ≡ t → t ≡ cs → enumerate_count r ≡ 0
    → YieldsList {B = ℕ × Line (List ℕ)} (enumerate_steps (Takes of_text)) (λ p. (p.0, of_text p.1)) s (enumerate_from 0 (lines_of cs))
numbered cs same source whole none = yields-numbered_lines of_text cs (ap enumerate_source same ∙ source ∙ whole) (ap enumerate_count same ∙ none)

pub returns-in-Err-clause-err : goal.returns-in-Err-clause-err
returns-in-Err-clause-err g c =
    let cs = chars c.args.text.now in
    let road = numbered cs c.into_iter-i-iterator.ensures.into_iter_gives c.enumerate-i-items.ensures.source c.new.ensures c.enumerate-i-items.ensures.count in
    let turn = YieldsList-turn road c.loop-i.yielded _ c.loop-i.yielded_by c.next.result c.next.new.self (c.in-Some.i, c.in-Some.line) c.in-Some.is c.next.ensures.steps in
    let at = numbered_turn (lines_of cs) (length c.loop-i.yielded) c.in-Some.i (of_text c.in-Some.line) turn in
    ⊎_elim (λ memory. inl memory)
    (λ bad. inr (at_fault g.D.FromLines.table c.args.nothing c.loop-i.said cs (length c.loop-i.yielded) c.in-Some.i (of_text c.in-Some.line) c.in-Err.fault c.loop-i.invariant at.0 at.1 at.2 bad)) c.in-Err.ensures.err

pub loop-i-preserved : goal.loop-i-preserved
loop-i-preserved g c =
    let cs = chars c.args.text.now in
    let road = numbered cs c.into_iter-i-iterator.ensures.into_iter_gives c.enumerate-i-items.ensures.source c.new.ensures c.enumerate-i-items.ensures.count in
    let turn = YieldsList-turn road c.loop-i.yielded _ c.loop-i.yielded_by c.next.result c.next.new.self (c.in-Some.i, c.in-Some.line) c.in-Some.is c.next.ensures.steps in
    let at = numbered_turn (lines_of cs) (length c.loop-i.yielded) c.in-Some.i (of_text c.in-Some.line) turn in
    rw (length_push c.loop-i.yielded (c.in-Some.i, c.in-Some.line))
    (taken g.D.FromLines.table c.args.nothing c.loop-i.said c.take_line.new.said cs (length c.loop-i.yielded) c.in-Some.i (of_text c.in-Some.line) c.loop-i.invariant at.0 at.1 at.2 c.in_default.ensures.ok)

pub returns-clause-ok : goal.returns-clause-ok
returns-clause-ok g c =
    let cs = chars c.args.text.now in
    let road = numbered cs c.into_iter-i-iterator.ensures.into_iter_gives c.enumerate-i-items.ensures.source c.new.ensures c.enumerate-i-items.ensures.count in
    let end = YieldsList-end road c.loop-i.yielded _ c.loop-i.yielded_by c.next.result c.next.new.self c.in-None.is c.next.ensures.steps in
    sym (all_taken g.D.FromLines.table c.args.nothing cs (length c.loop-i.yielded) (numbered_end (lines_of cs) (length c.loop-i.yielded) end.1)) ∙ c.loop-i.invariant

pub loop-i-init-derived : goal.loop-i-init-derived
loop-i-init-derived g c =
    let bytes = c.args.text.now in
    let few : length (chars bytes) ≤ length bytes = omega (arith, length-le-encodes (chars bytes), ap length (encodes-chars bytes c.utf8.text)) in
    let none : c.into_iter-i-iterator.result.count ≡ 0 = ap enumerate_count c.into_iter-i-iterator.ensures.into_iter_gives ∙ c.enumerate-i-items.ensures.count in
    let source : List ℕ = c.into_iter-i-iterator.result.iter in
    let whole : source ≡ chars bytes = ap enumerate_source c.into_iter-i-iterator.ensures.into_iter_gives ∙ c.enumerate-i-items.ensures.source ∙ c.new.ensures in
    let fits : c.into_iter-i-iterator.result.count + length source < 2 ^ 64 = omega (arith, few, ap length whole, none) in
    ((tt, tt, inl fits), tt)
