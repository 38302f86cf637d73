use Rattle.std.proofs.Common.{◌≡◌, List, [], ◌∷◌, ◌++◌, sym, ap, ◌∙◌}
use Rattle.std.specs.FinMap as fin
use Rattle.hub_tree.specs.Levels.{entries_after, left_in}
use Rattle.hub_tree.specs.Nodes.{Entries, contents_of, kids_of, replica_of}
use Rattle.hub_tree.specs.Stored.{stored_contents}
use Rattle.hub_tree.specs.declared.entries.Level.{Level}
use Rattle.hub_tree.proofs.Walk.{passed_level, ascend-rest, ascend-left, first_left, some_left, taken}
use Rattle.hub_tree.proofs.entries.next_entry.Goals as goal

pub loop-level-preserved : goal.loop-level-preserved
loop-level-preserved c =
    let old : List Level = c.loop-level.levels.items in
    let rest : List Level = c.pop.new.self.items in
    let l : Level = c.in-Some.level in
    let is : old ≡ rest ++ l ∷ [] = c.in-Some.ensures.items in (
      sym (passed_level old rest l is c.in_default-next.ensures.steps.0) ∙ c.loop-level.invariant.0,
      ascend-rest old rest l is c.loop-level.invariant.1,
    )

pub enter-requires-clause-levels : goal.enter-requires-clause-levels
enter-requires-clause-levels c = ascend-rest c.loop-level.levels.items c.pop.new.self.items c.in-Some.level c.in-Some.ensures.items c.loop-level.invariant.1

pub enter-requires-clause-level : goal.enter-requires-clause-level
enter-requires-clause-level c =
    ascend-left c.loop-level.levels.items c.pop.new.self.items c.in-Some.level c.in-Some-next.name.now c.in-Some-next.node.now c.next.new.self c.in-Some.ensures.items
    c.in-Some-next.ensures.steps c.loop-level.invariant.1

pub returns-in-Ok-clause-step : goal.returns-in-Ok-clause-step
returns-in-Ok-clause-step c =
    let l : Level = c.in-Some.level in
    let all : Entries = left_in c.args.levels.now.items in
    let first = first_left all c.loop-level.levels.items c.pop.new.self.items l c.in-Some-next.name.now c.in-Some-next.node.now c.next.new.self
    c.loop-level.invariant.0 c.in-Some.ensures.items c.in-Some-next.ensures.steps c.loop-level.invariant.1 in
    taken all (left_in c.enter.new.levels.items)
    (entries_after (l.path ++ c.in-Some-next.name.now ∷ []) (fin.entries (replica_of (kids_of c.in-Some-next.node.now))) ++ (entries_after l.path (fin.entries (replica_of c.next.new.self)) ++ left_in c.pop.new.self.items))
    (l.path ++ c.in-Some-next.name.now ∷ []) c.in-Ok.entry.0 (contents_of c.in-Some-next.node.now) (stored_contents c.in-Ok.entry.1)
    first c.in-Ok.ensures.path c.in-Ok.ensures.contents c.in-Ok.ensures.left

pub returns-in-Err-clause-step : goal.returns-in-Err-clause-step
returns-in-Err-clause-step c =
    let l : Level = c.in-Some.level in
    let all : Entries = left_in c.args.levels.now.items in
    let first = first_left all c.loop-level.levels.items c.pop.new.self.items l c.in-Some-next.name.now c.in-Some-next.node.now c.next.new.self
    c.loop-level.invariant.0 c.in-Some.ensures.items c.in-Some-next.ensures.steps c.loop-level.invariant.1 in
    (some_left all _ _ first, ap left_in c.clear.ensures.items)
