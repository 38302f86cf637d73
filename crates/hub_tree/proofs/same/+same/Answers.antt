use Rattle.std.proofs.Common.{◌≡◌, ℕ, List, sym, ap, ◌∙◌}
use Rattle.std.proofs.lemmas.Bool.{false≢true, not-false}
use Rattle.std.specs.Map.Iter.{deref_pair}
use Rattle.std.specs.Str.{bytes_eq}
use Rattle.hub_path.specs.laws.General.{name_eq-decides}
use Rattle.hub_path.specs.Path.{Name, name_eq}
use Rattle.hub_tree.specs.Nodes.{contents_of, kids_of}
use Rattle.hub_tree.proofs.LookUp.{contents-file, contents-directory, kids-file, kids-directory}
use Rattle.hub_tree.proofs.Comparing.{one_less, other_names, other_nodes, too_few, too_many, all_same, files_alike, directories_alike, file_or_directory}
use Rattle.hub_tree.proofs.Matching.{refuted, unequal, by_none, step_none, step_some}
use Rattle.hub_tree.proofs.same.+same.Goals as goal

pub are_same-returns-in_default : goal.are_same-returns-in_default
are_same-returns-in_default t c =
    refuted _ (too_few c.args.children.now.entries c.args.others.now.entries c.loop-name.name-iterator c.loop-name.rest c.next.new.self c.in-Some.name.now c.in-Some.node.now
    c.loop-name.invariant c.in-Some.ensures.steps c.in_default.ensures.steps.0)

pub are_same-returns-then-ne : goal.are_same-returns-then-ne
are_same-returns-then-ne t c =
    let n : Name = c.in-Some.name.now in
    let m : Name = c.in-Some-next.other_name.now in
    refuted _ (other_names c.args.children.now.entries c.args.others.now.entries c.loop-name.name-iterator c.loop-name.rest c.next.new.self c.next-in-loop-name.new.self n m c.in-Some.node.now c.in-Some-next.other.now
    c.loop-name.invariant c.in-Some.ensures.steps c.in-Some-next.ensures.steps (unequal (name_eq n m) (n ≡ m) (name_eq-decides n m).1 (sym c.ne.ensures ∙ c.if-ne.true)))

pub are_same-returns-then-not-is_same : goal.are_same-returns-then-not-is_same
are_same-returns-then-not-is_same t c =
    let n : Name = c.in-Some.name.now in
    let m : Name = c.in-Some-next.other_name.now in
    refuted _ (other_nodes c.args.children.now.entries c.args.others.now.entries c.loop-name.name-iterator c.loop-name.rest c.next.new.self c.next-in-loop-name.new.self n m c.in-Some.node.now c.in-Some-next.other.now
    c.loop-name.invariant c.in-Some.ensures.steps c.in-Some-next.ensures.steps ((name_eq-decides n m).0 (not-false (name_eq n m) (sym c.ne.ensures ∙ c.if-ne.false)))
    (λ s. false≢true (sym c.if-not-is_same.true ∙ c.is_same.ensures.1 s)))

pub are_same-loop-name-preserved : goal.are_same-loop-name-preserved
are_same-loop-name-preserved t c =
    let n : Name = c.in-Some.name.now in
    let m : Name = c.in-Some-next.other_name.now in
    one_less c.args.children.now.entries c.args.others.now.entries c.loop-name.name-iterator c.loop-name.rest c.next.new.self c.next-in-loop-name.new.self n m c.in-Some.node.now c.in-Some-next.other.now
    c.loop-name.invariant c.in-Some.ensures.steps c.in-Some-next.ensures.steps ((name_eq-decides n m).0 (not-false (name_eq n m) (sym c.ne.ensures ∙ c.if-ne.false)))
    (c.is_same.ensures.0 c.if-not-is_same.false)

pub are_same-returns : goal.are_same-returns
are_same-returns t c =
    let all = c.args.children.now.entries in
    let others = c.args.others.now.entries in
    by_none _ c.next-2.result c.is_none.result c.is_none.ensures
    (λ e. all_same all others c.loop-name.name-iterator c.loop-name.rest c.loop-name.invariant c.in-None.ensures.steps.0 (step_none deref_pair c.loop-name.rest c.next-2.new.self c.next-2.result c.next-2.ensures.steps e))
    (λ x e. too_many all others c.loop-name.name-iterator c.loop-name.rest c.next-2.new.self x.0.now x.1.now c.loop-name.invariant c.in-None.ensures.steps.0
    (step_some deref_pair c.loop-name.rest c.next-2.new.self c.next-2.result x c.next-2.ensures.steps e))

pub is_same-returns-in-File-other : goal.is_same-returns-in-File-other
is_same-returns-in-File-other t c =
    let a : List ℕ = c.in-File.blob in
    let b : List ℕ = c.in-File-other.other in
    files_alike c.args.node.now c.args.other.now a b c.eq.result (ap contents_of c.in-File.is ∙ contents-file a) (ap contents_of c.in-File-other.is ∙ contents-file b)
    (ap kids_of c.in-File.is ∙ kids-file a) (ap kids_of c.in-File-other.is ∙ kids-file b) (c.eq.ensures ∙ (λ i. bytes_eq (c.bytes.ensures i) (c.bytes-in-File-other.ensures i)))

pub is_same-returns-in-Directory-other : goal.is_same-returns-in-Directory-other
is_same-returns-in-Directory-other t c =
    refuted _ (λ s. file_or_directory c.args.node.now c.args.other.now c.in-File.blob (ap contents_of c.in-File.is ∙ contents-file c.in-File.blob)
    (ap contents_of c.in-Directory-other.is ∙ contents-directory c.in-Directory-other.field-0) s.0)

pub is_same-returns-in-Directory-other-2 : goal.is_same-returns-in-Directory-other-2
is_same-returns-in-Directory-other-2 t c =
    let m = c.in-Directory.children in
    let n = c.in-Directory-other-2.others in
    directories_alike c.args.node.now c.args.other.now c.deref.result.now.entries c.deref-in-Directory-other-2.result.now.entries c.are_same.result
    (ap contents_of c.in-Directory.is ∙ contents-directory m) (ap contents_of c.in-Directory-other-2.is ∙ contents-directory n)
    (ap kids_of c.in-Directory.is ∙ kids-directory m ∙ ap (λ m. m.entries) (sym c.deref.ensures)) (ap kids_of c.in-Directory-other-2.is ∙ kids-directory n ∙ ap (λ m. m.entries) (sym c.deref-in-Directory-other-2.ensures))
    c.are_same.ensures

pub is_same-returns-in-File-other-2 : goal.is_same-returns-in-File-other-2
is_same-returns-in-File-other-2 t c =
    refuted _ (λ s. file_or_directory c.args.other.now c.args.node.now c.in-File-other-2.field-0 (ap contents_of c.in-File-other-2.is ∙ contents-file c.in-File-other-2.field-0)
    (ap contents_of c.in-Directory.is ∙ contents-directory c.in-Directory.children) (sym s.0))
