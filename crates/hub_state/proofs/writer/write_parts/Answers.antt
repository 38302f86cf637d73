use Rattle.std.proofs.Common.{List, ℕ, ◌++◌, sym, ap, ◌∙◌, subst}
use Rattle.std.specs.List.{flat_map}
use Rattle.std.specs.Prelude.{OnOk}
use Rattle.std.specs.Io.KnownBytes.{Appends}
use Rattle.hub_tree.specs.Tree.{Replica}
use Rattle.hub_state.specs.State.{Text}
use Rattle.hub_state.specs.Writing.{blob_lines, replica_files, version_of, state_text}
use Rattle.hub_state.proofs.writer.write_parts.Goals as goal

pub write_sections-requires-clause-version : goal.write_sections-requires-clause-version
write_sections-requires-clause-version g c =
    c.in_ok-head.ensures.version ∙ ap (λ (es : List (Text × Replica)). version_of (flat_map replica_files es)) (sym c.replicas.ensures)

pub write_sections-requires-clause-blobs : goal.write_sections-requires-clause-blobs
write_sections-requires-clause-blobs g c =
    c.in_ok-head.ensures.blobs ∙ ap (λ (es : List (Text × Replica)). blob_lines c.in_ok-head.head.version (flat_map replica_files es)) (sym c.replicas.ensures)

pub returns-clause-whole : goal.returns-clause-whole
returns-clause-whole g c =
    let a = g.W.Write.contents c.args.output.now.device in
    let b = g.W.Write.contents c.write_sections.new.output.device in
    subst (λ (t : List ℕ). OnOk c.write_sections.result (Appends a b (t ++ state_text c.args.state.now))) c.new-text.ensures.items c.write_sections.ensures.whole
