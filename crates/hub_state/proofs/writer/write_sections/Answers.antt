use Rattle.std.proofs.Common.{◌≡◌, List, ℕ, [], ◌∷◌, ◌++◌, refl, sym, ap, ◌∙◌, subst, append-nil}
use Rattle.std.specs.FinMap as fin
use Rattle.std.specs.Io.KnownBytes.{Appends}
use Rattle.std.specs.List.{flat_map}
use Rattle.std.proofs.lemmas.List.Concat.{flat_map_single}
use Rattle.std.proofs.lemmas.Result.{on_ok_weaker}
use Rattle.hub_path.specs.Path.{path_cmp}
use Rattle.hub_tree.specs.Tree.{Replica, Archive}
use Rattle.hub_state.specs.declared.form.Version.{Version}
use Rattle.hub_state.specs.Devices.{Passes}
use Rattle.hub_state.specs.State.{State, Text}
use Rattle.hub_state.specs.View.{by_text, pairs_in}
use Rattle.hub_state.specs.Writing.{state_header, end_line, blob_line, blob_lines, replica_lines, archive_lines, state_files, joined_lines, state_text}
use Rattle.hub_state.proofs.Passing.{passes-start, passes-step, passes-all, text_parts}
use Rattle.hub_state.proofs.writer.write_sections.Goals as goal

pub returns-clause-whole : goal.returns-clause-whole
returns-clause-whole g c =
    let S : State = c.args.state.now in
    let v : Version = c.args.head.now.version in
    let a = g.W.Write.contents c.args.output.now.device in
    let b = g.W.Write.contents c.write_lines.new.output.device in
    let d = g.W.Write.contents c.write_replicas.new.output.device in
    let e = g.W.Write.contents c.write_archives.new.output.device in
    let f = g.W.Write.contents c.pass_on.new.output.device in
    let x : List ℕ = c.args.text.now.items in
    let y : List ℕ = c.write_lines.new.text.items in
    let z : List ℕ = c.write_replicas.new.text.items in
    let w : List ℕ = c.write_archives.new.text.items in
    let u : List ℕ = c.push.new.text.items in
    let p : List ℕ = c.push_header.new.text.items in
    let last : List ℕ = end_line ++ 10 ∷ [] in
    let first : List ℕ = state_header v ++ 10 ∷ [] in
    let bs : List ℕ = joined_lines (flat_map (λ b. blob_line b ∷ []) c.iter.result) in
    let head : List ℕ = first ++ bs in
    let one : Passes a b x y head = passes-step a a b x x p y [] first bs head (passes-start a x) c.in_ok-push_header.ensures c.in_ok-write_lines.ensures.ok refl in
    let rs : List ℕ = joined_lines (flat_map (replica_lines v) (by_text c.replicas.result.now.entries)) in
    let ks : List ℕ = joined_lines (flat_map archive_lines (fin.entries (pairs_in c.archives.result.now.entries))) in
    let two : Passes a d x z (head ++ rs) = passes-step a b d x y y z head [] rs (head ++ rs) one (sym (append-nil y)) c.in_ok-write_replicas.ensures.ok refl in
    let three : Passes a e x w (head ++ rs ++ ks) = passes-step a d e x z z w (head ++ rs) [] ks (head ++ rs ++ ks) two (sym (append-nil z)) c.in_ok-write_archives.ensures.ok refl in
    let all : List ℕ = head ++ rs ++ ks ++ (last ++ []) in
    let four : Passes a e x u all = passes-step a e e x w u u (head ++ rs ++ ks) last [] all three c.in_ok-push.ensures (passes-start e u) refl in
    let same : x ++ all ≡ x ++ state_text S =
    ap (λ (t : List ℕ). x ++ t)
    (ap (λ (ls : List (List ℕ)). first ++ joined_lines ls ++ rs ++ ks ++ (last ++ [])) (ap (flat_map (λ b. blob_line b ∷ [])) c.iter.ensures ∙ flat_map_single blob_line (fin.entries c.args.head.now.blobs) ∙ c.requires.blobs)
    ∙ ap (λ (es : List (Text × Replica)). joined_lines (state_header v ∷ blob_lines v (state_files S)) ++ joined_lines (flat_map (replica_lines v) es) ++ ks ++ (last ++ [])) (sym c.replicas.ensures)
    ∙ ap (λ (m : fin.FinMap path_cmp Archive). joined_lines (state_header v ∷ blob_lines v (state_files S)) ++ joined_lines (flat_map (replica_lines v) (fin.entries S.replicas)) ++ joined_lines (flat_map archive_lines (fin.entries m)) ++ (last ++ [])) c.archives.ensures
    ∙ text_parts S v c.requires.version)
    in
    on_ok_weaker c.pass_on.result (λ h. subst (λ (t : List ℕ). Appends a f t) same (passes-all a e f x u all four h)) c.pass_on.ensures.ok
