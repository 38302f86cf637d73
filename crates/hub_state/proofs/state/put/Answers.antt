use Rattle.std.proofs.Common.{Some, string_bytes}
use Rattle.std.proofs.lemmas.Map.Text.{btree_map_updates_text}
use Rattle.hub_state.proofs.Maps.{changed_map}
use Rattle.hub_state.proofs.state.put.Goals as goal

pub returns-clause-ok : goal.returns-clause-ok
returns-clause-ok g c =
    changed_map c.args.map.now c.insert.new.self (string_bytes c.args.text) c.args.value
    (λ q. btree_map_updates_text (string_bytes c.args.text) c.args.map.now c.insert.new.self (Some c.args.value) c.in_ok-_old.ensures.updates q)
