-- A desk may be shared by threads. `search` alone gives up at it: a desk's book has two replicas, and the nodes of a replica
-- hold one another through an `Arc`, which asks both laws of them. Here each is shown once.
use denote.Param.Send.{IsSend, IsSync, sendable}
use denote.Ref.{NamedLft}
use Rattle.std.proofs.Crossing as values
use Rattle.std.proofs.MapsCrossing as maps
use Rattle.hub_path.proofs.name.Name.TheSendSync as name
use Rattle.hub_path.proofs.root.Root.TheSendSync as root
use Rattle.hub_profile.proofs.profile.Profile.TheSendSync as profile
use Rattle.hub_tree.proofs.blob.Blob.TheSendSync as blob
use Rattle.hub_tree.proofs.node.Node.TheLaws.TheKnot as knot
use Rattle.hub_tree.specs.contracts.node.Node as Node
use Rattle.hub_tree.specs.contracts.tree.Tree as Tree
use Rattle.hub_job.proofs.log.Entry.TheSendSync as entry
use Rattle.hub_history.specs.contracts.book.Book as Book
use Rattle.hub_history.specs.contracts.desk.Desk as Desk
use Rattle.hub_runner.specs.contracts.desks.Desks as Desks

node_send : IsSend Node.the_row
node_send = search (knot.both_send-Node, sendable, values.crosses, maps.crosses, name.the_send, name.the_sync, blob.the_send, blob.the_sync) depth 60

node_sync : IsSync Node.the_row
node_sync = search (knot.both_sync-Node, sendable, values.crosses, maps.crosses, name.the_send, name.the_sync, blob.the_send, blob.the_sync) depth 60

tree_send : IsSend Tree.the_row
tree_send = search (sendable, values.crosses, maps.crosses, node_send, node_sync, name.the_send, name.the_sync) depth 60

book_send : (κ : NamedLft) → IsSend (Book.the_row κ)
book_send κ = search (sendable, values.crosses, maps.crosses, tree_send, root.the_send, profile.the_sync, entry.the_send) depth 60

pub desk_sync : (κ : NamedLft) → IsSync (Desk.the_row κ)
desk_sync κ = search (sendable, values.crosses, maps.crosses, book_send) depth 60

pub desks_sync : (κ : NamedLft) → IsSync (Desks.the_row κ)
desks_sync κ = search (sendable, values.crosses, maps.crosses, desk_sync) depth 60

pub ruleset crosses = (sendable, values.crosses, maps.crosses, desk_sync, desks_sync)
