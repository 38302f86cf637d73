use Prim.Native.Nat.{ℕ}
use denote.Param.{param}
use denote.Param.Send.{IsSync, param_sync}
use Rattle.hub_history.proofs.seat.Seat.TheSendSync as seat
use Rattle.hub_runner.proofs.worker.Channels.TheSendSync as channels
use Rattle.hub_runner.proofs.Crossing.{crosses}
use Rattle.hub_runner.proofs.pool.fn.run_workers.scope.Goals as goal

-- What a thread gets may cross to it: the handle and the gate, by their bounds, the desks, seats, and the channels.
pub spawn-requires-send-F : goal.spawn-requires-send-F
spawn-requires-send-F g c κs within =
    let gate : (i : ℕ) → IsSync (param i g.row.G) = λ i. param_sync i g.row.G c.requires.1.1.0 in
    let handle : (i : ℕ) → IsSync (param i g.row.R) = λ i. param_sync i g.row.R c.requires.1.1.1 in
    search (gate, handle, crosses, seat.the_send, channels.the_sync) depth 60
