use Rattle.std.proofs.Common.{ap, map, string_bytes, Global}
use Rattle.hub_cli.specs.Words.{asked_of}
use Rattle.hub_serve.specs.Reads.{reads_between}
use Rattle.hub_serve.specs.Serves.{Serves, ServesInFull}
use Rattle.hub_serve.proofs.Answered.{ok-holds, serves-same}
use Rattle.hub_serve.proofs.Short.{same-short}
use Rattle.hub_serve.proofs.program.serve_process.Goals as goal

pub returns-in-Ok-clause-read : goal.returns-in-Ok-clause-read
returns-in-Ok-clause-read g c =
    let remaining = g.R.Read.remaining c.args.input.now.device in
    let old = g.W.Write.contents c.args.output.now.device in
    let new = g.W.Write.contents c.serve.new.output.device in
    let reads = reads_between c.args.input.now c.serve.new.input in
    ok-holds c.args.words c.in-Ok.words
    (λ v. ServesInFull (asked_of (map (string_bytes {Z = Global}) v.items)) remaining old new reads c.serve.new.output.failed c.serve.result)
    c.in-Ok.is
    (serves-same (map (string_bytes {Z = Global}) c.as_slice.result.now) (map (string_bytes {Z = Global}) c.in-Ok.words.items) remaining old new
    reads c.serve.new.output.failed c.serve.result (ap (map (string_bytes {Z = Global})) c.as_slice.ensures.value) c.serve.ensures.full)

pub returns-in-Ok-clause-first : goal.returns-in-Ok-clause-first
returns-in-Ok-clause-first g c =
    let remaining = g.R.Read.remaining c.args.input.now.device in
    let old = g.W.Write.contents c.args.output.now.device in
    let new = g.W.Write.contents c.serve.new.output.device in
    ok-holds c.args.words c.in-Ok.words
    (λ v. Serves (asked_of (map (string_bytes {Z = Global}) v.items)) remaining old new c.serve.new.output.failed c.serve.result)
    c.in-Ok.is
    (same-short (map (string_bytes {Z = Global}) c.as_slice.result.now) (map (string_bytes {Z = Global}) c.in-Ok.words.items) remaining old new
    c.serve.new.output.failed c.serve.result (ap (map (string_bytes {Z = Global})) c.as_slice.ensures.value) c.serve.ensures.first)
