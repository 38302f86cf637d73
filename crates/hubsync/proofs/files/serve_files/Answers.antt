use Rattle.std.proofs.Common.{codes, inl, inr, subst, sym}
use Rattle.hub_serve.specs.Serves.{WritesText}
use Rattle.hub_cli.specs.Words.{names_of}
use Rattle.hubsync.specs.Bundled.{Disk, WritesFault, hosts_word, memory_line}
use Rattle.hubsync.proofs.FilesFacts.{of-bad-hosts, of-second-machine, of-unknown-host}
use Rattle.hubsync.proofs.files.serve_files.Goals as goal

pub returns-in-Err-OutOfMemory : goal.returns-in-Err-OutOfMemory
returns-in-Err-OutOfMemory g c =
    let before = g.W.Write.contents c.args.output.now.device.device in
    let new = g.W.Write.contents c.write_memory.new.output.device.device in
    let failed = c.write_memory.new.output.failed in
    let said = subst (λ old. WritesText old new memory_line 2 failed c.write_memory.result) c.in-Err-OutOfMemory.ensures.silent c.write_memory.ensures in
    inr (inr (subst (λ status. WritesText before new memory_line 2 failed status) (sym c.plain-in-Err-OutOfMemory.ensures) said))

pub returns-in-Err-BadHosts : goal.returns-in-Err-BadHosts
returns-in-Err-BadHosts g c =
    let before = g.W.Write.contents c.args.output.now.device.device in
    let new = g.W.Write.contents c.write_bad_hosts.new.output.device.device in
    let failed = c.write_bad_hosts.new.output.failed in
    let file = c.in-Err-BadHosts.file.now in
    let fault = c.in-Err-BadHosts.fault in
    let disk : Disk = record { reads = g.F.FileReader.reads c.args.reader.now; lists = g.F.FileReader.lists c.args.reader.now; folders = g.F.FileReader.folders c.args.reader.now } in
    let is = of-bad-hosts disk (names_of c.args.options.now.files) c.in-Err-BadHosts.field-0 c.in-Err-BadHosts.file fault c.in-Err-BadHosts.field-0-is c.in-Err-BadHosts.ensures.named in
    let said = subst (λ old. WritesFault file (hosts_word fault) old new failed c.write_bad_hosts.result) c.in-Err-BadHosts.ensures.silent c.write_bad_hosts.ensures in
    let told = subst (λ status. WritesFault file (hosts_word fault) before new failed status) (sym c.plain-in-Err-BadHosts.ensures) said in
    inr (inl (inr (inr (inl (file, is.0, inr (is.1.0, fault, is.1.1, is.1.2, told))))))

pub returns-in-Err-SecondMachine : goal.returns-in-Err-SecondMachine
returns-in-Err-SecondMachine g c =
    let before = g.W.Write.contents c.args.output.now.device.device in
    let new = g.W.Write.contents c.write_second_machine.new.output.device.device in
    let failed = c.write_second_machine.new.output.failed in
    let operand = c.in-Err-SecondMachine.operand.now in
    let disk : Disk = record { reads = g.F.FileReader.reads c.args.reader.now; lists = g.F.FileReader.lists c.args.reader.now; folders = g.F.FileReader.folders c.args.reader.now } in
    let is = of-second-machine disk (names_of c.args.options.now.files) c.in-Err-SecondMachine.field-0 c.in-Err-SecondMachine.operand c.in-Err-SecondMachine.field-0-is c.in-Err-SecondMachine.ensures.named in
    let said = subst (λ old. WritesFault operand (codes "SecondMachine") old new failed c.write_second_machine.result) c.in-Err-SecondMachine.ensures.silent c.write_second_machine.ensures in
    let told = subst (λ status. WritesFault operand (codes "SecondMachine") before new failed status) (sym c.plain-in-Err-SecondMachine.ensures) said in
    inr (inl (inr (inr (inr (inl (operand, is, told))))))

pub returns-in-Err-UnknownHost : goal.returns-in-Err-UnknownHost
returns-in-Err-UnknownHost g c =
    let before = g.W.Write.contents c.args.output.now.device.device in
    let new = g.W.Write.contents c.write_unknown_host.new.output.device.device in
    let failed = c.write_unknown_host.new.output.failed in
    let operand = c.in-Err-UnknownHost.operand.now in
    let disk : Disk = record { reads = g.F.FileReader.reads c.args.reader.now; lists = g.F.FileReader.lists c.args.reader.now; folders = g.F.FileReader.folders c.args.reader.now } in
    let is = of-unknown-host disk (names_of c.args.options.now.files) c.in-Err-UnknownHost.field-0 c.in-Err-UnknownHost.operand c.in-Err-UnknownHost.field-0-is c.in-Err-UnknownHost.ensures.named in
    let said = subst (λ old. WritesFault operand (codes "UnknownHost") old new failed c.write_unknown_host.result) c.in-Err-UnknownHost.ensures.silent c.write_unknown_host.ensures in
    let told = subst (λ status. WritesFault operand (codes "UnknownHost") before new failed status) (sym c.plain-in-Err-UnknownHost.ensures) said in
    inr (inl (inr (inr (inr (inr (operand, is.0, is.1, is.2, told))))))
