use Rattle.hub_hosts.proofs.Numbers.{length-lines_of-text_for, lines_of-text_for}
use Rattle.hub_hosts.proofs.laws.lines_keep_their_numbers.Goals as goal

pub returns-clause-lines : goal.returns-clause-lines
returns-clause-lines c = lines_of-text_for

pub returns-clause-count : goal.returns-clause-count
returns-clause-count c = length-lines_of-text_for
