use Rattle.hub_folder.proofs.wanted.Waiting.next_unread.Given as goal

abbrev pub decreases-loop-wanted : goal.decreases-loop-wanted
decreases-loop-wanted l = goal.left-loop-wanted l
