use Rattle.port_loops.proofs.loops.+statement.Given as goal

abbrev pub decreases-statement : goal.decreases-statement
decreases-statement l = l.depth

abbrev pub decreases-block : goal.decreases-block
decreases-block l = l.depth

abbrev pub decreases-read_body : goal.decreases-read_body
decreases-read_body l = l.depth

abbrev pub decreases-read_if : goal.decreases-read_if
decreases-read_if l = l.depth

abbrev pub decreases-read_while : goal.decreases-read_while
decreases-read_while l = l.depth

abbrev pub decreases-read_do : goal.decreases-read_do
decreases-read_do l = l.depth

abbrev pub decreases-read_for : goal.decreases-read_for
decreases-read_for l = l.depth

abbrev pub decreases-read_foreach : goal.decreases-read_foreach
decreases-read_foreach l = l.depth

abbrev pub decreases-read_switch : goal.decreases-read_switch
decreases-read_switch l = l.depth

abbrev pub decreases-read_group : goal.decreases-read_group
decreases-read_group l = l.depth
