-- What a record of a run must have beside the clauses of its traits.
use Rattle.std.specs.Prelude.{ℕ}
use Rattle.std.specs.Borrow.{RattleType}
use Rattle.std.specs.Mem.{FitsInMemory}
use denote.Param.{number}
use Rattle.debug_session.specs.contracts.session.Session as session
use Rattle.gang_machine.specs.contracts.machine.Machine as machine
use Rattle.undo_log.specs.declared.timeline.Timeline.{Ghosts}

-- a machine over a record of this type fits in memory, and a session over that machine, as each type does that a value has
abbrev pub Fit : (lanes record_type : RattleType) → Ghosts record_type.Denot → Type 0
Fit lanes record_type ghosts = FitsInMemory (machine.the_row lanes record_type ghosts) × FitsInMemory (session.the_row (machine.the_row lanes record_type ghosts))

-- so they do at each number of lanes
abbrev pub FitAtEachWidth : (record_type : RattleType) → Ghosts record_type.Denot → Type 0
FitAtEachWidth record_type ghosts = (lanes : ℕ) → Fit (number lanes) record_type ghosts
