use Rattle.std.proofs.Common.{rules}
use Rattle.debug_prompt.proofs.prompt.do_meant.Goals as goal
use Rattle.debug_prompt.proofs.prompt.do_meant.Goals.{in-Again, in-Own, in-Run, in-Start, in-Finish, in-Set, in-Break, in-Clear, in-Temporary, in-Until, in-Display, in-Undisplay, in-Goto, in-Restart, in-Last, in-Changes, in-When, in-Lanes, in-Checkpoint, in-Forget, in-Watch, in-Delete, in-Condition, in-Ignore, in-Disable, in-Enable, in-Look}

-- src/prompt.rt:208:1
pub returns : goal.returns
returns g c =
    elim c.match-line.branch [
      | in-Again w ↦ search rules
      | in-Own w ↦ search rules
      | in-Run w ↦ search rules
      | in-Start w ↦ search rules
      | in-Finish w ↦ search rules
      | in-Set w ↦ search rules
      | in-Break w ↦ search rules
      | in-Clear w ↦ search rules
      | in-Temporary w ↦ search rules
      | in-Until w ↦ search rules
      | in-Display w ↦ search rules
      | in-Undisplay w ↦ search rules
      | in-Goto w ↦ search rules
      | in-Restart w ↦ search rules
      | in-Last w ↦ search rules
      | in-Changes w ↦ search rules
      | in-When w ↦ search rules
      | in-Lanes w ↦ search rules
      | in-Checkpoint w ↦ search rules
      | in-Forget w ↦ search rules
      | in-Watch w ↦ search rules
      | in-Delete w ↦ search rules
      | in-Condition w ↦ search rules
      | in-Ignore w ↦ search rules
      | in-Disable w ↦ search rules
      | in-Enable w ↦ search rules
      | in-Look w ↦ search rules
    ]
