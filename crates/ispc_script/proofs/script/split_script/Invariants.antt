-- no mark so far
use Rattle.std.proofs.Common.{◌≡◌, ℕ, ◌<◌, false}
use Rattle.ispc_script.specs.Marks.{mark_at}
use Rattle.ispc_script.proofs.script.split_script.Given as goal

abbrev pub invariant-loop-i : goal.invariant-loop-i
invariant-loop-i l = (k : ℕ) → k < l.i → mark_at l.text k ≡ false
