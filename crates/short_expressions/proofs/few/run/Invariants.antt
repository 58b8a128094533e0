-- the instructions that are left do what all of them do
use Rattle.std.proofs.Common.{◌≡◌, [], ◌∷◌, drop, reverse}
use Rattle.gang_types.specs.Masks.{lanes_of}
use Rattle.gang_model.specs.Running.State.{State}
use Rattle.expression_runs.specs.Machine.{exec}
use Rattle.short_expressions.proofs.few.run.Given as goal

abbrev pub invariant-loop-instruction : goal.invariant-loop-instruction
invariant-loop-instruction g l =
    (state : State) → g.S.Words.shows l.words state
    → exec 513 257 state (drop l.instruction-index l.code) 0 (reverse l.stack.items) (lanes_of g.row.W l.mask ∷ [])
    ≡ exec 513 257 state l.code 0 (reverse l.fn.stack.items) (lanes_of g.row.W l.mask ∷ [])
