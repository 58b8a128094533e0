use Rattle.std.proofs.Common.{◌≡◌, take}
use Rattle.machine_states.specs.Cells.{greatest}
use Rattle.codegen.proofs.compiling.most_levels.Given as goal

-- the most of the functions before this one
abbrev pub invariant-loop-forms : goal.invariant-loop-forms
invariant-loop-forms l = l.most ≡ greatest (λ forms. forms.depth) (take l.forms-index l.functions)
