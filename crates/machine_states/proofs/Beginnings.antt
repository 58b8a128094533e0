-- The first state of a run: the entry's frame begins for all lanes, over the first words of the file and those of the rows.
use Rattle.std.proofs.Common.{◌≡◌, refl, sym, subst, ℕ, true, List, [], Some, None, arith}
use Rattle.std.specs.Prelude.{replicate, slice_get}
use Rattle.std.proofs.lemmas.List.{length-replicate}
use Rattle.gang_model.specs.Types.Tree.{Nothing, Function, Program}
use Rattle.gang_model.specs.Debugger.Events.{Given, Row, initial_memory, started, with_rows}
use Rattle.mask_states.specs.MaskedStep.{untasked, entered_levels, masked_start}
use Rattle.machine_states.specs.Variables.{Variables}
use Rattle.machine_states.specs.ArrayParts.{AreMemory}
use Rattle.machine_states.specs.Regions.{Regions}
use Rattle.machine_states.specs.Shows.{Shows}
use Rattle.machine_states.specs.Steps.{IsBegun}
use Rattle.machine_states.proofs.CallSteps.{begun_frame}

-- what a run begins with before its rows
abbrev pub nothing_given : Program → (width : ℕ) → Given
nothing_given p w = record { passed = record { views = []; vars = [] }; memory = initial_memory w p.globals }

module _ (p : Program) (variables : Variables) (w : ℕ) (new : Regions) (entry : ℕ) (rows : List Row) (f : Function) (is_function : slice_get p.functions entry ≡ Some f)
    (begun : IsBegun variables w new 0 entry f (replicate w true) (with_rows rows (nothing_given p w)).passed)
    (memory : AreMemory new (with_rows rows (nothing_given p w)).memory) where
  pub begins : Shows p variables w new (masked_start p entry rows w)
  begins =
      let given = with_rows rows (nothing_given p w) in
      subst (λ o. Shows p variables w new (record { state = untasked (started o entry w given); levels = entered_levels o (replicate w true) })) (sym is_function)
      (record {
        memory = memory;
        depth = begun.depth;
        few = omega arith;
        frames = (begun_frame p variables w new 0 entry f (replicate w true) None Nothing given.passed is_function (length-replicate w true) begun, (refl, refl), tt);
      })
