-- Calls of some statements.
use Rattle.std.proofs.Common.{◌≡◌, ℕ, List, [], ◌∷◌, Some, None, refl}
use Rattle.gang_types.specs.declared.types.IntType.TheVariants as type
use Rattle.gang_types.specs.declared.types.Rate.TheVariants.{Varying}
use Rattle.gang_types.specs.declared.places.VarId.TheVariants as id
use Rattle.gang_model.specs.Types.Tree.{Stmt, Empty, Then, If, Loop, Call, Return, Number, Var, Declares, Assigns, Returns, Nothing}
use Rattle.call_results.specs.Calls.{giving_in, givings}

-- the variable of a number, an int32 of each lane
numbered : ℕ → Var
numbered n = record { id = id.Local n; type = type.Int32; rate = Varying }

-- int a = f(..); if (..) { b = g(..); } else { h(..); } return f(..);
body : Stmt
body =
    Then (Call 0 1 [] (Declares (numbered 5)))
    (Then (If 1 (Number 1) (Then (Call 2 3 [] (Assigns (numbered 6))) Empty) (Then (Call 3 4 [] Nothing) Empty))
    (Then (Call 4 1 [] Returns) Empty))

all : givings body ≡ record { step = 0; function = 1; variable = id.Local 5 } ∷ record { step = 2; function = 3; variable = id.Local 6 } ∷ []
unfolding numbered body
all = refl

declared : giving_in 0 body ≡ Some (record { step = 0; function = 1; variable = id.Local 5 })
unfolding numbered body
declared = refl

assigned : giving_in 2 body ≡ Some (record { step = 2; function = 3; variable = id.Local 6 })
unfolding numbered body
assigned = refl

alone : giving_in 3 body ≡ None
unfolding numbered body
alone = refl

returned : giving_in 4 body ≡ None
unfolding numbered body
returned = refl
