-- The dimensions of a `foreach`, from the first on.
use Rattle.std.specs.Prelude.{ℕ, List, [], ◌∷◌, ◌++◌, Result, Ok}
use Rattle.gang_types.specs.declared.types.IntType.TheVariants as t
use Rattle.gang_types.specs.declared.types.Rate.TheVariants.{Uniform, Varying}
use Rattle.gang_types.specs.declared.places.VarId.TheVariants.{Local}
use Rattle.gang_model.specs.declared.refusals.SourceRefusal.{SourceRefusal}
use Rattle.gang_model.specs.Types.Tree.{Dimension}
use Rattle.gang_model.specs.Source.Parsed.{ParsedDim}
use Rattle.gang_model.specs.Source.Judged.{Judged, Sound, both, ◌>>=◌, both_answers, then_answer}
use Rattle.gang_model.specs.Types.Typing.{Scope, given_value}

-- one dimension, with the k-th variable as its index variable
abbrev pub dimension_of : Scope → ℕ → ParsedDim → Judged Dimension
dimension_of scope k d = do
  bounds ← both (given_value d.low scope t.Int32 Uniform) (given_value d.high scope t.Int32 Uniform)
  Sound (record { index = record { id = Local k; type = t.Int32; rate = Varying }; low = bounds.0; high = bounds.1 })

-- some dimensions with one more after them
abbrev pub first_dimensions : Result (List Dimension) SourceRefusal → Result Dimension SourceRefusal → Result (List Dimension) SourceRefusal
first_dimensions first next = then_answer (both_answers first next) (λ parts. Ok (parts.0 ++ parts.1 ∷ []))
