-- Which word of a variable a lane reads.
use Rattle.std.specs.Prelude.{ℕ}
use Rattle.gang_types.specs.declared.types.Rate.{Rate}
use Rattle.gang_types.specs.declared.types.Rate.TheVariants.{Uniform, Varying}

abbrev pub place_in : Rate → ℕ → ℕ
place_in Uniform k = 0
place_in Varying k = k
