-- A frame's result, as the lanes of its call see it.
use Rattle.std.proofs.Common.{ℕ, ◌<◌, ◌≡◌, refl, sym, ◌∙◌, ap, arith, List, length, get_or, map, Some}
use Rattle.std.specs.Prelude.{if◌then◌else◌, option_map, slice_get}
use Rattle.std.proofs.lemmas.List.{length-map}
use Rattle.std.proofs.lemmas.Option.{same_Some, slice_get-map, slice_get_read, slice_get_within}
use Rattle.cross_lane.specs.EachLaws.{each_same}
use Rattle.gang_types.specs.declared.types.IntType.{IntType}
use Rattle.gang_types.specs.declared.types.Rate.TheVariants.{Uniform, Varying}
use Rattle.gang_types.specs.Lanes.{Lanes, no_lane}
use Rattle.gang_types.specs.Values.{converted}
use Rattle.gang_model.specs.Types.Tree.{Function}
use Rattle.gang_model.specs.Running.Lanes.{at, each}
use Rattle.gang_model.specs.Running.State.{seen}
use Rattle.gang_model.proofs.UniformValues.{at-each}
use Rattle.machine_states.specs.Shows.{result_of}
use Rattle.machine_states.specs.Steps.{converted_values}
use Rattle.typed_tree.specs.declared.program.Function.{Function as TypedFunction}
use Rattle.typed_tree.specs.Views.{function_view}

-- ---- the function that a program has

module _ (functions : List TypedFunction) (n : ℕ) (f : Function) (found : slice_get (map function_view functions) n ≡ Some f) where
  pub function_within : n < length functions
  function_within = omega (arith, slice_get_within (map function_view functions) n f found, length-map functions function_view)

  pub function_is : (function : TypedFunction) → function ≡ get_or functions n function → function_view function ≡ f
  function_is function e =
      same_Some (function_view function) f
      (sym (slice_get-map function_view functions n ∙ ap (option_map function_view) (slice_get_read functions (length functions) n function refl function_within e)) ∙ found)

-- ---- what lanes are given

module _ (w : ℕ) (from to : IntType) (lanes returned : Lanes) (region values : List ℕ) (long : length lanes ≡ w) where
  -- a uniform result is that of each lane, and is 0 where no lane has returned
  pub uniform_given : (x : ℕ) → x ≡ (if no_lane returned then 0 else at region 0) → ((k : ℕ) → k < w → at values k ≡ x)
      → each lanes (λ k. converted from to (at values k)) ≡ converted_values from to lanes (seen Uniform lanes (result_of Uniform returned region))
  uniform_given x is same =
      each_same w lanes (λ k. converted from to (at values k)) (λ k. converted from to (at (seen Uniform lanes (result_of Uniform returned region)) k)) long
      (λ k below there. ap (converted from to) (same k below ∙ is ∙ sym (at-each lanes (λ j. at (result_of Uniform returned region) 0) k there)))

  -- a varying one has a value for each lane
  pub varying_given : values ≡ each returned (λ k. at region k)
      → each lanes (λ k. converted from to (at values k)) ≡ converted_values from to lanes (seen Varying lanes (result_of Varying returned region))
  varying_given is =
      each_same w lanes (λ k. converted from to (at values k)) (λ k. converted from to (at (seen Varying lanes (result_of Varying returned region)) k)) long
      (λ k below there. ap (converted from to) (ap (λ vs. at vs k) is ∙ sym (at-each lanes (λ j. at (result_of Varying returned region) j) k there)))
