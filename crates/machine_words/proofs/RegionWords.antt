-- The words of a region among all words.
use Rattle.std.proofs.Common.{ℕ, ◌+◌, ◌≤◌, ◌≡◌, sym, ◌∙◌, ap, subst, arith, List, length, Some}
use Rattle.std.specs.Prelude.{slice_get}
use Rattle.gang_types.specs.declared.types.Rate.TheVariants.{Varying}
use Rattle.gang_memory.specs.declared.parts.Part.{Part}
use Rattle.gang_memory.specs.declared.layout.Layout.{Layout}
use Rattle.gang_memory.specs.Elements.{StandsAt}
use Rattle.gang_memory.specs.Layouts.{ranges}
use Rattle.gang_memory.specs.ScalarWords.{IsScalarAt}
use Rattle.machine_states.specs.Regions.{Region}
use Rattle.machine_words.specs.Ranges.{IsLaid, is_there, number_of, range_of, regions_of, words_at}
use Rattle.machine_words.proofs.Found.{there}
use Rattle.machine_words.proofs.InOrder.{lies_between}
use Rattle.machine_words.proofs.Plans.{plan_of}
use Rattle.machine_words.proofs.RangeWords.{length-words_in, they_stand, words_in}

module _ (width : ℕ) (layout : Layout) (words : List ℕ) (laid : IsLaid width layout words) (region : Region) (p : Part) (is : range_of width layout region ≡ Some p) where
  pub inside : p.first + p.len ≤ length words
  inside =
      let plan = plan_of width layout laid.planned in
      let found = there (is_there layout region) (slice_get (ranges width layout) (number_of layout region)) p is in
      let between = lies_between 0 layout.words (ranges width layout) (number_of layout region) p plan.order found.1 in
      omega (arith, between.1, laid.long)

  pub region_is : regions_of width layout words region ≡ words_in p words
  region_is = ap (λ o. words_at o words) is

  pub region_long : length (regions_of width layout words region) ≡ p.len
  region_long = ap length region_is ∙ length-words_in p words inside

  -- a word for each lane
  pub lanes_at : length (regions_of width layout words region) ≡ width → IsScalarAt width Varying p.first (regions_of width layout words region) words
  lanes_at e = record { long = e; stands = subst (λ ws. StandsAt p.first ws words) (sym region_is) (they_stand p words inside) }
