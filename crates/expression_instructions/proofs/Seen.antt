-- A variable's words as the lanes that read it see them.
use Rattle.std.proofs.Common.{ℕ, ◌<◌, ◌≡◌, List, length, slice_index}
use Rattle.gang_types.specs.declared.types.Rate.{Rate}
use Rattle.gang_types.specs.declared.types.Rate.TheVariants.{Uniform, Varying}
use Rattle.gang_types.specs.Lanes.{Lanes}
use Rattle.gang_model.specs.Running.Lanes.{each, at}
use Rattle.gang_model.specs.Running.State.{seen}
use Rattle.cross_lane.specs.EachLaws.{each_same}
use Rattle.expression_instructions.specs.Read.{place_in}

pub seen_from : (w : ℕ) (lanes : Lanes) (rate : Rate) (xs words : List ℕ) → length lanes ≡ w → ((k : ℕ) → k < w → slice_index xs k ≡ at words (place_in rate k)) → each lanes (λ k. at xs k) ≡ seen rate lanes words
seen_from w lanes Uniform xs words long same = each_same w lanes (slice_index xs) (λ k. at words 0) long (λ i h e. same i h)
seen_from w lanes Varying xs words long same = each_same w lanes (slice_index xs) (λ k. at words k) long (λ i h e. same i h)
