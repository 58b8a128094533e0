-- The index variables of a round of a foreach form and their words, and how what is left behind it is counted.
use Rattle.std.specs.Prelude.{ℕ, List, [], ◌∷◌, map, replicate, slice_set, zip}
use Rattle.gang_types.specs.Lanes.{Lanes}
use Rattle.gang_types.specs.Masks.{lanes_of, word_of_lanes}
use Rattle.gang_model.specs.Running.State.{Store, declared_words}
use Rattle.gang_model.specs.Types.Tree.{Var, RoundsOf, Rows, Tiles, EachLane, EachValue}
use Rattle.foreach_lowering.specs.declared.rounds.Indices.{Indices}
use Rattle.foreach_lowering.specs.declared.rounds.Indices.TheVariants.{Varying, Uniform}
use Rattle.foreach_lowering.specs.declared.rounds.RoundsLeft.{RoundsLeft}
use Rattle.foreach_lowering.specs.declared.rounds.RoundsLeft.TheVariants.{Domain as DomainLeft, EachLane as LanesLeft, EachValue as ValuesLeft}

-- those of a form, in the order of its dimensions
abbrev pub indices_of : RoundsOf → List Var
indices_of (Rows dimensions) = map (λ dimension. dimension.index) dimensions
indices_of (Tiles dimensions) = map (λ dimension. dimension.index) dimensions
indices_of (EachLane x) = x ∷ []
indices_of (EachValue x e) = x ∷ []

-- a word for each lane, for each dimension: of the two forms with a uniform index variable its word in all lanes
abbrev pub lane_words : (width : ℕ) → Indices width → List (List ℕ)
lane_words width (Varying words) = words
lane_words width (Uniform word) = let words = replicate width word in words ∷ words ∷ words ∷ []

-- the index variables of a round, each with a word for each lane
abbrev pub round_indices : (width : ℕ) → List Var → Indices width → List (Var × List ℕ)
round_indices width variables indices = zip variables (lane_words width indices)

-- the words of variables once these lanes have declared them
abbrev pub declared_store : Lanes → List (Var × List ℕ) → Store
declared_store lanes [] = []
declared_store lanes (x ∷ given) = (x.0.id, declared_words x.0.rate lanes x.1) ∷ declared_store lanes given

-- the counters of a form once so much is left: of a domain how much of its grid, of the other two forms the lanes still to come
abbrev pub counters_behind : (width : ℕ) → RoundsLeft width → (counters : List ℕ) → List ℕ
counters_behind width (DomainLeft domain left) counters = slice_set (slice_set (slice_set counters 6 left.leads) 7 left.rows) 8 left.columns
counters_behind width (LanesLeft lanes) counters = slice_set counters 0 (word_of_lanes (lanes_of width lanes))
counters_behind width (ValuesLeft lanes values) counters = slice_set counters 0 (word_of_lanes (lanes_of width lanes))
