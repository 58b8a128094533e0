-- What is shown of an expression in each lane of the gang: a word, or nothing.
use Rattle.std.specs.Prelude.{ℕ, zero, suc, ◌==◌, ◌||◌, Bool, false, not, List, [], ◌∷◌, length, map, Option, Some, None, Result, Ok, Err, if◌then◌else◌}
use Rattle.std.specs.List.{range_with_len}
use Rattle.gang_types.specs.Lanes.{Lanes, has, lanes_where}
use Rattle.gang_model.specs.Running.Lanes.{Fault, at}
use Rattle.gang_model.specs.Running.State.{State}
use Rattle.gang_model.specs.Running.Value.{value}
use Rattle.gang_model.specs.Types.Tree.{Expr}

-- the word of a lane, if it is one of these
abbrev pub lane_word : Lanes → (words : List ℕ) → ℕ → Option ℕ
lane_word lanes words k = if has lanes k then Some (at words k) else None

-- the same of each lane of the gang
abbrev pub lane_words : Lanes → (words : List ℕ) → List (Option ℕ)
lane_words lanes words = map (lane_word lanes words) (range_with_len 0 (length lanes))

-- the lanes but for lane k
abbrev pub without_lane : ℕ → Lanes → Lanes
without_lane k lanes = lanes_where lanes (λ j. not (j == k))

-- what a value shows, or what is shown without the lane of its fault
abbrev pub shown_by : Lanes → (fewer : Lanes → List (Option ℕ)) → Result (List ℕ) Fault → List (Option ℕ)
shown_by lanes fewer (Ok words) = lane_words lanes words
shown_by lanes fewer (Err fault) = fewer (without_lane fault.lane lanes)

-- What an expression shows in these lanes: its value; where that has a fault, what it shows without the lane of the fault. The value is asked for so
-- often at most; nothing is shown where it has a fault each time.
abbrev pub shown_in : (most : ℕ) → Expr → Lanes → State → List (Option ℕ)
shown_in zero e lanes state = []
shown_in (suc n) e lanes state = shown_by lanes (λ fewer. shown_in n e fewer state) (value e lanes state)

-- whether a lane shows another word than before; where it showed none, or shows none, nothing changed
abbrev pub word_differs : (before now : Option ℕ) → Bool
word_differs (Some old) (Some new) = not (old == new)
word_differs (Some old) None = false
word_differs None new = false

-- whether some lane does
abbrev pub lanes_differ : (before now : List (Option ℕ)) → Bool
lanes_differ [] new = false
lanes_differ (a ∷ old) [] = false
lanes_differ (a ∷ old) (b ∷ new) = word_differs a b || lanes_differ old new
