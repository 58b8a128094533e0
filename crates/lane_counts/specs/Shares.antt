-- The share of the lanes that do steps.
use Rattle.std.specs.Prelude.{ℕ, ◌*◌, ◌/◌, ◌-◌, ◌==◌, if◌then◌else◌}

-- how many of the places for lanes that so many steps have no lane takes
abbrev pub lost : (steps lane_steps width : ℕ) → ℕ
lost steps lane_steps width = steps * width - lane_steps

-- the share that a part is of a whole, in thousandths, rounded down; all of it where the whole is nothing
abbrev pub share_of : (part whole : ℕ) → ℕ
share_of part whole = if whole == 0 then 1000 else part * 1000 / whole

-- the share of the places that lanes take
abbrev pub share : (steps lane_steps width : ℕ) → ℕ
share steps lane_steps width = share_of lane_steps (steps * width)
