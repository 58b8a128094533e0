-- How many lanes a gang has, as a test.
use Rattle.std.specs.Prelude.{ℕ, ◌==◌, ◌||◌, Bool}

-- whether a gang has so many lanes
abbrev pub is_gang_width : ℕ → Bool
is_gang_width w = (w == 4) || ((w == 8) || (w == 16))
