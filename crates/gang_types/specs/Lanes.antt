-- Sets of lanes: a list of W truth values, lane 0 first.
use Rattle.std.specs.Prelude.{ℕ, zero, suc, Bool, true, false, not, ◌&&◌, List, [], ◌∷◌, length, slice_index_or, if◌then◌else◌}

abbrev pub Lanes : Type 0
Lanes = List Bool

-- whether lane k is in the set
abbrev pub has : Lanes → ℕ → Bool
has lanes k = slice_index_or lanes k false

abbrev pub no_lane : Lanes → Bool
no_lane [] = true
no_lane (b ∷ lanes) = not b && no_lane lanes

-- the lowest lane
abbrev pub lowest : Lanes → ℕ
lowest [] = 0
lowest (b ∷ lanes) = if b then 0 else suc (lowest lanes)

-- the lanes of the first set that are not in the second
abbrev pub without : Lanes → Lanes → Lanes
without [] out = []
without (b ∷ lanes) [] = b ∷ lanes
without (b ∷ lanes) (c ∷ out) = (b && not c) ∷ without lanes out

-- the lanes of both sets
abbrev pub and : Lanes → Lanes → Lanes
and [] others = []
and (b ∷ lanes) [] = []
and (b ∷ lanes) (c ∷ others) = (b && c) ∷ and lanes others

-- the lanes from k on, of so many, that pass a test
abbrev pub lanes_from : ℕ → ℕ → (ℕ → Bool) → Lanes
lanes_from k zero test = []
lanes_from k (suc n) test = test k ∷ lanes_from (suc k) n test

-- the lanes of the set that pass a test
abbrev pub lanes_where : Lanes → (ℕ → Bool) → Lanes
lanes_where lanes test = lanes_from 0 (length lanes) (λ k. has lanes k && test k)
