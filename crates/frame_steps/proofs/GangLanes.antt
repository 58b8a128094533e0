-- What follows from the width of a gang: it has lanes, a scalar has no more words, and what is kept for its lanes fits in memory.
use Rattle.std.proofs.Common.{◌≡◌, sym, subst, ℕ, ◌+◌, ◌*◌, ◌<◌, ◌≤◌, true, false, arith, inl, inr, lit<}
use prog.Memory.{up}
use Rattle.std.specs.Prelude.{max, replicate}
use Rattle.std.proofs.lemmas.List.{get_or-replicate}
use Rattle.gang_types.specs.declared.types.Rate.{Rate}
use Rattle.gang_types.specs.declared.types.Rate.TheVariants.{Uniform, Varying}
use Rattle.gang_types.specs.Lanes.{no_lane}
use Rattle.gang_types.specs.LaneLaws.{some_lane}
use Rattle.gang_types.specs.Masks.{IsGangWidth}
use Rattle.gang_model.specs.Running.State.{words_for}

pub gang_wide : (w : ℕ) → IsGangWidth w → 4 ≤ w
gang_wide w (inl e) = omega (arith, e)
gang_wide w (inr (inl e)) = omega (arith, e)
gang_wide w (inr (inr e)) = omega (arith, e)

pub gang_some : (w : ℕ) → IsGangWidth w → 0 < w
gang_some w gang = let wide : 4 ≤ w = gang_wide w gang in omega (arith, wide)

pub some_of_all : (w : ℕ) → IsGangWidth w → no_lane (replicate w true) ≡ false
some_of_all w gang = some_lane (replicate w true) 0 (get_or-replicate w 0 true false (let wide : 4 ≤ w = gang_wide w gang in omega (arith, wide)))

-- a scalar has a word for each lane at most
pub words_few : (w : ℕ) → IsGangWidth w → (rate : Rate) → words_for w rate ≤ w
words_few w gang Uniform = let wide : 4 ≤ w = gang_wide w gang in omega (arith, wide)
words_few w gang Varying = omega arith

-- ---- what fits in memory

pub each_width : (P : ℕ → Type 0) → P 4 → P 8 → P 16 → (w : ℕ) → IsGangWidth w → P w
each_width P four eight sixteen w (inl e) = subst P (sym e) four
each_width P four eight sixteen w (inr (inl e)) = subst P (sym e) eight
each_width P four eight sixteen w (inr (inr e)) = subst P (sym e) sixteen

-- the stacks of a gang
abbrev pub stacks_bytes : ℕ → ℕ
stacks_bytes w = up 8 (up 8 (0 + up 8 (up 1 (up 8 (0 + up 8 (0 + 513 * (w * 8))) + 8) + 0)) + 2064)

pub stacks_small : (w : ℕ) → IsGangWidth w → stacks_bytes w < 9223372036854775808
stacks_small w gang = each_width (λ n. stacks_bytes n < 9223372036854775808) (lit< tt) (lit< tt) (lit< tt) w gang

-- the values of a call's arguments
abbrev pub given_bytes : ℕ → ℕ
given_bytes w = up 8 (up 1 (up 8 (0 + up 8 (0 + 8 * (w * 8))) + 8) + 0)

pub given_small : (w : ℕ) → IsGangWidth w → given_bytes w < 9223372036854775808
given_small w gang = each_width (λ n. given_bytes n < 9223372036854775808) (lit< tt) (lit< tt) (lit< tt) w gang

-- what is left of the rounds of a form
abbrev pub rounds_bytes : ℕ → ℕ
rounds_bytes w = up 8 (max 96 (max 16 (max (16 + w * 8) 1)))

pub rounds_small : (w : ℕ) → IsGangWidth w → rounds_bytes w < 9223372036854775808
rounds_small w gang = each_width (λ n. rounds_bytes n < 9223372036854775808) (lit< tt) (lit< tt) (lit< tt) w gang
