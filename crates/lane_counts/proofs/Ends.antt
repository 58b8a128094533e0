-- A tally before the first step, and behind the last one.
use Rattle.std.proofs.Common.{◌≡◌, refl, ap, ◌∙◌, ℕ, zero, suc, ◌+◌, Bool, true, List, [], None, arith}
use Rattle.std.specs.Prelude.{◌==◌}
use Rattle.foreach_forms.specs.declared.forms.Form.{Form}
use Rattle.lane_counts.specs.declared.counts.Counts.{Counts}
use Rattle.lane_counts.specs.declared.tally.Tally.{Tally}
use Rattle.lane_counts.specs.Counted.{counts_at, none}
use Rattle.lane_counts.specs.Formed.{is_inside, is_round}
use Rattle.lane_counts.specs.Steps.{Stand, at_line, called, each, in_frame, in_function, lane_steps, partings, short_steps, steps}
use Rattle.lane_counts.specs.Tallies.{IsBegun, all_with, calls_with, counts_of, inside_with, line_with, own_with, rounds_with, unparted_of, unparted_with, whole_with, with_later}
use Rattle.lane_counts.proofs.Noting.{same_counts}
use Rattle.lane_counts.proofs.Parting.{nothing_left}

from_none : (chosen : Stand → Bool) (stands : List Stand) → with_later none 0 chosen stands ≡ counts_of chosen stands
from_none chosen stands =
    same_counts (0 + steps chosen stands) (0 + lane_steps chosen stands) (0 + short_steps chosen stands) (0 + 0 + partings chosen stands)
    (steps chosen stands) (lane_steps chosen stands) (short_steps chosen stands) (partings chosen stands) (omega arith) (omega arith) (omega arith) (omega arith)

to_none : (c : Counts) (decided : ℕ) (chosen : Stand → Bool) → decided ≡ 0 → with_later c decided chosen [] ≡ c
to_none c decided chosen h =
    same_counts (c.steps + 0) (c.lane_steps + 0) (c.short_steps + 0) (c.partings + decided + 0) c.steps c.lane_steps c.short_steps c.partings (omega arith) (omega arith) (omega arith) (omega (arith, h))

from_unparted : (chosen : Stand → Bool) (stands : List Stand) → unparted_with none chosen stands ≡ unparted_of chosen stands
from_unparted chosen stands =
    same_counts (0 + steps chosen stands) (0 + lane_steps chosen stands) (0 + short_steps chosen stands) 0
    (steps chosen stands) (lane_steps chosen stands) (short_steps chosen stands) 0 (omega arith) (omega arith) (omega arith) refl

to_unparted : (c : Counts) (chosen : Stand → Bool) → unparted_with c chosen [] ≡ c
to_unparted c chosen =
    same_counts (c.steps + 0) (c.lane_steps + 0) (c.short_steps + 0) c.partings c.steps c.lane_steps c.short_steps c.partings (omega arith) (omega arith) (omega arith) refl

at_nothing : (line : ℕ) → counts_at [] line ≡ none
at_nothing zero = refl
at_nothing (suc line) = refl

begun_at : (rows : List Counts) (number : ℕ) → rows ≡ [] → counts_at rows number ≡ none
begun_at rows number is = ap (λ r. counts_at r number) is ∙ at_nothing number

begun_from : (c : Counts) (decided : ℕ) (chosen : Stand → Bool) (stands : List Stand) → c ≡ none → decided ≡ 0 → with_later c decided chosen stands ≡ counts_of chosen stands
begun_from c decided chosen stands is quiet = ap (λ x. with_later x decided chosen stands) is ∙ ap (λ n. with_later none n chosen stands) quiet ∙ from_none chosen stands

module _ (tally : Tally) where
  module _ (begun : IsBegun tally) where
    pub line_begun : (line : ℕ) (stands : List Stand) → line_with tally line stands ≡ counts_of (at_line line) stands
    line_begun line stands = begun_from _ _ (at_line line) stands (begun_at tally.lines.rows.items line begun.lines) (begun.frames _ stands)

    pub own_begun : (number : ℕ) (name : List ℕ) (stands : List Stand) → own_with tally number name stands ≡ counts_of (in_function name) stands
    own_begun number name stands = begun_from _ _ (in_function name) stands (begun_at tally.own.rows.items number begun.own) (begun.frames _ stands)

    pub all_begun : (stands : List Stand) → all_with tally stands ≡ counts_of each stands
    all_begun stands = begun_from _ _ each stands begun.all (begun.frames (λ last. true) stands)

    pub whole_begun : (number : ℕ) (name : List ℕ) (stands : List Stand) → whole_with tally number name stands ≡ unparted_of (in_frame name) stands
    whole_begun number name stands =
        ap (λ c. unparted_with c (in_frame name) stands) (begun_at tally.whole.rows.items number begun.whole) ∙ from_unparted (in_frame name) stands

    pub calls_begun : (number : ℕ) (name : List ℕ) (stands : List Stand) → calls_with tally number name stands ≡ unparted_of (in_function name) (called None stands)
    calls_begun number name stands =
        ap (λ before. unparted_with (counts_at tally.calls.rows.items number) (in_function name) (called before stands)) begun.last_depth
        ∙ ap (λ c. unparted_with c (in_function name) (called None stands)) (begun_at tally.calls.rows.items number begun.calls) ∙ from_unparted (in_function name) (called None stands)

    pub rounds_begun : (number : ℕ) (form : Form) (stands : List Stand) → rounds_with tally number form stands ≡ unparted_of (λ stand. is_round form stand.spot) stands
    rounds_begun number form stands =
        ap (λ c. unparted_with c (λ stand. is_round form stand.spot) stands) (begun_at tally.forms.rounds.rows.items number begun.rounds) ∙ from_unparted (λ stand. is_round form stand.spot) stands

    pub inside_begun : (number : ℕ) (form : Form) (stands : List Stand) → inside_with tally number form stands ≡ unparted_of (λ stand. is_inside form stand.spot) stands
    inside_begun number form stands =
        ap (λ c. unparted_with c (λ stand. is_inside form stand.spot) stands) (begun_at tally.forms.inside.rows.items number begun.inside) ∙ from_unparted (λ stand. is_inside form stand.spot) stands

  pub line_done : (line : ℕ) → line_with tally line [] ≡ counts_at tally.lines.rows.items line
  line_done line = to_none (counts_at tally.lines.rows.items line) _ (at_line line) (nothing_left (λ last. last.line == line) 1 tally.frames.lasts.items)

  pub own_done : (number : ℕ) (name : List ℕ) → own_with tally number name [] ≡ counts_at tally.own.rows.items number
  own_done number name = to_none (counts_at tally.own.rows.items number) _ (in_function name) (nothing_left (λ last. last.function == number) 1 tally.frames.lasts.items)

  pub all_done : all_with tally [] ≡ tally.all
  all_done = to_none tally.all _ each (nothing_left (λ last. true) 1 tally.frames.lasts.items)

  pub whole_done : (number : ℕ) (name : List ℕ) → whole_with tally number name [] ≡ counts_at tally.whole.rows.items number
  whole_done number name = to_unparted (counts_at tally.whole.rows.items number) (in_frame name)

  pub calls_done : (number : ℕ) (name : List ℕ) → calls_with tally number name [] ≡ counts_at tally.calls.rows.items number
  calls_done number name = to_unparted (counts_at tally.calls.rows.items number) (in_function name)

  pub rounds_done : (number : ℕ) (form : Form) → rounds_with tally number form [] ≡ counts_at tally.forms.rounds.rows.items number
  rounds_done number form = to_unparted (counts_at tally.forms.rounds.rows.items number) (λ stand. is_round form stand.spot)

  pub inside_done : (number : ℕ) (form : Form) → inside_with tally number form [] ≡ counts_at tally.forms.inside.rows.items number
  inside_done number form = to_unparted (counts_at tally.forms.inside.rows.items number) (λ stand. is_inside form stand.spot)
