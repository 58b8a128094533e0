-- What holds of the steps that lanes wait for holds of them after lanes are sent on, and where forms that are over are left out.
use Rattle.std.proofs.Common.{◌≡◌, refl, sym, ap, ◌∙◌, subst, ℕ, zero, suc, ◌<◌, ◌≤◌, Bool, true, false, List, [], ◌∷◌, length, ⊎_elim, slice_get, Some, None, arith}
use Rattle.std.specs.Prelude.{map, if◌then◌else◌}
use Rattle.std.proofs.lemmas.Bool.{cases_lt, eq-eqb}
use Rattle.std.proofs.lemmas.List.{length-map}
use Rattle.std.proofs.lemmas.Option.{slice_get-get_or, slice_get_past, get_or_from_slice_get}
use Rattle.gang_types.specs.Lanes.{Lanes, has}
use Rattle.gang_model.specs.Running.Lanes.{at, merged, words_from}
use Rattle.gang_model.specs.Running.Rounds.{Turn as Round}
use Rattle.gang_model.specs.Types.Tree.{StepNumber, Function}
use Rattle.mask_states.specs.Points.{Point, Turn, entry_of, closing_number, function_ways, points_in}
use Rattle.mask_states.specs.Placed.{HasPoint}
use Rattle.mask_states.specs.Masked.{Level, next_in, next_waiting, sent, sent_in, is_over, closed, begun, entered_body}
use Rattle.mask_states.proofs.LaneNumbers.{length-sent, at-sent_in, length-waiting_for, has-waiting_for, least_at_most, least_below, least_met}
use Rattle.mask_states.proofs.PlacedPoints.{length-points_of}
use Rattle.machine_states.specs.RoundNumbers.{rounds_about}
use Rattle.machine_states.specs.Awaited.{LevelHolds, WaitsInside, EndHolds, LevelsHold}
use Rattle.machine_states.proofs.DeclaredLists.{same_some}

-- ---- numbers in lists

-- an element that is there
pub is_inside : {A : Type 0} (xs : List A) (k : ℕ) (x : A) → slice_get xs k ≡ Some x → k < length xs
is_inside xs k x e = ⊎_elim (λ within. within) (λ past. absurd (none_some x (sym (slice_get_past xs k past) ∙ e))) (cases_lt k (length xs))
  where
    none_some : {A : Type 0} (x : A) → None ≡ Some x → ⊥
    none_some x e = cc

pub number_at : (numbers : List StepNumber) (k : ℕ) → k < length numbers → slice_get numbers k ≡ Some (at numbers k)
number_at numbers k within = slice_get-get_or numbers k 0 within

at_number : (numbers : List StepNumber) (k : ℕ) (number : StepNumber) → slice_get numbers k ≡ Some number → at numbers k ≡ number
at_number numbers k number e = get_or_from_slice_get numbers k number 0 e

-- ---- the next step

-- a lane that waits for the next step
pub record Waits (level : Level) : Type 0 where
  pub lane : ℕ
  pub within : lane < length level.numbers
  pub number : at level.numbers lane ≡ next_in level
  pub waiting : has (next_waiting level) lane ≡ true

pub waits_below : (level : Level) → next_in level < level.end → Waits level
waits_below level h =
    let found = least_met level.end level.numbers h in
    record {
      lane = found.0;
      within = found.1;
      number = found.2;
      waiting = has-waiting_for (next_in level) level.numbers found.0 found.1 ∙ eq-eqb (at level.numbers found.0) (next_in level) found.2;
    }

-- what holds of the steps that lanes wait for holds of the next one
pub next_holds : (P : StepNumber → Type 0) (level : Level) → LevelHolds P level → P (next_in level)
next_holds P level h = ⊎_elim
    (λ below.
    let w : Waits level = waits_below level below in
    h.waits w.lane (next_in level) (number_at level.numbers w.lane w.within ∙ ap Some w.number) below)
    (λ past.
    let at_end : next_in level ≡ level.end = omega (arith, past, least_at_most level.end level.numbers) in
    subst P (sym at_end) (h.ends at_end))
    (cases_lt (next_in level) level.end)

-- a point that is no round of a form
abbrev pub IsNoTurn : Point → Type 0
IsNoTurn (Turn body) = ⊥
IsNoTurn point = Unit {0}

pub no_turn : (point : Point) (body : StepNumber) → IsNoTurn point → Some point ≡ Some (Turn body) → ⊥
no_turn point body unturned e = subst IsNoTurn (same_some point (Turn body) e) unturned

-- stands below the level's end
pub point_below : (P : StepNumber → Type 0) (f : Function) (level : Level) (below : List Level) (point : Point) → EndHolds P f level below → IsNoTurn point
    → HasPoint (points_in f) (next_in level) point → next_in level < level.end
point_below P f level [] point ends unturned h = omega (arith, ends, is_inside (points_in f) (next_in level) point h, length-points_of f.body (function_ways f))
point_below P f level (next ∷ below) point ends unturned h = ⊎_elim
    (λ less. less)
    (λ past.
    let at_end : next_in level ≡ level.end = omega (arith, past, least_at_most level.end level.numbers) in
    absurd (no_turn point ends.1.0 unturned (sym h ∙ ap (slice_get (points_in f)) at_end ∙ ends.1.1)))
    (cases_lt (next_in level) level.end)

-- a form's lanes wait inside it, so the next step, if it is not the rounds, stands inside
pub next_inside : (f : Function) (level : Level) → WaitsInside f level → next_in level < level.end → rounds_about f (next_in level) ≡ Some level.end
next_inside f level h below =
    let w : Waits level = waits_below level below in h w.lane (next_in level) (number_at level.numbers w.lane w.within ∙ ap Some w.number) below

-- ---- lanes are sent on

-- each lane waits for what it did, or for where it was sent
sent_waits : (P : StepNumber → Type 0) (i : ℕ) (lanes : Lanes) (target : ℕ → StepNumber) → ((j : ℕ) → P (target j)) → (numbers : List StepNumber) (k : ℕ) (number : StepNumber)
    → slice_get (merged lanes (words_from i lanes target) numbers) k ≡ Some number → (slice_get numbers k ≡ Some number → P number) → P number
sent_waits P i [] target new numbers k number e old = absurd cc
sent_waits P i (b ∷ lanes) target new [] k number e old = absurd cc
sent_waits P i (true ∷ lanes) target new (n ∷ numbers) zero number e old = subst P (same_some (target i) number e) (new i)
sent_waits P i (false ∷ lanes) target new (n ∷ numbers) zero number e old = old e
sent_waits P i (b ∷ lanes) target new (n ∷ numbers) (suc k) number e old = sent_waits P (suc i) lanes target new numbers k number e old

-- so they wait inside the form that they did, if they are sent there
pub sent_inside : (f : Function) (level : Level) (turns : List Round) (lanes : Lanes) (target : ℕ → StepNumber) → WaitsInside f level → ((j : ℕ) → rounds_about f (target j) ≡ Some level.end)
    → WaitsInside f (record level { turns = turns; numbers = sent lanes target level.numbers })
sent_inside f level turns lanes target h new lane number e below =
    sent_waits (λ m. rounds_about f m ≡ Some level.end) 0 lanes target new level.numbers lane number e (λ is. h lane number is below)

-- what holds past the end holds at it
abbrev pub EndsAt : (P : StepNumber → Type 0) → StepNumber → Type 0
EndsAt P end = (number : StepNumber) → end ≤ number → P number → P end

-- it does so in a form, and in a body where it does at the closing brace
pub ends_at : (P : StepNumber → Type 0) (f : Function) (level : Level) (below : List Level) → EndHolds P f level below → (below ≡ [] → EndsAt P (closing_number f)) → EndsAt P level.end
ends_at P f level [] h closing = subst (EndsAt P) (sym h) (closing refl)
ends_at P f level (next ∷ below) h closing = λ number past holds. h.0

all_closed : {A : Type 0} (end : StepNumber) (xs : List A) (k : ℕ) (number : StepNumber) → slice_get (map (λ x. end) xs) k ≡ Some number → end ≡ number
all_closed end [] k number e = absurd cc
all_closed end (x ∷ xs) zero number e = same_some end number e
all_closed end (x ∷ xs) (suc k) number e = all_closed end xs k number e

pub begun_inside : (f : Function) (rounds : StepNumber) (turns : List Round) (numbers : List StepNumber) → WaitsInside f (begun rounds turns numbers)
begun_inside f rounds turns numbers lane number e below = absurd (omega (arith, below, all_closed rounds numbers lane number e))

module _ (P : StepNumber → Type 0) where
  -- some lanes are sent to steps of which it holds
  pub sent_holds : (level : Level) (lanes : Lanes) (target : ℕ → StepNumber) → length level.numbers ≡ length lanes → EndsAt P level.end
      → ((lane : ℕ) (number : StepNumber) → slice_get level.numbers lane ≡ Some number → number < level.end → P number)
      → (k : ℕ) → has lanes k ≡ true → k < length level.numbers → ((j : ℕ) → P (target j)) → LevelHolds P (sent_in lanes target level)
  sent_holds level lanes target sized ends old k in_lanes within new = record {
    waits = λ lane number e below. sent_waits P 0 lanes target new level.numbers lane number e (λ is. old lane number is below);
    ends = λ e.
        let moved : at (sent_in lanes target level).numbers k ≡ target k = at-sent_in lanes target level.numbers k sized in_lanes in
        let past : level.end ≤ target k =
        omega (arith, e, moved, least_below level.end (sent_in lanes target level).numbers k (omega (arith, within, length-sent lanes target level.numbers sized))) in
        ends (target k) past (new k);
  }

  -- a round begins: its lanes go to the body
  pub turned_holds : (level : Level) (turns : List Round) (lanes : Lanes) (body : StepNumber) → LevelHolds P level → P level.end → P body
      → LevelHolds P (record level { turns = turns; numbers = sent lanes (λ k. body) level.numbers })
  turned_holds level turns lanes body h end new = record {
    waits = λ lane number e below. sent_waits P 0 lanes (λ k. body) (λ j. new) level.numbers lane number e (λ is. h.waits lane number is below);
    ends = λ e. end;
  }

  -- a form begins: all lanes wait for its rounds
  pub begun_holds : (rounds : StepNumber) (turns : List Round) (numbers : List StepNumber) → P rounds → LevelHolds P (begun rounds turns numbers)
  begun_holds rounds turns numbers new = record {
    waits = λ lane number e below. absurd (omega (arith, below, all_closed rounds numbers lane number e));
    ends = λ e. new;
  }

  -- a body begins for some lanes
  pub entered_holds : (f : Function) (lanes : Lanes) → EndsAt P (closing_number f) → (k : ℕ) → has lanes k ≡ true → k < length lanes
      → P (entry_of f.body (closing_number f)) → LevelHolds P (entered_body f lanes)
  entered_holds f lanes ends k in_lanes within new =
      let level : Level = record { end = closing_number f; turns = []; numbers = map (λ b. closing_number f) lanes } in
      let sized : length level.numbers ≡ length lanes = length-map lanes _ in
      sent_holds level lanes (λ j. entry_of f.body (closing_number f)) sized ends
      (λ lane number e low. absurd (omega (arith, low, all_closed (closing_number f) lanes lane number e))) k in_lanes (omega (arith, within, sized)) (λ j. new)

-- the lanes of the next step are sent on, and what held of their old steps becomes what holds of the new ones
pub sent_on_holds : (P Q : StepNumber → Type 0) (level : Level) (target : ℕ → StepNumber) → EndsAt Q level.end → next_in level < level.end → LevelHolds P level
    → ((number : StepNumber) → P number → Q number) → ((j : ℕ) → Q (target j)) → LevelHolds Q (sent_in (next_waiting level) target level)
sent_on_holds P Q level target ends below h kept new =
    let w : Waits level = waits_below level below in
    sent_holds Q level (next_waiting level) target (sym (length-waiting_for (next_in level) level.numbers)) ends
    (λ lane number e low. kept number (h.waits lane number e low)) w.lane w.waiting w.within new

-- ---- the levels of a frame

module _ (P Q : ℕ → StepNumber → Type 0) (f : Function) (kept : (depth : ℕ) (number : StepNumber) → P depth number → Q depth number) where
  pub end_kept : (level : Level) (below : List Level) → EndHolds (P (length below)) f level below → EndHolds (Q (length below)) f level below
  end_kept level [] h = h
  end_kept level (next ∷ below) h = (kept (length (next ∷ below)) level.end h.0, h.1, h.2)

  pub levels_kept : (levels : List Level) → LevelsHold P f levels → LevelsHold Q f levels
  levels_kept [] h = tt
  levels_kept (level ∷ below) h = (
    record { waits = λ lane number e low. kept (length below) number (h.0.waits lane number e low); ends = λ e. kept (length below) level.end (h.0.ends e) },
    end_kept level below h.1,
    levels_kept below h.2,
  )

either : (b : Bool) (P : List Level → Type 0) (front back : List Level) → P front → P back → P (if b then front else back)
either true P front back f g = f
either false P front back f g = g

-- forms that are over are left out
pub closed_holds : (P : ℕ → StepNumber → Type 0) (f : Function) (levels : List Level) → LevelsHold P f levels → LevelsHold P f (closed levels)
closed_holds P f [] h = tt
closed_holds P f (level ∷ []) h = h
closed_holds P f (level ∷ next ∷ below) h = either (is_over level) (LevelsHold P f) (closed (next ∷ below)) (level ∷ next ∷ below) (closed_holds P f (next ∷ below) h.2) h
