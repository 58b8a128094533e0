-- The rounds of a form that is under way set its index variables, and lanes wait for rounds at the end of their level alone.
use Rattle.std.proofs.Common.{◌≡◌, refl, sym, ap, ◌∙◌, subst, ℕ, suc, List, [], ◌∷◌, ◌++◌, length, map, ⊎_elim, arith}
use Rattle.std.specs.Prelude.{flat_map}
use Rattle.std.proofs.lemmas.Bool.{cases_lt}
use Rattle.std.proofs.lemmas.List.{append-nil}
use Rattle.gang_model.specs.Running.Rounds.{Turn as Round, Slots, index_words, turn}
use Rattle.gang_model.specs.Running.RunningOrder.{IsNumbered}
use Rattle.gang_model.specs.Running.State.{Store}
use Rattle.gang_model.specs.Types.Tree.{StepNumber, Dimension, RoundsOf, Rows, Tiles, EachLane, EachValue, Function}
use Rattle.mask_states.specs.Points.{Point, Begin, Turn, points_in}
use Rattle.mask_states.specs.Placed.{HasPoint}
use Rattle.mask_states.specs.Masked.{Level, next_in}
use Rattle.mask_states.proofs.LaneNumbers.{least_at_most}
use Rattle.foreach_lowering.specs.Kept.{Kept, lane_turn, value_turn, turns_left}
use Rattle.machine_states.specs.Variables.{Variables}
use Rattle.machine_states.specs.Awaited.{LevelsHold}
use Rattle.machine_states.specs.Declared.{own_number, declared_by_form, IsAwaited}
use Rattle.machine_states.specs.Levels.{LevelWords, LevelsWords, Forms, form_level, kept_in, levels_in, IsForm, AreForms, ShowsLevels, Innermost}
use Rattle.machine_states.proofs.DeclaredLists.{same_some}
use Rattle.machine_states.proofs.NestedPoints.{turn_nested, turns_inside}
use Rattle.machine_states.proofs.AwaitedLevels.{next_inside, next_holds}
use Rattle.machine_states.proofs.BeginLevels.{forms_kept}
use Rattle.machine_states.proofs.InnermostLevels.{innermost, live_levels}

-- ---- index variables

-- the function's own variables of a store
abbrev pub own_numbers : Store → List ℕ
own_numbers [] = []
own_numbers (entry ∷ store) = own_number entry.0 ++ own_numbers store

index_numbers : (j : ℕ) (ds : List Dimension) (slots : Slots) → own_numbers (index_words j ds slots) ≡ flat_map (λ d. own_number d.index.id) ds
index_numbers j [] slots = refl
index_numbers j (d ∷ ds) slots = ap (λ numbers. own_number d.index.id ++ numbers) (index_numbers (suc j) ds slots)

-- the first of rounds that are made of a list is made of one of its elements
first_of : {A : Type 0} (make : A → Round) (P : Round → Type 0) → ((x : A) → P (make x)) → (xs : List A) (first : Round) (later : List Round) → map make xs ≡ first ∷ later → P first
first_of make P each [] first later e = absurd cc
first_of make P each (x ∷ xs) first later e = let same : make x ≡ first = cc in subst P same (each x)

-- each round of a form sets its index variables
pub left_declares : (form : RoundsOf) (w : ℕ) (kept : Kept) (first : Round) (later : List Round) → turns_left form w kept ≡ first ∷ later → own_numbers first.indices ≡ declared_by_form form
left_declares (Rows ds) w kept first later e = first_of (turn ds) (λ round. own_numbers round.indices ≡ declared_by_form (Rows ds)) (λ slots. index_numbers 0 ds slots) _ first later e
left_declares (Tiles ds) w kept first later e = first_of (turn ds) (λ round. own_numbers round.indices ≡ declared_by_form (Tiles ds)) (λ slots. index_numbers 0 ds slots) _ first later e
left_declares (EachLane x) w kept first later e = first_of (lane_turn x w) (λ round. own_numbers round.indices ≡ own_number x.id) (λ k. append-nil (own_number x.id)) _ first later e
left_declares (EachValue x v) w kept first later e =
    first_of (value_turn x kept.lanes kept.values) (λ round. own_numbers round.indices ≡ own_number x.id) (λ k. append-nil (own_number x.id)) _ first later e

-- ---- levels

-- the innermost of levels is that of a form under way: its rounds are those that are left of the form
pub record IsFormLevel (points : List Point) (level : Level) : Type 0 where
  pub form : RoundsOf
  pub head : StepNumber
  pub next : StepNumber
  pub begins : HasPoint points head (Begin form level.end next)
  pub declares : (first : Round) (later : List Round) → level.turns ≡ first ∷ later → own_numbers first.indices ≡ declared_by_form form

module _ (points : List Point) (w : ℕ) (words : LevelsWords) (end : StepNumber) where
  form_is_level : (form : RoundsOf) (own : LevelWords) → IsForm points w own form → IsFormLevel points (form_level w form own)
  form_is_level form own is = record {
    form = form;
    head = is.head;
    next = is.next;
    begins = is.begins;
    declares = λ first later e. left_declares form w (kept_in w form own) first later e;
  }

  live_form_level : (live : Forms) → AreForms points w words live → (level next : Level) (below : List Level) → level ∷ next ∷ below ≡ levels_in w words end live → IsFormLevel points level
  live_form_level [] are level next below e = absurd cc
  live_form_level (form ∷ forms) are level next below e =
      let same : level ≡ form_level w form (words (suc (length forms))) = cc in subst (IsFormLevel points) (sym same) (form_is_level form (words (suc (length forms))) are.0)

  -- so it is in all levels that words show, but the function's body
  pub shown_form_level : (begun : List ℕ) (level next : Level) (below : List Level) → ShowsLevels points w words begun end (level ∷ next ∷ below) → IsFormLevel points level
  shown_form_level begun level next below shown =
      let i : Innermost w words end shown.forms = innermost w words end shown.forms in
      live_form_level i.live (forms_kept points w words i.over i.live (subst (AreForms points w words) i.parts shown.are)) level next below
      (shown.levels_are ∙ live_levels w words end shown.forms i)

-- ---- where lanes wait for rounds

-- lanes wait for rounds in a form's level, at its end
pub record IsAtEnd (level : Level) (below : List Level) : Type 0 where
  pub next : Level
  pub under : List Level
  pub below_are : below ≡ next ∷ under
  pub at_end : next_in level ≡ level.end

pub turn_at_end : (variables : Variables) (n : ℕ) (f : Function) (vars : Store) → IsNumbered 0 f.body → (level : Level) (below : List Level) → LevelsHold (IsAwaited variables n f vars) f (level ∷ below)
    → (body : StepNumber) → HasPoint (points_in f) (next_in level) (Turn body) → IsAtEnd level below
turn_at_end variables n f vars numbered level [] h body turns =
    absurd (omega (arith, (next_holds (IsAwaited variables n f vars 0) level h.0).nested, turn_nested f numbered (next_in level) body turns))
turn_at_end variables n f vars numbered level (next ∷ under) h body turns = record {
  next = next;
  under = under;
  below_are = refl;
  at_end = ⊎_elim
      (λ less. same_some (next_in level) level.end (sym (turns_inside f numbered (next_in level) body turns) ∙ next_inside f level h.1.2 less))
      (λ past. omega (arith, past, least_at_most level.end level.numbers))
      (cases_lt (next_in level) level.end);
}
