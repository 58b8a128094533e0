-- Stores to elements of an array: what they work on, and what they leave.
use Rattle.std.proofs.Common.{ℕ, ◌+◌, ◌*◌, ◌<◌, ◌≤◌, false, ◌≡◌, refl, sym, ◌∙◌, ap, subst, arith, List, Some}
use Rattle.std.specs.Prelude.{Result, Ok, Err}
use Rattle.gang_types.specs.declared.places.VarId.{VarId}
use Rattle.gang_types.specs.Lanes.{Lanes, no_lane}
use Rattle.gang_types.specs.Masks.{IsGangWidth, lanes_of}
use Rattle.gang_types.specs.MaskLaws.{gang_width-le}
use Rattle.gang_model.specs.Types.Tree.{Expr, StepNumber, Function}
use Rattle.gang_model.specs.Running.Lanes.{Fault as ModelFault, ◌>>=◌, at, try_each}
use Rattle.gang_model.specs.Running.State.{State, View}
use Rattle.gang_model.specs.Running.Value.{element, value}
use Rattle.undo_log.specs.History.{History}
use Rattle.undo_log.specs.declared.timeline.Undone.TheVariants as undone
use Rattle.gang_memory.specs.Elements.{stored}
use Rattle.gang_memory.specs.Parts.{AreWithin}
use Rattle.mask_states.specs.Points.{Point}
use Rattle.machine_states.specs.ArrayParts.{AreMemory, IsInside, ReadsElements, array_region, view_at}
use Rattle.machine_states.specs.Cells.{words_set}
use Rattle.machine_states.specs.Effects.{sent_on, stored_in, stored_region}
use Rattle.machine_states.specs.Regions.{Region, Regions}
use Rattle.machine_states.specs.Steps.{waiting_in}
use Rattle.machine_states.proofs.ArrayViews.{view_inside}
use Rattle.machine_words.specs.declared.words.MachineWords.{MachineWords}
use Rattle.machine_words.specs.Words.{AreLaid, Writes, left_of, regions_in}
use Rattle.frame_steps.specs.declared.active.Active.{Active}
use Rattle.frame_steps.specs.declared.compiled.CompiledProgram.{CompiledProgram}
use Rattle.frame_steps.specs.Elements.{reached_in}
use Rattle.frame_steps.specs.Standing.{AreSound, Begins, IsActive, Records}
use Rattle.frame_steps.proofs.Standings.{IsUnderWay, begun, begun_laid, begun_regions, may_write, recorded_so_far, step_within}
use Rattle.frame_steps.specs.Written.{MaySend}
use Rattle.frame_steps.proofs.SentSteps.{Sends, may_send, sent_so, wrote_so}

-- ---- what a store works on

same_fault : {A : Type 0} (found fault : ModelFault) → ◌≡◌ {A = Result A ModelFault} (Err found) (Err fault) → found ≡ fault
same_fault found fault e = cc

same_answer : {A : Type 0} (found answer : A) → ◌≡◌ {A = Result A ModelFault} (Ok found) (Ok answer) → found ≡ answer
same_answer found answer e = cc

module _ (view : View) (index e : Expr) (lanes : Lanes) (state : State) where
  abbrev elements_at : List ℕ → Result (List ℕ) ModelFault
  elements_at x = try_each lanes (λ k. element state view (at x k))

  abbrev with_elements : (x y : List ℕ) → Result (List ℕ) ModelFault → Result (List ℕ × List ℕ × List ℕ) ModelFault
  with_elements x y r = r >>= λ old. Ok (x, y, old)

  abbrev with_values : (x : List ℕ) → Result (List ℕ) ModelFault → Result (List ℕ × List ℕ × List ℕ) ModelFault
  with_values x r = r >>= λ y. with_elements x y (elements_at x)

  abbrev with_indices : Result (List ℕ) ModelFault → Result (List ℕ × List ℕ × List ℕ) ModelFault
  with_indices r = r >>= λ x. with_values x (value e lanes state)

  pub reached_index : (r : Result (List ℕ) ModelFault) → value index lanes state ≡ r → reached_in view index e lanes state ≡ with_indices r
  reached_index r is = ap with_indices is

  module _ (x : List ℕ) (index_is : value index lanes state ≡ Ok x) where
    pub reached_value : (r : Result (List ℕ) ModelFault) → value e lanes state ≡ r → reached_in view index e lanes state ≡ with_values x r
    reached_value r is = ap with_indices index_is ∙ ap (with_values x) is

    pub reached_elements : (y : List ℕ) → value e lanes state ≡ Ok y → (r : Result (List ℕ) ModelFault) → try_each lanes (λ k. element state view (at x k)) ≡ r
        → reached_in view index e lanes state ≡ with_elements x y r
    reached_elements y value_is r is = reached_value (Ok y) value_is ∙ ap (with_elements x y) is

  -- a fault is the first of these
  pub by_fault : (P : Type 0) (fault : ModelFault) → (value index lanes state ≡ Err fault → P)
      → ((x : List ℕ) → value index lanes state ≡ Ok x → value e lanes state ≡ Err fault → P)
      → ((x y : List ℕ) → value index lanes state ≡ Ok x → value e lanes state ≡ Ok y → try_each lanes (λ k. element state view (at x k)) ≡ Err fault → P)
      → reached_in view index e lanes state ≡ Err fault → P
  by_fault P fault of_index of_value of_element is = by_index (value index lanes state) refl is
    where
      by_element : (x y : List ℕ) → value index lanes state ≡ Ok x → value e lanes state ≡ Ok y → (r : Result (List ℕ) ModelFault) → elements_at x ≡ r → with_elements x y r ≡ Err fault → P
      by_element x y p q (Ok old) o h = absurd cc
      by_element x y p q (Err found) o h = of_element x y p q (o ∙ ap Err (same_fault found fault h))

      by_value : (x : List ℕ) → value index lanes state ≡ Ok x → (r : Result (List ℕ) ModelFault) → value e lanes state ≡ r → with_values x r ≡ Err fault → P
      by_value x p (Ok y) q h = by_element x y p q (elements_at x) refl h
      by_value x p (Err found) q h = of_value x p (q ∙ ap Err (same_fault found fault h))

      by_index : (r : Result (List ℕ) ModelFault) → value index lanes state ≡ r → with_indices r ≡ Err fault → P
      by_index (Ok x) p h = by_value x p (value e lanes state) refl h
      by_index (Err found) p h = of_index (p ∙ ap Err (same_fault found fault h))

  -- all were reached
  pub record AreReached (x y old : List ℕ) : Type 0 where
    pub index_is : value index lanes state ≡ Ok x
    pub value_is : value e lanes state ≡ Ok y
    pub elements_are : try_each lanes (λ k. element state view (at x k)) ≡ Ok old

  pub are_reached : (x y old : List ℕ) → reached_in view index e lanes state ≡ Ok (x, y, old) → AreReached x y old
  are_reached x y old is = by_index (value index lanes state) refl is
    where
      by_element : (a b : List ℕ) → value index lanes state ≡ Ok a → value e lanes state ≡ Ok b → (r : Result (List ℕ) ModelFault) → elements_at a ≡ r → with_elements a b r ≡ Ok (x, y, old) → AreReached x y old
      by_element a b p q (Ok c) o h =
          let same = same_answer (a, b, c) (x, y, old) h in
          record {
            index_is = p ∙ ap (λ (t : List ℕ × List ℕ × List ℕ). Ok t.0) same;
            value_is = q ∙ ap (λ (t : List ℕ × List ℕ × List ℕ). Ok t.1) same;
            elements_are = ap (λ (t : List ℕ × List ℕ × List ℕ). elements_at t.0) (sym same) ∙ o ∙ ap (λ (t : List ℕ × List ℕ × List ℕ). Ok t.2) same;
          }
      by_element a b p q (Err found) o h = absurd cc

      by_value : (a : List ℕ) → value index lanes state ≡ Ok a → (r : Result (List ℕ) ModelFault) → value e lanes state ≡ r → with_values a r ≡ Ok (x, y, old) → AreReached x y old
      by_value a p (Ok b) q h = by_element a b p q (elements_at a) refl h
      by_value a p (Err found) q h = absurd cc

      by_index : (r : Result (List ℕ) ModelFault) → value index lanes state ≡ r → with_indices r ≡ Ok (x, y, old) → AreReached x y old
      by_index (Ok a) p h = by_value a p (value e lanes state) refl h
      by_index (Err found) p h = absurd cc

-- what a read of elements says of a state with these arrays
pub read_at : (regions : Regions) (frame : ℕ) (array : VarId) (view : View) → view ≡ view_at regions frame array → (lanes : Lanes) (x : List ℕ) (r : Result (List ℕ) ModelFault)
    → ReadsElements regions view lanes (at x) r → (state : State) → AreMemory regions state.memory → try_each lanes (λ k. element state (view_at regions frame array) (at x k)) ≡ r
read_at regions frame array view is lanes x r reads state memory = ap (λ v. try_each lanes (λ k. element state v (at x k))) (sym is) ∙ sym (reads state memory)

-- ---- where elements are read and stored to

-- what is asked where elements are read
abbrev pub MayRead : {T : Type 0} → (history : T → History) → (width : ℕ) → View → MachineWords T → Type 0
MayRead history width view machine = (width * 8 < 9223372036854775808) × (IsGangWidth width × (AreLaid history width machine × IsInside (regions_in history width machine) view))

-- what is asked where elements are stored to
abbrev pub MayStore : {T : Type 0} → (history : T → History) → (left : T → ℕ) → (width : ℕ) → View → Lanes → (indices : List ℕ) → MachineWords T → Type 0
MayStore history left width view lanes indices machine =
    (width * 8 < 9223372036854775808) × (IsGangWidth width × (AreLaid history width machine × (IsInside (regions_in history width machine) view
    × ((no_lane lanes ≡ false) × (AreWithin lanes indices view.len × (width ≤ left_of history left machine))))))

module _ {T : Type 0} (history : T → History) (width : ℕ) (compiled : CompiledProgram) (old : MachineWords T) (sound : AreSound history width compiled old) where
  wide : width * 8 < 9223372036854775808
  wide = omega (arith, gang_width-le width sound.lie.gang)

  -- a part that a name stands for lies in its array
  pub part_inside : (frame : ℕ) (array : VarId) (view : View) → view ≡ view_at (regions_in history width old) frame array → IsInside (regions_in history width old) view
  part_inside frame array view is = subst (IsInside (regions_in history width old)) (sym is) (view_inside (regions_in history width old) frame array)

  pub may_read : (frame : ℕ) (array : VarId) (view : View) → view ≡ view_at (regions_in history width old) frame array → MayRead history width view old
  may_read frame array view is = (wide, (sound.lie.gang, (sound.lie.laid, part_inside frame array view is)))

  module _ (left : T → ℕ) (active : Active) (f : Function) (point : Point) (here : IsActive width compiled (regions_in history width old) active f (Some point)) (both : width + width ≤ words_set width point)
      (some : no_lane (lanes_of width active.lanes) ≡ false)
      (array : VarId) (view : View) (is : view ≡ view_at (regions_in history width old) active.frame array) (mid : MachineWords T) (begins : Begins history left width undone.Step old mid) where
    abbrev regions : Regions
    regions = regions_in history width old

    abbrev lanes : Lanes
    lanes = lanes_of width active.lanes

    opened : IsUnderWay history left width undone.Step (regions_in history width old) 0 old mid
    opened = begun history left width compiled undone.Step old mid sound.lie begins

    pub may_store : (indices : List ℕ) → AreWithin (lanes_of width active.lanes) indices view.len → MayStore history left width view (lanes_of width active.lanes) indices mid
    may_store indices there = (
      wide,
      (
        sound.lie.gang,
        (
          begun_laid history left width compiled undone.Step old mid sound.lie begins,
          (
            subst (λ r. IsInside r view) (sym (begun_regions history left width compiled undone.Step old mid sound.lie begins)) (part_inside active.frame array view is),
            (
              some,
              (
                there,
                may_write history left width undone.Step regions 0 old mid opened width (omega (arith, both, step_within history width compiled old sound.lie active f point here)),
              ),
            ),
          ),
        ),
      ),
    )

    module _ (x y : List ℕ) (put : MachineWords T)
        (made : Writes history left width (array_region view.array) (stored view.first (lanes_of width active.lanes) x y (regions_in history width mid (array_region view.array))) width mid put) where
      is_put : IsUnderWay history left width undone.Step (stored_in view (lanes_of width active.lanes) x y regions) (0 + width) old put
      is_put =
          wrote_so history left width regions 0 old mid put opened (array_region view.array) (array_region view.array) refl
          (stored view.first lanes x y) (stored_region view lanes x y) (λ ws. refl) width made

      pub stored_may_send : MaySend history left width active.frame active.level active.lanes put
      stored_may_send = may_send history left width compiled old sound active f point here (stored_in view lanes x y regions) (0 + width) put is_put (omega (arith, both)) some

      module _ (next : StepNumber) (new : MachineWords T) (sends : Sends history left width active.frame active.level active.lanes (λ k. next) put new) where
        sent : IsUnderWay history left width undone.Step (sent_on active.frame active.level (waiting_in regions active.frame active.level active.step) (λ k. next) (stored_in view lanes x y regions)) (0 + width + width) old new
        sent = sent_so history left width compiled old sound active f point here (stored_in view lanes x y regions) (0 + width) put is_put (omega (arith, both)) new (λ k. next) sends

        pub stored_regions : (region : Region) → regions_in history width new region
            ≡ sent_on active.frame active.level (lanes_of width active.lanes) (λ k. next) (stored_in view (lanes_of width active.lanes) x y (regions_in history width old)) region
        stored_regions region = sent.regions_are region ∙ ap (λ l. sent_on active.frame active.level l (λ k. next) (stored_in view lanes x y regions) region) (sym here.lanes)

        pub stored_records : Records history width undone.Step old new
        stored_records =
            recorded_so_far history left width undone.Step (sent_on active.frame active.level (waiting_in regions active.frame active.level active.step) (λ k. next) (stored_in view lanes x y regions)) (0 + width + width) old new sent
