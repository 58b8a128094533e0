-- Statements that put no tasks: what they do to the state without its tasks, and to the tasks.
use Rattle.std.proofs.Common.{◌≡◌, ◌⊎◌, inl, inr, refl, sym, ap, ◌∙◌, subst, ℕ, List, [], ◌∷◌, Some}
use Rattle.std.specs.Prelude.{Ok, Err, IfOk, slice_get, if◌then◌else◌}
use Rattle.gang_types.specs.declared.faults.FaultName.TheVariants.{Assert}
use Rattle.gang_types.specs.Values.{converted, binary_result}
use Rattle.gang_types.specs.Lanes.{Lanes}
use Rattle.gang_model.specs.Running.Lanes.{each, try_each, at, holds}
use Rattle.gang_model.specs.Running.Library.{rank}
use Rattle.gang_model.specs.Types.Tree.{ResultFor, Nothing, Declares, Assigns, Returns, Stmt, Declare, Assign, Change, Return, Check, PackedStore, PackedLoad, Function, Program}
use Rattle.gang_model.specs.Running.State.{Frame, State, view_of, with_first, declared_words}
use Rattle.gang_model.specs.Running.Value.{value, element}
use Rattle.gang_model.specs.Running.Step.{initial, Written, ToVar, ToElements, reached, old_values, write, part, packed, returned, result_rate, run}
use Rattle.mask_states.specs.MaskedStep.{untasked}
use Rattle.mask_states.proofs.ResultLaws.{map_ok, bind_mapped}
use Rattle.mask_states.proofs.UntaskedValues.{untasked_value, untasked_initial, untasked_reached, untasked_old_values, untasked_part_of}
use Rattle.mask_states.proofs.UntaskedWrites.{untasked_on_top, untasked_with_words, untasked_write, untasked_packed}
use Rattle.mask_states.proofs.Bones.{bone, bones, bone_left, top_left, TopHasFunction, IsKept, bones_words, bones_write, bones_packed, bones_packed_returned, top_has_function, top_left_at}
use Rattle.gang_model.proofs.LaneWords.{if_ok_after}

-- a statement that puts no task before the others and enters no frame, and no `break` or `continue`
abbrev pub PutsNothing : Stmt → Type 0
PutsNothing (Declare number v init) = Unit {0}
PutsNothing (Assign number target e) = Unit {0}
PutsNothing (Change number target type op in_type e) = Unit {0}
PutsNothing (Return number e) = Unit {0}
PutsNothing (Check number e) = Unit {0}
PutsNothing (PackedStore number array from e for) = Unit {0}
PutsNothing (PackedLoad number array from v for) = Unit {0}
PutsNothing s = ⊥

-- of these the ones that leave the tasks as they are
abbrev pub KeepsTasks : Stmt → Type 0
KeepsTasks (Declare number v init) = Unit {0}
KeepsTasks (Assign number target e) = Unit {0}
KeepsTasks (Change number target type op in_type e) = Unit {0}
KeepsTasks (Check number e) = Unit {0}
KeepsTasks (PackedStore number array from e for) = IsKept for
KeepsTasks (PackedLoad number array from v for) = IsKept for
KeepsTasks s = ⊥

-- a result for the function's own result
abbrev pub IsReturned : ResultFor → Type 0
IsReturned Nothing = ⊥
IsReturned (Declares v) = ⊥
IsReturned (Assigns v) = ⊥
IsReturned Returns = Unit {0}

-- and those whose lanes leave each task of the top frame
abbrev pub LeavesTasks : Stmt → Type 0
LeavesTasks (Return number e) = Unit {0}
LeavesTasks (PackedStore number array from e for) = IsReturned for
LeavesTasks (PackedLoad number array from v for) = IsReturned for
LeavesTasks s = ⊥

pub returned_or_kept : (for : ResultFor) → IsKept for ⊎ IsReturned for
returned_or_kept Nothing = inl tt
returned_or_kept (Declares v) = inl tt
returned_or_kept (Assigns v) = inl tt
returned_or_kept Returns = inr tt

-- each is of one of the two kinds
pub keeps_or_leaves : (s : Stmt) → PutsNothing s → KeepsTasks s ⊎ LeavesTasks s
keeps_or_leaves (Declare number v init) h = inl tt
keeps_or_leaves (Assign number target e) h = inl tt
keeps_or_leaves (Change number target type op in_type e) h = inl tt
keeps_or_leaves (Return number e) h = inr tt
keeps_or_leaves (Check number e) h = inl tt
keeps_or_leaves (PackedStore number array from e for) h = returned_or_kept for
keeps_or_leaves (PackedLoad number array from v for) h = returned_or_kept for
keeps_or_leaves s h = absurd h

-- ---- the state without its tasks

pub run_untasked : (p : Program) (s : Stmt) → PutsNothing s → (lanes : Lanes) (st : State) → run p s lanes (untasked st) ≡ map_ok untasked (run p s lanes st)
run_untasked p (Declare number v init) h lanes st =
    bind_mapped untasked (initial init lanes (untasked st)) (initial init lanes st) _ _ (untasked_initial init lanes st)
    (λ x. ap Ok (sym (untasked_with_words st v.id (declared_words v.rate lanes x))))
run_untasked p (Assign number target e) h lanes st =
    bind_mapped untasked (reached target lanes (untasked st)) (reached target lanes st) _ _ (untasked_reached target lanes st) (λ a.
    bind_mapped untasked (value e lanes (untasked st)) (value e lanes st) _ _ (untasked_value e lanes st) (λ x.
    bind_mapped untasked (old_values a lanes (untasked st)) (old_values a lanes st) _ _ (untasked_old_values a lanes st) (λ old.
    ap Ok (sym (untasked_write a lanes x st)))))
run_untasked p (Change number target type op in_type e) h lanes st =
    bind_mapped untasked (reached target lanes (untasked st)) (reached target lanes st) _ _ (untasked_reached target lanes st) (λ a.
    bind_mapped untasked (value e lanes (untasked st)) (value e lanes st) _ _ (untasked_value e lanes st) (λ y.
    bind_mapped untasked (old_values a lanes (untasked st)) (old_values a lanes st) _ _ (untasked_old_values a lanes st) (λ old.
    bind_mapped untasked (try_each lanes (λ k. binary_result op in_type (converted type in_type (at old k)) (at y k))) (try_each lanes (λ k. binary_result op in_type (converted type in_type (at old k)) (at y k))) _ _ refl (λ x.
    ap Ok (sym (untasked_write a lanes (each lanes (λ k. converted in_type type (at x k))) st))))))
run_untasked p (Return number e) h lanes st =
    bind_mapped untasked (initial e lanes (untasked st)) (initial e lanes st) _ _ (untasked_initial e lanes st)
    (λ x. ap Ok (sym (untasked_on_top (λ frame. returned (result_rate p frame) lanes x frame) (λ frame. refl) st)))
run_untasked p (Check number e) h lanes st =
    bind_mapped untasked (value e lanes (untasked st)) (value e lanes st) _ _ (untasked_value e lanes st) (λ c.
    bind_mapped untasked (try_each lanes (λ k. if holds c k then Ok 0 else Err Assert)) (try_each lanes (λ k. if holds c k then Ok 0 else Err Assert)) _ _ refl (λ passes. refl))
run_untasked p (PackedStore number array from e for) h lanes st =
    bind_mapped untasked (part from (view_of (untasked st) array) lanes (untasked st)) (part from (view_of st array) lanes st) _ _ (untasked_part_of from array lanes st) (λ view.
    bind_mapped untasked (value e lanes (untasked st)) (value e lanes st) _ _ (untasked_value e lanes st) (λ x.
    bind_mapped untasked (try_each lanes (λ k. element st view (rank lanes k))) (try_each lanes (λ k. element st view (rank lanes k))) _ _ refl (λ there.
    ap Ok (sym (untasked_packed p for lanes (write (ToElements view (each lanes (rank lanes))) lanes x st))))))
run_untasked p (PackedLoad number array from v for) h lanes st =
    bind_mapped untasked (part from (view_of (untasked st) array) lanes (untasked st)) (part from (view_of st array) lanes st) _ _ (untasked_part_of from array lanes st) (λ view.
    bind_mapped untasked (try_each lanes (λ k. element st view (rank lanes k))) (try_each lanes (λ k. element st view (rank lanes k))) _ _ refl (λ x.
    ap Ok (sym (untasked_packed p for lanes (write (ToVar v) lanes x st) ∙ ap (packed p for lanes) (untasked_write (ToVar v) lanes x st)))))
run_untasked p s h lanes st = absurd h

-- ---- what stays of the frames

pub bones_run : (p : Program) (s : Stmt) → KeepsTasks s → (lanes : Lanes) (st : State) → IfOk (run p s lanes st) (λ after. bones after.frames ≡ bones st.frames)
bones_run p (Declare number v init) h lanes st = if_ok_after _ (initial init lanes st) _ (λ x. bones_words st v.id _)
bones_run p (Assign number target e) h lanes st =
    if_ok_after _ (reached target lanes st) _ (λ a. if_ok_after _ (value e lanes st) _ (λ x. if_ok_after _ (old_values a lanes st) _ (λ old. bones_write a lanes x st)))
bones_run p (Change number target type op in_type e) h lanes st =
    if_ok_after _ (reached target lanes st) _ (λ a. if_ok_after _ (value e lanes st) _ (λ y. if_ok_after _ (old_values a lanes st) _ (λ old. if_ok_after _ (try_each lanes _) _ (λ x. bones_write a lanes _ st))))
bones_run p (Check number e) h lanes st = if_ok_after _ (value e lanes st) _ (λ c. if_ok_after _ (try_each lanes _) _ (λ passes. refl))
bones_run p (PackedStore number array from e for) h lanes st =
    if_ok_after _ (part from (view_of st array) lanes st) _ (λ view. if_ok_after _ (value e lanes st) _ (λ x. if_ok_after _ (try_each lanes _) _ (λ there.
    bones_packed p for h lanes (write (ToElements view (each lanes (rank lanes))) lanes x st))))
bones_run p (PackedLoad number array from v for) h lanes st =
    if_ok_after _ (part from (view_of st array) lanes st) _ (λ view. if_ok_after _ (try_each lanes _) _ (λ x.
    bones_packed p for h lanes (write (ToVar v) lanes x st) ∙ bones_write (ToVar v) lanes x st))
bones_run p s h lanes st = absurd h

pub bones_returned : (p : Program) (lanes : Lanes) (values : List ℕ) (frames : List Frame) → bones (with_first (λ frame. returned (result_rate p frame) lanes values frame) frames) ≡ top_left lanes (bones frames)
bones_returned p lanes values [] = refl
bones_returned p lanes values (frame ∷ frames) = refl

pub bones_packed_for : (p : Program) (for : ResultFor) → IsReturned for → (lanes : Lanes) (s : State) → TopHasFunction p (bones s.frames) → bones (packed p for lanes s).frames ≡ top_left lanes (bones s.frames)
bones_packed_for p Returns r lanes s h = bones_packed_returned p lanes s h
bones_packed_for p for r lanes s h = absurd r

-- the packed result's lanes leave each task of the top frame also behind a write
pub bones_write_packed : (p : Program) (for : ResultFor) → IsReturned for → (written : Written) (lanes : Lanes) (values : List ℕ) (s : State) → TopHasFunction p (bones s.frames) → bones (packed p for lanes (write written lanes values s)).frames ≡ top_left lanes (bones s.frames)
bones_write_packed p for r written lanes values s h =
    bones_packed_for p for r lanes (write written lanes values s) (subst (TopHasFunction p) (sym (bones_write written lanes values s)) h)
    ∙ ap (top_left lanes) (bones_write written lanes values s)

pub bones_run_left : (p : Program) (s : Stmt) → LeavesTasks s → (lanes : Lanes) (st : State) → TopHasFunction p (bones st.frames) → IfOk (run p s lanes st) (λ after. bones after.frames ≡ top_left lanes (bones st.frames))
bones_run_left p (Return number e) h lanes st t = if_ok_after _ (initial e lanes st) _ (λ x. bones_returned p lanes x st.frames)
bones_run_left p (PackedStore number array from e for) h lanes st t =
    if_ok_after _ (part from (view_of st array) lanes st) _ (λ view. if_ok_after _ (value e lanes st) _ (λ x. if_ok_after _ (try_each lanes _) _ (λ there.
    bones_write_packed p for h (ToElements view (each lanes (rank lanes))) lanes x st t)))
bones_run_left p (PackedLoad number array from v for) h lanes st t =
    if_ok_after _ (part from (view_of st array) lanes st) _ (λ view. if_ok_after _ (try_each lanes _) _ (λ x. bones_write_packed p for h (ToVar v) lanes x st t))
bones_run_left p s h lanes st t = absurd h

-- the same of a state whose top frame is given
pub bones_run_returns : (p : Program) (s : Stmt) → LeavesTasks s → (lanes : Lanes) (st : State) (frame : Frame) (frames : List Frame) (f : Function) → st.frames ≡ frame ∷ frames → slice_get p.functions frame.function ≡ Some f → IfOk (run p s lanes st) (λ after. bones after.frames ≡ bone_left lanes (bone frame) ∷ bones frames)
bones_run_returns p s h lanes st frame frames f e is =
    subst (λ kept. IfOk (run p s lanes st) (λ after. bones after.frames ≡ kept)) (top_left_at lanes frame frames st.frames e)
    (bones_run_left p s h lanes st (top_has_function p f frame frames st.frames e is))
