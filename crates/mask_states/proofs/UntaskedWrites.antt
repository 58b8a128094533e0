-- What is written, delivered and left is the same with tasks and without.
use Rattle.std.proofs.Common.{◌≡◌, refl, sym, ap, ◌∙◌, ℕ, suc, List, [], ◌∷◌, ◌++◌, Option, Some, None}
use Rattle.std.specs.Prelude.{map, length, slice_get}
use Rattle.gang_types.specs.declared.types.Rate.{Rate}
use Rattle.gang_types.specs.declared.types.IntType.{IntType}
use Rattle.gang_types.specs.declared.types.IntType.TheVariants as t
use Rattle.gang_types.specs.declared.places.VarId.{VarId}
use Rattle.gang_types.specs.declared.places.VarId.TheVariants.{File, Local}
use Rattle.gang_types.specs.Values.{converted}
use Rattle.gang_types.specs.Lanes.{Lanes}
use Rattle.gang_model.specs.Running.Lanes.{each, at, members}
use Rattle.gang_model.specs.Types.Tree.{ResultFor, Nothing, Declares, Assigns, Returns, Function, Program}
use Rattle.gang_model.specs.Running.State.{Store, Task, Frame, State, words_in, with_first, on_top, with_var, with_words_in, seen, assigned_words}
use Rattle.gang_model.specs.Running.Step.{settled, settle, with_tasks, first_do, returned, Written, ToVar, ToElements, write, returned_on, deliver, left, leave, with_store, packed}
use Rattle.mask_states.specs.MaskedStep.{untasked_frame, untasked}
use Rattle.mask_states.proofs.UntaskedValues.{untasked_words}

-- ---- frames and the top one

pub untasked_frames_twice : (frames : List Frame) → map untasked_frame (map untasked_frame frames) ≡ map untasked_frame frames
untasked_frames_twice [] = refl
untasked_frames_twice (frame ∷ frames) = ap (λ rest. untasked_frame frame ∷ rest) (untasked_frames_twice frames)

pub untasked_twice : (s : State) → untasked (untasked s) ≡ untasked s
untasked_twice s = ap (λ frames. record s { frames = frames }) (untasked_frames_twice s.frames)

pub untasked_length : (frames : List Frame) → length (map untasked_frame frames) ≡ length frames
untasked_length [] = refl
untasked_length (frame ∷ frames) = ap suc (untasked_length frames)

-- a change that does not look at tasks and puts none
pub untasked_first : (change : Frame → Frame) → ((frame : Frame) → untasked_frame (change frame) ≡ change (untasked_frame frame)) → (frames : List Frame) → map untasked_frame (with_first change frames) ≡ with_first change (map untasked_frame frames)
untasked_first change same [] = refl
untasked_first change same (frame ∷ frames) = ap (λ first. first ∷ map untasked_frame frames) (same frame)

pub untasked_on_top : (change : Frame → Frame) → ((frame : Frame) → untasked_frame (change frame) ≡ change (untasked_frame frame)) → (s : State) → untasked (on_top change s) ≡ on_top change (untasked s)
untasked_on_top change same s = ap (λ frames. record s { frames = frames }) (untasked_first change same s.frames)

-- a change of the tasks alone
pub untasked_first_tasks : (change : List Task → List Task) (frames : List Frame) → map untasked_frame (with_first (with_tasks change) frames) ≡ map untasked_frame frames
untasked_first_tasks change [] = refl
untasked_first_tasks change (frame ∷ frames) = refl

pub untasked_tasks : (change : List Task → List Task) (s : State) → untasked (on_top (with_tasks change) s) ≡ untasked s
untasked_tasks change s = ap (λ frames. record s { frames = frames }) (untasked_first_tasks change s.frames)

pub untasked_settle : (s : State) → untasked (settle s) ≡ untasked s
untasked_settle s = untasked_tasks settled s

pub untasked_first_do : (tasks : List Task) (s : State) → untasked (first_do tasks s) ≡ untasked s
untasked_first_do tasks s = untasked_tasks (λ rest. tasks ++ rest) s

-- ---- writes

pub untasked_with_words : (s : State) (v : VarId) (words : List ℕ) → untasked (with_words_in s v words) ≡ with_words_in (untasked s) v words
untasked_with_words s (File n) words = refl
untasked_with_words s (Local n) words = untasked_on_top (with_var (Local n) words) (λ frame. refl) s

-- a write whose words come from the variable's old ones
pub untasked_change_words : (s : State) (v : VarId) (change : List ℕ → List ℕ) → untasked (with_words_in s v (change (words_in s v))) ≡ with_words_in (untasked s) v (change (words_in (untasked s) v))
untasked_change_words s v change =
    untasked_with_words s v (change (words_in s v)) ∙ ap (λ old. with_words_in (untasked s) v (change old)) (sym (untasked_words s v))

pub untasked_write : (written : Written) (lanes : Lanes) (values : List ℕ) (s : State) → untasked (write written lanes values s) ≡ write written lanes values (untasked s)
untasked_write (ToVar v) lanes values s = untasked_change_words s v.id (assigned_words v.rate lanes values)
untasked_write (ToElements view indices) lanes values s = refl

pub untasked_store : (store : Store) (s : State) → untasked (with_store store s) ≡ with_store store (untasked s)
untasked_store [] s = refl
untasked_store (entry ∷ store) s =
    untasked_store store (with_words_in s entry.0 entry.1) ∙ ap (with_store store) (untasked_with_words s entry.0 entry.1)

-- ---- results

pub untasked_returned : (rate : Rate) (lanes : Lanes) (values : List ℕ) (frame : Frame) → untasked_frame (returned rate lanes values frame) ≡ returned rate lanes values (untasked_frame frame)
untasked_returned rate lanes values frame = refl

pub untasked_returned_on : (f : Option Function) (type : IntType) (lanes : Lanes) (values : List ℕ) (frame : Frame) → untasked_frame (returned_on f type lanes values frame) ≡ returned_on f type lanes values (untasked_frame frame)
untasked_returned_on None type lanes values frame = refl
untasked_returned_on (Some f) type lanes values frame = refl

pub untasked_deliver : (p : Program) (type : IntType) (for : ResultFor) (lanes : Lanes) (values : List ℕ) (s : State) → untasked (deliver p type for lanes values s) ≡ deliver p type for lanes values (untasked s)
untasked_deliver p type Nothing lanes values s = refl
untasked_deliver p type (Declares v) lanes values s = untasked_with_words s v.id _
untasked_deliver p type (Assigns v) lanes values s =
    untasked_change_words s v.id (assigned_words v.rate lanes (each lanes (λ k. converted type v.type (at values k))))
untasked_deliver p type Returns lanes values s =
    untasked_on_top (λ frame. returned_on (slice_get p.functions frame.function) type lanes values frame)
    (λ frame. untasked_returned_on (slice_get p.functions frame.function) type lanes values frame) s

pub untasked_packed : (p : Program) (for : ResultFor) (lanes : Lanes) (s : State) → untasked (packed p for lanes s) ≡ packed p for lanes (untasked s)
untasked_packed p for lanes s = untasked_deliver p t.Int32 for lanes (each lanes (λ k. length (members lanes))) s

pub untasked_left : (p : Program) (f : Option Function) (frame : Frame) (s : State) → left p f (untasked_frame frame) (untasked s) ≡ untasked (left p f frame s)
untasked_left p None frame s = refl
untasked_left p (Some f) frame s = sym (untasked_deliver p f.result_type frame.result_for frame.lanes (seen f.result frame.lanes frame.result) s)

pub untasked_leave : (p : Program) (frame : Frame) (s : State) → leave p (untasked_frame frame) (untasked s) ≡ untasked (leave p frame s)
untasked_leave p frame s = untasked_left p (slice_get p.functions frame.function) frame s
