-- What stays of frames while words are written: their functions, lanes, calls and tasks. A result returned in the top frame takes
-- lanes from its tasks.
use Rattle.std.proofs.Common.{◌≡◌, refl, sym, ap, ◌∙◌, subst, ℕ, List, [], ◌∷◌, Option, Some}
use Rattle.std.specs.Prelude.{map, length, slice_get}
use Rattle.gang_types.specs.declared.types.Rate.{Rate}
use Rattle.gang_types.specs.declared.types.IntType.{IntType}
use Rattle.gang_types.specs.declared.types.IntType.TheVariants as t
use Rattle.gang_types.specs.declared.places.VarId.{VarId}
use Rattle.gang_types.specs.declared.places.VarId.TheVariants.{File, Local}
use Rattle.gang_types.specs.Lanes.{Lanes}
use Rattle.gang_model.specs.Running.Lanes.{each, members}
use Rattle.gang_model.specs.Types.Tree.{StepNumber, ResultFor, Nothing, Declares, Assigns, Returns, Function, Program}
use Rattle.gang_model.specs.Running.State.{Store, Task, Frame, State, with_first, with_var, with_words_in}
use Rattle.gang_model.specs.Running.Step.{leaves_task, returned, Written, ToVar, ToElements, write, returned_on, deliver, with_store, packed}

-- a frame but for its words
pub record Bone : Type 0 where
  pub function : ℕ
  pub lanes : Lanes
  pub call : Option StepNumber
  pub result_for : ResultFor
  pub tasks : List Task

abbrev pub bone : Frame → Bone
bone frame = record { function = frame.function; lanes = frame.lanes; call = frame.call; result_for = frame.result_for; tasks = frame.tasks }

abbrev pub bones : List Frame → List Bone
bones frames = map bone frames

-- the frame's tasks without these lanes
abbrev pub bone_left : Lanes → Bone → Bone
bone_left lanes b = record b { tasks = map (leaves_task lanes) b.tasks }

abbrev pub top_left : Lanes → List Bone → List Bone
top_left lanes [] = []
top_left lanes (b ∷ rest) = bone_left lanes b ∷ rest

-- the top frame, if there is one, is of a function of the program
abbrev pub TopHasFunction : Program → List Bone → Type 0
TopHasFunction p [] = Unit {0}
TopHasFunction p (b ∷ rest) = (f : Function) × (slice_get p.functions b.function ≡ Some f)

-- ---- writes

pub bones_first : (change : Frame → Frame) → ((frame : Frame) → bone (change frame) ≡ bone frame) → (frames : List Frame) → bones (with_first change frames) ≡ bones frames
bones_first change same [] = refl
bones_first change same (frame ∷ frames) = ap (λ b. b ∷ bones frames) (same frame)

pub bones_words : (s : State) (v : VarId) (words : List ℕ) → bones (with_words_in s v words).frames ≡ bones s.frames
bones_words s (File n) words = refl
bones_words s (Local n) words = bones_first (with_var (Local n) words) (λ frame. refl) s.frames

pub bones_write : (written : Written) (lanes : Lanes) (values : List ℕ) (s : State) → bones (write written lanes values s).frames ≡ bones s.frames
bones_write (ToVar v) lanes values s = bones_words s v.id _
bones_write (ToElements view indices) lanes values s = refl

pub bones_store : (store : Store) (s : State) → bones (with_store store s).frames ≡ bones s.frames
bones_store [] s = refl
bones_store (entry ∷ store) s = bones_store store (with_words_in s entry.0 entry.1) ∙ bones_words s entry.0 entry.1

-- ---- results

-- a result that is not for the function's own result
abbrev pub IsKept : ResultFor → Type 0
IsKept Nothing = Unit {0}
IsKept (Declares v) = Unit {0}
IsKept (Assigns v) = Unit {0}
IsKept Returns = ⊥

pub bones_deliver : (p : Program) (type : IntType) (for : ResultFor) → IsKept for → (lanes : Lanes) (values : List ℕ) (s : State) → bones (deliver p type for lanes values s).frames ≡ bones s.frames
bones_deliver p type Nothing kept lanes values s = refl
bones_deliver p type (Declares v) kept lanes values s = bones_words s v.id _
bones_deliver p type (Assigns v) kept lanes values s = bones_words s v.id _
bones_deliver p type Returns kept lanes values s = absurd kept

pub bones_packed : (p : Program) (for : ResultFor) → IsKept for → (lanes : Lanes) (s : State) → bones (packed p for lanes s).frames ≡ bones s.frames
bones_packed p for kept lanes s = bones_deliver p t.Int32 for kept lanes (each lanes (λ k. length (members lanes))) s

-- the lanes that return leave each task of the top frame
pub bone_returned : (rate : Rate) (lanes : Lanes) (values : List ℕ) (frame : Frame) → bone (returned rate lanes values frame) ≡ bone_left lanes (bone frame)
bone_returned rate lanes values frame = refl

pub bone_returned_on : (o : Option Function) (f : Function) → o ≡ Some f → (type : IntType) (lanes : Lanes) (values : List ℕ) (frame : Frame) → bone (returned_on o type lanes values frame) ≡ bone_left lanes (bone frame)
bone_returned_on o f is type lanes values frame = ap (λ z. bone (returned_on z type lanes values frame)) is

pub bones_delivered_first : (p : Program) (type : IntType) (lanes : Lanes) (values : List ℕ) (frames : List Frame) → TopHasFunction p (bones frames) → bones (with_first (λ frame. returned_on (slice_get p.functions frame.function) type lanes values frame) frames) ≡ top_left lanes (bones frames)
bones_delivered_first p type lanes values [] h = refl
bones_delivered_first p type lanes values (frame ∷ frames) h =
    ap (λ b. b ∷ bones frames) (bone_returned_on (slice_get p.functions frame.function) h.0 h.1 type lanes values frame)

pub bones_delivered : (p : Program) (type : IntType) (lanes : Lanes) (values : List ℕ) (s : State) → TopHasFunction p (bones s.frames) → bones (deliver p type Returns lanes values s).frames ≡ top_left lanes (bones s.frames)
bones_delivered p type lanes values s h = bones_delivered_first p type lanes values s.frames h

pub bones_packed_returned : (p : Program) (lanes : Lanes) (s : State) → TopHasFunction p (bones s.frames) → bones (packed p Returns lanes s).frames ≡ top_left lanes (bones s.frames)
bones_packed_returned p lanes s h = bones_delivered p t.Int32 lanes (each lanes (λ k. length (members lanes))) s h

-- ---- the same of a state whose top frame is given

pub top_has_function : (p : Program) (f : Function) (frame : Frame) (frames all : List Frame) → all ≡ frame ∷ frames → slice_get p.functions frame.function ≡ Some f → TopHasFunction p (bones all)
top_has_function p f frame frames all e is = subst (λ z. TopHasFunction p (bones z)) (sym e) (f, is)

pub top_left_at : (lanes : Lanes) (frame : Frame) (frames all : List Frame) → all ≡ frame ∷ frames → top_left lanes (bones all) ≡ bone_left lanes (bone frame) ∷ bones frames
top_left_at lanes frame frames all e = ap (λ z. top_left lanes (bones z)) e

pub bones_deliver_returns : (p : Program) (type : IntType) (lanes : Lanes) (values : List ℕ) (s : State) (frame : Frame) (frames : List Frame) (f : Function) → s.frames ≡ frame ∷ frames → slice_get p.functions frame.function ≡ Some f → bones (deliver p type Returns lanes values s).frames ≡ bone_left lanes (bone frame) ∷ bones frames
bones_deliver_returns p type lanes values s frame frames f e is =
    bones_delivered p type lanes values s (top_has_function p f frame frames s.frames e is) ∙ top_left_at lanes frame frames s.frames e

pub bones_packed_returns : (p : Program) (lanes : Lanes) (s : State) (frame : Frame) (frames : List Frame) (f : Function) → s.frames ≡ frame ∷ frames → slice_get p.functions frame.function ≡ Some f → bones (packed p Returns lanes s).frames ≡ bone_left lanes (bone frame) ∷ bones frames
bones_packed_returns p lanes s frame frames f e is =
    bones_packed_returned p lanes s (top_has_function p f frame frames s.frames e is) ∙ top_left_at lanes frame frames s.frames e
