-- A poke does not look at tasks, and leaves them.
use Rattle.std.proofs.Common.{◌≡◌, refl, sym, ap, ap₂, ◌∙◌, ℕ, zero, suc, ◌-◌, List, [], ◌∷◌, ◌++◌, length}
use Rattle.std.specs.Prelude.{drop, map, slice_set, take}
use Rattle.std.proofs.lemmas.List.{drop-map, length-map, map-append, take-map}
use Rattle.gang_model.specs.Running.State.{Frame, State}
use Rattle.gang_model.specs.Debugger.Frames.{state_at, under}
use Rattle.gang_model.specs.Debugger.Events.{Poked, WholeOf, LaneOf, ElementAt, InFrame, with_element, poked}
use Rattle.mask_states.specs.MaskedStep.{untasked, untasked_frame}
use Rattle.mask_states.proofs.UntaskedValues.{untasked_view}
use Rattle.mask_states.proofs.UntaskedWrites.{untasked_change_words}
use Rattle.mask_states.proofs.Bones.{bone, bones, bones_words}

-- a poke under so many frames
abbrev poked_under : ℕ → Poked → ℕ → State → State
poked_under n what word s = under (take n s.frames) (poked what word (record s { frames = drop n s.frames }))

pub untasked_poked : (what : Poked) (word : ℕ) (s : State) → untasked (poked what word s) ≡ poked what word (untasked s)
untasked_poked (WholeOf v) word s = untasked_change_words s v (λ words. map (λ old. word) words)
untasked_poked (LaneOf v k) word s = untasked_change_words s v (λ words. slice_set words k word)
untasked_poked (ElementAt v k) word s = ap (λ view. with_element view k word (untasked s)) (sym (untasked_view s v))
untasked_poked (InFrame deep what) word s =
    under_others (λ below. untasked_poked what word below) (length s.frames - deep) ∙ ap (λ n. poked_under (n - deep) what word (untasked s)) (sym (length-map s.frames untasked_frame))
  where
    under_others : ((below : State) → untasked (poked what word below) ≡ poked what word (untasked below)) → (n : ℕ)
        → untasked (poked_under n what word s) ≡ poked_under n what word (untasked s)
    under_others same n =
        let below : State = record s { frames = drop n s.frames } in
        ap (λ frames. record { memory = (poked what word below).memory; frames = frames }) (map-append untasked_frame (take n s.frames) (poked what word below).frames)
        ∙ ap₂ under (sym (take-map untasked_frame n s.frames))
        (same below ∙ ap (λ frames. poked what word (record { memory = s.memory; frames = frames })) (sym (drop-map untasked_frame n s.frames)))

bones_under : (n : ℕ) (frames below : List Frame) → bones below ≡ bones (drop n frames) → bones (take n frames ++ below) ≡ bones frames
bones_under zero frames below h = h
bones_under (suc n) [] below h = h
bones_under (suc n) (frame ∷ frames) below h = ap (λ rest. bone frame ∷ rest) (bones_under n frames below h)

pub bones_poked : (what : Poked) (word : ℕ) (s : State) → bones (poked what word s).frames ≡ bones s.frames
bones_poked (WholeOf v) word s = bones_words s v _
bones_poked (LaneOf v k) word s = bones_words s v _
bones_poked (ElementAt v k) word s = refl
bones_poked (InFrame deep what) word s =
    bones_under (length s.frames - deep) s.frames (poked what word (state_at deep s)).frames (bones_poked what word (state_at deep s))
