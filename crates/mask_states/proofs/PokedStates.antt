-- A poke keeps that a masked state stands for a state.
use Rattle.std.proofs.Common.{refl, sym, ap, ◌∙◌, ℕ, None}
use Rattle.gang_model.specs.Types.Tree.{Program}
use Rattle.gang_model.specs.Running.State.{State}
use Rattle.gang_model.specs.Debugger.Events.{Poked, poked}
use Rattle.mask_states.specs.Masked.{Masked}
use Rattle.mask_states.specs.Stands.{Stands}
use Rattle.mask_states.proofs.UntaskedPokes.{untasked_poked, bones_poked}
use Rattle.mask_states.proofs.GoesOn.{frames_same}

-- the same variable is set in both
pub poked_stands : (p : Program) (w : ℕ) (state : State) (masked : Masked) → Stands p w state masked → (what : Poked) (word : ℕ)
    → Stands p w (poked what word state) (record masked { state = poked what word masked.state })
poked_stands p w state masked s what word = record {
  words = untasked_poked what word state ∙ ap (poked what word) s.words;
  frames = frames_same p w None None state.frames (poked what word state).frames masked.levels refl (sym (bones_poked what word state)) s.frames;
}
