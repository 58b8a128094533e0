-- What a machine shows is what the debugger of the definitions shows.
use Rattle.std.proofs.Common.{◌≡◌, ℕ, List, ◌∷◌, length, refl, ap, ap₂, sym, subst, ◌∙◌, Option}
use Rattle.std.specs.Prelude.{if◌then◌else◌}
use Rattle.std.proofs.lemmas.List.{length-map}
use Rattle.undo_log.specs.History.{History}
use Rattle.gang_types.specs.declared.places.Spot.{Spot}
use Rattle.gang_model.specs.Running.Lanes.{Fault}
use Rattle.gang_model.specs.Running.State.{State}
use Rattle.gang_model.specs.Running.Step as source
use Rattle.gang_model.specs.Running.Step.{Stepped, step}
use Rattle.gang_model.specs.Types.Tree as t
use Rattle.gang_model.specs.Types.Tree.{Variable}
use Rattle.gang_model.specs.Debugger.Debugger.{Debugger, Setting, elements, now, shown_words}
use Rattle.gang_model.specs.Debugger.Events.{Step, after, start}
use Rattle.gang_model.specs.Debugger.Positions.{lanes_now, spot_now, standing_of}
use Rattle.typed_tree.specs.declared.program.Program.{Program}
use Rattle.typed_tree.specs.Views.{program_view}
use Rattle.gang_memory.specs.declared.layout.Layout.{Layout}
use Rattle.mask_states.specs.Masked.{Masked, masked_lanes, masked_spot}
use Rattle.mask_states.specs.MaskedStep.{Fails, Goes, Over, MaskedStepped, masked_gone, masked_step, untasked, untasked_frame}
use Rattle.mask_states.specs.Law.{AgreesWith}
use Rattle.mask_states.specs.Stands.{AreLowerable, EndAlike}
use Rattle.mask_states.proofs.RunsAlike.{runs_alike}
use Rattle.mask_states.proofs.UntaskedValues.{untasked_view, untasked_words}
use Rattle.gang_machine.specs.Standings.{SeenStands, masked_at, view_of}

-- ---- states without tasks

pub untasked_shown : (state : State) (v : Variable) → shown_words (untasked state) v ≡ shown_words state v
untasked_shown state v = ap₂ (λ view words. if v.is_array then elements view state else words) (untasked_view state v.id) (untasked_words state v.id)

-- ---- how a step ends

module _ (p : t.Program) (w : ℕ) where
  goes_on : (stepped : Stepped) (next : Masked) → EndAlike p w stepped (Goes next) → (state : State) × (stepped ≡ source.Goes state)
  goes_on (source.Goes state) next alike = (state, refl)
  goes_on (source.Fails fault) next alike = absurd alike
  goes_on source.Over next alike = absurd alike

  fails_so : (stepped : Stepped) (fault : Fault) → EndAlike p w stepped (Fails fault) → stepped ≡ source.Fails fault
  fails_so (source.Goes state) fault alike = absurd alike
  fails_so (source.Fails other) fault alike = ap (λ f. source.Fails f) alike
  fails_so source.Over fault alike = absurd alike

  is_over : (stepped : Stepped) → EndAlike p w stepped Over → stepped ≡ source.Over
  is_over (source.Goes state) alike = absurd alike
  is_over (source.Fails fault) alike = absurd alike
  is_over source.Over alike = refl

module _ (w entry : ℕ) (program : Program) (lines : List ℕ) (layout : Layout) (h : History) (lowerable : AreLowerable (program_view program)) (s : Setting) (d : Debugger)
    (stands : SeenStands (view_of w entry program lines layout h) s d) where
  abbrev p : t.Program
  p = program_view program

  -- the masked state where the machine stands
  abbrev pub masked_now : Masked
  masked_now = masked_at w entry p stands.rows d.events

  now_is : now s d ≡ after p (start p entry stands.rows w) d.events
  now_is = ap₂ (λ q first. after q first d.events) stands.program stands.first

  pub agrees : AgreesWith p w (now s d) masked_now
  agrees = subst (λ state. AgreesWith p w state masked_now) (sym now_is) (runs_alike p lowerable entry stands.rows w d.events)

  -- ---- steps

  ends_alike : (stepped : MaskedStepped) → masked_step p masked_now ≡ stepped → EndAlike p w (step s.program (now s d)) stepped
  ends_alike stepped is = subst (λ q. EndAlike p w (step q (now s d)) stepped) (sym stands.program) (subst (EndAlike p w (step p (now s d))) is agrees.1)

  pub step_goes : (next : Masked) → masked_step p masked_now ≡ Goes next → (state : State) × (step s.program (now s d) ≡ source.Goes state)
  step_goes next is = goes_on p w (step s.program (now s d)) next (ends_alike (Goes next) is)

  pub step_fails : (fault : Fault) → masked_step p masked_now ≡ Fails fault → step s.program (now s d) ≡ source.Fails fault
  step_fails fault is = fails_so p w (step s.program (now s d)) fault (ends_alike (Fails fault) is)

  pub step_over : masked_step p masked_now ≡ Over → step s.program (now s d) ≡ source.Over
  step_over is = is_over p w (step s.program (now s d)) (ends_alike Over is)

  -- the masked state after the step
  pub masked_next : (next : Masked) → masked_step p masked_now ≡ Goes next → masked_at w entry p stands.rows (Step ∷ d.events) ≡ next
  masked_next next is = ap (λ stepped. masked_gone stepped masked_now) is

  -- ---- what is shown

  pub shown_are : (v : Variable) → shown_words (now s d) v ≡ shown_words masked_now.state v
  shown_are v = sym (untasked_shown (now s d) v) ∙ ap (λ state. shown_words state v) agrees.0.words

  pub spot_is : spot_now s.program (now s d) ≡ masked_spot masked_now
  spot_is = ap (λ q. spot_now q (now s d)) stands.program ∙ agrees.0.spot

  pub frames_alike : length (now s d).frames ≡ length masked_now.state.frames
  frames_alike = sym (length-map (now s d).frames untasked_frame) ∙ ap (λ state. length state.frames) agrees.0.words

  pub lanes_are : lanes_now (now s d) ≡ masked_lanes masked_now
  lanes_are = agrees.0.lanes

  -- how the program stands in the source, none of a program that has ended
  pub standing_is : (o : Option Spot) → masked_spot masked_now ≡ o → standing_of s.program (spot_now s.program (now s d)) ≡ standing_of p o
  standing_is o is = ap₂ standing_of stands.program (spot_is ∙ is)
