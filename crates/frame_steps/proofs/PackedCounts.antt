-- A packed call gives the number of its lanes to what its result is for, and its lanes go on.
use Rattle.std.proofs.Common.{ℕ, ◌+◌, ◌<◌, ◌≤◌, false, ◌≡◌, refl, ◌∙◌, ap, subst, arith, List, [], ◌∷◌, Some}
use Rattle.undo_log.specs.History.{History}
use Rattle.undo_log.specs.declared.timeline.Undone.TheVariants as undone
use Rattle.gang_types.specs.declared.types.IntType.{IntType}
use Rattle.gang_types.specs.declared.types.IntType.TheVariants.{Int32}
use Rattle.gang_types.specs.Lanes.{Lanes, no_lane}
use Rattle.gang_types.specs.Masks.{lanes_of, lanes_of_word}
use Rattle.gang_model.specs.Types.Tree.{Assigns, Declares, Function, Nothing, ResultFor, Returns, StepNumber}
use Rattle.gang_model.specs.Running.Lanes.{at}
use Rattle.mask_states.specs.Points.{Point}
use Rattle.mask_states.specs.Masked.{Masked}
use Rattle.machine_states.specs.Cells.{words_set}
use Rattle.machine_states.specs.Declared.{ResultDeclared, declared_before}
use Rattle.machine_states.specs.Effects.{assigned_region, declared_in, assigned_in, declared_region, region_of, returned_in, sent_on}
use Rattle.machine_states.specs.WellScoped.{ResultWellScoped}
use Rattle.machine_states.specs.Regions.{FunctionOf, OfHead, Region, Regions, ResultOf, ReturnedOf, with_region}
use Rattle.machine_states.specs.Shows.{AreSized}
use Rattle.machine_states.specs.Steps.{Delivers, KeepsBoth, converted_values, waiting_in}
use Rattle.machine_states.proofs.LeaveSteps.{HasResult}
use Rattle.machine_states.proofs.TopFrame.{has_variable}
use Rattle.machine_words.specs.declared.words.MachineWords.{MachineWords}
use Rattle.machine_words.specs.Words.{AreLaid, left_of, regions_in}
use Rattle.frame_steps.specs.declared.active.Active.{Active}
use Rattle.frame_steps.specs.declared.compiled.CompiledProgram.{CompiledProgram}
use Rattle.frame_steps.specs.Compiled.{program_of, variables_of}
use Rattle.frame_steps.specs.Delivering.{GivesResult, TakesResult}
use Rattle.frame_steps.specs.Parts.{counts_of}
use Rattle.frame_steps.specs.Standing.{AreSound, IsActive, IsShown}
use Rattle.frame_steps.proofs.Heads.{alike}
use Rattle.frame_steps.proofs.Standings.{IsUnderWay, frame_below, may_write, sized, step_within}
use Rattle.frame_steps.specs.Written.{MaySend}
use Rattle.frame_steps.proofs.SentSteps.{Sends, may_send, sent_so}

-- ---- a result among regions with the same words

module _ (width frame : ℕ) (f : Function) (type : IntType) (lanes : Lanes) (values : List ℕ) (others new : Regions) where
  pub record DeliversAlike (for : ResultFor) : Type 0 where
    pub delivered : Regions
    pub delivers : Delivers width frame f for type lanes values others delivered
    pub alike : (r : Region) → new r ≡ delivered r

  module _ (old : Regions) (same : (r : Region) → old r ≡ others r) where
    put_alike : (region : Region) (make : List ℕ → List ℕ) (r : Region) → with_region region (make (old region)) old r ≡ with_region region (make (others region)) others r
    put_alike region make r = alike region (make (old region)) (make (others region)) old others r (ap make (same region)) (same r)

    pub delivers_alike : (for : ResultFor) → Delivers width frame f for type lanes values old new → DeliversAlike for
    delivers_alike Nothing is = record { delivered = others; delivers = refl; alike = λ r. ap (λ (d : Regions). d r) is ∙ same r }
    delivers_alike (Declares x) is =
        let given = converted_values type x.type lanes values in
        record {
          delivered = declared_in frame x.id x.rate lanes given others;
          delivers = refl;
          alike = λ r. ap (λ (d : Regions). d r) is ∙ put_alike (region_of frame x.id) (declared_region x.rate lanes given) r;
        }
    delivers_alike (Assigns x) is =
        let given = converted_values type x.type lanes values in
        record {
          delivered = assigned_in frame x.id x.rate lanes given others;
          delivers = refl;
          alike = λ r. ap (λ (d : Regions). d r) is ∙ put_alike (region_of frame x.id) (assigned_region x.rate lanes given) r;
        }
    delivers_alike Returns is =
        let given = converted_values type f.result_type lanes values in
        let word = is.0 in
        let make : List ℕ → List ℕ = assigned_region f.result lanes given in
        let result : Region = OfHead frame ResultOf in
        record {
          delivered = returned_in frame f.result lanes given word others;
          delivers = (word, subst (λ (ws : List ℕ). KeepsBoth width lanes (lanes_of_word width (at ws 0)) word) (same (OfHead frame ReturnedOf)) is.1, refl);
          alike = λ r. ap (λ (d : Regions). d r) is.2
              ∙ alike (OfHead frame ReturnedOf) (word ∷ []) (word ∷ []) (with_region result (make (old result)) old) (with_region result (make (others result)) others) r refl (put_alike result make r);
        }

-- ---- a result of the next step

-- what is asked where a count is given
pub record MayGive {T : Type 0} (history : T → History) (left : T → ℕ) (width : ℕ) (compiled : CompiledProgram) (active : Active) (for : ResultFor) (put : MachineWords T) : Type 0 where
  pub laid : AreLaid history width put
  pub sized : AreSized (variables_of compiled) width (regions_in history width put)
  pub there : active.frame < 64
  pub takes : (g : Function) × TakesResult compiled (regions_in history width put) active.frame for g
  pub lane : no_lane (lanes_of width active.lanes) ≡ false
  pub room : width + 1 ≤ left_of history left put

module _ {T : Type 0} (history : T → History) (left : T → ℕ) (width : ℕ) (compiled : CompiledProgram) (old : MachineWords T) (sound : AreSound history width compiled old) (active : Active)
    (f : Function) (point : Point) (is_active : IsActive width compiled (regions_in history width old) active f (Some point)) (for : ResultFor) where
  -- what it is for is there
  pub result_there : (masked : Masked) → IsShown history width compiled old masked → ResultDeclared (declared_before (variables_of compiled) active.function f active.step) for → HasResult masked.state.frames for
  result_there masked shown among = by for among
    where
      by : (r : ResultFor) → ResultDeclared (declared_before (variables_of compiled) active.function f active.step) r → HasResult masked.state.frames r
      by Nothing among = tt
      by (Declares x) among = tt
      by (Assigns x) among =
          has_variable (program_of compiled) (variables_of compiled) width (regions_in history width old) masked shown.shows active.frame active.level active.function f active.step point is_active.next shown.declared x.id among
      by Returns among = tt

  -- an event is under way in which the frame's function is what it was
  module _ (well_scoped : ResultWellScoped (variables_of compiled) active.function for) (regions : Regions) (writes : ℕ) (put : MachineWords T) (is_put : IsUnderWay history left width undone.Step regions writes old put)
      (runs : regions (OfHead active.frame FunctionOf) ≡ active.function ∷ []) (few : writes + (width + 1) + width ≤ words_set width point) where
    takes : TakesResult compiled (regions_in history width put) active.frame for f
    takes = record { n = active.function; runs = is_put.regions_are (OfHead active.frame FunctionOf) ∙ runs; is_function = is_active.next.is_function; well_scoped = well_scoped }

    pub may_give : no_lane (lanes_of width active.lanes) ≡ false → MayGive history left width compiled active for put
    may_give some = record {
      laid = is_put.laid;
      sized = sized history width compiled old put sound.lie is_put.layout is_put.laid;
      there = frame_below history width compiled old sound active f (Some point) is_active;
      takes = (f, takes);
      lane = some;
      room = may_write history left width undone.Step regions writes old put is_put (width + 1) (omega (arith, few, step_within history width compiled old sound.lie active f point is_active));
    }

    module _ (given : MachineWords T)
        (gives : (g : Function) → TakesResult compiled (regions_in history width put) active.frame for g
        → GivesResult history left width active.frame g for Int32 (lanes_of width active.lanes) (counts_of (lanes_of width active.lanes)) put given) where
      pub gave : GivesResult history left width active.frame f for Int32 (waiting_in (regions_in history width old) active.frame active.level active.step) (counts_of (waiting_in (regions_in history width old) active.frame active.level active.step)) put given
      gave = subst (λ l. GivesResult history left width active.frame f for Int32 l (counts_of l) put given) is_active.lanes (gives f takes)

      -- it was given to these regions
      pub counted : DeliversAlike width active.frame f Int32 (waiting_in (regions_in history width old) active.frame active.level active.step) (counts_of (waiting_in (regions_in history width old) active.frame active.level active.step))
          regions gave.delivered for
      counted =
          delivers_alike width active.frame f Int32 (waiting_in (regions_in history width old) active.frame active.level active.step) (counts_of (waiting_in (regions_in history width old) active.frame active.level active.step))
          regions gave.delivered (regions_in history width put) is_put.regions_are for gave.delivers

      is_given : IsUnderWay history left width undone.Step counted.delivered (writes + (width + 1)) old given
      is_given = record {
        regions_are = λ r. gave.regions r ∙ counted.alike r;
        layout = gave.layout ∙ is_put.layout;
        laid = gave.laid;
        recorded = gave.rest ∙ is_put.recorded;
        left_is = omega (arith, gave.few, is_put.left_is);
      }

      pub counted_may_send : no_lane (lanes_of width active.lanes) ≡ false → MaySend history left width active.frame active.level active.lanes given
      counted_may_send = may_send history left width compiled old sound active f point is_active counted.delivered (writes + (width + 1)) given is_given few

      -- then the lanes go on
      pub counted_sent : (new : MachineWords T) (next : StepNumber) → Sends history left width active.frame active.level active.lanes (λ k. next) given new
          → IsUnderWay history left width undone.Step (sent_on active.frame active.level (waiting_in (regions_in history width old) active.frame active.level active.step) (λ k. next) counted.delivered) (writes + (width + 1) + width) old new
      counted_sent new next sends =
          sent_so history left width compiled old sound active f point is_active counted.delivered (writes + (width + 1)) given is_given few new (λ k. next) sends
