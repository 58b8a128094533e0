-- A value is given to what it is for by a step of the frame itself: the regions show the state after it.
use Rattle.std.proofs.Common.{◌≡◌, sym, ap, ◌∙◌, subst, ℕ, suc, ◌<◌, List, [], ◌∷◌, length, Some}
use Rattle.std.specs.Prelude.{slice_get}
use Rattle.gang_types.specs.declared.types.IntType.{IntType}
use Rattle.gang_types.specs.Lanes.{Lanes}
use Rattle.gang_types.specs.Values.{converted}
use Rattle.gang_model.specs.Running.Lanes.{at}
use Rattle.gang_model.specs.Types.Tree.{ResultFor, Nothing, Declares, Assigns, Returns, Function, Program}
use Rattle.gang_model.specs.Running.Step.{deliver, returned_on}
use Rattle.gang_model.proofs.LaneWords.{length-each}
use Rattle.mask_states.specs.Masked.{Masked}
use Rattle.machine_states.specs.Variables.{Variables}
use Rattle.machine_states.specs.WellScoped.{ResultWellScoped}
use Rattle.machine_states.specs.Regions.{FunctionOf, Depth, OfHead, Regions}
use Rattle.machine_states.specs.Shows.{AreSized, Shows}
use Rattle.machine_states.specs.Steps.{Delivers, converted_values}
use Rattle.machine_states.proofs.ChangedRegions.{scalar_depth}
use Rattle.machine_states.proofs.LeaveSteps.{HasResult}
use Rattle.machine_states.proofs.ReturnedResults.{returned_shows}
use Rattle.machine_states.proofs.WrittenVariables.{assigned_shows, declared_shows}

-- no frame comes or goes
pub delivered_depth : (w i : ℕ) (f : Function) (for : ResultFor) (type : IntType) (lanes : Lanes) (values : List ℕ) (old new : Regions) → Delivers w i f for type lanes values old new → new Depth ≡ old Depth
delivered_depth w i f Nothing type lanes values old new is = ap (λ r. r Depth) is
delivered_depth w i f (Declares x) type lanes values old new is = ap (λ r. r Depth) is ∙ scalar_depth _ old i x.id
delivered_depth w i f (Assigns x) type lanes values old new is = ap (λ r. r Depth) is ∙ scalar_depth _ old i x.id
delivered_depth w i f Returns type lanes values old new is = ap (λ r. r Depth) is.2

module _ (p : Program) (variables : Variables) (w : ℕ) (regions : Regions) (masked : Masked) (shows : Shows p variables w regions masked) (some : 0 < w) (i n : ℕ) (f : Function)
    (depth : regions Depth ≡ suc i ∷ []) (function : regions (OfHead i FunctionOf) ≡ n ∷ []) (is_function : slice_get p.functions n ≡ Some f) (sized : AreSized variables w regions)
    (type : IntType) (lanes : Lanes) (values : List ℕ) (long : length lanes ≡ w) where
  abbrev after : ResultFor → Masked
  after for = record { state = deliver p type for lanes values masked.state; levels = masked.levels }

  size_of : (to : IntType) → length (converted_values type to lanes values) ≡ w
  size_of to = length-each lanes (λ k. converted type to (at values k)) ∙ long

  pub delivered_shows : (for : ResultFor) (delivered : Regions) → ResultWellScoped variables n for → HasResult masked.state.frames for → Delivers w i f for type lanes values regions delivered
      → Shows p variables w delivered (record { state = deliver p type for lanes values masked.state; levels = masked.levels })
  delivered_shows Nothing delivered well_scoped has is = subst (λ new. Shows p variables w new (after Nothing)) (sym is) shows
  delivered_shows (Declares x) delivered well_scoped has is =
      subst (λ new. Shows p variables w new (after (Declares x))) (sym is)
      (declared_shows p variables w i n regions masked shows depth function sized lanes (converted_values type x.type lanes values) long some well_scoped.0 x well_scoped.1)
  delivered_shows (Assigns x) delivered well_scoped has is =
      subst (λ new. Shows p variables w new (after (Assigns x))) (sym is)
      (assigned_shows p variables w i n regions masked shows depth function sized lanes (converted_values type x.type lanes values) long (size_of x.type) x well_scoped has)
  delivered_shows Returns delivered well_scoped has is =
      subst (λ new. Shows p variables w new (after Returns)) (sym is.2)
      (returned_shows p variables w i n f lanes (converted_values type f.result_type lanes values) is.0 regions is.1 long (size_of f.result_type)
      (λ frame. returned_on (slice_get p.functions frame.function) type lanes values frame) (λ frame q. ap (λ o. returned_on o type lanes values frame) q)
      function is_function masked shows depth)
