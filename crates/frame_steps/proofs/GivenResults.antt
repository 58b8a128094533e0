-- A result that is given to what it is for.
use Rattle.std.proofs.Common.{ℕ, ◌<◌, ◌≡◌, refl, sym, ◌∙◌, ap, subst, arith, List}
use Rattle.undo_log.specs.History.{History}
use Rattle.gang_types.specs.declared.masks.Mask.{Mask}
use Rattle.gang_types.specs.declared.types.IntType.{IntType}
use Rattle.gang_types.specs.Lanes.{Lanes}
use Rattle.gang_types.specs.Masks.{IsGangWidth, lanes_of}
use Rattle.gang_model.specs.Types.Tree.{Declares, Assigns, Function, Nothing, ResultFor, Returns as ForReturn, Var}
use Rattle.machine_states.specs.Effects.{assigned_in, assigned_region, declared_in, declared_region, region_of, returned_in}
use Rattle.machine_states.specs.Regions.{Region, Regions, with_region}
use Rattle.machine_states.specs.Shows.{AreSized}
use Rattle.machine_states.specs.Steps.{Delivers, converted_values}
use Rattle.machine_states.specs.Variables.{IsScalar, Variables}
use Rattle.machine_words.specs.declared.words.MachineWords.{MachineWords}
use Rattle.machine_words.specs.Words.{AreLaid, Writes, regions_in}
use Rattle.frame_steps.specs.Results.{Returns}
use Rattle.frame_steps.proofs.Heads.{regions_after}
use Rattle.frame_steps.proofs.SentSteps.{HasPlace, scalar_place}
use Rattle.frame_steps.specs.Delivering.{GivesResult}

-- ---- room

-- the region of a scalar has room for it
pub scalar_room : (variables : Variables) (w : ℕ) → IsGangWidth w → (regions : Regions) → AreSized variables w regions → (i n : ℕ) → i < 64 → (x : Var) → IsScalar variables n x
    → (region : Region) → region ≡ region_of i x.id → HasPlace w x.rate (regions region)
scalar_room variables w gang regions sized i n below x scalar region e =
    subst (λ r. HasPlace w x.rate (regions r)) (sym e) (scalar_place variables w gang regions sized i n below x scalar)

-- ---- what is given

module _ {T : Type 0} (history : T → History) (left : T → ℕ) (w frame : ℕ) (g : Function) (type : IntType) (mask : Mask) (values : List ℕ) (old : MachineWords T) where
  abbrev before : Regions
  before = regions_in history w old

  abbrev lanes : Lanes
  lanes = lanes_of w mask

  pub gives_nothing : AreLaid history w old → GivesResult history left w frame g Nothing type (lanes_of w mask) values old old
  gives_nothing laid = record { delivered = before; delivers = refl; regions = λ r. refl; layout = refl; laid = laid; rest = refl; few = omega arith }

  module _ (new : MachineWords T) (given : List ℕ) where
    module _ (x : Var) (same : given ≡ converted_values type x.type (lanes_of w mask) values) (region : Region) (e : region ≡ region_of frame x.id) where
      pub gives_declared : Writes history left w region (declared_region x.rate (lanes_of w mask) given (regions_in history w old region)) w old new
          → GivesResult history left w frame g (Declares x) type (lanes_of w mask) values old new
      gives_declared is = record {
        delivered = declared_in frame x.id x.rate lanes (converted_values type x.type lanes values) before;
        delivers = refl;
        regions = λ r. regions_after history left w old new region (declared_region x.rate lanes given (before region)) w is r
            ∙ ap (λ s. with_region s (declared_region x.rate lanes given (before s)) before r) e
            ∙ ap (λ vs. declared_in frame x.id x.rate lanes vs before r) same;
        layout = is.layout;
        laid = is.laid;
        rest = is.rest;
        few = omega (arith, is.few);
      }

      pub gives_assigned : Writes history left w region (assigned_region x.rate (lanes_of w mask) given (regions_in history w old region)) w old new
          → GivesResult history left w frame g (Assigns x) type (lanes_of w mask) values old new
      gives_assigned is = record {
        delivered = assigned_in frame x.id x.rate lanes (converted_values type x.type lanes values) before;
        delivers = refl;
        regions = λ r. regions_after history left w old new region (assigned_region x.rate lanes given (before region)) w is r
            ∙ ap (λ s. with_region s (assigned_region x.rate lanes given (before s)) before r) e
            ∙ ap (λ vs. assigned_in frame x.id x.rate lanes vs before r) same;
        layout = is.layout;
        laid = is.laid;
        rest = is.rest;
        few = omega (arith, is.few);
      }

    pub gives_returned : given ≡ converted_values type g.result_type (lanes_of w mask) values → Returns history left w frame g.result mask given old new
        → GivesResult history left w frame g ForReturn type (lanes_of w mask) values old new
    gives_returned same is = record {
      delivered = returned_in frame g.result lanes (converted_values type g.result_type lanes values) is.word before;
      delivers = (is.word, is.keeps, refl);
      regions = λ r. is.regions r ∙ ap (λ vs. returned_in frame g.result lanes vs is.word before r) same;
      layout = is.layout;
      laid = is.laid;
      rest = is.rest;
      few = is.few;
    }

-- ---- the same values

-- a result is given alike where its lanes see the same values
pub given_alike : {T : Type 0} (history : T → History) (left : T → ℕ) (w frame : ℕ) (g : Function) (for : ResultFor) (type : IntType) (lanes : Lanes) (values others : List ℕ) (old new : MachineWords T)
    → ((to : IntType) → converted_values type to lanes values ≡ converted_values type to lanes others)
    → GivesResult history left w frame g for type lanes values old new → GivesResult history left w frame g for type lanes others old new
given_alike history left w frame g for type lanes values others old new same is =
    record { delivered = is.delivered; delivers = by for is.delivers; regions = is.regions; layout = is.layout; laid = is.laid; rest = is.rest; few = is.few }
  where
    before : Regions
    before = regions_in history w old

    by : (r : ResultFor) → Delivers w frame g r type lanes values before is.delivered → Delivers w frame g r type lanes others before is.delivered
    by Nothing d = d
    by (Declares x) d = d ∙ ap (λ vs. declared_in frame x.id x.rate lanes vs before) (same x.type)
    by (Assigns x) d = d ∙ ap (λ vs. assigned_in frame x.id x.rate lanes vs before) (same x.type)
    by ForReturn d = (d.0, d.1, d.2 ∙ ap (λ vs. returned_in frame g.result lanes vs d.0 before) (same g.result_type))
