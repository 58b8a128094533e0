-- The expressions of a form's head: their code, and what the form keeps by what the code computes.
use Rattle.std.proofs.Common.{ℕ, zero, suc, ◌<◌, ◌≤◌, ◌⊎◌, ◌≡◌, refl, sym, ◌∙◌, ap, subst, arith, inl, inr, List, [], ◌∷◌, length, get_or, Some, Vec, Global}
use Rattle.std.specs.Prelude.{Result, Ok, Err, slice_get}
use Rattle.std.proofs.lemmas.Option.{slice_get_past}
use Rattle.gang_types.specs.Lanes.{Lanes, lowest}
use Rattle.gang_types.specs.Masks.{lanes_of_word}
use Rattle.gang_model.specs.Types.Tree.{StepNumber, Dimension, Expr, RoundsOf, Rows, Tiles, EachLane, EachValue, Function}
use Rattle.gang_model.specs.Running.Lanes.{Fault as ModelFault, ◌>>=◌, at}
use Rattle.gang_model.specs.Running.State.{State}
use Rattle.gang_model.specs.Running.Value.{value}
use Rattle.debug_traits.specs.declared.machine.Fault.{Fault}
use Rattle.debug_traits.specs.Machines.{fault_view}
use Rattle.mask_states.specs.Points.{Point, Begin}
use Rattle.foreach_lowering.specs.declared.bounds.Order.{Order}
use Rattle.foreach_lowering.specs.DomainViews.{form_by}
use Rattle.foreach_lowering.specs.Kept.{kept_lanes}
use Rattle.foreach_lowering.specs.Law.{first_kept}
use Rattle.machine_states.specs.Levels.{kept_in}
use Rattle.machine_states.specs.Regions.{Regions}
use Rattle.expression_instructions.specs.declared.code.Instruction.{Instruction}
use Rattle.codegen.specs.Codes.{Does, DoesForm, Fit, IsDimension}
use Rattle.codegen.specs.declared.code.DimensionCode.{DimensionCode}
use Rattle.codegen.specs.declared.code.FormCode.{FormCode}
use Rattle.codegen.specs.declared.code.FormCode.TheVariants as head
use Rattle.codegen.specs.declared.code.StepCode.TheVariants as code
use Rattle.codegen.proofs.Rows.{fit_long}
use Rattle.frame_steps.specs.declared.active.Active.{Active}
use Rattle.frame_steps.specs.declared.compiled.CompiledProgram.{CompiledProgram}
use Rattle.frame_steps.specs.Compiled.{IsCompiled}
use Rattle.frame_steps.specs.Standing.{DoesNext, IsActive, IsAnswer, IsValueAt}
use Rattle.frame_steps.proofs.StepValues.{IsFormValue, active_well_scoped, value_at}
use Rattle.machine_rounds.specs.Beginning.{AreDimensionsAt, BeginsForm, IsBoundsCode, IsFirst, bounds_at, bounds_words}
use Rattle.machine_rounds.specs.declared.beginning.FirstWords.{FirstWords}

-- ---- answers

pub answers_fault : {A : Type 0} (result : Result A Fault) (fault : Fault) (meant : Result A ModelFault) → result ≡ Err fault → meant ≡ Err (fault_view fault) → IsAnswer result meant
answers_fault result fault meant is fails = subst (λ r. IsAnswer r meant) (sym is) fails

-- ---- one dimension

fit_at : {A B : Type 0} (P : A → B → Type 0) (xs : List A) (ys : List B) → Fit P xs ys → (k : ℕ) (x : A) → k < length xs → x ≡ get_or xs k x → (y : B) × (slice_get ys k ≡ Some y) × P x y
fit_at P [] ys fits k x h e = absurd (omega (arith, h))
fit_at P (a ∷ xs) [] fits k x h e = absurd fits
fit_at P (a ∷ xs) (b ∷ ys) fits zero x h e = (b, refl, subst (λ z. P z b) (sym e) fits.0)
fit_at P (a ∷ xs) (b ∷ ys) fits (suc k) x h e = fit_at P xs ys fits.1 k x (omega (arith, h)) e

module _ (width : ℕ) (compiled : CompiledProgram) (regions : Regions) (active : Active) (codes : List DimensionCode) (ds : List Dimension) (are : AreDimensionsAt width compiled regions active codes ds) (k : ℕ) where
  pub past_bounds : length codes ≤ k → (lanes : Lanes) (state : State) → bounds_at (slice_get ds k) lanes state ≡ Ok (0, 0)
  past_bounds past lanes state = ap (λ d. bounds_at d lanes state) (slice_get_past ds k (omega (arith, past, fit_long (IsBoundsCode width compiled regions active) codes ds are)))

  module _ (dimension : DimensionCode) (within : k < length codes) (is : dimension ≡ get_or codes k dimension) where
    found : (d : Dimension) × (slice_get ds k ≡ Some d) × IsBoundsCode width compiled regions active dimension d
    found = fit_at (IsBoundsCode width compiled regions active) codes ds are k dimension within is

    pub low_of : Expr
    low_of = found.0.low

    pub high_of : Expr
    high_of = found.0.high

    pub low_at : (read : List Instruction) → read ≡ dimension.low.items → IsValueAt width compiled regions active low_of read
    unfolding low_of found
    low_at read same = subst (IsValueAt width compiled regions active low_of) (sym same) found.2.0

    pub high_at : (read : List Instruction) → read ≡ dimension.high.items → IsValueAt width compiled regions active high_of read
    unfolding high_of found
    high_at read same = subst (IsValueAt width compiled regions active high_of) (sym same) found.2.1

    module _ (lanes : Lanes) (state : State) where
      abbrev by_high : (low : List ℕ) → Result (List ℕ) ModelFault → Result (ℕ × ℕ) ModelFault
      by_high low r = r >>= λ high. Ok (at low (lowest lanes), at high (lowest lanes))

      abbrev by_low : Result (List ℕ) ModelFault → Result (ℕ × ℕ) ModelFault
      by_low r = r >>= λ low. by_high low (value high_of lanes state)

      with_low : (r : Result (List ℕ) ModelFault) → value low_of lanes state ≡ r → bounds_at (slice_get ds k) lanes state ≡ by_low r
      unfolding found low_of high_of
      with_low r e = ap (λ d. bounds_at d lanes state) found.1 ∙ ap by_low e

      pub low_faults : (fault : ModelFault) → value low_of lanes state ≡ Err fault → bounds_at (slice_get ds k) lanes state ≡ Err fault
      low_faults fault e = with_low (Err fault) e

      pub high_faults : (low : List ℕ) → value low_of lanes state ≡ Ok low → (fault : ModelFault) → value high_of lanes state ≡ Err fault → bounds_at (slice_get ds k) lanes state ≡ Err fault
      high_faults low e fault f = with_low (Ok low) e ∙ ap (by_high low) f

      pub bounds_are : (low : List ℕ) → value low_of lanes state ≡ Ok low → (high : List ℕ) → value high_of lanes state ≡ Ok high
          → bounds_at (slice_get ds k) lanes state ≡ Ok (at low (lowest lanes), at high (lowest lanes))
      bounds_are low e high f = with_low (Ok low) e ∙ ap (by_high low) f

-- ---- three of them

module _ (ds : List Dimension) (lanes : Lanes) (state : State) where
  abbrev by_third : (first second : ℕ × ℕ) → Result (ℕ × ℕ) ModelFault → Result (List ℕ) ModelFault
  by_third first second r = r >>= λ third. Ok (first.0 ∷ first.1 ∷ second.0 ∷ second.1 ∷ third.0 ∷ third.1 ∷ [])

  abbrev by_second : (first : ℕ × ℕ) → Result (ℕ × ℕ) ModelFault → Result (List ℕ) ModelFault
  by_second first r = r >>= λ second. by_third first second (bounds_at (slice_get ds 2) lanes state)

  abbrev by_first : Result (ℕ × ℕ) ModelFault → Result (List ℕ) ModelFault
  by_first r = r >>= λ first. by_second first (bounds_at (slice_get ds 1) lanes state)

  pub first_faults : (fault : ModelFault) → bounds_at (slice_get ds 0) lanes state ≡ Err fault → bounds_words ds lanes state ≡ Err fault
  first_faults fault e = ap by_first e

  module _ (first : ℕ × ℕ) (first_is : bounds_at (slice_get ds 0) lanes state ≡ Ok first) where
    pub second_faults : (fault : ModelFault) → bounds_at (slice_get ds 1) lanes state ≡ Err fault → bounds_words ds lanes state ≡ Err fault
    second_faults fault e = ap by_first first_is ∙ ap (by_second first) e

    module _ (second : ℕ × ℕ) (second_is : bounds_at (slice_get ds 1) lanes state ≡ Ok second) where
      with_third : (r : Result (ℕ × ℕ) ModelFault) → bounds_at (slice_get ds 2) lanes state ≡ r → bounds_words ds lanes state ≡ by_third first second r
      with_third r e = ap by_first first_is ∙ ap (by_second first) second_is ∙ ap (by_third first second) e

      pub third_faults : (fault : ModelFault) → bounds_at (slice_get ds 2) lanes state ≡ Err fault → bounds_words ds lanes state ≡ Err fault
      third_faults fault e = with_third (Err fault) e

      pub words_are : (third : ℕ × ℕ) → bounds_at (slice_get ds 2) lanes state ≡ Ok third
          → bounds_words ds lanes state ≡ Ok (first.0 ∷ first.1 ∷ second.0 ∷ second.1 ∷ third.0 ∷ third.1 ∷ [])
      words_are third e = with_third (Ok third) e

-- ---- the head of a form

module _ (width : ℕ) (compiled : CompiledProgram) (regions : Regions) (active : Active) where
  -- the head that the next step's code is of
  begins_at : (of_code : FormCode) (rounds next : ℕ) (f : Function) (point : Point) → Does (code.Begin of_code rounds next) point → IsActive width compiled regions active f (Some point)
      → (form : RoundsOf) × DoesForm of_code form × IsActive width compiled regions active f (Some (Begin form rounds next))
  begins_at of_code rounds next f (Begin form turns then) does at = (
    form,
    does.0,
    subst (λ m. IsActive width compiled regions active f (Some (Begin form rounds m))) does.2 (subst (λ m. IsActive width compiled regions active f (Some (Begin form m then))) does.1 at),
  )
  begins_at of_code rounds next f point does at = absurd does

  pub record HeadAt (of_code : FormCode) (rounds next : ℕ) : Type 0 where
    pub form : RoundsOf
    pub f : Function
    pub does : DoesForm of_code form
    pub is_active : IsActive width compiled regions active f (Some (Begin form rounds next))

  pub head_of : (of_code : FormCode) (rounds next : ℕ) → DoesNext width compiled regions active (code.Begin of_code rounds next) → HeadAt of_code rounds next
  head_of of_code rounds next does =
      let found = begins_at of_code rounds next does.0 does.1 does.2 does.3 in record { form = found.0; f = does.0; does = found.1; is_active = found.2 }

  pub begins_form : (of_code : FormCode) (rounds next : ℕ) → (here : HeadAt of_code rounds next) → BeginsForm width compiled regions active of_code here.form
  begins_form of_code rounds next here = record { f = here.f; rounds = rounds; next = next; does = here.does; is_active = here.is_active }

  module _ (is : IsCompiled compiled) where
    -- the bounds of dimensions of a form
    bounds_codes : (f : Function) (form : RoundsOf) (rounds next : StepNumber) → IsActive width compiled regions active f (Some (Begin form rounds next)) → (codes : List DimensionCode) (ds : List Dimension)
        → ((k : ℕ) (d : Dimension) → slice_get ds k ≡ Some d → (e : Expr) → (d.low ≡ e) ⊎ (d.high ≡ e) → IsFormValue form e) → Fit IsDimension codes ds → AreDimensionsAt width compiled regions active codes ds
    bounds_codes f form rounds next at [] [] values fits = tt
    bounds_codes f form rounds next at [] (d ∷ ds) values fits = absurd fits
    bounds_codes f form rounds next at (c ∷ codes) [] values fits = absurd fits
    bounds_codes f form rounds next at (c ∷ codes) (d ∷ ds) values fits = (
      (
        value_at width compiled is regions active f (Begin form rounds next) at d.low c.low.items (values 0 d refl d.low (inl refl)) fits.0.0,
        value_at width compiled is regions active f (Begin form rounds next) at d.high c.high.items (values 0 d refl d.high (inr refl)) fits.0.1,
      ),
      bounds_codes f form rounds next at codes ds (λ k. values (suc k)) fits.1,
    )

    -- one with dimensions
    pub record IsDomainAt (order : Order) (codes : List DimensionCode) (form : RoundsOf) : Type 0 where
      pub ds : List Dimension
      pub form_is : form ≡ form_by order ds
      pub few : (1 ≤ length ds) × (length ds ≤ 3)
      pub are : AreDimensionsAt width compiled regions active codes ds

    pub domain_at : (order : Order) (dimensions : Vec DimensionCode Global) (form : RoundsOf) → BeginsForm width compiled regions active (head.Domain order dimensions) form → IsDomainAt order dimensions.items form
    domain_at order dimensions (Rows ds) begins = record {
      ds = ds;
      form_is = ap (λ o. form_by o ds) (sym begins.does.0);
      few = (active_well_scoped width compiled is regions active begins.f (Begin (Rows ds) begins.rounds begins.next) begins.is_active).0;
      are = bounds_codes begins.f (Rows ds) begins.rounds begins.next begins.is_active dimensions.items ds (λ k d there e of. (k, d, there, of)) begins.does.1;
    }
    domain_at order dimensions (Tiles ds) begins = record {
      ds = ds;
      form_is = ap (λ o. form_by o ds) (sym begins.does.0);
      few = (active_well_scoped width compiled is regions active begins.f (Begin (Tiles ds) begins.rounds begins.next) begins.is_active).0;
      are = bounds_codes begins.f (Tiles ds) begins.rounds begins.next begins.is_active dimensions.items ds (λ k d there e of. (k, d, there, of)) begins.does.1;
    }
    domain_at order dimensions (EachLane x) begins = absurd begins.does
    domain_at order dimensions (EachValue x e) begins = absurd begins.does

    pub dimensions_long : (order : Order) (codes : List DimensionCode) (form : RoundsOf) (domain : IsDomainAt order codes form) → length codes ≡ length domain.ds
    dimensions_long order codes form domain = fit_long (IsBoundsCode width compiled regions active) codes domain.ds domain.are

    pub dimensions_few : (order : Order) (codes : List DimensionCode) (form : RoundsOf) → IsDomainAt order codes form → (1 ≤ length codes) × (length codes ≤ 3)
    dimensions_few order codes form domain =
        let long = dimensions_long order codes form domain in (omega (arith, long, domain.few.0), omega (arith, long, domain.few.1))

    -- one with a value
    pub saved_at : (saved : Vec Instruction Global) (form : RoundsOf) → BeginsForm width compiled regions active (head.EachValue saved) form → (read : List Instruction) → read ≡ saved.items
        → (e : Expr) × IsValueAt width compiled regions active e read
    saved_at saved (EachValue x e) begins read same =
        (e, subst (IsValueAt width compiled regions active e) (sym same) (value_at width compiled is regions active begins.f (Begin (EachValue x e) begins.rounds begins.next) begins.is_active e saved.items refl begins.does))
    saved_at saved (Rows ds) begins read same = absurd begins.does
    saved_at saved (Tiles ds) begins read same = absurd begins.does
    saved_at saved (EachLane x) begins read same = absurd begins.does

    -- what the form keeps, or its fault, by what the code answers for that value
    pub saved_first : (saved : Vec Instruction Global) (form : RoundsOf) (begins : BeginsForm width compiled regions active (head.EachValue saved) form) (read : List Instruction) (same : read ≡ saved.items)
        → (lanes : Lanes) (state : State) (counters values : List ℕ) → lanes_of_word width (at counters 0) ≡ lanes → value (saved_at saved form begins read same).0 lanes state ≡ Ok values
        → first_kept form lanes state ≡ Ok (kept_in width form (record { end = []; numbers = []; counters = counters; values = values }))
    unfolding saved_at
    saved_first saved (EachValue x e) begins read same lanes state counters values here is = ap (λ r. r >>= λ vs. Ok (kept_lanes lanes vs)) is ∙ ap (λ l. Ok (kept_lanes l values)) (sym here)
    saved_first saved (Rows ds) begins read same lanes state counters values here is = absurd begins.does
    saved_first saved (Tiles ds) begins read same lanes state counters values here is = absurd begins.does
    saved_first saved (EachLane x) begins read same lanes state counters values here is = absurd begins.does

    pub saved_faults : (saved : Vec Instruction Global) (form : RoundsOf) (begins : BeginsForm width compiled regions active (head.EachValue saved) form) (read : List Instruction) (same : read ≡ saved.items)
        → (lanes : Lanes) (state : State) (fault : ModelFault) → value (saved_at saved form begins read same).0 lanes state ≡ Err fault → first_kept form lanes state ≡ Err fault
    unfolding saved_at
    saved_faults saved (EachValue x e) begins read same lanes state fault is = ap (λ r. r >>= λ vs. Ok (kept_lanes lanes vs)) is
    saved_faults saved (Rows ds) begins read same lanes state fault is = absurd begins.does
    saved_faults saved (Tiles ds) begins read same lanes state fault is = absurd begins.does
    saved_faults saved (EachLane x) begins read same lanes state fault is = absurd begins.does

  -- one with neither
  pub lanes_first : (form : RoundsOf) → BeginsForm width compiled regions active head.EachLane form → (lanes : Lanes) (state : State) (counters values : List ℕ) → lanes_of_word width (at counters 0) ≡ lanes
      → first_kept form lanes state ≡ Ok (kept_in width form (record { end = []; numbers = []; counters = counters; values = values }))
  lanes_first (EachLane x) begins lanes state counters values here = ap (λ l. Ok (kept_lanes l [])) (sym here)
  lanes_first (Rows ds) begins lanes state counters values here = absurd begins.does
  lanes_first (Tiles ds) begins lanes state counters values here = absurd begins.does
  lanes_first (EachValue x e) begins lanes state counters values here = absurd begins.does

pub first_fault : (width : ℕ) (form : RoundsOf) (result : Result (FirstWords width) Fault) (fault : Fault) (lanes : Lanes) (state : State) → result ≡ Err fault → first_kept form lanes state ≡ Err (fault_view fault)
    → IsFirst width form result (first_kept form lanes state)
first_fault width form result fault lanes state is fails = subst (λ r. IsFirst width form r (first_kept form lanes state)) (sym is) fails
