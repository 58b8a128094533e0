-- A variable that is seen has its words where the machine finds them.
use Rattle.std.proofs.Common.{◌≡◌, refl, sym, ap, ◌∙◌, subst, ℕ, Bool, inl, inr, true, false, [], ◌∷◌, length, nat_lt, Option, Some, None, arith}
use Rattle.std.specs.Prelude.{All, drop, take, slice_get, if◌then◌else◌}
use Rattle.std.proofs.lemmas.List.{take_all}
use Rattle.std.proofs.lemmas.Option.{get_or_from_slice_get, none-some, slice_get_within}
use Rattle.gang_types.specs.declared.types.Rate.{Rate}
use Rattle.gang_types.specs.declared.types.Rate.TheVariants.{Uniform, Varying}
use Rattle.gang_types.specs.declared.places.VarId.{VarId}
use Rattle.gang_types.specs.declared.places.VarId.TheVariants.{File, Local}
use Rattle.gang_model.specs.Types.Tree.{Variable, Standing, Function, Program}
use Rattle.gang_model.specs.Running.State.{View, view_of, words_in, words_for}
use Rattle.gang_model.specs.Debugger.Debugger.{OutOfRange, bad_part, elements, poked_by, shown_words}
use Rattle.gang_model.specs.Debugger.Events.{LaneOf, ElementAt, poked}
use Rattle.gang_model.specs.Debugger.Positions.{spot_in}
use Rattle.mask_states.specs.Points.{points_in}
use Rattle.mask_states.specs.Masked.{Masked}
use Rattle.codegen.specs.Programs.{IsRunnable}
use Rattle.machine_states.specs.ArrayParts.{view_at}
use Rattle.machine_states.specs.Declared.{AreDeclared}
use Rattle.machine_states.specs.Effects.{region_of}
use Rattle.machine_states.specs.WellScoped.{IsWellScopedName}
use Rattle.machine_states.specs.Regions.{Depth, OfFile, Region, Regions, with_region}
use Rattle.machine_states.specs.Shows.{AreSized, IsScalarIn, Shows}
use Rattle.machine_states.specs.Variables.{Variables, own_of}
use Rattle.machine_states.proofs.AlwaysDeclared.{HasOwn, scope_has, top_declared}
use Rattle.machine_states.proofs.DeclaredLists.{same_some}
use Rattle.machine_states.proofs.ElementSteps.{array_shown}
use Rattle.machine_states.proofs.Endings.{over_nowhere}
use Rattle.machine_states.proofs.Pokes.{poked_at, pokes, pokes_element, pokes_file}
use Rattle.machine_states.proofs.TopFrame.{spot}
use Rattle.machine_states.proofs.WrittenVariables.{HasVariable, variable_in}
use Rattle.frame_steps.specs.declared.active.Active.{Active}
use Rattle.frame_steps.specs.declared.compiled.CompiledProgram.{CompiledProgram}
use Rattle.frame_steps.specs.Compiled.{program_of, variables_of}
use Rattle.frame_steps.specs.Standing.{IsActive}
use Rattle.machine_shown.specs.Seen.{IsInScope, IsPartOf, IsSeen, StandsAt}
use Rattle.machine_shown.specs.ShownWords.{HasNoWords, HasWords, OfElements, OfScalar, WordsShown, count_shown, has_part, part_set, region_shown, shown_of, words_shown}

-- ---- parts

-- what can be set is there
lane_below : (k count n : ℕ) → count ≡ n → (b : Bool) → nat_lt k count ≡ b → (if b then None else Some OutOfRange) ≡ None → nat_lt k n ≡ true
lane_below k count n long true test is = ap (nat_lt k) (sym long) ∙ test
lane_below k count n long false test is = cc

part_of : (width : ℕ) (part : Option ℕ) (region : Region) (view : View) (array : Bool) (rate : Rate) (count : ℕ)
    → count ≡ count_shown width (if array then OfElements view else OfScalar region rate) → bad_part false part array rate count ≡ None
    → has_part width (if array then OfElements view else OfScalar region rate) part ≡ true
part_of width None region view true rate count long is = cc
part_of width None region view false rate count long is = refl
part_of width (Some k) region view true rate count long is = lane_below k count view.len long (nat_lt k count) refl is
part_of width (Some k) region view false Uniform count long is = cc
part_of width (Some k) region view false Varying count long is = lane_below k count width long (nat_lt k count) refl is

-- a poke of a scalar, and of an element
poked_scalar : (v : Variable) (part : Option ℕ) → v.is_array ≡ false → poked_by v part ≡ poked_at v.id part
poked_scalar v None well_scoped = refl
poked_scalar v (Some k) well_scoped = ap (λ b. if b then ElementAt v.id k else LaneOf v.id k) well_scoped

poked_element : (v : Variable) (k : ℕ) → v.is_array ≡ true → poked_by v (Some k) ≡ ElementAt v.id k
poked_element v k array = ap (λ b. if b then ElementAt v.id k else LaneOf v.id k) array

-- ---- names

other_kind : (j k : ℕ) → Local j ≡ File k → ⊥
other_kind j k e = cc

same_local : (j k : ℕ) → Local j ≡ Local k → j ≡ k
same_local j k e = cc

same_file : (j k : ℕ) → File j ≡ File k → j ≡ k
same_file j k e = cc

module _ (compiled : CompiledProgram) (runnable : IsRunnable compiled.program) where
  abbrev p : Program
  p = program_of compiled

  abbrev variables : Variables
  variables = variables_of compiled

  -- a name in scope stands for a variable of its function
  abbrev IsNamed : (function : ℕ) → Variable → Type 0
  IsNamed function v = (j : ℕ) × (v.id ≡ Local j) × (slice_get (own_of variables function) j ≡ Some v)

  named : (function number : ℕ) (f : Function) (standing : Standing) (k : ℕ) (v : Variable) → StandsAt compiled function number f standing → slice_get standing.scope k ≡ Some v
      → IsNamed function v
  named function number f standing k v stands e =
      let scopes : All (IsWellScopedName variables function) standing.scope = (runnable.well_scoped.functions function f stands.is_function).scopes number standing stands.stands in
      let well_scoped : IsWellScopedName variables function v =
      subst (IsWellScopedName variables function) (get_or_from_slice_get standing.scope k v v e) (scopes k v (slice_get_within standing.scope k v e)) in
      (well_scoped.0, runnable.well_scoped.own function well_scoped.0 v well_scoped.1, well_scoped.1)

  in_scope : (masked : Masked) (v : Variable) → IsInScope compiled masked v → (function : ℕ) × IsNamed function v
  in_scope masked v (function, number, f, standing, at_spot, stands, k, e) = (function, named function number f standing k v stands e)

  -- a variable that is seen and is one of the file
  seen_file : (masked : Masked) (v : Variable) → IsSeen compiled masked v → (k : ℕ) → v.id ≡ File k → slice_get variables.file k ≡ Some v
  seen_file masked v (inl seen) k e = let found = in_scope masked v seen in absurd (other_kind found.1.0 k (sym found.1.1 ∙ e))
  seen_file masked v (inr (j, is)) k e = subst (λ i. slice_get variables.file i ≡ Some v) (same_file j k (sym (runnable.well_scoped.file j v is) ∙ e)) is

  seen_local : (masked : Masked) (v : Variable) → IsSeen compiled masked v → (k : ℕ) → v.id ≡ Local k → IsInScope compiled masked v
  seen_local masked v (inl seen) k e = seen
  seen_local masked v (inr (j, is)) k e = absurd (other_kind k j (sym e ∙ runnable.well_scoped.file j v is))

  module _ (width : ℕ) (regions : Regions) (masked : Masked) (shows : Shows p variables width regions masked) (declared : AreDeclared variables p masked) where
    -- nothing is in scope once the program has ended
    nowhere : regions Depth ≡ 0 ∷ [] → (v : Variable) → IsInScope compiled masked v → ⊥
    nowhere ended v (function, number, f, standing, at_spot, stands, k, e) =
        none-some (spot_in function number) (sym (over_nowhere p variables width regions masked shows ended) ∙ at_spot)

    -- a variable in scope is one of the top frame's function, and a scalar is declared there
    top_named : (active : Active) (f : Function) → IsActive width compiled regions active f (slice_get (points_in f) active.step) → (v : Variable) → IsInScope compiled masked v
        → (j : ℕ) × (v.id ≡ Local j) × (slice_get (own_of variables active.function) j ≡ Some v) × (v.is_array ≡ false → HasVariable masked.state.frames (Local j))
    top_named active g is v (function, number, f, standing, at_spot, stands, k, e) =
        let point = slice_get (points_in g) active.step in
        let here = same_some (spot_in function number) (spot_in active.function active.step)
        (sym at_spot ∙ spot p variables width regions masked shows active.frame active.level active.function g active.step point is.next) in
        let same_function : function ≡ active.function = ap (λ s. s.function.0) here in
        let same_number : number ≡ active.step = ap (λ s. s.number) here in
        let same : f ≡ g = same_some f g (sym stands.is_function ∙ ap (slice_get p.functions) same_function ∙ is.next.is_function) in
        let top = top_declared variables p width regions active.frame active.level active.function g active.step point is.next masked shows declared in
        let standing_is : slice_get g.standings active.step ≡ Some standing =
        ap (λ h. slice_get h.standings active.step) (sym same) ∙ ap (slice_get f.standings) (sym same_number) ∙ stands.stands in
        let all = scope_has variables p runnable.declared width regions masked active.frame active.function g active.step is.next.is_function top standing standing_is in
        let found = named function number f standing k v stands e in
        let own : v.is_array ≡ false → HasOwn top.frame.vars v.id =
        subst (λ (u : Variable). u.is_array ≡ false → HasOwn top.frame.vars u.id) (get_or_from_slice_get standing.scope k v v e) (all k v (slice_get_within standing.scope k v e)) in (
          found.0,
          found.1,
          ap (λ m. slice_get (own_of variables m) found.0) (sym same_function) ∙ found.2,
          λ well_scoped. subst (λ frames. HasVariable frames (Local found.0)) (sym top.are) (own well_scoped found.0 found.1),
        )

    -- a variable that is seen is found
    pub is_found : (id : VarId) (v : Variable) → IsSeen compiled masked v → v.id ≡ id → HasNoWords width compiled regions id → ⊥
    is_found (File k) v seen e none = none-some v (sym none ∙ seen_file masked v seen k e)
    is_found (Local k) v seen e (inl ended) = nowhere ended v (seen_local masked v seen k e)
    is_found (Local k) v seen e (inr (active, none)) =
        let found = top_named active none.f none.active_is v (seen_local masked v seen k e) in
        none-some v (sym none.none ∙ ap (slice_get (own_of variables active.function)) (same_local k found.0 (sym e ∙ found.1)) ∙ found.2)

    -- where the words of a variable that is seen stand
    record SeenIn (id : VarId) (v : Variable) (shown : WordsShown) : Type 0 where
      pub frame : ℕ
      pub shown_is : shown ≡ shown_of regions frame id v
      pub view : v.is_array ≡ true → view_of masked.state id ≡ view_at regions frame id
      pub scalar : AreSized variables width regions → v.is_array ≡ false → IsScalarIn width v.rate (words_in masked.state id) (regions (region_of frame id))
      pub pokes : AreSized variables width regions → v.is_array ≡ false → (part : Option ℕ) (word : ℕ)
          → Shows p variables width (with_region (region_of frame id) (part_set (OfScalar (region_of frame id) v.rate) part word (regions (region_of frame id))) regions)
          (record masked { state = poked (poked_at id part) word masked.state })

    seen_in : (id : VarId) (v : Variable) → IsSeen compiled masked v → v.id ≡ id → (shown : WordsShown) → HasWords width compiled regions id shown → SeenIn id v shown
    seen_in (File k) v seen e shown (u, is, shown_is) =
        let file = seen_file masked v seen k e in
        record {
          frame = 0;
          shown_is = shown_is ∙ ap (λ x. shown_of regions 0 (File k) x) (same_some u v (sym is ∙ file));
          view = λ array. ap (λ ws. record { array = File k; first = 0; len = length ws }) (shows.memory (File k));
          scalar = λ sized well_scoped.
              let long = sized.file k v file well_scoped in
              record {
                long = ap length (shows.memory (File k)) ∙ long;
                stands = shows.memory (File k) ∙ sym (take_all (words_for width v.rate) (regions (OfFile k)) (omega (arith, long)));
              };
          pokes = λ sized well_scoped part word. pokes_file p variables width regions masked shows sized part word k v file well_scoped;
        }
    seen_in (Local k) v seen e shown has =
        let active = has.active in
        let next = has.active_is.next in
        let found = top_named active has.f has.active_is v (seen_local masked v seen k e) in
        let same : found.0 ≡ k = same_local found.0 k (sym found.1 ∙ e) in
        let own : slice_get (own_of variables active.function) k ≡ Some v = ap (slice_get (own_of variables active.function)) (sym same) ∙ found.2 in
        let there : v.is_array ≡ false → HasVariable masked.state.frames (Local k) = λ well_scoped. subst (λ j. HasVariable masked.state.frames (Local j)) same (found.3 well_scoped) in
        record {
          frame = active.frame;
          shown_is = has.shown_is ∙ ap (λ x. shown_of regions active.frame (Local k) x) (same_some has.variable v (sym has.is_variable ∙ own));
          view = λ array. array_shown p variables width regions masked shows active.frame active.level active.function has.f active.step _ next (Local k) (v, own, array);
          scalar = λ sized well_scoped. variable_in p variables width active.frame active.function regions masked shows next.depth next.function sized (Local k) v own well_scoped (there well_scoped);
          pokes = λ sized well_scoped part word. pokes p variables width regions masked shows sized part word active.frame active.function next.depth next.function (Local k) v own well_scoped (there well_scoped);
        }

    module _ (sized : AreSized variables width regions) (id : VarId) (v : Variable) (seen : IsSeen compiled masked v) (e : v.id ≡ id) (shown : WordsShown) (has : HasWords width compiled regions id shown) where
      abbrev here : SeenIn id v shown
      here = seen_in id v seen e shown has

      by_kind : (b : Bool) → v.is_array ≡ b
          → shown_words masked.state v ≡ words_shown width regions (if b then OfElements (view_at regions here.frame id) else OfScalar (region_of here.frame id) v.rate)
      by_kind true array =
          let view : View = view_at regions here.frame id in
          ap (λ b. if b then elements (view_of masked.state v.id) masked.state else words_in masked.state v.id) array
          ∙ ap (λ i. elements (view_of masked.state i) masked.state) e
          ∙ ap (λ u. elements u masked.state) (here.view array)
          ∙ ap (λ ws. take view.len (drop view.first ws)) (shows.memory view.array)
      by_kind false well_scoped =
          ap (λ b. if b then elements (view_of masked.state v.id) masked.state else words_in masked.state v.id) well_scoped
          ∙ ap (words_in masked.state) e
          ∙ (here.scalar sized well_scoped).stands

      -- its words are those that are shown
      pub words_stand : shown_words masked.state v ≡ words_shown width regions shown
      words_stand = by_kind v.is_array refl ∙ ap (words_shown width regions) (sym here.shown_is)

      module _ (long : length (words_shown width regions shown) ≡ count_shown width shown) (part : Option ℕ) (set : IsPartOf masked v part) where
        -- what can be set of it is there
        pub part_there : has_part width shown part ≡ true
        part_there =
            ap (λ x. has_part width x part) here.shown_is
            ∙ part_of width part (region_of here.frame id) (view_at regions here.frame id) v.is_array v.rate (length (shown_words masked.state v))
            (ap length words_stand ∙ long ∙ ap (count_shown width) here.shown_is) set

        module _ (word : ℕ) where
          abbrev PokeShows : WordsShown → Type 0
          PokeShows x = Shows p variables width (with_region (region_shown x) (part_set x part word (regions (region_shown x))) regions) (record masked { state = poked (poked_by v part) word masked.state })

          element_pokes : (at : Option ℕ) → v.is_array ≡ true → has_part width (OfElements (view_at regions here.frame id)) at ≡ true
              → Shows p variables width (with_region (region_shown (OfElements (view_at regions here.frame id))) (part_set (OfElements (view_at regions here.frame id)) at word (regions (region_shown (OfElements (view_at regions here.frame id))))) regions)
              (record masked { state = poked (poked_by v at) word masked.state })
          element_pokes None array has = cc
          element_pokes (Some k) array has =
              let view : View = view_at regions here.frame id in
              subst (λ what. Shows p variables width (with_region (region_shown (OfElements view)) (part_set (OfElements view) (Some k) word (regions (region_shown (OfElements view)))) regions) (record masked { state = poked what word masked.state }))
              (sym (poked_element v k array ∙ ap (λ i. ElementAt i k) e))
              (pokes_element p variables width regions masked shows id view (here.view array) k word)

          poke_by_kind : (b : Bool) → v.is_array ≡ b → has_part width (if b then OfElements (view_at regions here.frame id) else OfScalar (region_of here.frame id) v.rate) part ≡ true
              → PokeShows (if b then OfElements (view_at regions here.frame id) else OfScalar (region_of here.frame id) v.rate)
          poke_by_kind true array has = element_pokes part array has
          poke_by_kind false well_scoped has =
              let region : Region = region_of here.frame id in
              subst (λ what. Shows p variables width (with_region region (part_set (OfScalar region v.rate) part word (regions region)) regions) (record masked { state = poked what word masked.state }))
              (sym (poked_scalar v part well_scoped ∙ ap (λ i. poked_at i part) e))
              (here.pokes sized well_scoped part word)

          -- the regions show the state after it is set
          pub poke_shows : PokeShows shown
          poke_shows =
              subst PokeShows (sym here.shown_is)
              (poke_by_kind v.is_array refl (ap (λ x. has_part width x part) (sym here.shown_is) ∙ part_there))
