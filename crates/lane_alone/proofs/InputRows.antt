-- The rows of an input text give no varying variable of the file: they are for the entry's parameters and for uniform variables.
use Rattle.std.proofs.Common.{◌≡◌, refl, sym, ap, ◌∙◌, subst, ℕ, zero, suc, ◌+◌, Bool, true, false, cond, List, [], ◌∷◌, ◌++◌, arith}
use Rattle.std.specs.Prelude.{Result, Ok, Err, IfOk, not, ◌&&◌, ◌==◌, nat_lt, length, map, filter, find, is_some, slice_get, codes, Option, Some, None, ℤ, if◌then◌else◌}
use Rattle.gang_types.specs.declared.places.VarId.TheVariants.{File, Local}
use Rattle.gang_types.specs.Values.{wrapped}
use Rattle.gang_model.specs.Source.Names.{same_text}
use Rattle.gang_model.specs.Source.Parsed.{ParsedFunction, ParsedSource, functions_in}
use Rattle.gang_model.specs.Names.Bindings.{function_bindings, variable_bindings}
use Rattle.gang_model.specs.Names.Scope.{Binding}
use Rattle.gang_model.specs.Types.Tree.{Variable, Standing, Global, Function, Program}
use Rattle.gang_model.specs.Types.Resolved.{program_of}
use Rattle.gang_model.specs.Running.SeparateInstances.{IsVaryingScalar, IsOfGang}
use Rattle.gang_model.specs.Debugger.Positions.{closing_of, standing_in, scope_of}
use Rattle.gang_model.specs.Debugger.Events.{Event, Row, start, after}
use Rattle.gang_model.specs.Texts.Spellings.{Word, words_of_line}
use Rattle.gang_model.specs.Texts.Transcript.{lines_of}
use Rattle.gang_model.specs.Texts.InputText.{InputRefusal, Receiver, parameters_of, parameter_receiver, global_receiver, is_uniform, receivers, is_row_of, receiver_of, values_of, most_values, are_values, row_with, row_if, row_of, is_equals, is_skipped, complete, and_row, after_line, rows_from, rows_of}
use Rattle.gang_model.proofs.JudgedLaws.{and_true}
use Rattle.gang_model.proofs.RoundLanes.{each-of}
use Rattle.gang_model.proofs.StandingLaws.{Each, each_join, each_filter, Found, AllFound}
use Rattle.gang_model.proofs.VariableLaws.{FunctionsRight, names_of_standings, number_in, program_of-right, steps_found}
use Rattle.lane_alone.proofs.FileVariables.{numbered_file}
use Rattle.lane_alone.proofs.GangStates.{IsRunning, FitsRow, running_of_gang, start_running, events_running}
use Rattle.lane_alone.proofs.PurePrograms.{none_some, some_same}

-- what holds of an element, if there is one
abbrev IfSome : {A : Type 0} → (A → Type 0) → Option A → Type 0
IfSome P None = Unit {0}
IfSome P (Some x) = P x

kept_if : {A : Type 0} (P : A → Type 0) (b : Bool) (x : A) (xs : List A) → (b ≡ true → P x) → Each P xs → Each P (cond b (x ∷ xs) xs)
kept_if P true x xs h k = (h refl, k)
kept_if P false x xs h k = k

found_if : {A : Type 0} (P : A → Type 0) (b : Bool) (x : A) (rest : Option A) → P x → IfSome P rest → IfSome P (cond b (Some x) rest)
found_if P true x rest h k = h
found_if P false x rest h k = k

found : {A : Type 0} (P : A → Type 0) (test : A → Bool) (xs : List A) → Each P xs → IfSome P (find test xs)
found P test [] h = tt
found P test (x ∷ xs) h = found_if P (test x) x (find test xs) h.0 (found P test xs h.1)

either : {A : Type 0} (P : A → Type 0) (b : Bool) (r s : Result A InputRefusal) → IfOk r P → IfOk s P → IfOk (if b then r else s) P
either P true r s h k = h
either P false r s h k = k

module _ (source : ParsedSource) (p : Program) (is : program_of source ≡ Some p) where
  -- a variable is no varying scalar of the file
  abbrev IsNoVarying : Variable → Type 0
  IsNoVarying v = (n : ℕ) → v.id ≡ File n → IsVaryingScalar p n → ⊥

  -- ---- what is in scope at a step

  local_scope : (table : List Binding) (scope : List Variable) → Each (Found table) (variable_bindings scope) → Each IsNoVarying scope
  local_scope table [] h = tt
  local_scope table (v ∷ scope) h = (λ n named varying. apart h.0.0 n (sym h.0.1 ∙ named), local_scope table scope h.1)
    where
      apart : (k n : ℕ) → Local k ≡ File n → ⊥
      apart k n e = cc

  standing_local : (table : List Binding) (standings : List Standing) → Each (AllFound table) (names_of_standings standings) → (number : ℕ) (s : Standing) → slice_get standings number ≡ Some s → Each IsNoVarying s.scope
  standing_local table [] h number s e = absurd (none_some e)
  standing_local table (x ∷ standings) h zero s e = subst (λ y. Each IsNoVarying y.scope) (some_same e) (local_scope table x.scope h.0)
  standing_local table (x ∷ standings) h (suc number) s e = standing_local table standings h.1 number s e

  function_found : (functions : List ParsedFunction) (typed : List Function) → FunctionsRight source functions typed → (n : ℕ) (g : Function) → slice_get typed n ≡ Some g
      → (table : List Binding) × Each (AllFound table) (names_of_standings g.standings)
  function_found [] [] right n g e = absurd (none_some e)
  function_found [] (h ∷ typed) right n g e = absurd right
  function_found (f ∷ functions) [] right n g e = absurd right
  function_found (f ∷ functions) (h ∷ typed) right zero g e = (
    function_bindings f,
    subst (λ y. Each (AllFound (function_bindings f)) (names_of_standings y.standings)) (some_same e) (subst (Each (AllFound (function_bindings f))) (sym right.0.2) (steps_found source f)),
  )
  function_found (f ∷ functions) (h ∷ typed) right (suc n) g e = function_found functions typed right.1 n g e

  scope_local : (f : Option Function) (n : ℕ) → slice_get p.functions n ≡ f → (number : ℕ) → Each IsNoVarying (scope_of (standing_in f number))
  scope_local None n at number = tt
  scope_local (Some g) n at number = go (slice_get g.standings number) refl
    where
      go : (s : Option Standing) → slice_get g.standings number ≡ s → Each IsNoVarying (scope_of s)
      go None there = tt
      go (Some s) there = let known = function_found (functions_in source) p.functions (program_of-right source p is) n g at in standing_local known.0 g.standings known.1 number s there

  -- ---- what may have a row

  uniform_one : (k : ℕ) (g : Global) → slice_get p.globals k ≡ Some g → (is_uniform g.variable.rate && not g.variable.is_constant) ≡ true → IsNoVarying g.variable
  uniform_one k g at test n named (x, there, plain, varying) =
      let same : k ≡ n = ap number_in (sym (numbered_file source p is k g at) ∙ named) in
      let one : g ≡ x = some_same (sym at ∙ ap (slice_get p.globals) same ∙ there) in
      differ (sym (and_true (is_uniform g.variable.rate) (not g.variable.is_constant) test).0 ∙ ap is_uniform (ap (λ y. y.variable.rate) one ∙ varying))
    where
      differ : true ≡ false → ⊥
      differ e = cc

  uniform_globals : (k : ℕ) (globals : List Global) → ((i : ℕ) (g : Global) → slice_get globals i ≡ Some g → slice_get p.globals (k + i) ≡ Some g)
      → Each (λ g. IsNoVarying g.variable) (filter (λ g. is_uniform g.variable.rate && not g.variable.is_constant) globals)
  uniform_globals k [] at = tt
  uniform_globals k (g ∷ globals) at = kept_if (λ x. IsNoVarying x.variable) (is_uniform g.variable.rate && not g.variable.is_constant) g _ (λ test. uniform_one (k + 0) g (at 0 g refl) test)
      (uniform_globals (suc k) globals (λ i x h. subst (λ n. slice_get p.globals n ≡ Some x) (omega arith) (at (suc i) x h)))

  -- a receiver is no varying scalar of the file
  abbrev IsFreeReceiver : Receiver → Type 0
  IsFreeReceiver receiver = IsNoVarying receiver.variable

  receivers_free : (entry : ℕ) → Each IsFreeReceiver (receivers p (slice_get p.functions entry))
  receivers_free entry =
      let f = slice_get p.functions entry in
      each_join IsFreeReceiver (map parameter_receiver (parameters_of f)) (map global_receiver (filter (λ g. is_uniform g.variable.rate && not g.variable.is_constant) p.globals))
      (each-of IsNoVarying IsFreeReceiver parameter_receiver (λ v h. h) (parameters_of f)
      (each_filter IsNoVarying (λ v. v.is_parameter) (scope_of (standing_in f (closing_of f))) (scope_local f entry refl (closing_of f))))
      (each-of (λ g. IsNoVarying g.variable) IsFreeReceiver global_receiver (λ g h. h) (filter (λ g. is_uniform g.variable.rate && not g.variable.is_constant) p.globals)
      (uniform_globals 0 p.globals (λ i g h. subst (λ n. slice_get p.globals n ≡ Some g) (omega arith) h)))

  -- ---- rows

  module _ (w : ℕ) where
    abbrev Fits : Row → Type 0
    Fits row = FitsRow p w row

    free_fits : (v : Variable) (words : List ℕ) → IsNoVarying v → Fits (record { variable = v; words = words })
    free_fits v words free n named varying = absurd (free n named varying)

    row_with_fits : (line : ℕ) (receiver : Receiver) (rows : List Row) (zs : List ℤ) → IsFreeReceiver receiver → IfOk (row_with line receiver rows zs) Fits
    row_with_fits line receiver rows zs free =
        either Fits (not receiver.variable.is_array && not (length zs == 1)) _ _ tt
        (either Fits (receiver.variable.is_array && nat_lt (most_values receiver rows) (length zs)) _ _ tt
        (either Fits (not (are_values receiver.variable.type zs)) _ _ tt (free_fits receiver.variable (map (wrapped receiver.variable.type) zs) free)))

    row_if_fits : (line : ℕ) (receiver : Option Receiver) (rows : List Row) (zs : Option (List ℤ)) → IfSome IsFreeReceiver receiver → IfOk (row_if line receiver rows zs) Fits
    row_if_fits line None rows zs free = tt
    row_if_fits line (Some receiver) rows None free = tt
    row_if_fits line (Some receiver) rows (Some zs) free = row_with_fits line receiver rows zs free

    receiver_free : (rs : List Receiver) (rows : List Row) (name : List ℕ) → Each IsFreeReceiver rs → IfSome IsFreeReceiver (receiver_of rs rows name)
    receiver_free rs rows name free = go (is_some (find (is_row_of name) rows))
      where
        go : (b : Bool) → IfSome IsFreeReceiver (if b then None else find (λ receiver. same_text receiver.variable.name name) rs)
        go true = tt
        go false = found IsFreeReceiver (λ receiver. same_text receiver.variable.name name) rs free

    row_fits : (rs : List Receiver) (line : ℕ) (rows : List Row) (words : List Word) → Each IsFreeReceiver rs → IfOk (row_of rs line rows words) Fits
    row_fits rs line rows [] free = tt
    row_fits rs line rows (name ∷ []) free = tt
    row_fits rs line rows (name ∷ equals ∷ values) free =
        either Fits (same_text equals (codes "=")) _ _ (row_if_fits line (receiver_of rs rows name) rows (values_of values) (receiver_free rs rows name free)) tt

    complete_fits : (parameters : List Variable) (rows : List Row) → Each Fits rows → IfOk (complete parameters rows) (Each Fits)
    complete_fits [] rows h = h
    complete_fits (v ∷ parameters) rows h = either (Each Fits) (is_some (find (is_row_of v.name) rows)) _ _ (complete_fits parameters rows h) tt

    and_row_fits : (rows : List Row) (r : Result Row InputRefusal) (next : List Row → Result (List Row) InputRefusal) → Each Fits rows → IfOk r Fits
        → ((more : List Row) → Each Fits more → IfOk (next more) (Each Fits)) → IfOk (and_row rows r next) (Each Fits)
    and_row_fits rows (Ok row) next h k go = go (rows ++ row ∷ []) (each_join Fits rows (row ∷ []) h (k, tt))
    and_row_fits rows (Err refusal) next h k go = tt

    after_line_fits : (skipped : Bool) (rs : List Receiver) (n : ℕ) (rows : List Row) (line : List ℕ) (next : List Row → Result (List Row) InputRefusal) → Each IsFreeReceiver rs → Each Fits rows
        → ((more : List Row) → Each Fits more → IfOk (next more) (Each Fits)) → IfOk (after_line skipped rs n rows line next) (Each Fits)
    after_line_fits true rs n rows line next free h go = go rows h
    after_line_fits false rs n rows line next free h go = and_row_fits rows (row_of rs n rows (words_of_line is_equals line)) next h (row_fits rs n rows (words_of_line is_equals line) free) go

    lines_fit : (rs : List Receiver) (parameters : List Variable) (n : ℕ) (rows : List Row) (lines : List (List ℕ)) → Each IsFreeReceiver rs → Each Fits rows
        → IfOk (rows_from rs parameters n rows lines) (Each Fits)
    lines_fit rs parameters n rows [] free h = complete_fits parameters rows h
    lines_fit rs parameters n rows (line ∷ lines) free h =
        after_line_fits (is_skipped line) rs n rows line _ free h (λ more k. lines_fit rs parameters (suc n) more lines free k)

    -- the rows of an input text
    pub rows_fit : (entry : ℕ) (bytes : List ℕ) → IfOk (rows_of p entry bytes) (Each Fits)
    rows_fit entry bytes =
        let f = slice_get p.functions entry in
        either (Each Fits) (nat_lt 4194304 (length bytes)) _ _ tt (lines_fit (receivers p f) (parameters_of f) 1 [] (lines_of bytes) (receivers_free entry) tt)

    -- each state of a run on an input text is one of its gang, whose tasks name variables as they are declared
    pub run_running : (entry : ℕ) (bytes : List ℕ) (rows : List Row) → rows_of p entry bytes ≡ Ok rows → (events : List Event) → IsRunning source p w (after p (start p entry rows w) events)
    run_running entry bytes rows given events =
        let fits : Each Fits rows = subst (λ r. IfOk r (Each Fits)) given (rows_fit entry bytes) in
        events_running source p w is (start p entry rows w) events (start_running source p w is entry rows fits)

    pub run_of_gang : (entry : ℕ) (bytes : List ℕ) (rows : List Row) → rows_of p entry bytes ≡ Ok rows → (events : List Event) → IsOfGang p w (after p (start p entry rows w) events)
    run_of_gang entry bytes rows given events = running_of_gang source p w (after p (start p entry rows w) events) (run_running entry bytes rows given events)
