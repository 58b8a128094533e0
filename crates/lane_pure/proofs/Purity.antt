-- What the marks of the functions that lead to one that is not lane-pure by itself decide.
use Rattle.std.proofs.Common.{◌≡◌, refl, sym, ap, ◌∙◌, subst, ℕ, zero, suc, ◌+◌, ◌<◌, Bool, true, false, List, [], ◌∷◌, length, map, get_or, Bor, Option, Some, None, inl, inr, arith, true≢false}
use Rattle.std.specs.Prelude.{not, if◌then◌else◌, ◌⊎◌, ◌↔◌, IsTrue, replicate, slice_get, slice_set}
use Rattle.std.specs.Option.{option_copied}
use Rattle.std.specs.Slice.{IsItemAt}
use Rattle.std.proofs.lemmas.Option.{slice_get_past, slice_get_read}
use Rattle.std.proofs.lemmas.List.{length-map, length-replicate}
use Rattle.gang_model.specs.Source.Parsed.{ParsedSource, ParsedFunction, functions_in}
use Rattle.gang_model.specs.Types.Resolved.{program_of}
use Rattle.gang_model.specs.Types.Tree.{Function, Program}
use Rattle.gang_model.specs.Running.LanePure.{is_pure_function, Reaches, itself, called, IsLanePure}
use Rattle.lane_alone.proofs.PurePrograms.{are_separate, functions_alike}
use Rattle.lane_pure.specs.Answers.{AreAnswers}
use Rattle.lane_pure.specs.Callers.{AreCallers, IsCaller}
use Rattle.lane_pure.specs.Found.{IsSpread, Leads, is_marked, by_call, with_impure}
use Rattle.lane_pure.proofs.Spreading.{either, get_below, none_marked, none_some, set_from, set_keeps, set_length, set_same, some_same}

-- ---- the functions that are not lane-pure by themselves

one_length : (b : Bool) (n : ℕ) (marks : List Bool) → length (if b then marks else slice_set marks n true) ≡ length marks
one_length true n marks = refl
one_length false n marks = set_length marks n

one_keeps : (b : Bool) (n m : ℕ) (marks : List Bool) → slice_get marks m ≡ Some true → slice_get (if b then marks else slice_set marks n true) m ≡ Some true
one_keeps true n m marks h = h
one_keeps false n m marks h = set_keeps marks n m h

one_from : (b : Bool) (n m : ℕ) (marks : List Bool) → slice_get (if b then marks else slice_set marks n true) m ≡ Some true → (slice_get marks m ≡ Some true) ⊎ ((m ≡ n) × (b ≡ false))
one_from true n m marks h = inl h
one_from false n m marks h = either (set_from marks n m h) (λ old. inl old) (λ same. inr (same, refl))

impure_length : (first : ℕ) (written : List ParsedFunction) (functions : List Function) (marks : List Bool) → length (with_impure first written functions marks) ≡ length marks
impure_length first [] functions marks = refl
impure_length first (w ∷ written) [] marks = refl
impure_length first (w ∷ written) (f ∷ functions) marks = impure_length (suc first) written functions (if is_pure_function w f then marks else slice_set marks first true) ∙ one_length (is_pure_function w f) first marks

impure_keeps : (first : ℕ) (written : List ParsedFunction) (functions : List Function) (marks : List Bool) (m : ℕ) → slice_get marks m ≡ Some true → slice_get (with_impure first written functions marks) m ≡ Some true
impure_keeps first [] functions marks m h = h
impure_keeps first (w ∷ written) [] marks m h = h
impure_keeps first (w ∷ written) (f ∷ functions) marks m h =
    impure_keeps (suc first) written functions (if is_pure_function w f then marks else slice_set marks first true) m (one_keeps (is_pure_function w f) first m marks h)

impure_there : (first : ℕ) (written : List ParsedFunction) (functions : List Function) (marks : List Bool) (i : ℕ) (w : ParsedFunction) (f : Function) → slice_get written i ≡ Some w → slice_get functions i ≡ Some f
    → is_pure_function w f ≡ false → first + i < length marks → slice_get (with_impure first written functions marks) (first + i) ≡ Some true
impure_there first [] functions marks i w f is_w is_f impure less = absurd (none_some is_w)
impure_there first (v ∷ written) [] marks i w f is_w is_f impure less = absurd (none_some is_f)
impure_there first (v ∷ written) (g ∷ functions) marks zero w f is_w is_f impure less =
    let same : is_pure_function v g ≡ false = ap (λ x. is_pure_function x g) (some_same is_w) ∙ ap (is_pure_function w) (some_same is_f) ∙ impure in
    impure_keeps (suc first) written functions (if is_pure_function v g then marks else slice_set marks first true) (first + 0)
    (subst (λ (b : Bool). slice_get (if b then marks else slice_set marks first true) (first + 0) ≡ Some true) (sym same)
    (subst (λ n. slice_get (slice_set marks first true) n ≡ Some true) (omega arith) (set_same marks first (omega (arith, less)))))
impure_there first (v ∷ written) (g ∷ functions) marks (suc i) w f is_w is_f impure less =
    let next = if is_pure_function v g then marks else slice_set marks first true in
    subst (λ n. slice_get (with_impure (suc first) written functions next) n ≡ Some true) (omega arith)
    (impure_there (suc first) written functions next i w f is_w is_f impure (omega (arith, less, one_length (is_pure_function v g) first marks)))

-- the marks where none was marked before
pub as_many : (written : List ParsedFunction) (functions : List Function) (count : ℕ) (marks : List Bool) → marks ≡ with_impure 0 written functions (replicate count false) → length marks ≡ count
as_many written functions count marks is = ap length is ∙ impure_length 0 written functions (replicate count false) ∙ length-replicate count false

-- a function from one on that is not lane-pure by itself
abbrev IsImpure : (first : ℕ) → List ParsedFunction → List Function → ℕ → Type 0
IsImpure first written functions n = (i : ℕ) × (w : ParsedFunction) × (f : Function) × (n ≡ first + i) × (slice_get written i ≡ Some w) × (slice_get functions i ≡ Some f) × (is_pure_function w f ≡ false)

impure_from : (first : ℕ) (written : List ParsedFunction) (functions : List Function) (marks : List Bool) (n : ℕ) → slice_get (with_impure first written functions marks) n ≡ Some true
    → (slice_get marks n ≡ Some true) ⊎ IsImpure first written functions n
impure_from first [] functions marks n h = inl h
impure_from first (w ∷ written) [] marks n h = inl h
impure_from first (w ∷ written) (f ∷ functions) marks n h = either (impure_from (suc first) written functions (if is_pure_function w f then marks else slice_set marks first true) n h)
    (λ k. either (one_from (is_pure_function w f) first n marks k) (λ old. inl old) (λ new. inr (0, w, f, new.0 ∙ omega arith, refl, refl, new.1)))
    (λ later. inr (suc later.0, later.1, later.2, later.3 ∙ omega arith, later.4, later.5, later.6))

-- ---- the functions that lead to them

-- what a called function reaches the caller reaches
through : (p : Program) (n m g : ℕ) → IsCaller p n m → Reaches p m g → Reaches p n g
through p n m _ c itself = called itself c.1 c.2
through p n m g c (called before at call) = called (through p n m _ c before) at call

get_not : (marks : List Bool) (n : ℕ) (b : Bool) → slice_get (map not marks) n ≡ Some b → slice_get marks n ≡ Some (not b)
get_not [] n b h = absurd (none_some h)
get_not (true ∷ marks) zero true h = absurd (cc)
get_not (true ∷ marks) zero false h = refl
get_not (false ∷ marks) zero true h = refl
get_not (false ∷ marks) zero false h = absurd (cc)
get_not (x ∷ marks) (suc n) b h = get_not marks n b h

module _ (source : ParsedSource) (p : Program) (typed : program_of source ≡ Some p) (callers : List (List ℕ)) (are : AreCallers p callers) (alone marks : List Bool)
    (by_itself : alone ≡ with_impure 0 (functions_in source) p.functions (replicate (length p.functions) false)) (spread : IsSpread callers alone marks) where
  many : length marks ≡ length p.functions
  many = spread.all ∙ as_many (functions_in source) p.functions (length p.functions) alone by_itself

  -- a function that is not marked reaches none that is
  unmarked : (n : ℕ) → (slice_get marks n ≡ Some true → ⊥) → (g : ℕ) → Reaches p n g → slice_get marks g ≡ Some true → ⊥
  unmarked n clear _ itself h = clear h
  unmarked n clear g (called {g = before} {function = function} earlier at call) h =
      let less : g < length p.functions = subst (λ l. g < l) many (get_below marks g true h) in
      let below : before < length marks = subst (λ l. before < l) (sym many) (get_below p.functions before function at) in
      unmarked n clear before earlier (spread.closed before g (are.complete before g (function, at, call) less) h below)

  -- so it is lane-pure
  pure_one : (n : ℕ) → (slice_get marks n ≡ Some true → ⊥) → IsLanePure source p n
  pure_one n clear g w f reached is_w is_f = by_cases (is_pure_function w f) refl
    where
      by_cases : (b : Bool) → is_pure_function w f ≡ b → is_pure_function w f ≡ true
      by_cases true is = is
      by_cases false is =
          let less : 0 + g < length (replicate (length p.functions) false) = omega (arith, get_below p.functions g f is_f, length-replicate {A = Bool} (length p.functions) false) in
          let there = impure_there 0 (functions_in source) p.functions (replicate (length p.functions) false) g w f is_w is_f is less in
          let same : 0 + g ≡ g = omega arith in
          absurd (unmarked n clear g reached (spread.keeps g (subst (λ xs. slice_get xs g ≡ Some true) (sym by_itself) (subst (λ i. slice_get (with_impure 0 (functions_in source) p.functions (replicate (length p.functions) false)) i ≡ Some true) same there))))

  -- a function that is marked is not
  impure_one : (n : ℕ) → Leads callers alone n → IsLanePure source p n → ⊥
  impure_one n (is_marked h) pure =
      either (impure_from 0 (functions_in source) p.functions (replicate (length p.functions) false) n (subst (λ xs. slice_get xs n ≡ Some true) by_itself h))
      (λ none. none_marked (length p.functions) n none)
      (λ i. let same : n ≡ i.0 = omega (arith, i.3) in true≢false (sym (pure i.0 i.1 i.2 (subst (Reaches p n) same itself) i.4 i.5) ∙ i.6))
  impure_one n (by_call {m = m} c later) pure = impure_one m later (λ g w f reached. pure g w f (through p n m g (are.sound n m c) reached))

  exactly : (answers : List Bool) → answers ≡ map not marks → (n : ℕ) (is : Bool) → slice_get answers n ≡ Some is → IsTrue is ↔ IsLanePure source p n
  exactly answers are_not n true h =
      let clear : slice_get marks n ≡ Some false = get_not marks n true (subst (λ xs. slice_get xs n ≡ Some true) are_not h) in
      (λ yes. pure_one n (λ marked. true≢false (some_same (sym marked ∙ clear))), λ pure. refl)
  exactly answers are_not n false h =
      let marked : slice_get marks n ≡ Some true = get_not marks n false (subst (λ xs. slice_get xs n ≡ Some false) are_not h) in
      (λ no. absurd (true≢false (sym no)), λ pure. absurd (impure_one n (spread.sound n marked) pure))

  -- the marks turned are the answers
  pub are_answers : (answers : List Bool) → answers ≡ map not marks → AreAnswers source p answers
  are_answers answers are_not = record {
    all = ap length are_not ∙ length-map marks not ∙ many ∙ sym (functions_alike source p typed);
    exact = exactly answers are_not;
    separate = λ n h. are_separate source p typed n ((exactly answers are_not n true h).0 refl);
  }

-- ---- one function

-- past all functions none is reached but itself
past_reach : (p : Program) (n g : ℕ) → (n < length p.functions → ⊥) → Reaches p n g → g ≡ n
past_reach p n _ past itself = refl
past_reach p n g past (called {g = before} {function = function} earlier at call) =
    absurd (past (subst (λ i. i < length p.functions) (past_reach p n before past earlier) (get_below p.functions before function at)))

past_pure : (source : ParsedSource) (p : Program) (n : ℕ) → (n < length p.functions → ⊥) → IsLanePure source p n
past_pure source p n past g w f reached is_w is_f = absurd (past (subst (λ i. i < length p.functions) (past_reach p n g past reached) (get_below p.functions g f is_f)))

-- what is read at a number
pub copied_item : {A : Type 0} (xs : List A) (n : ℕ) (r : Option (Bor A)) → IsItemAt xs n r → option_copied r ≡ slice_get xs n
copied_item xs n None h = sym (slice_get_past xs n h.3)
copied_item xs n (Some x) h = sym (slice_get_read xs (length xs) n x.now refl h.3.0 h.1)

-- its answer; a number that no function has counts as lane-pure
pub one_decided : (source : ParsedSource) (p : Program) (answers : List Bool) (n : ℕ) → program_of source ≡ Some p → AreAnswers source p answers
    → (is : Bool) → is ≡ get_or answers n true → IsTrue is ↔ IsLanePure source p n
one_decided source p answers n typed are is same = subst (λ b. IsTrue b ↔ IsLanePure source p n) (sym same) (either (within answers n)
    (λ at. are.exact n (get_or answers n true) at)
    (λ past. (λ yes. past_pure source p n (λ less. past.0 (subst (λ l. n < l) (sym (are.all ∙ functions_alike source p typed)) less)), λ pure. past.1)))
  where
    within : (answers : List Bool) (n : ℕ) → (slice_get answers n ≡ Some (get_or answers n true)) ⊎ ((n < length answers → ⊥) × (get_or answers n true ≡ true))
    within [] n = inr (λ h. omega (arith, h), refl)
    within (x ∷ answers) zero = inl refl
    within (x ∷ answers) (suc n) = either (within answers n) (λ at. inl at) (λ past. inr (λ h. past.0 (omega (arith, h)), past.1))
