-- What the lists of callers say of calls.
use Rattle.std.proofs.Common.{◌≡◌, refl, sym, ap, ◌∙◌, subst, ℕ, zero, suc, ◌+◌, ◌<◌, List, [], ◌∷◌, ◌++◌, length, get_or, Vec, Global, Some, inl, inr, arith}
use Rattle.std.specs.Prelude.{◌⊎◌, Contains, replicate, slice_get, slice_set}
use Rattle.std.proofs.lemmas.List.{length-replicate}
use Rattle.std.proofs.lemmas.List.Elements.{Contains-append_left, Contains-push, Contains-push_cases}
use Rattle.gang_model.specs.Running.LanePure.{Calls, here, in_first, in_rest, in_then, in_else, in_update, in_loop, in_do, in_switch, in_segment, in_later}
use Rattle.gang_model.specs.Types.Tree.{Stmt, Then, If, Loop, BodyFirst, Switch, Segment, Call, Function, Program}
use Rattle.lane_pure.specs.Callers.{lists, with_caller, with_calls, with_functions, AreCallers}
use Rattle.lane_pure.proofs.Spreading.{either, none_some, some_same}

-- ---- one caller more

caller_length : (c f : ℕ) (callers : List (List ℕ)) → length (with_caller c f callers) ≡ length callers
caller_length c zero [] = refl
caller_length c (suc f) [] = refl
caller_length c zero (l ∷ callers) = refl
caller_length c (suc f) (l ∷ callers) = ap suc (caller_length c f callers)

caller_there : (c f : ℕ) (callers : List (List ℕ)) → f < length callers → Contains (get_or (with_caller c f callers) f []) c
caller_there c f [] h = absurd (omega (arith, h))
caller_there c zero (l ∷ callers) h = Contains-push l c
caller_there c (suc f) (l ∷ callers) h = caller_there c f callers (omega (arith, h))

-- the callers that are there are kept
caller_keeps : (c f : ℕ) (callers : List (List ℕ)) (m n : ℕ) → Contains (get_or callers m []) n → Contains (get_or (with_caller c f callers) m []) n
caller_keeps c zero [] m n h = h
caller_keeps c (suc f) [] m n h = h
caller_keeps c zero (l ∷ callers) zero n h = Contains-append_left l (c ∷ []) n h
caller_keeps c zero (l ∷ callers) (suc m) n h = h
caller_keeps c (suc f) (l ∷ callers) zero n h = h
caller_keeps c (suc f) (l ∷ callers) (suc m) n h = caller_keeps c f callers m n h

-- a caller was there before, or is the new one
caller_from : (c f : ℕ) (callers : List (List ℕ)) (m n : ℕ) → Contains (get_or (with_caller c f callers) m []) n → Contains (get_or callers m []) n ⊎ ((n ≡ c) × (m ≡ f))
caller_from c zero [] m n h = inl h
caller_from c (suc f) [] m n h = inl h
caller_from c zero (l ∷ callers) zero n h = either (Contains-push_cases l c n h) (λ old. inl old) (λ same. inr (sym same, refl))
caller_from c zero (l ∷ callers) (suc m) n h = inl h
caller_from c (suc f) (l ∷ callers) zero n h = inl h
caller_from c (suc f) (l ∷ callers) (suc m) n h = either (caller_from c f callers m n h) (λ old. inl old) (λ new. inr (new.0, ap suc new.1))

-- where the list of a function is written with one caller more
pub caller_put : (c f : ℕ) (callers : List (Vec ℕ Global)) (old new : Vec ℕ Global) → f < length callers → new.items ≡ (get_or callers f old).items ++ c ∷ [] → lists (slice_set callers f new) ≡ with_caller c f (lists callers)
caller_put c f [] old new below is = absurd (omega (arith, below))
caller_put c zero (v ∷ callers) old new below is = ap (λ l. l ∷ lists callers) is
caller_put c (suc f) (v ∷ callers) old new below is = ap (λ ls. v.items ∷ ls) (caller_put c f callers old new (omega (arith, below)) is)

-- past all lists nothing is put
pub caller_past : (c f : ℕ) (callers : List (List ℕ)) → (f < length callers → ⊥) → with_caller c f callers ≡ callers
caller_past c zero [] past = refl
caller_past c (suc f) [] past = refl
caller_past c zero (l ∷ callers) past = absurd (past (omega arith))
caller_past c (suc f) (l ∷ callers) past = ap (λ ls. l ∷ ls) (caller_past c f callers (λ below. past (omega (arith, below))))

-- ---- the calls of a statement

calls_length : (c : ℕ) (s : Stmt) (callers : List (List ℕ)) → length (with_calls c s callers) ≡ length callers
calls_length c (Then a b) callers = calls_length c b (with_calls c a callers) ∙ calls_length c a callers
calls_length c (If n e a b) callers = calls_length c b (with_calls c a callers) ∙ calls_length c a callers
calls_length c (Loop n e a b) callers = calls_length c b (with_calls c a callers) ∙ calls_length c a callers
calls_length c (BodyFirst n e b) callers = calls_length c b callers
calls_length c (Switch n e s) callers = calls_length c s callers
calls_length c (Segment l a b) callers = calls_length c b (with_calls c a callers) ∙ calls_length c a callers
calls_length c (Call n f args r) callers = caller_length c f callers
calls_length c s callers = refl

calls_keeps : (c : ℕ) (s : Stmt) (callers : List (List ℕ)) (m n : ℕ) → Contains (get_or callers m []) n → Contains (get_or (with_calls c s callers) m []) n
calls_keeps c (Then a b) callers m n h = calls_keeps c b (with_calls c a callers) m n (calls_keeps c a callers m n h)
calls_keeps c (If _ e a b) callers m n h = calls_keeps c b (with_calls c a callers) m n (calls_keeps c a callers m n h)
calls_keeps c (Loop _ e a b) callers m n h = calls_keeps c b (with_calls c a callers) m n (calls_keeps c a callers m n h)
calls_keeps c (BodyFirst _ e b) callers m n h = calls_keeps c b callers m n h
calls_keeps c (Switch _ e s) callers m n h = calls_keeps c s callers m n h
calls_keeps c (Segment l a b) callers m n h = calls_keeps c b (with_calls c a callers) m n (calls_keeps c a callers m n h)
calls_keeps c (Call _ f args r) callers m n h = caller_keeps c f callers m n h
calls_keeps c s callers m n h = h

-- a function that is called has the caller
module _ (c m : ℕ) where
  longer : (s : Stmt) (callers : List (List ℕ)) → m < length callers → m < length (with_calls c s callers)
  longer s callers h = subst (λ n. m < n) (sym (calls_length c s callers)) h

  calls_there : (s : Stmt) → Calls m s → (callers : List (List ℕ)) → m < length callers → Contains (get_or (with_calls c s callers) m []) c
  calls_there _ here callers h = caller_there c m callers h
  calls_there _ (in_first {first = a} {rest = b} k) callers h = calls_keeps c b (with_calls c a callers) m c (calls_there a k callers h)
  calls_there _ (in_rest {first = a} {rest = b} k) callers h = calls_there b k (with_calls c a callers) (longer a callers h)
  calls_there _ (in_then {first = a} {other = b} k) callers h = calls_keeps c b (with_calls c a callers) m c (calls_there a k callers h)
  calls_there _ (in_else {first = a} {other = b} k) callers h = calls_there b k (with_calls c a callers) (longer a callers h)
  calls_there _ (in_update {update = a} {body = b} k) callers h = calls_keeps c b (with_calls c a callers) m c (calls_there a k callers h)
  calls_there _ (in_loop {update = a} {body = b} k) callers h = calls_there b k (with_calls c a callers) (longer a callers h)
  calls_there _ (in_do {body = b} k) callers h = calls_there b k callers h
  calls_there _ (in_switch {segments = s} k) callers h = calls_there s k callers h
  calls_there _ (in_segment {body = a} {rest = b} k) callers h = calls_keeps c b (with_calls c a callers) m c (calls_there a k callers h)
  calls_there _ (in_later {body = a} {rest = b} k) callers h = calls_there b k (with_calls c a callers) (longer a callers h)

-- a caller was there before, or is the new one of a function that is called
calls_from : (c : ℕ) (s : Stmt) (callers : List (List ℕ)) (m n : ℕ) → Contains (get_or (with_calls c s callers) m []) n → Contains (get_or callers m []) n ⊎ ((n ≡ c) × Calls m s)
calls_from c (Then a b) callers m n h = either (calls_from c b (with_calls c a callers) m n h)
    (λ k. either (calls_from c a callers m n k) (λ old. inl old) (λ new. inr (new.0, in_first new.1))) (λ new. inr (new.0, in_rest new.1))
calls_from c (If _ e a b) callers m n h = either (calls_from c b (with_calls c a callers) m n h)
    (λ k. either (calls_from c a callers m n k) (λ old. inl old) (λ new. inr (new.0, in_then new.1))) (λ new. inr (new.0, in_else new.1))
calls_from c (Loop _ e a b) callers m n h = either (calls_from c b (with_calls c a callers) m n h)
    (λ k. either (calls_from c a callers m n k) (λ old. inl old) (λ new. inr (new.0, in_update new.1))) (λ new. inr (new.0, in_loop new.1))
calls_from c (BodyFirst _ e b) callers m n h = either (calls_from c b callers m n h) (λ old. inl old) (λ new. inr (new.0, in_do new.1))
calls_from c (Switch _ e s) callers m n h = either (calls_from c s callers m n h) (λ old. inl old) (λ new. inr (new.0, in_switch new.1))
calls_from c (Segment l a b) callers m n h = either (calls_from c b (with_calls c a callers) m n h)
    (λ k. either (calls_from c a callers m n k) (λ old. inl old) (λ new. inr (new.0, in_segment new.1))) (λ new. inr (new.0, in_later new.1))
calls_from c (Call number f args r) callers m n h =
    either (caller_from c f callers m n h) (λ old. inl old) (λ new. inr (new.0, subst (λ i. Calls i (Call number f args r)) (sym new.1) here))
calls_from c s callers m n h = inl h

-- ---- the calls of functions, from one on

functions_length : (first : ℕ) (functions : List Function) (callers : List (List ℕ)) → length (with_functions first functions callers) ≡ length callers
functions_length first [] callers = refl
functions_length first (f ∷ functions) callers = functions_length (suc first) functions (with_calls first f.body callers) ∙ calls_length first f.body callers

functions_keeps : (first : ℕ) (functions : List Function) (callers : List (List ℕ)) (m n : ℕ) → Contains (get_or callers m []) n → Contains (get_or (with_functions first functions callers) m []) n
functions_keeps first [] callers m n h = h
functions_keeps first (f ∷ functions) callers m n h = functions_keeps (suc first) functions (with_calls first f.body callers) m n (calls_keeps first f.body callers m n h)

functions_there : (first : ℕ) (functions : List Function) (callers : List (List ℕ)) (m i : ℕ) (f : Function) → slice_get functions i ≡ Some f → Calls m f.body → m < length callers
    → Contains (get_or (with_functions first functions callers) m []) (first + i)
functions_there first [] callers m i f is c h = absurd (none_some is)
functions_there first (g ∷ functions) callers m zero f is c h =
    let there : Contains (get_or (with_calls first g.body callers) m []) first = calls_there first m g.body (subst (λ (x : Function). Calls m x.body) (some_same (sym is)) c) callers h in
    functions_keeps (suc first) functions (with_calls first g.body callers) m (first + 0) (subst (λ n. Contains (get_or (with_calls first g.body callers) m []) n) (omega arith) there)
functions_there first (g ∷ functions) callers m (suc i) f is c h =
    let less : m < length (with_calls first g.body callers) = subst (λ n. m < n) (sym (calls_length first g.body callers)) h in
    subst (λ n. Contains (get_or (with_functions (suc first) functions (with_calls first g.body callers)) m []) n) (omega arith) (functions_there (suc first) functions (with_calls first g.body callers) m i f is c less)

-- a function from one on that calls another
abbrev IsAmong : (first : ℕ) → List Function → (m n : ℕ) → Type 0
IsAmong first functions m n = (i : ℕ) × (f : Function) × (n ≡ first + i) × (slice_get functions i ≡ Some f) × Calls m f.body

functions_from : (first : ℕ) (functions : List Function) (callers : List (List ℕ)) (m n : ℕ) → Contains (get_or (with_functions first functions callers) m []) n
    → Contains (get_or callers m []) n ⊎ IsAmong first functions m n
functions_from first [] callers m n h = inl h
functions_from first (g ∷ functions) callers m n h = either (functions_from (suc first) functions (with_calls first g.body callers) m n h)
    (λ k. either (calls_from first g.body callers m n k) (λ old. inl old) (λ new. inr (0, g, new.0 ∙ omega arith, refl, new.1)))
    (λ later. inr (suc later.0, later.1, later.2 ∙ omega arith, later.3, later.4))

no_one : (count m n : ℕ) → Contains (get_or (replicate count []) m []) n → ⊥
no_one zero m n h = omega (arith, h.1)
no_one (suc count) zero n h = omega (arith, h.1)
no_one (suc count) (suc m) n h = no_one count m n h

-- the lists of a whole program
pub are_callers : (p : Program) (callers : List (List ℕ)) → callers ≡ with_functions 0 p.functions (replicate (length p.functions) []) → AreCallers p callers
are_callers p callers is = subst (AreCallers p) (sym is) (record {
  all = functions_length 0 p.functions (replicate (length p.functions) []) ∙ length-replicate (length p.functions) [];
  sound = λ n m h. either (functions_from 0 p.functions (replicate (length p.functions) []) m n h)
      (λ old. absurd (no_one (length p.functions) m n old))
      (λ new. let same : n ≡ new.0 = omega (arith, new.2) in (new.1, ap (slice_get p.functions) same ∙ new.3, new.4));
  complete = λ n m c less. subst (λ k. Contains (get_or (with_functions 0 p.functions (replicate (length p.functions) [])) m []) k) (omega arith)
      (functions_there 0 p.functions (replicate (length p.functions) []) m n c.0 c.1 c.2 (omega (arith, less, length-replicate {A = List ℕ} (length p.functions) [])));
})

-- the list of a function, as it was read
pub list_at : (callers : List (Vec ℕ Global)) (n : ℕ) (v : Vec ℕ Global) → n < length callers → v ≡ get_or callers n v → v.items ≡ get_or (lists callers) n []
list_at [] n v below is = absurd (omega (arith, below))
list_at (x ∷ callers) zero v below is = ap (λ y. y.items) is
list_at (x ∷ callers) (suc n) v below is = list_at callers n v (omega (arith, below)) is
