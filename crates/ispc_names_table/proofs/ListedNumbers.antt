-- The variables that are listed, by their numbers: those that are what their own names stand for.
use Rattle.std.proofs.Common.{subst, ℕ, zero, suc, ◌+◌, ◌-◌, ◌<◌, ◌≤◌, ◌≡◌, Bool, true, false, cond, eqb, List, [], ◌∷◌, ◌++◌, Option, Some, None, inl, inr, refl, sym, ap, ◌∙◌, arith, length, get_or, map}
use Rattle.std.specs.Prelude.{not, filter, slice_get, option_map, if◌then◌else◌}
use Rattle.std.specs.List.{range_with_len}
use Rattle.std.specs.Option.{option_eq}
use Rattle.std.proofs.Math.Seq.{take-length}
use Rattle.std.proofs.lemmas.Bool.{eq-eqb, cases_eq}
use Rattle.std.proofs.lemmas.Bool.Decides.{nat_tests}
use Rattle.std.proofs.lemmas.List.{map-append}
use Rattle.std.proofs.lemmas.List.Elements.{filter-append}
use Rattle.std.proofs.lemmas.Option.{slice_get-map}
use Rattle.gang_types.specs.declared.places.VarId.{VarId}
use Rattle.gang_types.specs.declared.places.VarId.TheVariants.{File, Local}
use Rattle.gang_model.specs.Source.Names.{same_text}
use Rattle.gang_model.specs.Source.Parsed.{Name}
use Rattle.gang_model.specs.Names.Scope.{Binding, bound, Environment, declaration, unhidden}
use Rattle.ispc_names_table.specs.declared.table.Declaration.{Declaration}
use Rattle.ispc_names_table.specs.Scopes.{newest_first, linked, in_scope}
use Rattle.ispc_names_table.proofs.InnerNames.{others}
use Rattle.ispc_names_table.proofs.Links.{below, below-suc, length-below, length-newest_first, linked-here, linked-beside}
use Rattle.gang_model.proofs.SameTexts.{same_text-refl, same_text-sym}

-- ---- the test

-- whether a variable is the function's of this number
abbrev pub is_number : Option VarId → ℕ → Bool
is_number (Some (Local m)) j = eqb m j
is_number (Some (File m)) j = false
is_number None j = false

-- whether the name of a variable stands for it
abbrev pub is_listed : (ℕ → Name) → Environment → ℕ → Bool
is_listed names environment j = is_number (declaration environment (names j)) j

-- the variable of a number
abbrev pub binding_of : (ℕ → Name) → ℕ → Binding
binding_of names j = bound (names j) (Local j)

-- the variables, the newest first, have these names by their numbers
abbrev pub Named : (ℕ → Name) → List Declaration → Type 0
Named names [] = Unit {0}
Named names (d ∷ older) = (names (length older) ≡ d.name.items) × Named names older

-- ---- numbers past those of the links

past_step : (t s : Bool) (m j : ℕ) (o : Option VarId) (rest : Option VarId) → m < j → is_number o j ≡ false → is_number rest j ≡ false
    → is_number (cond t (if s then Some (Local m) else o) rest) j ≡ false
past_step true true m j o rest lt p q = grind (arith, nat_tests)
past_step true false m j o rest lt p q = p
past_step false s m j o rest lt p q = q

declaration-cond : (t : Bool) (xs ys : Environment) (name : Name) → declaration (cond t xs ys) name ≡ cond t (declaration xs name) (declaration ys name)
declaration-cond true xs ys name = refl
declaration-cond false xs ys name = refl

pub past_number : (older : List Declaration) (i : Option ℕ) (name : Name) (j : ℕ) → length older ≤ j → is_number (declaration (linked older i) name) j ≡ false
past_number [] i name j le = refl
past_number (d ∷ older) None name j le = refl
past_number (d ∷ older) (Some k) name j le = elim (cases_eq k (length older)) [
  | inl e ↦
      ap (λ x. is_number (declaration x name) j) (linked-here d older k e)
      ∙ past_step true (same_text d.name.items name) k j (declaration (linked older d.outside) name) None (omega arith) (past_number older d.outside name j (omega arith)) refl
  | inr ne ↦ ap (λ x. is_number (declaration x name) j) (linked-beside d older k ne) ∙ past_number older (Some k) name j (omega arith)
]

-- ---- a variable that hides others

range_push : (a n : ℕ) → range_with_len a (suc n) ≡ range_with_len a n ++ (a + n) ∷ []
range_push a zero = ap (λ x. x ∷ []) (omega arith)
range_push a (suc n) = ap (λ xs. a ∷ xs) (range_push (a + 1) n ∙ ap (λ x. range_with_len (a + 1) n ++ x ∷ []) (omega arith))

numbers_push : (n : ℕ) → range_with_len 0 (suc n) ≡ range_with_len 0 n ++ n ∷ []
numbers_push n = range_push 0 n ∙ ap (λ x. range_with_len 0 n ++ x ∷ []) (omega arith)

hiding_step : (f : ℕ → Bool) (a : ℕ) (p q s : Bool) (xs ys : List ℕ) → f a ≡ not s → p ≡ (if s then false else q) → xs ≡ filter f ys → cond p (a ∷ xs) xs ≡ filter f (cond q (a ∷ ys) ys)
hiding_step f a p true true xs ys g e h = ap (λ t. cond t (a ∷ xs) xs) e ∙ h ∙ sym (ap (λ t. cond t (a ∷ filter f ys) (filter f ys)) g)
hiding_step f a p false true xs ys g e h = ap (λ t. cond t (a ∷ xs) xs) e ∙ h
hiding_step f a p true false xs ys g e h = ap (λ t. cond t (a ∷ xs) xs) e ∙ ap (λ z. a ∷ z) h ∙ sym (ap (λ t. cond t (a ∷ filter f ys) (filter f ys)) g)
hiding_step f a p false false xs ys g e h = ap (λ t. cond t (a ∷ xs) xs) e ∙ h

hidden_one : (s : Bool) (n a : ℕ) (o : Option VarId) → a < n → is_number (if s then Some (Local n) else o) a ≡ (if s then false else is_number o a)
hidden_one true n a o lt = grind (arith, nat_tests)
hidden_one false n a o lt = refl

hiding : (names : ℕ → Name) (environment : Environment) (n a m : ℕ) → a + m ≤ n
    → filter (is_listed names (binding_of names n ∷ environment)) (range_with_len a m)
    ≡ filter (λ j. not (same_text (names j) (names n))) (filter (is_listed names environment) (range_with_len a m))
hiding names environment n a zero le = refl
hiding names environment n a (suc m) le =
    hiding_step (λ j. not (same_text (names j) (names n))) a (is_listed names (binding_of names n ∷ environment) a) (is_listed names environment a) (same_text (names n) (names a))
    (filter (is_listed names (binding_of names n ∷ environment)) (range_with_len (a + 1) m)) (filter (is_listed names environment) (range_with_len (a + 1) m))
    (ap not (same_text-sym (names a) (names n)))
    (hidden_one (same_text (names n) (names a)) n a (declaration environment (names a)) (omega arith))
    (hiding names environment n (a + 1) m (omega arith))

others_step : (t : Bool) (names : ℕ → Name) (j : ℕ) (bs : List Binding) (js : List ℕ) → bs ≡ map (binding_of names) js
    → cond t (binding_of names j ∷ bs) bs ≡ map (binding_of names) (cond t (j ∷ js) js)
others_step true names j bs js h = ap (λ z. binding_of names j ∷ z) h
others_step false names j bs js h = h

others-map : (names : ℕ → Name) (hider : Name) (js : List ℕ) → others hider (map (binding_of names) js) ≡ map (binding_of names) (filter (λ j. not (same_text (names j) hider)) js)
others-map names hider [] = refl
others-map names hider (j ∷ js) =
    others_step (not (same_text (names j) hider)) names j (others hider (map (binding_of names) js)) (filter (λ j. not (same_text (names j) hider)) js) (others-map names hider js)

-- ---- what is listed

nothing_listed : (names : ℕ → Name) (js : List ℕ) → filter (is_listed names []) js ≡ []
nothing_listed names [] = refl
nothing_listed names (j ∷ js) = nothing_listed names js

-- one number more
more_listed : (names : ℕ → Name) (environment : Environment) (n : ℕ) (b : Bool) → is_listed names environment n ≡ b
    → filter (is_listed names environment) (range_with_len 0 (suc n)) ≡ filter (is_listed names environment) (range_with_len 0 n) ++ cond b (n ∷ []) []
more_listed names environment n b e =
    ap (filter (is_listed names environment)) (numbers_push n)
    ∙ filter-append (is_listed names environment) (range_with_len 0 n) (n ∷ [])
    ∙ ap (λ t. filter (is_listed names environment) (range_with_len 0 n) ++ cond t (n ∷ []) []) e

append-nil : {A : Type 0} (xs : List A) → xs ++ [] ≡ xs
append-nil [] = refl
append-nil (x ∷ xs) = ap (λ z. x ∷ z) (append-nil xs)

own_name : (names : ℕ → Name) (environment : Environment) (n : ℕ) → is_listed names (binding_of names n ∷ environment) n ≡ true
own_name names environment n =
    ap (λ t. is_number (if t then Some (Local n) else declaration environment (names n)) n) (same_text-refl (names n)) ∙ eq-eqb n n refl

-- with a variable that is in scope
with_number : (names : ℕ → Name) (environment : Environment) (n : ℕ) → unhidden environment ≡ map (binding_of names) (filter (is_listed names environment) (range_with_len 0 n))
    → unhidden (binding_of names n ∷ environment) ≡ map (binding_of names) (filter (is_listed names (binding_of names n ∷ environment)) (range_with_len 0 (suc n)))
with_number names environment n h =
    let inner = binding_of names n ∷ environment in
    let js = filter (is_listed names environment) (range_with_len 0 n) in
    let stay = filter (λ j. not (same_text (names j) (names n))) js in
    let left : unhidden inner ≡ map (binding_of names) stay ++ binding_of names n ∷ [] =
    ap (λ bs. bs ++ binding_of names n ∷ []) (ap (others (names n)) h ∙ others-map names (names n) js) in
    let right : filter (is_listed names inner) (range_with_len 0 (suc n)) ≡ stay ++ n ∷ [] =
    more_listed names inner n true (own_name names environment n) ∙ ap (λ z. z ++ n ∷ []) (hiding names environment n 0 n (omega arith)) in
    left ∙ sym (ap (map (binding_of names)) right ∙ map-append (binding_of names) stay (n ∷ []))

-- what is listed are the variables that their names stand for, in the order of their numbers
pub unhidden-numbers : (older : List Declaration) (names : ℕ → Name) (i : Option ℕ) → Named names older
    → unhidden (linked older i) ≡ map (binding_of names) (filter (is_listed names (linked older i)) (range_with_len 0 (length older)))
unhidden-numbers [] names i said = refl
unhidden-numbers (d ∷ older) names None said = sym (ap (map (binding_of names)) (nothing_listed names (range_with_len 0 (suc (length older)))))
unhidden-numbers (d ∷ older) names (Some k) said =
    let n = length older in
    let Goal = λ (x : Environment). unhidden x ≡ map (binding_of names) (filter (is_listed names x) (range_with_len 0 (suc n))) in
    elim (cases_eq k n) [
      | inl e ↦
          let here : linked (d ∷ older) (Some k) ≡ binding_of names n ∷ linked older d.outside =
          linked-here d older k e ∙ ap (λ x. bound d.name.items (Local x) ∷ linked older d.outside) e
          ∙ ap (λ x. bound x (Local n) ∷ linked older d.outside) (sym said.0) in
          subst Goal (sym here) (with_number names (linked older d.outside) n (unhidden-numbers older names d.outside said.1))
      | inr ne ↦
          let beside = linked-beside d older k ne in
          let out = linked older (Some k) in
          let right : filter (is_listed names out) (range_with_len 0 (suc n)) ≡ filter (is_listed names out) (range_with_len 0 n) =
          more_listed names out n false (past_number older (Some k) (names n) n (omega arith)) ∙ append-nil (filter (is_listed names out) (range_with_len 0 n)) in
          subst Goal (sym beside) (unhidden-numbers older names (Some k) said.1 ∙ sym (ap (map (binding_of names)) right))
    ]

-- the name of the variable of a number
abbrev pub name_at : List Declaration → ℕ → Name
name_at [] j = []
name_at (d ∷ ds) zero = d.name.items
name_at (d ∷ ds) (suc j) = name_at ds j

pub name_at-read : (ds : List Declaration) (j : ℕ) (d : Declaration) → j < length ds → name_at ds j ≡ (get_or ds j d).name.items
name_at-read [] j d lt = absurd (omega arith)
name_at-read (x ∷ ds) zero d lt = refl
name_at-read (x ∷ ds) (suc j) d lt = name_at-read ds j d (omega arith)

named_below : (ds : List Declaration) (d : Declaration) (n : ℕ) → n ≤ length ds → Named (name_at ds) (below ds n)
named_below ds d zero le = tt
named_below ds d (suc n) le =
    let first : name_at ds (length (below ds n)) ≡ (get_or ds n d).name.items = ap (name_at ds) (length-below ds n (omega arith)) ∙ name_at-read ds n d le in
    subst (Named (name_at ds)) (sym (below-suc ds n d le)) (first, named_below ds d n (omega arith))

named : (ds : List Declaration) → Named (name_at ds) (newest_first ds)
named [] = tt
named (d ∷ ds) = subst (λ xs. Named (name_at (d ∷ ds)) (newest_first xs)) (take-length (d ∷ ds)) (named_below (d ∷ ds) d (length (d ∷ ds)) (omega arith))

id_of_binding : (names : ℕ → Name) (o : Option ℕ) → option_map (λ (b : Binding). b.id) (option_map (binding_of names) o) ≡ option_map Local o
id_of_binding names None = refl
id_of_binding names (Some j) = refl

-- those that pass, from a number on
abbrev pub passing : (ℕ → Bool) → (a n : ℕ) → List ℕ
passing test a n = filter test (range_with_len a (n - a))

-- the numbers of what is listed from a variable on, as its variables
pub listed_ids : (ds : List Declaration) (i : Option ℕ) (k : ℕ)
    → option_map (λ (b : Binding). b.id) (slice_get (unhidden (in_scope ds i)) k) ≡ option_map Local (slice_get (passing (is_listed (name_at ds) (in_scope ds i)) 0 (length ds)) k)
listed_ids ds i k =
    let test = is_listed (name_at ds) (in_scope ds i) in
    let js = passing test 0 (length ds) in
    let number : length (newest_first ds) ≡ length ds - 0 = omega (arith, length-newest_first ds) in
    let all : unhidden (in_scope ds i) ≡ map (binding_of (name_at ds)) js =
    unhidden-numbers (newest_first ds) (name_at ds) i (named ds) ∙ ap (λ n. map (binding_of (name_at ds)) (filter test (range_with_len 0 n))) number in
    ap (λ bs. option_map (λ (b : Binding). b.id) (slice_get bs k)) all
    ∙ ap (option_map (λ (b : Binding). b.id)) (slice_get-map (binding_of (name_at ds)) js k)
    ∙ id_of_binding (name_at ds) (slice_get js k)

-- ---- one number after another

pub front_number : (test : ℕ → Bool) (a n : ℕ) → a < n
    → filter test (range_with_len a (n - a)) ≡ cond (test a) (a ∷ filter test (range_with_len (a + 1) (n - (a + 1)))) (filter test (range_with_len (a + 1) (n - (a + 1))))
front_number test a n lt =
    let e : n - a ≡ suc (n - (a + 1)) = omega arith in
    ap (λ m. filter test (range_with_len a m)) e

pub passes_first : (test : ℕ → Bool) (a n left : ℕ) → a < n → test a ≡ true → left ≡ 0 → slice_get (passing test a n) left ≡ Some a
passes_first test a n left lt e z =
    ap (λ js. slice_get js left) (front_number test a n lt ∙ ap (λ t. cond t (a ∷ passing test (a + 1) n) (passing test (a + 1) n)) e)
    ∙ ap (slice_get (a ∷ passing test (a + 1) n)) z

pub passes_later : (test : ℕ → Bool) (a n left : ℕ) → a < n → test a ≡ true → (left ≡ 0 → ⊥) → slice_get (passing test (a + 1) n) (left - 1) ≡ slice_get (passing test a n) left
passes_later test a n left lt e nonzero =
    let more : left ≡ suc (left - 1) = omega arith in
    sym (ap (λ js. slice_get js left) (front_number test a n lt ∙ ap (λ t. cond t (a ∷ passing test (a + 1) n) (passing test (a + 1) n)) e)
    ∙ ap (slice_get (a ∷ passing test (a + 1) n)) more)

pub passes_not : (test : ℕ → Bool) (a n left : ℕ) → a < n → test a ≡ false → slice_get (passing test (a + 1) n) left ≡ slice_get (passing test a n) left
passes_not test a n left lt e =
    sym (ap (λ js. slice_get js left) (front_number test a n lt ∙ ap (λ t. cond t (a ∷ passing test (a + 1) n) (passing test (a + 1) n)) e))

pub passes_none : (test : ℕ → Bool) (a n left : ℕ) → n ≤ a → slice_get (passing test a n) left ≡ None
passes_none test a n left le =
    let none : n - a ≡ 0 = omega arith in
    ap (λ m. slice_get (filter test (range_with_len a m)) left) none

same_number : (found : Option ℕ) (j : ℕ) → is_number (option_map Local found) j ≡ option_eq eqb found (Some j)
same_number None j = refl
same_number (Some m) j = refl

-- the code's test of a variable
pub tested : (ds : List Declaration) (i : Option ℕ) (j : ℕ) (d : Declaration) (text : Name) (found : Option ℕ) (b : Bool) → j < length ds → d ≡ get_or ds j d → text ≡ d.name.items
    → option_map Local found ≡ declaration (in_scope ds i) text → b ≡ option_eq eqb found (Some j) → is_listed (name_at ds) (in_scope ds i) j ≡ b
tested ds i j d text found b lt is read said e =
    ap (λ x. is_number (declaration (in_scope ds i) x) j) (name_at-read ds j d lt ∙ ap (λ (x : Declaration). x.name.items) (sym is) ∙ sym read)
    ∙ ap (λ o. is_number o j) (sym said) ∙ same_number found j ∙ sym e
