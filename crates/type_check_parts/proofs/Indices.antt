-- The first index variables of some dimensions, declared one after another.
use Rattle.std.proofs.Common.{◌≡◌, ℕ, ◌+◌, ◌<◌, ◌≤◌, List, [], ◌∷◌, ◌++◌, length, map, take, drop, get_or, refl, sym, ap, ◌∙◌, arith, append_assoc, append-nil, length-append, suc}
use Rattle.std.proofs.lemmas.List.{take_more, take_all, take-append-drop, map-append}
use Rattle.std.specs.Prelude.{Result, Ok, Err, OnErr}
use Rattle.gang_types.specs.declared.types.IntType.TheVariants as t
use Rattle.gang_types.specs.declared.types.Rate.TheVariants.{Varying}
use Rattle.gang_types.specs.declared.places.VarId.TheVariants.{Local}
use Rattle.gang_model.specs.Source.Parsed.{ParsedDim}
use Rattle.gang_model.specs.Types.Tree.{Variable}
use Rattle.gang_model.specs.Types.Typing.{Entry, Scope, index_entry}
use Rattle.gang_model.specs.Types.Statements.{index_entries, index_variables}
use Rattle.type_check_parts.specs.Indices.{FirstDeclared}

-- the index variables of these dimensions are declared
pub record AreDeclared (outer entries : Scope) (before locals : List Variable) (first : List ParsedDim) : Type 0 where
  pub entries_are : entries ≡ index_entries (length before) first outer
  pub locals_are : locals ≡ before ++ index_variables (length before) first

pub declared-none : (outer : Scope) (before : List Variable) → AreDeclared outer outer before before []
declared-none outer before = record { entries_are = refl; locals_are = sym (append-nil before) }

entries-last : (k : ℕ) (first : List ParsedDim) (d : ParsedDim) (outer : Scope)
    → index_entries k (first ++ d ∷ []) outer ≡ index_entry d.name (Local (k + length first)) t.Int32 Varying ∷ index_entries k first outer
entries-last k [] d outer = let same : k ≡ k + 0 = omega arith in ap (λ n. index_entry d.name (Local n) t.Int32 Varying ∷ outer) same
entries-last k (x ∷ first) d outer =
    let inner = index_entry x.name (Local k) t.Int32 Varying ∷ outer in
    let same : suc k + length first ≡ k + suc (length first) = omega arith in
    entries-last (suc k) first d inner ∙ ap (λ n. index_entry d.name (Local n) t.Int32 Varying ∷ index_entries (suc k) first inner) same

variables-last : (k : ℕ) (first : List ParsedDim) (d : ParsedDim)
    → index_variables k (first ++ d ∷ []) ≡ index_variables k first ++ (index_entry d.name (Local (k + length first)) t.Int32 Varying).variable ∷ []
variables-last k [] d = let same : k ≡ k + 0 = omega arith in ap (λ n. (index_entry d.name (Local n) t.Int32 Varying).variable ∷ []) same
variables-last k (x ∷ first) d =
    let v = (index_entry x.name (Local k) t.Int32 Varying).variable in
    let same : suc k + length first ≡ k + suc (length first) = omega arith in
    ap (λ vs. v ∷ vs) (variables-last (suc k) first d ∙ ap (λ n. index_variables (suc k) first ++ (index_entry d.name (Local n) t.Int32 Varying).variable ∷ []) same)

length-variables : (k : ℕ) (first : List ParsedDim) → length (index_variables k first) ≡ length first
length-variables k [] = refl
length-variables k (x ∷ first) = ap suc (length-variables (suc k) first)

-- one more
pub declared-next : (outer entries entries' : Scope) (before locals locals' : List Variable) (first : List ParsedDim) (d : ParsedDim) (n : Entry)
    → AreDeclared outer entries before locals first → n ≡ index_entry d.name (Local (length locals)) t.Int32 Varying
    → entries' ≡ n ∷ entries → locals' ≡ locals ++ n.variable ∷ []
    → AreDeclared outer entries' before locals' (first ++ d ∷ [])
declared-next outer entries entries' before locals locals' first d n h is e l =
    let k = length before in
    let many : length locals ≡ k + length first =
    ap length h.locals_are ∙ (length-append before (index_variables k first) ∙ ap (λ m. k + m) (length-variables k first)) in
    let here : n ≡ index_entry d.name (Local (k + length first)) t.Int32 Varying = is ∙ ap (λ m. index_entry d.name (Local m) t.Int32 Varying) many in
    record {
      entries_are = e ∙ (ap (λ x. x ∷ entries) here ∙ (ap (λ xs. index_entry d.name (Local (k + length first)) t.Int32 Varying ∷ xs) h.entries_are ∙ sym (entries-last k first d outer)));
      locals_are = l ∙ (ap (λ (x : Entry). locals ++ x.variable ∷ []) here
          ∙ (ap (λ vs. vs ++ (index_entry d.name (Local (k + length first)) t.Int32 Varying).variable ∷ []) h.locals_are
          ∙ (append_assoc before (index_variables k first) ((index_entry d.name (Local (k + length first)) t.Int32 Varying).variable ∷ [])
          ∙ ap (λ vs. before ++ vs) (sym (variables-last k first d)))));
    }

pub declared-as : (outer entries : Scope) (before locals : List Variable) (first dims : List ParsedDim) → AreDeclared outer entries before locals first → first ≡ dims
    → AreDeclared outer entries before locals dims
declared-as outer entries before locals first dims h same =
    record {
      entries_are = h.entries_are ∙ ap (λ ds. index_entries (length before) ds outer) same;
      locals_are = h.locals_are ∙ ap (λ ds. before ++ index_variables (length before) ds) same;
    }

-- the first items of a list with the next one
pub one-more : {A B : Type 0} (f : A → B) (items : List A) (i : ℕ) (item : A) → i < length items → item ≡ get_or items i item
    → map f (take i items) ++ f item ∷ [] ≡ map f (take (i + 1) items)
one-more f items i item h e =
    sym (ap (map f) (take_more items i item h ∙ ap (λ x. take i items ++ x ∷ []) (sym e)) ∙ map-append f (take i items) (item ∷ []))

pub all-taken : {A B : Type 0} (f : A → B) (items : List A) (i : ℕ) → length items ≤ i → map f (take i items) ≡ map f items
all-taken f items i h = ap (map f) (take_all i items h)

-- where the next one is not declared, the first are
pub first-declared : {A : Type 0} (f : A → ParsedDim) (items : List A) (i : ℕ) (outer entries : Scope) (before locals : List Variable)
    → AreDeclared outer entries before locals (map f (take i items)) → FirstDeclared (map f items) outer entries before locals
first-declared f items i outer entries before locals h = record {
  first = map f (take i items);
  later = map f (drop i items);
  dims_are = ap (map f) (sym (take-append-drop i items)) ∙ map-append f (take i items) (drop i items);
  entries_are = h.entries_are;
  locals_are = h.locals_are;
}

-- what holds holds at an error
pub at-error : {A E P : Type 0} (result : Result A E) → P → OnErr result P
at-error (Ok a) p = tt
at-error (Err error) p = p
