-- The parameters of a function, one after another.
use Rattle.std.proofs.Common.{◌≡◌, ℕ, suc, ◌+◌, ◌-◌, ◌≤◌, refl, sym, ap, ◌∙◌, List, [], ◌∷◌, ◌++◌, append_assoc, append-nil, arith, length, drop, map}
use Rattle.std.specs.Prelude.{Bool, true}
use Rattle.std.proofs.Math.Seq.{drop-append_seam}
use Rattle.std.proofs.lemmas.List.{length-append}
use Rattle.gang_types.specs.declared.places.VarId.{VarId}
use Rattle.gang_types.specs.declared.places.VarId.TheVariants.{Local}
use Rattle.gang_model.specs.declared.forms.Spec.{Spec}
use Rattle.gang_model.specs.Source.Parsed.{Name, ParsedParam}
use Rattle.gang_model.specs.Types.Tree.{Variable}
use Rattle.gang_model.specs.Types.Typing.{Entry, Scope, declared}
use Rattle.gang_model.specs.Types.Resolved.{param_entries, param_variables}
use Rattle.source_tree.specs.declared.tree.Param.{Param}
use Rattle.source_tree.specs.Tree.{param_view}
use Rattle.type_check_scopes.specs.declared.entries.Declared.{Declared}
use Rattle.type_check_scopes.specs.Entries.{declared_view}

-- what an entry declares, under another name
abbrev under : Name → Entry → Entry
under name e = record {
  variable = record { name = name; id = e.variable.id; type = e.variable.type; rate = e.variable.rate; is_array = e.variable.is_array; is_parameter = e.variable.is_parameter; is_constant = e.variable.is_constant };
  is_void = e.is_void;
}

pub declared-named : (name : Name) (d : Declared) (id : VarId) (spec : Spec) (is_array is_parameter : Bool)
    → declared_view [] d ≡ declared [] id spec is_array is_parameter → declared_view name d ≡ declared name id spec is_array is_parameter
declared-named name d id spec is_array is_parameter e = ap (under name) e

pub declared-id : (d : Declared) (id : VarId) (spec : Spec) (is_array is_parameter : Bool) → declared_view [] d ≡ declared [] id spec is_array is_parameter → d.id ≡ id
declared-id d id spec is_array is_parameter e = ap (λ (x : Entry). x.variable.id) e

-- a parameter, as it is declared
abbrev pub param_entry : ℕ → ParsedParam → Entry
param_entry k p = declared p.name (Local k) p.spec p.is_array true

-- so many parameters are declared, and these are left
pub record AreDeclared (params : List ParsedParam) (before : Scope) (left : List ParsedParam) (entries : Scope) (locals : List Variable) (n : ℕ) : Type 0 where
  pub entries_are : param_entries n left entries ≡ param_entries 0 params before
  pub locals_are : locals ++ param_variables n left ≡ param_variables 0 params
  pub count : length locals ≡ n

pub params-begun : (params : List ParsedParam) (before : Scope) (locals : List Variable) → locals ≡ [] → AreDeclared params before params before locals 0
params-begun params before locals e = record {
  entries_are = refl;
  locals_are = ap (λ ls. ls ++ param_variables 0 params) e;
  count = ap length e;
}

pub params-more : (params : List ParsedParam) (before : Scope) (left later : List ParsedParam) (p : ParsedParam) (entries more : Scope) (locals others : List Variable) (n : ℕ) (d : Entry)
    → AreDeclared params before left entries locals n → left ≡ p ∷ later → d ≡ param_entry n p → more ≡ d ∷ entries → others ≡ locals ++ d.variable ∷ []
    → AreDeclared params before later more others (n + 1)
params-more params before left later p entries more locals others n d h split is more_is others_are =
    let next : n + 1 ≡ suc n = omega arith in
    record {
      entries_are =
          ap (λ k. param_entries k later more) next
          ∙ (ap (param_entries (suc n) later) (more_is ∙ ap (λ x. x ∷ entries) is) ∙ (sym (ap (λ ps. param_entries n ps entries) split) ∙ h.entries_are));
      locals_are =
          ap (λ k. others ++ param_variables k later) next
          ∙ (ap (λ ls. ls ++ param_variables (suc n) later) (others_are ∙ ap (λ (x : Entry). locals ++ x.variable ∷ []) is)
          ∙ (append_assoc locals ((param_entry n p).variable ∷ []) (param_variables (suc n) later) ∙ (sym (ap (λ ps. locals ++ param_variables n ps) split) ∙ h.locals_are)));
      count = ap length others_are ∙ (length-append locals (d.variable ∷ []) ∙ ap (λ k. k + 1) h.count);
    }

-- no parameter is left
pub params-entries : (params : List ParsedParam) (before : Scope) (left : List ParsedParam) (entries : Scope) (locals : List Variable) (n : ℕ)
    → AreDeclared params before left entries locals n → left ≡ [] → entries ≡ param_entries 0 params before
params-entries params before left entries locals n h e = sym (ap (λ ps. param_entries n ps entries) e) ∙ h.entries_are

pub params-locals : (params : List ParsedParam) (before : Scope) (left : List ParsedParam) (entries : Scope) (locals : List Variable) (n : ℕ)
    → AreDeclared params before left entries locals n → left ≡ [] → locals ≡ param_variables 0 params
params-locals params before left entries locals n h e =
    sym (append-nil locals) ∙ (sym (ap (λ ps. locals ++ param_variables n ps) e) ∙ h.locals_are)

-- ---- what is in scope outside

-- the parameters alone, the last one first
abbrev params_before : ℕ → List ParsedParam → Scope → Scope
params_before k [] inner = inner
params_before k (p ∷ params) inner = params_before (suc k) params (param_entry k p ∷ inner)

outside : (k : ℕ) (params : List ParsedParam) (inner before : Scope) → param_entries k params (inner ++ before) ≡ params_before k params inner ++ before
outside k [] inner before = refl
outside k (p ∷ params) inner before = outside (suc k) params (param_entry k p ∷ inner) before

pub within : (params : List ParsedParam) (before entries : Scope) (mark : ℕ) → entries ≡ param_entries 0 params before → mark ≡ length before → mark ≤ length entries
within params before entries mark e m =
    omega (arith, m, ap length (e ∙ outside 0 params [] before), length-append (params_before 0 params []) before)

pub left_again : (params : List ParsedParam) (before entries : Scope) (mark : ℕ) → entries ≡ param_entries 0 params before → mark ≡ length before
    → drop (length entries - mark) entries ≡ before
left_again params before entries mark e m =
    let inner = params_before 0 params [] in
    let is : entries ≡ inner ++ before = e ∙ outside 0 params [] before in
    let count : length entries - mark ≡ length inner = omega (arith, m, ap length is, length-append inner before) in
    ap (λ n. drop n entries) count ∙ (ap (drop (length inner)) is ∙ drop-append_seam inner before)

-- what is in scope where the parameters of a tree's function are declared
pub params-in_scope : (given params : List Param) (before begun declared after : Scope) → after ≡ declared → declared ≡ param_entries 0 (map param_view given) begun → given ≡ params → begun ≡ before
    → after ≡ param_entries 0 (map param_view params) before
params-in_scope given params before begun declared after a d g b =
    a ∙ (d ∙ (ap (λ ps. param_entries 0 (map param_view ps) begun) g ∙ ap (param_entries 0 (map param_view params)) b))
