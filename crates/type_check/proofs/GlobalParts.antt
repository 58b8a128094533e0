-- The file-scope variables one after another.
use Rattle.std.proofs.Common.{◌≡◌, ℕ, suc, ◌+◌, ◌<◌, refl, sym, ap, ◌∙◌, List, [], ◌∷◌, ◌++◌, arith, length, get_or, take, drop, map, Bor, ◌≤◌}
use Rattle.std.proofs.lemmas.List.{drop_more, take_more, map-append, length-append, length-map, length-take-le}
use Rattle.std.specs.Prelude.{false, Option}
use Rattle.gang_types.specs.declared.places.VarId.TheVariants.{File}
use Rattle.gang_model.specs.declared.refusals.SourceRefusal.{SourceRefusal}
use Rattle.gang_model.specs.Types.Tree.{Global}
use Rattle.gang_model.specs.Types.Typing.{Scope, declared}
use Rattle.gang_model.specs.Source.Parsed.{ParsedGlobal}
use Rattle.gang_model.specs.Source.Judged.{Judged, Sound, unless, both, ◌>>=◌, least_fault, answer_of, merged}
use Rattle.gang_model.specs.Types.TypeFaults.{global_faults, is_array_form}
use Rattle.gang_model.specs.Types.Resolved.{global_entries, global_entry, global_of, judged_globals}
use Rattle.gang_model.proofs.JudgedLaws.{answer_unless, answer_of-unless}
use Rattle.source_tree.specs.declared.tree.GlobalVariable.{GlobalVariable}
use Rattle.source_tree.specs.Tree as parsed
use Rattle.typed_tree.specs.declared.program.Global.{Global as TypedGlobal}
use Rattle.typed_tree.specs.Views as typed
use Rattle.type_check_scopes.specs.declared.entries.Declared.{Declared}
use Rattle.type_check_scopes.specs.Entries.{declared_view}
use Rattle.type_check_functions.proofs.FunctionParts.{take_all}
use Rattle.type_check_functions.proofs.Parameters.{declared-named}
use Rattle.type_check_functions.proofs.Collecting.{all_of, Collects, collects-more}

-- a file-scope variable by itself
abbrev pub global_part : ℕ → ParsedGlobal → Judged Global
global_part k g = unless (global_faults g) (global_of k g)

-- file-scope variables from number k on, each by itself
abbrev pub global_parts : ℕ → List ParsedGlobal → List (Judged Global)
global_parts k [] = []
global_parts k (g ∷ globals) = global_part k g ∷ global_parts (suc k) globals

pub all-globals : (k : ℕ) (globals : List ParsedGlobal) → all_of (global_parts k globals) ≡ judged_globals k globals
all-globals k [] = refl
all-globals k (g ∷ globals) = ap (λ x. both (global_part k g) x >>= (λ parts. Sound (parts.0 ∷ parts.1))) (all-globals (suc k) globals)

global_parts-last : (k n : ℕ) (globals : List ParsedGlobal) (g : ParsedGlobal) → n ≡ k + length globals
    → global_parts k (globals ++ g ∷ []) ≡ global_parts k globals ++ global_part n g ∷ []
global_parts-last k n [] g e = ap (λ m. global_part m g ∷ []) (let h : k ≡ n = omega arith in h)
global_parts-last k n (h ∷ globals) g e = ap (λ ps. global_part k h ∷ ps) (global_parts-last (suc k) n globals g (omega arith))

-- one more variable
globals-more : (fault own more : Option SourceRefusal) (items : List Global) (before : List ParsedGlobal) (n : ℕ) (g : ParsedGlobal) (made : Global)
    → Collects fault items (all_of (global_parts 0 before)) → n ≡ length before → own ≡ least_fault (global_faults g) → more ≡ merged fault own → made ≡ global_of n g
    → Collects more (items ++ made ∷ []) (all_of (global_parts 0 (before ++ g ∷ [])))
globals-more fault own more items before n g made h count own_is more_is made_is =
    ap (λ ps. answer_of (all_of ps)) (global_parts-last 0 n before g (let e : n ≡ 0 + length before = omega arith in e))
    ∙ (collects-more fault (least_fault (global_faults g)) items (global_of n g) (global_parts 0 before) (global_part n g) h (answer_of-unless (global_faults g) (global_of n g))
    ∙ (ap (λ f. answer_unless f (items ++ global_of n g ∷ [])) (sym (more_is ∙ ap (merged fault) own_is)) ∙ ap (λ x. answer_unless more (items ++ x ∷ [])) (sym made_is)))

-- the file-scope variables of a tree, as they are read there
abbrev pub views : List (Bor GlobalVariable) → List ParsedGlobal
views gs = map (λ (g : Bor GlobalVariable). parsed.global_view g.now) gs

-- so many variables are judged
pub record AreTyped (gs : List (Bor GlobalVariable)) (fault : Option SourceRefusal) (made : List TypedGlobal) (n : ℕ) : Type 0 where
  pub count : length made ≡ n
  pub collects : Collects fault (map typed.global_view made) (all_of (global_parts 0 (views (take n gs))))

pub globals-step : (gs : List (Bor GlobalVariable)) (i n : ℕ) (g : Bor GlobalVariable) (fault own more : Option SourceRefusal) (before after : List TypedGlobal) (made : TypedGlobal)
    → AreTyped gs fault before i → i < length gs → g ≡ get_or gs i g → own ≡ least_fault (global_faults (parsed.global_view g.now)) → more ≡ merged fault own
    → typed.global_view made ≡ global_of n (parsed.global_view g.now) → n ≡ length before → after ≡ before ++ made ∷ [] → AreTyped gs more after (i + 1)
globals-step gs i n g fault own more before after made h lt is own_is more_is made_is n_is after_is =
    let same : n ≡ i = n_is ∙ h.count in
    let taken : take (i + 1) gs ≡ take i gs ++ g ∷ [] = take_more gs i g lt ∙ ap (λ x. take i gs ++ x ∷ []) (sym is) in
    let so_far : views (take (i + 1) gs) ≡ views (take i gs) ++ parsed.global_view g.now ∷ [] = ap views taken ∙ map-append (λ (x : Bor GlobalVariable). parsed.global_view x.now) (take i gs) (g ∷ []) in
    let counted : i ≡ length (views (take i gs)) = sym (length-map (take i gs) (λ (x : Bor GlobalVariable). parsed.global_view x.now) ∙ length-take-le i gs (omega arith)) in
    let items : map typed.global_view after ≡ map typed.global_view before ++ typed.global_view made ∷ [] = ap (map typed.global_view) after_is ∙ map-append typed.global_view before (made ∷ []) in
    let next = globals-more fault own more (map typed.global_view before) (views (take i gs)) i (parsed.global_view g.now) (typed.global_view made) h.collects counted own_is more_is
    (made_is ∙ ap (λ k. global_of k (parsed.global_view g.now)) same) in
    record {
      count = ap length after_is ∙ (length-append before (made ∷ []) ∙ ap (λ k. k + 1) h.count);
      collects = ap (λ ps. answer_of (all_of (global_parts 0 ps))) so_far ∙ (next ∙ ap (answer_unless more) (sym items));
    }

pub globals-done : (gs : List (Bor GlobalVariable)) (i : ℕ) (fault : Option SourceRefusal) (made : List TypedGlobal) → AreTyped gs fault made i → length gs ≤ i
    → Collects fault (map typed.global_view made) (judged_globals 0 (views gs))
globals-done gs i fault made h all =
    ap answer_of (sym (all-globals 0 (views gs))) ∙ (ap (λ xs. answer_of (all_of (global_parts 0 (views xs)))) (sym (take_all gs i all)) ∙ h.collects)

-- ---- the file-scope variables in scope, declared from the last to the first

pub one-earlier : (gs : List (Bor GlobalVariable)) (i j : ℕ) (g : Bor GlobalVariable) (d : Declared) (entries more : Scope)
    → entries ≡ global_entries j (views (drop j gs)) → j ≡ i + 1 → i < length gs → g ≡ get_or gs i g
    → declared_view [] d ≡ declared [] (File i) g.now.spec (is_array_form g.now.form) false → more ≡ declared_view g.now.name.items d ∷ entries
    → more ≡ global_entries i (views (drop i gs))
one-earlier gs i j g d entries more held j_is lt is d_is more_is =
    let split : drop i gs ≡ g ∷ drop (i + 1) gs = drop_more gs i g lt ∙ ap (λ x. x ∷ drop (i + 1) gs) (sym is) in
    let next : i + 1 ≡ suc i = omega arith in
    let later : entries ≡ global_entries (suc i) (views (drop (i + 1) gs)) =
    held ∙ (ap (λ k. global_entries k (views (drop k gs))) j_is ∙ ap (λ k. global_entries k (views (drop (i + 1) gs))) next) in
    more_is
    ∙ (ap (λ e. e ∷ entries) (declared-named g.now.name.items d (File i) g.now.spec (is_array_form g.now.form) false d_is)
    ∙ (ap (λ es. global_entry i (parsed.global_view g.now) ∷ es) later ∙ sym (ap (λ xs. global_entries i (views xs)) split)))
