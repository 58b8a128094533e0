-- The variables that names and numbers stand for.
use Rattle.std.proofs.Common.{◌≡◌, refl, sym, ap, subst, ◌∙◌, ℕ, ◌≤◌, ◌⊎◌, inl, inr, false, List, [], ◌∷◌, length, Option, Some, None, arith}
use Rattle.std.specs.Prelude.{filter, slice_get}
use Rattle.gang_types.specs.Masks.{IsGangWidth}
use Rattle.gang_types.specs.MaskLaws.{gang_width-le}
use Rattle.gang_model.specs.Debugger.Debugger.{Debugger, Setting, global_named, now, or_else, shown_words}
use Rattle.gang_model.specs.Source.Names.{named}
use Rattle.gang_model.specs.Types.Tree.{Variable}
use Rattle.debug_traits.specs.Frames.{FindsAt, IsShownAt, ShowsNamedAt, ShowsNextAt, found_at, scope_at, state_at}
use Rattle.debug_traits.specs.Machines.{FindsInFile, IsOneOf, ShowsNamed, file_variables as variables_of_file}
use Rattle.debug_traits.specs.declared.machine.NamedVariable.{NamedVariable}
use Rattle.debug_traits.specs.declared.machine.NextLocal.{NextLocal}
use Rattle.debug_traits.specs.declared.machine.Shown.{Shown}
use Rattle.typed_tree.specs.declared.program.Function.{Function}
use Rattle.frame_steps.proofs.GangLanes.{words_few}
use Rattle.machine_names.specs.Found.{FindsNumber, IsNamed, IsSeen, SeesFound}
use Rattle.machine_names.specs.declared.listing.ListedKind.{ListedKind}
use Rattle.machine_names.specs.Listed.{SeesNext, is_of, listed_from}
use Rattle.machine_names.proofs.FirstNamed.{named_there}
use Rattle.machine_names.proofs.Listed.{listed_all, listed_in_scope}
use Rattle.gang_machine.specs.Nexts.{HasNoFrame, IsPlace, Sees, listed_at, listed_in_frame, listed_of}
use Rattle.gang_machine.specs.Standings.{View}

seen_found : (w : ℕ) (o : Option Variable) (shown : Shown) → SeesFound w o (Some shown) → (v : Variable) × (o ≡ Some v) × IsSeen w v shown
seen_found w None shown h = absurd h
seen_found w (Some v) shown h = (v, refl, h)

seen_none : (w : ℕ) (o : Option Variable) → SeesFound w o None → o ≡ None
seen_none w None h = refl
seen_none w (Some v) h = absurd h

-- a scalar has few words
pub few_words : (w : ℕ) → IsGangWidth w → (v : Variable) (shown : Shown) → IsSeen w v shown → shown.is_array ≡ false → shown.count ≤ 16
few_words w gang v shown seen scalar =
    let count = seen.count (seen.is_array ∙ scalar) in
    omega (arith, count, words_few w gang v.rate, gang_width-le w gang)

module _ (w : ℕ) (scope file : List Variable) (s : Setting) (d : Debugger) (deep : ℕ) (sees : Sees scope file s d deep) where
  -- ---- by their names

  found_is : (name : List ℕ) → found_at s.program deep (now s d) name ≡ or_else (named name scope) (named name file)
  found_is name = ap (λ vs. or_else (named name vs) (global_named s.program name)) sees.scope_is ∙ ap (λ vs. or_else (named name scope) (named name vs)) sees.file_is

  pub sees_scope : (name : List ℕ) (shown : Shown) → SeesFound w (named name scope) (Some shown) → SeesFound w (found_at s.program deep (now s d) name) (Some shown)
  sees_scope name shown seen =
      let (v, is, here) = seen_found w _ shown seen in
      subst (λ o. SeesFound w o (Some shown)) (sym (found_is name ∙ ap (λ o. or_else o (named name file)) is)) here

  pub sees_file : (name : List ℕ) (result : Option Shown) → SeesFound w (named name scope) None → SeesFound w (named name file) result → SeesFound w (found_at s.program deep (now s d) name) result
  sees_file name result none seen =
      subst (λ o. SeesFound w o result) (sym (found_is name ∙ ap (λ o. or_else o (named name file)) (seen_none w _ none))) seen

  pub finds_number : (name : List ℕ) (result : Option ℕ) → FindsNumber file name result → FindsInFile s name result
  finds_number name None none = ap (named name) sees.file_is ∙ none
  finds_number name (Some number) (v, is, get) = (v, ap (named name) sees.file_is ∙ is, ap (λ vs. slice_get vs number) sees.file_is ∙ get)

  -- ---- what is listed

  pub listed_is : (kind : ListedKind) → filter (λ v. is_of kind v) scope ≡ filter (λ v. is_of kind v) (scope_at s.program deep (now s d))
  listed_is kind = sym (ap (filter (λ v. is_of kind v)) sees.scope_is)

-- ---- what is shown of them

module _ (w : ℕ) (s : Setting) (d : Debugger) (deep : ℕ) where
  abbrev pub IsThere : Variable → Type 0
  IsThere v = IsOneOf (scope_at s.program deep (now s d)) v ⊎ IsOneOf (variables_of_file s) v

  -- a variable that is there, once its words are counted
  pub shows : (v : Variable) (shown : Shown) (count : ℕ) → IsThere v → IsSeen w v shown → length (shown_words (state_at deep (now s d)) v) ≡ count → IsShownAt s d deep v (record shown { count = count })
  shows v shown count there seen long = record {
    there = there;
    id = seen.id;
    type = seen.type;
    rate = seen.rate;
    is_array = seen.is_array;
    is_constant = seen.is_constant;
    count = long;
  }

  found_there : (name : List ℕ) (v : Variable) (o : Option Variable) → named name (scope_at s.program deep (now s d)) ≡ o → or_else o (global_named s.program name) ≡ Some v → IsThere v
  found_there name v None none is = inr (named_there name (variables_of_file s) v is)
  found_there name v (Some u) some is = inl (named_there name (scope_at s.program deep (now s d)) v (some ∙ is))

  pub finds : (name : List ℕ) (given counted : Shown) → SeesFound w (found_at s.program deep (now s d) name) (Some given) → ((v : Variable) → IsThere v → IsSeen w v given → IsShownAt s d deep v counted)
      → FindsAt s d deep name (Some counted)
  finds name given counted seen count =
      let (v, is, here) = seen_found w _ given seen in
      (v, is, count v (found_there name v (named name (scope_at s.program deep (now s d))) refl is) here)

  pub finds_none : (name : List ℕ) → SeesFound w (found_at s.program deep (now s d) name) None → FindsAt s d deep name None
  finds_none name none = seen_none w _ none

-- the variable of the file of this number
pub shows_file : (s : Setting) (d : Debugger) (file : List Variable) → variables_of_file s ≡ file → (number : ℕ) (v : Variable) (counted : NamedVariable) → slice_get file number ≡ Some v
    → (IsOneOf (variables_of_file s) v → ShowsNamed s d (Some v) (Some counted)) → ShowsNamed s d (slice_get (variables_of_file s) number) (Some counted)
shows_file s d file is number v counted get count =
    let here : slice_get (variables_of_file s) number ≡ Some v = ap (λ vs. slice_get vs number) is ∙ get in
    subst (λ o. ShowsNamed s d o (Some counted)) (sym here) (count (number, here))

-- ---- what is listed from a number on

module _ (w : ℕ) (kind : ListedKind) (m : View) (s : Setting) (d : Debugger) (deep : ℕ) where
  listed_here : (f : Function) (step from : ℕ) → IsPlace m s d deep f step → listed_in_frame kind m s d deep from ≡ listed_from kind f step from
  listed_here f step from place =
      ap (λ spot. listed_at kind m.program.functions.items spot from) place.stands ∙ ap (λ f. listed_of kind f step from) place.is_function

  pub all_listed : (f : Function) (step : ℕ) → IsPlace m s d deep f step → listed_in_frame kind m s d deep 0 ≡ filter (λ v. is_of kind v) (scope_at s.program deep (now s d))
  all_listed f step place = listed_here f step 0 place ∙ listed_all kind f step ∙ listed_is w _ _ s d deep place.sees kind

  pub none_listed : HasNoFrame m s d deep → listed_in_frame kind m s d deep 0 ≡ filter (λ v. is_of kind v) (scope_at s.program deep (now s d))
  none_listed none = ap (λ spot. listed_at kind m.program.functions.items spot 0) none.stands ∙ listed_is w _ _ s d deep none.sees kind

  pub none_left : (from : ℕ) → HasNoFrame m s d deep → listed_in_frame kind m s d deep from ≡ []
  none_left from none = ap (λ spot. listed_at kind m.program.functions.items spot from) none.stands

  pub none_behind : (f : Function) (step from : ℕ) → IsPlace m s d deep f step → SeesNext w (listed_from kind f step) from None
      → ShowsNextAt s d deep (listed_in_frame kind m s d deep) from None
  none_behind f step from place none = listed_here f step from place ∙ none

  pub shows_left : (f : Function) (step from : ℕ) (local : NextLocal) (counted : NamedVariable) → IsPlace m s d deep f step → SeesNext w (listed_from kind f step) from (Some local)
      → ((v : Variable) → IsThere w s d deep v → IsNamed w v local.variable → ShowsNamedAt s d deep v counted)
      → ShowsNextAt s d deep (listed_in_frame kind m s d deep) from (Some (record { variable = counted; next = local.next }))
  shows_left f step from local counted place (v, is, given) count =
      let here = listed_in_scope kind f step from v (listed_from kind f step local.next) is in (
        v,
        listed_here f step from place ∙ is ∙ ap (λ us. v ∷ us) (sym (listed_here f step local.next place)),
        count v (inl (subst (λ vs. IsOneOf vs v) (sym place.sees.scope_is) here)) given,
      )

-- some variables are in scope, and of a name it was said what they have
abbrev pub SeesLocal : (w : ℕ) → (file : List Variable) → Setting → Debugger → (depth : ℕ) → (name : List ℕ) → Option Shown → Type 0
SeesLocal w file s d deep name local = (scope : List Variable) × Sees scope file s d deep × SeesFound w (named name scope) local

pub sees_local : (w : ℕ) (scope file : List Variable) (s : Setting) (d : Debugger) (deep : ℕ) (name : List ℕ) (result local : Option Shown) → Sees scope file s d deep → SeesFound w (named name scope) result → local ≡ result
    → SeesLocal w file s d deep name local
sees_local w scope file s d deep name result local sees seen is = (scope, sees, subst (SeesFound w (named name scope)) (sym is) seen)
