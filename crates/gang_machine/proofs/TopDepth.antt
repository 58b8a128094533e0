-- What is told of the frame at a depth past all frames is what is told of the top frame.
use Rattle.std.proofs.Common.{◌≡◌, ℕ, suc, ◌-◌, ◌≤◌, ◌⊎◌, inl, inr, false, List, ◌∷◌, drop, length, nat_lt, ap, sym, subst, ◌∙◌, Option, Some, None, arith}
use Rattle.std.specs.Prelude.{filter, if◌then◌else◌}
use Rattle.std.proofs.lemmas.Bool.Decides.{nat_tests}
use Rattle.gang_model.specs.Source.Names.{named}
use Rattle.gang_model.specs.Types.Tree.{Variable}
use Rattle.gang_model.specs.Debugger.Debugger.{Debugger, Setting, found, global_named, now, or_else, shown_words}
use Rattle.gang_model.specs.Debugger.Positions.{call_at, scope_now, scope_of, spot_now, standing_of}
use Rattle.debug_traits.specs.declared.machine.NamedVariable.{NamedVariable}
use Rattle.debug_traits.specs.declared.machine.NextLocal.{NextLocal}
use Rattle.debug_traits.specs.declared.machine.Shown.{Shown}
use Rattle.debug_traits.specs.Frames.{FindsAt, IsShownAt, ShowsNamedAt, ShowsNextAt, found_at, scope_at, spot_at, state_at}
use Rattle.debug_traits.specs.Machines.{Finds, IsOneOf, IsShown, ShowsNamed, ShowsNext, file_variables}
use Rattle.typed_tree.specs.declared.program.Function.{Function}
use Rattle.machine_names.specs.declared.listing.ListedKind.{ListedKind}
use Rattle.machine_names.specs.Listed.{is_of}
use Rattle.gang_machine.specs.Nexts.{listed_at}

module _ (s : Setting) (d : Debugger) (deep : ℕ) (few : length (now s d).frames ≤ deep) where
  pub spot_top : spot_at s.program deep (now s d) ≡ spot_now s.program (now s d)
  spot_top =
      let past : nat_lt deep (length (now s d).frames) ≡ false = grind (arith, nat_tests) in
      ap (λ b. if b then call_at (suc deep) (now s d).frames else spot_now s.program (now s d)) past

  pub scope_top : scope_at s.program deep (now s d) ≡ scope_now s.program (now s d)
  scope_top = ap (λ spot. scope_of (standing_of s.program spot)) spot_top

  pub state_top : state_at deep (now s d) ≡ now s d
  state_top =
      let none : length (now s d).frames - deep ≡ 0 = omega (arith, few) in
      ap (λ n. record (now s d) { frames = drop n (now s d).frames }) none

  there_top : (v : Variable) → IsOneOf (scope_at s.program deep (now s d)) v ⊎ IsOneOf (file_variables s) v → IsOneOf (scope_now s.program (now s d)) v ⊎ IsOneOf (file_variables s) v
  there_top v (inl local) = inl (subst (λ vs. IsOneOf vs v) scope_top local)
  there_top v (inr file) = inr file

  there_at : (v : Variable) → IsOneOf (scope_now s.program (now s d)) v ⊎ IsOneOf (file_variables s) v → IsOneOf (scope_at s.program deep (now s d)) v ⊎ IsOneOf (file_variables s) v
  there_at v (inl local) = inl (subst (λ vs. IsOneOf vs v) (sym scope_top) local)
  there_at v (inr file) = inr file

  pub shown_top : (v : Variable) (shown : Shown) → IsShownAt s d deep v shown → IsShown s d v shown
  shown_top v shown is = record {
    there = there_top v is.there;
    id = is.id;
    type = is.type;
    rate = is.rate;
    is_array = is.is_array;
    is_constant = is.is_constant;
    count = ap (λ state. length (shown_words state v)) (sym state_top) ∙ is.count;
  }

  pub shown_in : (v : Variable) (shown : Shown) → IsShown s d v shown → IsShownAt s d deep v shown
  shown_in v shown is = record {
    there = there_at v is.there;
    id = is.id;
    type = is.type;
    rate = is.rate;
    is_array = is.is_array;
    is_constant = is.is_constant;
    count = ap (λ state. length (shown_words state v)) state_top ∙ is.count;
  }

  -- by its name
  pub named_top : (v : Variable) (given : NamedVariable) → ShowsNamedAt s d deep v given → ShowsNamed s d (Some v) (Some given)
  named_top v given (name, shown) = (name, shown_top v given.shown shown)

  found_top : (name : List ℕ) → found_at s.program deep (now s d) name ≡ found s.program (now s d) name
  found_top name = ap (λ vs. or_else (named name vs) (global_named s.program name)) scope_top

  pub finds_top : (name : List ℕ) (result : Option Shown) → FindsAt s d deep name result → Finds s d name result
  finds_top name None none = sym (found_top name) ∙ none
  finds_top name (Some shown) (v, is, here) = (v, sym (found_top name) ∙ is, shown_top v shown here)

  -- one after another
  next_top : (at left : ℕ → List Variable) → ((n : ℕ) → left n ≡ at n) → (place : ℕ) (result : Option NextLocal) → ShowsNextAt s d deep at place result → ShowsNext s d left place result
  next_top at left same place None none = same place ∙ none
  next_top at left same place (Some local) (v, is, given) = (v, same place ∙ is ∙ ap (λ vs. v ∷ vs) (sym (same local.next)), named_top v local.variable given)

  module _ (kind : ListedKind) (functions : List Function) where
    pub listed_top : listed_at kind functions (spot_at s.program deep (now s d)) 0 ≡ filter (λ v. is_of kind v) (scope_at s.program deep (now s d))
        → listed_at kind functions (spot_now s.program (now s d)) 0 ≡ filter (λ v. is_of kind v) (scope_now s.program (now s d))
    listed_top all = ap (λ spot. listed_at kind functions spot 0) (sym spot_top) ∙ all ∙ ap (filter (λ v. is_of kind v)) scope_top

    pub next_listed_top : (place : ℕ) (result : Option NextLocal) → ShowsNextAt s d deep (listed_at kind functions (spot_at s.program deep (now s d))) place result
        → ShowsNext s d (listed_at kind functions (spot_now s.program (now s d))) place result
    next_listed_top place result =
        next_top (listed_at kind functions (spot_at s.program deep (now s d))) (listed_at kind functions (spot_now s.program (now s d)))
        (λ n. ap (λ spot. listed_at kind functions spot n) (sym spot_top)) place result
