use Rattle.std.proofs.Common.{◌≡◌, ℕ, List, Option, Some, None, Ok, Err, sym, subst, ◌∙◌}
use Rattle.std.specs.Prelude.{IfOk, Result}
use Rattle.gang_model.specs.Types.Tree.{Variable}
use Rattle.gang_model.specs.Debugger.Debugger.{Debugger, Setting, now}
use Rattle.call_results.specs.declared.given.GivenResult.{GivenResult}
use Rattle.debug_traits.specs.declared.machine.Shown.{Shown}
use Rattle.debug_traits.specs.Frames.{FindsAt, IsShownAt, found_at}
use Rattle.prompt_texts.specs.declared.items.Layout.{Layout}
use Rattle.prompt_texts.specs.declared.told.Told.{Told}
use Rattle.prompt_values.specs.declared.returned.Awaited.{Awaited}
use Rattle.prompt_values.specs.Returned.{Gets, IsToldBy, IsToldOf}
use Rattle.prompt_values.proofs.returned.told_named.Goals as goal

-- what is shown of one variable gets a result where anything that is shown of it does
same : (s : Setting) (d : Debugger) (deep : ℕ) (given : GivenResult) (v : Variable) (shown other : Shown) → IsShownAt s d deep v shown → IsShownAt s d deep v other → Gets given other → Gets given shown
same s d deep given v shown other a b gets = record { scalar = sym a.is_array ∙ b.is_array ∙ gets.scalar; id = sym a.id ∙ b.id ∙ gets.id; type = sym a.type ∙ b.type ∙ gets.type }

some_none : (v : Variable) → Some v ≡ None → ⊥
some_none v e = absurd cc

some_is : (a b : Variable) → Some a ≡ Some b → a ≡ b
some_is a b e = cc

-- what is told of the variable of a name is told by that
by_name : (s : Setting) (d : Debugger) (deep : ℕ) (awaited : Awaited) (layout : Layout) (name : List ℕ) (v : Variable) (shown : Shown) (told : Option Told)
    → found_at s.program deep (now s d) name ≡ Some v → IsShownAt s d deep v shown → IsToldOf s d deep awaited layout shown told → IsToldBy s d deep awaited layout name told
by_name s d deep awaited layout name v shown None found there none =
    λ w other is at gets.
    none (same s d deep awaited.given v shown other there (subst (λ x. IsShownAt s d deep x other) (some_is w v (sym is ∙ found)) at) gets)
by_name s d deep awaited layout name v shown (Some told) found there tells = tells

-- the same where there is memory
by_name_if : {E : Type 0} (s : Setting) (d : Debugger) (deep : ℕ) (awaited : Awaited) (layout : Layout) (name : List ℕ) (v : Variable) (shown : Shown) (result : Result (Option Told) E)
    → found_at s.program deep (now s d) name ≡ Some v → IsShownAt s d deep v shown → IfOk result (IsToldOf s d deep awaited layout shown) → IfOk result (IsToldBy s d deep awaited layout name)
by_name_if s d deep awaited layout name v shown (Ok told) found there is = by_name s d deep awaited layout name v shown told found there is
by_name_if s d deep awaited layout name v shown (Err fault) found there is = is

pub returns-in-Some : goal.returns-in-Some
returns-in-Some g c s d st =
    let a = c.args in
    let (v, is, shown) = subst (λ found. FindsAt s d a.depth a.name.now found) c.in-Some.is (c.find_at.ensures s d st) in
    by_name_if s d a.depth a.awaited a.scene.layout a.name.now v c.in-Some.shown c.told_if_gets.result is shown (c.told_if_gets.ensures s d v st shown)

pub returns-in-None : goal.returns-in-None
returns-in-None g c s d st =
    let a = c.args in
    let none = subst (λ found. FindsAt s d a.depth a.name.now found) c.in-None.is (c.find_at.ensures s d st) in
    λ v shown is there gets. absurd (some_none v (sym is ∙ none))
