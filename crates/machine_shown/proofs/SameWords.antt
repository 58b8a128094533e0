-- A variable has its words in one way alone, or it has none.
use Rattle.std.proofs.Common.{◌≡◌, sym, ap, ap₂, ◌∙◌, ℕ, suc, inl, inr, Option, arith}
use Rattle.std.specs.Prelude.{slice_get}
use Rattle.std.proofs.lemmas.Option.{none-some}
use Rattle.gang_types.specs.declared.places.VarId.{VarId}
use Rattle.gang_types.specs.declared.places.VarId.TheVariants.{File, Local}
use Rattle.gang_model.specs.Types.Tree.{Function}
use Rattle.mask_states.specs.Points.{Point}
use Rattle.machine_states.specs.Regions.{Depth, FunctionOf, OfHead, Regions}
use Rattle.machine_states.specs.Variables.{own_of}
use Rattle.machine_states.proofs.DeclaredLists.{same_some}
use Rattle.machine_states.proofs.NextPoints.{same_word}
use Rattle.frame_steps.specs.declared.active.Active.{Active}
use Rattle.frame_steps.specs.declared.compiled.CompiledProgram.{CompiledProgram}
use Rattle.frame_steps.specs.Compiled.{variables_of}
use Rattle.frame_steps.specs.Standing.{IsActive}
use Rattle.machine_shown.specs.ShownWords.{HasNoWords, HasWords, WordsShown, shown_of}

module _ (width : ℕ) (compiled : CompiledProgram) (regions : Regions) where
  -- one frame is the top one
  same_top : (a b : Active) (f g : Function) (point other : Option Point) → IsActive width compiled regions a f point → IsActive width compiled regions b g other
      → (a.frame ≡ b.frame) × (a.function ≡ b.function)
  same_top a b f g point other is also =
      let deep = same_word (regions Depth) (suc a.frame) (suc b.frame) is.next.depth also.next.depth in
      let frame : a.frame ≡ b.frame = omega (arith, deep) in (
        frame,
        same_word (regions (OfHead b.frame FunctionOf)) a.function b.function (ap (λ i. regions (OfHead i FunctionOf)) (sym frame) ∙ is.next.function) also.next.function,
      )

  pub same_words : (id : VarId) (shown other : WordsShown) → HasWords width compiled regions id shown → HasWords width compiled regions id other → shown ≡ other
  same_words (File k) shown other (u, u_is, shown_is) (v, v_is, other_is) =
      shown_is ∙ ap (λ x. shown_of regions 0 (File k) x) (same_some u v (sym u_is ∙ v_is)) ∙ sym other_is
  same_words (Local k) shown other one two =
      let top = same_top one.active two.active one.f two.f _ _ one.active_is two.active_is in
      let same = same_some one.variable two.variable (sym one.is_variable ∙ ap (λ n. slice_get (own_of (variables_of compiled) n) k) top.1 ∙ two.is_variable) in
      one.shown_is ∙ ap₂ (λ i x. shown_of regions i (Local k) x) top.0 same ∙ sym two.shown_is

  pub no_words : (id : VarId) (shown : WordsShown) → HasWords width compiled regions id shown → HasNoWords width compiled regions id → ⊥
  no_words (File k) shown (u, is, shown_is) none = none-some u (sym none ∙ is)
  no_words (Local k) shown one (inl ended) =
      let deep = same_word (regions Depth) 0 (suc one.active.frame) ended one.active_is.next.depth in absurd (omega (arith, deep))
  no_words (Local k) shown one (inr (active, none)) =
      let top = same_top one.active active one.f none.f _ _ one.active_is none.active_is in
      none-some one.variable (sym none.none ∙ ap (λ n. slice_get (own_of (variables_of compiled) n) k) (sym top.1) ∙ one.is_variable)
