use Rattle.std.proofs.Common.{◌≡◌, ◌&&◌, ◌∙◌, refl, sym, ap, arith, [], ◌∷◌, ◌++◌}
use mir.Syntax.{w128}
use Rattle.std.proofs.lemmas.Int.{to_z-of_z}
use Rattle.gang_types.specs.Values.{wrapped}
use Rattle.gang_model.specs.Debugger.Debugger.{is_value}
use Rattle.debug_inputs.proofs.KeptValues.{value_dropped, value_kept}
use Rattle.debug_inputs.proofs.values.Values.add.Goals as goal
use Rattle.debug_inputs.proofs.values.Values.add.Goals.{then-self, else-self}

pub returns-in_ok-push : goal.returns-in_ok-push
returns-in_ok-push c = λ zs z is shows.
    let same = to_z-of_z w128 c.args.number c.ranges.number in
    let typed : c.if-self.self ≡ (c.args.self.now.are_of_type && is_value c.args.value_type c.args.number) = elim c.if-self.branch [
      | then-self w ↦
          w.self-is ∙ (w.is_value-self.ensures ∙ (ap (is_value c.args.value_type) same ∙ ap (λ t. t && is_value c.args.value_type c.args.number) (sym w.if-self.true)))
      | else-self w ↦ w.self-is ∙ (w.if-self.false ∙ ap (λ t. t && is_value c.args.value_type c.args.number) (sym w.if-self.false))
    ] in
    value_kept c.args.value_type c.args.most zs z c.args.number c.args.self.now _ is shows (omega (arith, c.if-len-most.true, c.len.ensures, c.args.self.now.words.ok.0))
    (c.in_ok-push.ensures.items ∙ ap (λ n. c.args.self.now.words.items ++ n ∷ []) (c.wrap.ensures.value ∙ ap (wrapped c.args.value_type) same)) refl typed

pub returns-else-len-most : goal.returns-else-len-most
returns-else-len-most c = λ zs z is shows.
    let same = to_z-of_z w128 c.args.number c.ranges.number in
    let typed : c.if-self.self ≡ (c.args.self.now.are_of_type && is_value c.args.value_type c.args.number) = elim c.if-self.branch [
      | then-self w ↦
          w.self-is ∙ (w.is_value-self.ensures ∙ (ap (is_value c.args.value_type) same ∙ ap (λ t. t && is_value c.args.value_type c.args.number) (sym w.if-self.true)))
      | else-self w ↦ w.self-is ∙ (w.if-self.false ∙ ap (λ t. t && is_value c.args.value_type c.args.number) (sym w.if-self.false))
    ] in
    value_dropped c.args.value_type c.args.most zs z c.args.number c.args.self.now _ is shows (omega (arith, c.if-len-most.false, c.len.ensures, c.args.self.now.words.ok.0)) refl refl typed
