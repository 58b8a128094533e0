use Rattle.std.proofs.Common.{◌≡◌, ℕ, arith, subst}
use Rattle.std.specs.Prelude.{◌-◌, IfOk, take}
use Rattle.gang_types.specs.Masks.{lanes_of}
use Rattle.gang_model.specs.Debugger.Debugger.{now, shown_words}
use Rattle.debug_traits.specs.Frames.{state_at}
use Rattle.prompt_texts.specs.Items.{Tells, is_of_lanes}
use Rattle.prompt_values.proofs.returned.told_shown.Goals as goal

pub returns-in-Ok : goal.returns-in-Ok
returns-in-Ok g c s d v st there gets =
    let a = c.args in
    let shown = a.shown in
    let words = shown_words (state_at a.depth (now s d)) v in
    let all : shown.count - 0 ≡ shown.count = omega arith in
    record {
      v = v;
      shown = shown;
      there = there;
      gets = gets;
      tells = subst (λ (n : ℕ). Tells c.in-Ok.told shown.value_type a.scene.layout (is_of_lanes shown.is_array shown.rate) (lanes_of 16 a.awaited.lanes) 0 (take n words)) all
          (subst (λ r. IfOk r (λ told. Tells told shown.value_type a.scene.layout (is_of_lanes shown.is_array shown.rate) (lanes_of 16 a.awaited.lanes) 0 (take (shown.count - 0) words)))
          c.in-Ok.is (c.told_variable.ensures s d v st there (omega arith) (omega arith)));
    }
