use Rattle.std.proofs.Common.{◌≡◌, ℕ, List, ◌∙◌, sym, ap, arith, Bool, true, false}
use Rattle.std.specs.Prelude.{bytes_eq}
use Rattle.gang_model.specs.Source.Names.{same_text}
use Rattle.gang_model.proofs.SameTexts.{bytes_same}
use Rattle.ispc_names.proofs.ItemSteps.{file-found, file-later, file-apart}
use Rattle.ispc_names.proofs.file_variables.file_variable.Goals as goal
use Rattle.ispc_names.proofs.file_variables.file_variable.Goals.{in-Global+else-eq, in_default}

-- the test of a name, as the model names it
same_name : (text read name : List ℕ) (b : Bool) → read ≡ text → b ≡ bytes_eq read name → same_text text name ≡ b
same_name text read name b e t = sym (bytes_same text name) ∙ ap (λ x. bytes_eq x name) (sym e) ∙ sym t

pub returns-then-eq : goal.returns-then-eq
returns-then-eq c =
    let xs = c.deref-item-items.result.now in
    let g = c.in-Global.variable in
    let said = same_name g.name.items c.as_slice.result.now c.args.name.now true c.as_slice.ensures.value c.if-eq.ensures in
    sym (file-found xs c.loop-item.item-index c.loop-item.number c.item-item.result c.args.name.now c.loop-item-test.true c.item-item.is g c.in-Global.is said)
    ∙ c.loop-item.invariant.same

pub loop-item-preserved : goal.loop-item-preserved
loop-item-preserved c =
    let xs = c.deref-item-items.result.now in
    let i = c.loop-item.item-index in
    let n = c.loop-item.number in
    let x = c.item-item.result in
    let name = c.args.name.now in
    elim c.match-item.branch [
      | in-Global+else-eq w ↦
          let g = w.in-Global.variable in
          let said = same_name g.name.items w.as_slice.result.now name false w.as_slice.ensures.value w.if-eq.ensures in
          record {
            within = omega arith;
            same = rw w.number-is (file-later xs i n x name c.loop-item-test.true c.item-item.is g w.in-Global.is said ∙ c.loop-item.invariant.same);
          }
      | in_default w ↦
          record {
            within = omega arith;
            same = rw w.number-is (file-apart xs i n x name c.loop-item-test.true c.item-item.is w.in_default.field-0 w.in_default.is ∙ c.loop-item.invariant.same);
          }
    ]
