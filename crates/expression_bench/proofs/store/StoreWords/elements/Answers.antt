use Rattle.std.proofs.Common.{◌≡◌, ◌∙◌, arith, length}
use Rattle.gang_model.specs.Running.State.{view_of}
use Rattle.expression_bench.proofs.store.StoreWords.elements.Goals as goal

pub returns : goal.returns
returns g c = λ state shown.
    let part = shown.1 c.args._array in
    let long : c.len.result ≡ length c.args.self.now.a.items = omega arith in
    c.gather.ensures state (view_of state c.args._array) (record {
      long = long ∙ part.long;
      elements = λ i h. part.elements i (omega (arith, long, h));
    })
