use Rattle.std.proofs.Common.{◌++◌, ◌∙◌, ap}
use Rattle.adapter_replies.specs.declared.places.Scope.TheVariants.{Arguments, Locals}
use Rattle.adapter_replies.specs.Completions.{of_file, of_frame}
use Rattle.adapter_replies.proofs.completions.completions.Goals as goal

pub returns : goal.returns
returns g c s d st =
    let front = c.args.front.now in
    let deep = c.args.depth in
    c.in_ok-push_file.ensures s d st
    ∙ ap (λ made. made ++ of_file s d front) (c.in_ok-push_frame-2.ensures s d st
    ∙ ap (λ made. made ++ of_frame s d Arguments deep front) (c.in_ok-push_frame.ensures s d st
    ∙ ap (λ made. made ++ of_frame s d Locals deep front) c.in_ok-told.ensures))
