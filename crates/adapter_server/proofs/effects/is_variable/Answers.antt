use Rattle.std.proofs.Common.{◌≡◌, ℕ, List, Option, Some, None, ap, is_some, sym, ◌∙◌}
use Rattle.gang_model.specs.Debugger.Debugger.{Debugger, Setting, now}
use Rattle.debug_traits.specs.Frames.{FindsAt, found_at}
use Rattle.debug_traits.specs.declared.machine.Shown.{Shown}
use Rattle.prompt_lines.specs.Heads.{stripped}
use Rattle.adapter_replies.specs.Completions.{frame_or}
use Rattle.adapter_server.proofs.effects.is_variable.Goals as goal

-- a variable is given exactly where there is one
given : (s : Setting) (d : Debugger) (deep : ℕ) (name : List ℕ) (shown : Option Shown) → FindsAt s d deep name shown → is_some shown ≡ is_some (found_at s.program deep (now s d) name)
given s d deep name None none = sym (ap is_some none)
given s d deep name (Some shown) found = sym (ap is_some found.1)

pub returns : goal.returns
returns g c s d there =
    let name = stripped c.args.line.now in
    c.is_some.ensures
    ∙ given s d c.frame_or-depth.result c.stripped.result.now c.find_at.result (c.find_at.ensures s d there)
    ∙ ap (λ of. is_some (found_at s.program c.frame_or-depth.result (now s d) of)) (c.stripped.ensures ∙ ap stripped c.as_bytes.ensures.value)
    ∙ ap (λ deep. is_some (found_at s.program deep (now s d) name)) (c.frame_or-depth.ensures ∙ ap (λ top. frame_or top c.args.frame) (c.depth_of.ensures s d there))
