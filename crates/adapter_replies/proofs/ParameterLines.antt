-- The lines of parameters one after another.
use Rattle.std.proofs.Common.{◌≡◌, ℕ, ◌+◌, ◌<◌, List, [], ◌∷◌, ◌++◌, map, length, take, get_or, ap, sym, ◌∙◌, append-nil, append_assoc}
use Rattle.std.specs.Prelude.{flat_map}
use Rattle.std.proofs.lemmas.List.{map_more}
use Rattle.adapter_requests.specs.declared.reply.Variable.{Variable}
use Rattle.adapter_replies.specs.Console.{parameter_line}
use Rattle.adapter_replies.specs.Variables.{ToldVariable, variable_view}

-- the lines of some parameters and of one more
lines_then : (told : List ToldVariable) (v : ToldVariable) → flat_map parameter_line (told ++ v ∷ []) ≡ flat_map parameter_line told ++ parameter_line v
lines_then [] v = append-nil (parameter_line v)
lines_then (w ∷ told) v = ap (λ lines. parameter_line w ++ lines) (lines_then told v) ∙ sym (append_assoc (parameter_line w) (flat_map parameter_line told) (parameter_line v))

-- the same of those up to an index and of the one there
pub lines_next : (vs : List Variable) (i : ℕ) (v : Variable) → i < length vs → v ≡ get_or vs i v
    → flat_map parameter_line (map variable_view (take (i + 1) vs)) ≡ flat_map parameter_line (map variable_view (take i vs)) ++ parameter_line (variable_view v)
lines_next vs i v within is =
    ap (flat_map parameter_line) (map_more variable_view vs i v within)
    ∙ lines_then (map variable_view (take i vs)) (variable_view (get_or vs i v))
    ∙ ap (λ it. flat_map parameter_line (map variable_view (take i vs)) ++ parameter_line (variable_view it)) (sym is)
