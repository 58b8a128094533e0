-- Declarations, assignments and calls at the front of the tokens, by descent.
use Rattle.std.specs.Prelude.{ℕ, [], ◌∷◌, Option, Some, None, if◌then◌else◌}
use denote.Enum.Bare.{sameb}
use Rattle.gang_types.specs.declared.places.Place.{Place}
use Rattle.gang_model.specs.declared.marks.Mark.{Mark}
use Rattle.gang_model.specs.declared.marks.Mark.TheVariants as mark
use Rattle.gang_model.specs.contracts.marks.Mark.{the_type}
use Rattle.gang_model.specs.Source.Tokens.{Sort, named, numbered, marked}
use Rattle.gang_model.specs.Source.Parsed.{Name, ParsedExpr, ParsedTarget, ParsedStmt, ParsedDeclare, ParsedAssign, ParsedChange, ParsedIncrement, ParsedDoCall}
use Rattle.gang_model.specs.Source.SpellsStatements.{change_of, increment_of}
use Rattle.ispc_lexer.specs.Options.{◌>>=◌, if_some}
use Rattle.ispc_parser_words.specs.Front.{begins, take, mark_of}
use Rattle.ispc_parser_expressions.specs.Parse.{whole_expr, whole_args}
use Rattle.ispc_parser_shared.specs.Front.{Reader, enter, name_of, in_parens}
use Rattle.ispc_parser_shared.specs.SpecWords.{local_spec_of}

-- an expression behind a mark
unfoldable pub behind : Mark → ℕ → Reader ParsedExpr
behind m d ts = take m ts >>= λ a. whole_expr d a

-- an expression between two marks
unfoldable pub between : Mark → Mark → ℕ → Reader ParsedExpr
between left right d ts = enter left d ts >>= λ o. whole_expr o.0 o.1 >>= λ e. take right e.1 >>= λ rest. Some (e.0, rest)

-- ---- declarations, assignments and calls

unfoldable pub value_of : ℕ → Reader (Option ParsedExpr)
value_of d ts =
    if begins mark.Assign ts then (behind mark.Assign d ts >>= λ e. Some (Some e.0, e.1))
    else Some (None, ts)

-- a declaration whose first word stands here
unfoldable pub declaration_of : ℕ → Place → Reader ParsedStmt
declaration_of d at ts = local_spec_of ts >>= λ s. name_of s.1 >>= λ n. value_of d n.1 >>= λ v. Some (ParsedDeclare at s.0 n.0.0 n.0.1 v.0, v.1)

unfoldable pub index_of : ℕ → Reader (Option ParsedExpr)
index_of d ts =
    if begins mark.LeftBracket ts
    then (between mark.LeftBracket mark.RightBracket d ts >>= λ e. Some (Some e.0, e.1))
    else Some (None, ts)

unfoldable pub target_of : ℕ → Reader ParsedTarget
target_of d ts = name_of ts >>= λ n. index_of d n.1 >>= λ i. Some (record { at = n.0.0; name = n.0.1; index = i.0 }, i.1)

-- behind a target and a mark
unfoldable pub changed_of : ℕ → ParsedTarget → Mark → Reader ParsedStmt
changed_of d target m ts =
    if_some (increment_of m) (λ op. Some (ParsedIncrement target.at target op, ts))
    (if sameb the_type m mark.Assign then (whole_expr d ts >>= λ e. Some (ParsedAssign target.at target e.0, e.1))
    else (change_of m >>= λ op. whole_expr d ts >>= λ e. Some (ParsedChange target.at target op e.0, e.1)))

-- behind a target
unfoldable pub assigned_of : ℕ → ParsedTarget → Reader ParsedStmt
assigned_of d target [] = None
assigned_of d target (t ∷ ts) = mark_of t.sort >>= λ m. changed_of d target m ts

unfoldable pub call_of : ℕ → Place → Name → Reader ParsedStmt
call_of d at n ts = in_parens whole_args d ts >>= λ es. Some (ParsedDoCall at n es.0, es.1)

-- behind a name
unfoldable pub named_of : ℕ → Place → Name → Reader ParsedStmt
named_of d at n ts =
    if begins mark.LeftParen ts then call_of d at n ts
    else (index_of d ts >>= λ i. assigned_of d (record { at = at; name = n; index = i.0 }) i.1)

-- behind a mark
unfoldable pub incremented_of : ℕ → Place → Mark → Reader ParsedStmt
incremented_of d at m ts = increment_of m >>= λ op. target_of d ts >>= λ x. Some (ParsedIncrement at x.0 op, x.1)

abbrev pub simple_at : ℕ → Sort → Place → Reader ParsedStmt
simple_at d (named n) at ts = named_of d at n ts
simple_at d (marked m) at ts = incremented_of d at m ts
simple_at d (numbered n u l) at ts = None

unfoldable pub simple_of : ℕ → Reader ParsedStmt
simple_of d [] = None
simple_of d (t ∷ ts) = simple_at d t.sort t.place ts
