-- What stands between the word of a loop or a foreach form and its body, by descent.
use Rattle.std.specs.Prelude.{ℕ, Bool, List, [], ◌∷◌, Option, Some, None, if◌then◌else◌, map, option_map}
use Rattle.gang_types.specs.declared.places.Place.{Place}
use Rattle.gang_model.specs.declared.marks.Mark.TheVariants as mark
use Rattle.gang_model.specs.Source.Parsed.{Name, ParsedExpr, ParsedDim, ParsedStmt, ParsedEmpty, ParsedWhile, ParsedFor, ParsedForEach, ParsedForEachActive, ParsedForEachUnique}
use Rattle.gang_model.specs.Source.SpellsStatements.{max_dims}
use Rattle.ispc_lexer.specs.Options.{◌>>=◌}
use Rattle.ispc_parser_words.specs.Front.{begins, take, is_mark}
use Rattle.ispc_parser_words.specs.Words.{begins_word}
use Rattle.ispc_parser_expressions.specs.Parse.{whole_expr}
use Rattle.source_tree.specs.Expressions.{expr_view}
use Rattle.ispc_parser_shared.specs.declared.words.Loop.{Loop}
use Rattle.ispc_parser_shared.specs.declared.words.Loop.TheVariants as loop
use Rattle.ispc_parser_heads.specs.declared.heads.Rounds.{Rounds}
use Rattle.ispc_parser_heads.specs.declared.heads.Distinct.{Distinct}
use Rattle.ispc_parser_heads.specs.declared.heads.Head.{Head}
use Rattle.ispc_parser_heads.specs.declared.heads.Head.TheVariants as head
use Rattle.source_tree.specs.Tree.{dim_view, stmt_view}
use Rattle.ispc_parser_shared.specs.Front.{Reader, name_of, in_parens, list_of}
use Rattle.ispc_parser_parts.specs.Parts.{behind, declaration_of, simple_of}

-- an expression, which may be missing, before a `;`
unfoldable pub optional_of : ℕ → Reader (Option ParsedExpr)
optional_of d ts = if begins mark.Semicolon ts then Some (None, ts) else (whole_expr d ts >>= λ e. Some (Some e.0, e.1))

unfoldable pub start_of : ℕ → Reader ParsedStmt
start_of d [] = None
start_of d (t ∷ ts) =
    if is_mark mark.Semicolon t.sort then Some (ParsedEmpty, t ∷ ts)
    else (if begins_word (t ∷ ts) then declaration_of d t.place (t ∷ ts) else simple_of d (t ∷ ts))

unfoldable pub update_of : ℕ → Reader ParsedStmt
update_of d ts = if begins mark.RightParen ts then Some (ParsedEmpty, ts) else simple_of d ts

-- start ; test ; update
pub record ParsedRounds : Type 0 where
  pub start : ParsedStmt
  pub test : Option ParsedExpr
  pub update : ParsedStmt

unfoldable pub rounds_of : ℕ → Reader ParsedRounds
rounds_of d ts = start_of d ts >>= λ s. take mark.Semicolon s.1 >>= λ a. optional_of d a >>= λ e. take mark.Semicolon e.1 >>= λ b.
    update_of d b >>= λ u. Some (record { start = s.0; test = e.0; update = u.0 }, u.1)

unfoldable pub dim_of : ℕ → Reader ParsedDim
dim_of d ts = name_of ts >>= λ n. behind mark.Assign d n.1 >>= λ l. behind mark.Dots d l.1 >>= λ h.
    Some (record { at = n.0.0; name = n.0.1; low = l.0; high = h.0 }, h.1)

unfoldable pub dims_of : ℕ → Reader (List ParsedDim)
dims_of d ts = list_of (dim_of d) max_dims ts

-- name in e
pub record ParsedDistinct : Type 0 where
  pub at : Place
  pub name : Name
  pub value : ParsedExpr

unfoldable pub distinct_of : ℕ → Reader ParsedDistinct
distinct_of d ts = name_of ts >>= λ n. behind mark.In d n.1 >>= λ e. Some (record { at = n.0.0; name = n.0.1; value = e.0 }, e.1)

-- a loop or a foreach form without its body
pub data ParsedHead : Type 0 where
  WhileHead : Place → ParsedExpr → ParsedHead
  ForHead : Place → ParsedRounds → ParsedHead
  ForEachHead : Place → (is_tiled : Bool) → List ParsedDim → ParsedHead
  ActiveHead : Place → (at : Place) → Name → ParsedHead
  UniqueHead : Place → ParsedDistinct → ParsedHead

abbrev pub completed : ParsedHead → ParsedStmt → ParsedStmt
completed (WhileHead at e) x = ParsedWhile at e x
completed (ForHead at r) x = ParsedFor at r.start r.test r.update x
completed (ForEachHead at is_tiled dims) x = ParsedForEach at is_tiled dims x
completed (ActiveHead at name_at name) x = ParsedForEachActive at name_at name x
completed (UniqueHead at v) x = ParsedForEachUnique at v.at v.name v.value x

-- behind the word of a loop or a foreach form that stands here
unfoldable pub head_of : Loop → ℕ → Place → Reader ParsedHead
head_of loop.While d at ts = in_parens whole_expr d ts >>= λ e. Some (WhileHead at e.0, e.1)
head_of loop.For d at ts = in_parens rounds_of d ts >>= λ r. Some (ForHead at r.0, r.1)
head_of (loop.ForEach is_tiled) d at ts = in_parens dims_of d ts >>= λ dims. Some (ForEachHead at is_tiled dims.0, dims.1)
head_of loop.ForEachActive d at ts = in_parens (λ inner. name_of) d ts >>= λ n. Some (ActiveHead at n.0.0 n.0.1, n.1)
head_of loop.ForEachUnique d at ts = in_parens distinct_of d ts >>= λ v. Some (UniqueHead at v.0, v.1)

-- what stands inside its parentheses
abbrev pub inside_of : Loop → Place → ℕ → Reader ParsedHead
inside_of loop.While at d ts = whole_expr d ts >>= λ e. Some (WhileHead at e.0, e.1)
inside_of loop.For at d ts = rounds_of d ts >>= λ r. Some (ForHead at r.0, r.1)
inside_of (loop.ForEach is_tiled) at d ts = dims_of d ts >>= λ dims. Some (ForEachHead at is_tiled dims.0, dims.1)
inside_of loop.ForEachActive at d ts = name_of ts >>= λ n. Some (ActiveHead at n.0.0 n.0.1, n.1)
inside_of loop.ForEachUnique at d ts = distinct_of d ts >>= λ v. Some (UniqueHead at v.0, v.1)

-- ---- views

abbrev pub rounds_view : Rounds → ParsedRounds
rounds_view r = record { start = stmt_view r.start.value; test = option_map expr_view r.test; update = stmt_view r.update.value }

abbrev pub distinct_view : Distinct → ParsedDistinct
distinct_view v = record { at = v.name.place; name = v.name.text.items; value = expr_view v.value }

abbrev pub head_view : Head → ParsedHead
head_view (head.While at e) = WhileHead at (expr_view e)
head_view (head.For at r) = ForHead at (rounds_view r)
head_view (head.ForEach at is_tiled dims) = ForEachHead at is_tiled (map dim_view dims.items)
head_view (head.ForEachActive at name) = ActiveHead at name.place name.text.items
head_view (head.ForEachUnique at v) = UniqueHead at (distinct_view v)
