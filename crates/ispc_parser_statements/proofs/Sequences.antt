-- Steps of the loop over statements.
use Rattle.std.proofs.Common.{◌≡◌, ℕ, zero, suc, List, [], ◌∷◌, ◌++◌, Option, Some, None, true, false, refl, sym, ap, ◌∙◌, arith}
use Rattle.gang_model.specs.Source.Tokens.{Lexeme}
use Rattle.gang_model.specs.Source.Parsed.{ParsedStmt, ParsedStmts, ParsedLast, ParsedNext}
use Rattle.source_answers.specs.declared.fault.SourceFault.{SourceFault}
use Rattle.ispc_lexer.specs.Options.{◌>>=◌}
use Rattle.ispc_parser_words.specs.Front.{Fails}
use Rattle.source_tree.specs.declared.tree.Stmt.{Stmt}
use Rattle.source_tree.specs.Tree.{stmt_view, stmts_view}
use Rattle.ispc_parser_shared.specs.Front.{Reader}
use Rattle.ispc_parser_shared.proofs.Fails.{fails_when}
use Rattle.ispc_parser_statements.specs.Statements.{ends_stmts, stmts_of}

abbrev pub append : ParsedStmts → ParsedStmts → ParsedStmts
append ParsedLast ss = ss
append (ParsedNext s front) ss = ParsedNext s (append front ss)

-- what was read before, and what is still read
abbrev pub after_front : ParsedStmts → Option (ParsedStmts × List Lexeme) → Option (ParsedStmts × List Lexeme)
after_front front read = read >>= λ x. Some (append front x.0, x.1)

pub stmts_view-push : (ss : List Stmt) (s : Stmt) → stmts_view (ss ++ s ∷ []) ≡ append (stmts_view ss) (ParsedNext (stmt_view s) ParsedLast)
stmts_view-push [] s = refl
stmts_view-push (x ∷ ss) s = ap (ParsedNext (stmt_view x)) (stmts_view-push ss s)

append-next : (front : ParsedStmts) (s : ParsedStmt) (ss : ParsedStmts) → append (append front (ParsedNext s ParsedLast)) ss ≡ append front (ParsedNext s ss)
append-next ParsedLast s ss = refl
append-next (ParsedNext x front) s ss = ap (ParsedNext x) (append-next front s ss)

append-last : (front : ParsedStmts) → append front ParsedLast ≡ front
append-last ParsedLast = refl
append-last (ParsedNext x front) = ap (ParsedNext x) (append-last front)

module _ (one : Reader ParsedStmt) where
  pub starts_last : (n k : ℕ) (ts : List Lexeme) → n ≡ k → after_front ParsedLast (stmts_of one n ts) ≡ stmts_of one k ts
  starts_last n k ts e = go (stmts_of one n ts) ∙ ap (λ (x : ℕ). stmts_of one x ts) e
    where
      go : (r : Option (ParsedStmts × List Lexeme)) → after_front ParsedLast r ≡ r
      go None = refl
      go (Some x) = refl

  pub stmts_done : (n : ℕ) (front : ParsedStmts) (ts : List Lexeme) → ends_stmts ts ≡ true → after_front front (stmts_of one n ts) ≡ Some (front, ts)
  unfolding stmts_of
  stmts_done zero front ts e = ap (λ (x : ParsedStmts). Some (x, ts)) (append-last front)
  stmts_done (suc n) front ts e = rw e (ap (λ (x : ParsedStmts). Some (x, ts)) (append-last front))

  pub stmts_spent : (n : ℕ) (front : ParsedStmts) (ts : List Lexeme) → n ≡ 0 → after_front front (stmts_of one n ts) ≡ Some (front, ts)
  unfolding stmts_of
  stmts_spent zero front ts e = ap (λ (x : ParsedStmts). Some (x, ts)) (append-last front)
  stmts_spent (suc n) front ts e = absurd (omega arith)

  module _ (n m : ℕ) (front : ParsedStmts) (ts : List Lexeme) (total : Option (ParsedStmts × List Lexeme))
      (n-is : n ≡ suc m) (goes : ends_stmts ts ≡ false) (so_far : after_front front (stmts_of one n ts) ≡ total) where
    pub stmts_fail : (e : SourceFault) → Fails e (one ts) → Fails e total
    unfolding stmts_of
    stmts_fail e h = fails_when e (one ts) total (λ none. sym so_far ∙ rw (n-is, goes, none) refl) h

    pub stmts_go_on : (s : ParsedStmt) (rest : List Lexeme) → one ts ≡ Some (s, rest)
        → after_front (append front (ParsedNext s ParsedLast)) (stmts_of one m rest) ≡ total
    unfolding stmts_of
    stmts_go_on s rest e = last (stmts_of one m rest) ∙ sym next ∙ so_far
      where
        next : after_front front (stmts_of one n ts) ≡ after_front front (stmts_of one m rest >>= λ ss. Some (ParsedNext s ss.0, ss.1))
        next = rw (n-is, goes, e) refl

        last : (r : Option (ParsedStmts × List Lexeme)) → after_front (append front (ParsedNext s ParsedLast)) r ≡ after_front front (r >>= λ ss. Some (ParsedNext s ss.0, ss.1))
        last None = refl
        last (Some ss) = ap (λ (t : ParsedStmts). Some (t, ss.1)) (append-next front s ss.0)
