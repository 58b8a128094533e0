-- What follows from the definitions of `Scope`: a function has as many standings as steps, and typing finds the declaration of
-- each name that `Scope` finds.
use Rattle.std.proofs.Common.{ℕ, suc, ◌+◌, List, [], ◌∷◌, ◌++◌, ◌≡◌, refl, ◌∙◌, arith, length, length-append}
use Rattle.gang_model.specs.Source.Parsed.{ParsedStmt, ParsedEmpty, ParsedBlock, ParsedDeclare, ParsedAssign, ParsedChange, ParsedIncrement, ParsedDoCall, ParsedBreak, ParsedContinue, ParsedReturn, ParsedIf, ParsedIfElse, ParsedWhile, ParsedDo, ParsedFor, ParsedSwitch, ParsedForEach, ParsedForEachActive, ParsedForEachUnique, ParsedStmts, ParsedLast, ParsedNext, ParsedSegments, ParsedNoMore, ParsedSegment, ParsedFunction}
use Rattle.gang_model.specs.Running.Numbering.{steps_in, steps_in_all, steps_in_segments}
use Rattle.gang_model.specs.Names.Scope.{Environment, Site, enclosed, past, after, after_all, at_test, in_for, in_rounds, in_domain, locals_in, locals_in_all, standing, standings_in, standings_in_all, standings_in_segments, standings_of, function_site, before_return}

-- the two parts of an appended list have these lengths
two_lengths : {A : Type 0} (xs ys : List A) (m n : ℕ) → length xs ≡ m → length ys ≡ n → length (xs ++ ys) ≡ m + n
two_lengths xs ys m n e d = length-append xs ys ∙ omega (arith, e, d)

-- a step before the others
one_before : {A : Type 0} (xs : List A) (n : ℕ) → length xs ≡ n → suc (length xs) ≡ 1 + n
one_before xs n e = omega (arith, e)

-- a foreach form's head before its body's steps, and its rounds after them
around : {A : Type 0} (xs : List A) (x : A) (n : ℕ) → length xs ≡ n → suc (length (xs ++ x ∷ [])) ≡ n + 2
around xs x n e = omega (arith, two_lengths xs (x ∷ []) n 1 e refl)

mutual
  -- a statement has as many standings as steps
  pub standings-length : (s : ParsedStmt) (site : Site) → length (standings_in s site) ≡ steps_in s
  standings-length ParsedEmpty site = refl
  standings-length (ParsedBlock ss) site = standings-length_all ss (enclosed site)
  standings-length (ParsedDeclare p spec at name e) site = refl
  standings-length (ParsedAssign p target e) site = refl
  standings-length (ParsedChange p target op e) site = refl
  standings-length (ParsedIncrement p target op) site = refl
  standings-length (ParsedDoCall p name args) site = refl
  standings-length (ParsedBreak p) site = refl
  standings-length (ParsedContinue p) site = refl
  standings-length (ParsedReturn p e) site = refl
  standings-length (ParsedIf p e a) site = one_before (standings_in a (enclosed site)) (steps_in a) (standings-length a (enclosed site))
  standings-length (ParsedIfElse p e a b) site =
      let first = standings-length a (enclosed site) in
      let other = standings-length b (enclosed (past (locals_in a) site)) in
      omega (arith, two_lengths (standings_in a (enclosed site)) (standings_in b (enclosed (past (locals_in a) site))) (steps_in a) (steps_in b) first other)
  standings-length (ParsedWhile p e body) site = two_lengths (standings_in body (enclosed site)) (standing p site ∷ []) (steps_in body) 1 (standings-length body (enclosed site)) refl
  standings-length (ParsedDo body p e) site = two_lengths (standings_in body (enclosed site)) (standing p site ∷ []) (steps_in body) 1 (standings-length body (enclosed site)) refl
  standings-length (ParsedFor p start e update body) site =
      let first = standings_in start (enclosed site) in
      let inner = standings_in body (in_for start update site) in
      let last = standings_in update (at_test start site) in
      let test = standing p (at_test start site) ∷ [] in
      let updates : length (last ++ test) ≡ steps_in update + 1 = two_lengths last test (steps_in update) 1 (standings-length update (at_test start site)) refl in
      let rounds : length (inner ++ (last ++ test)) ≡ steps_in body + (steps_in update + 1) =
      two_lengths inner (last ++ test) (steps_in body) (steps_in update + 1) (standings-length body (in_for start update site)) updates in
      omega (arith, two_lengths first (inner ++ (last ++ test)) (steps_in start) (steps_in body + (steps_in update + 1)) (standings-length start (enclosed site)) rounds)
  standings-length (ParsedSwitch p e segments) site = one_before (standings_in_segments segments (enclosed site)) (steps_in_segments segments) (standings-length_segments segments (enclosed site))
  standings-length (ParsedForEach p is_tiled dims body) site = around (standings_in body (in_domain dims site)) (standing p site) (steps_in body) (standings-length body (in_domain dims site))
  standings-length (ParsedForEachActive p at name body) site = around (standings_in body (in_rounds name site)) (standing p site) (steps_in body) (standings-length body (in_rounds name site))
  standings-length (ParsedForEachUnique p at name e body) site = around (standings_in body (in_rounds name site)) (standing p site) (steps_in body) (standings-length body (in_rounds name site))

  pub standings-length_all : (ss : ParsedStmts) (site : Site) → length (standings_in_all ss site) ≡ steps_in_all ss
  standings-length_all ParsedLast site = refl
  standings-length_all (ParsedNext s ss) site =
      two_lengths (standings_in s site) (standings_in_all ss (after s site)) (steps_in s) (steps_in_all ss) (standings-length s site) (standings-length_all ss (after s site))

  pub standings-length_segments : (segments : ParsedSegments) (site : Site) → length (standings_in_segments segments site) ≡ steps_in_segments segments
  standings-length_segments ParsedNoMore site = refl
  standings-length_segments (ParsedSegment p label ss rest) site =
      two_lengths (standings_in_all ss site) (standings_in_segments rest (after_all ss site)) (steps_in_all ss) (steps_in_segments rest)
      (standings-length_all ss site) (standings-length_segments rest (after_all ss site))

-- the closing brace is the last standing of a function, and has the number of the steps before it
pub standings_of-length : (environment : Environment) (f : ParsedFunction) → length (standings_of environment f) ≡ steps_in_all f.body + 1
standings_of-length environment f =
    let site = function_site environment f.params in
    two_lengths (standings_in_all f.body site) (standing f.closing (after_all (before_return f.body) site) ∷ []) (steps_in_all f.body) 1
    (standings-length_all f.body site) refl

-- a statement uses as many numbers of variables as it declares
pub after-next : (s : ParsedStmt) (site : Site) → (after s site).next ≡ site.next + locals_in s
after-next ParsedEmpty site = refl
after-next (ParsedBlock ss) site = refl
after-next (ParsedDeclare p spec at name e) site = omega arith
after-next (ParsedAssign p target e) site = refl
after-next (ParsedChange p target op e) site = refl
after-next (ParsedIncrement p target op) site = refl
after-next (ParsedDoCall p name args) site = refl
after-next (ParsedBreak p) site = refl
after-next (ParsedContinue p) site = refl
after-next (ParsedReturn p e) site = refl
after-next (ParsedIf p e a) site = refl
after-next (ParsedIfElse p e a b) site = refl
after-next (ParsedWhile p e body) site = refl
after-next (ParsedDo body p e) site = refl
after-next (ParsedFor p start e update body) site = refl
after-next (ParsedSwitch p e segments) site = refl
after-next (ParsedForEach p is_tiled dims body) site = refl
after-next (ParsedForEachActive p at name body) site = refl
after-next (ParsedForEachUnique p at name e body) site = refl

pub after_all-next : (ss : ParsedStmts) (site : Site) → (after_all ss site).next ≡ site.next + locals_in_all ss
after_all-next ParsedLast site = omega arith
after_all-next (ParsedNext s ss) site = omega (arith, after-next s site, after_all-next ss (after s site))
