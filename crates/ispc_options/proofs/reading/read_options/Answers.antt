use Rattle.std.proofs.Common.{◌≡◌, ◌∙◌, ◌⊎◌, List, Result, Ok, Err, IsErrAnd, ap, sym, subst, inl, inr}
use Rattle.std.specs.Borrow.{Bor}
use Rattle.clap.specs.Faults.{fault_of, is_simple_and_free}
use Rattle.clap.specs.Kinds.{HasKind}
use Rattle.clap.specs.Matches.{first_value, found_of}
use Rattle.clap.specs.Simple.{App, is_simple, matches_of}
use Rattle.clap.specs.Values.{kind_of}
use Rattle.clap.specs.Walk.{Text, first_of, rows_of, texts}
use Rattle.clap.specs.declared.error.Error.{Error}
use Rattle.clap.specs.declared.error.kind.ErrorKind.TheVariants.{OutOfMemory}
use Rattle.clap.proofs.WalkLemmas.{first_value-rows}
use Rattle.ispc_options.specs.Asked.{AreWidths, FailsFor, HasOptions, HasPaths, HaveFault, command, value_of}
use Rattle.ispc_options.specs.declared.options.Options.{Options}
use Rattle.ispc_options.specs.declared.options.Paths.{Paths}
use Rattle.ispc_options.proofs.Parses.{parse_passed}
use Rattle.ispc_options.proofs.reading.read_options.Goals as goal

-- what the parser tells of is a fault that the words have, or memory
abbrev IsTold : List Text → Error → Type 0
IsTold words e = (kind_of e ≡ OutOfMemory) ⊎ HaveFault words (kind_of e)

told : (words : List Text) (widths : Bor (List (Bor Text))) (app : App) (e : Error) → AreWidths widths → app ≡ command widths
    → HasKind (fault_of app words) e → IsTold words e
told words widths app e are is (inl memory) = inl memory
told words widths app e are is (inr among) = inr (fault_of app words, (widths, are, ap (λ a. fault_of a words) (sym is)), among)

told_up : (words : List Text) (read : Result (Options × Paths) Error) (e : Error) → IsErrAnd read (λ y. y ≡ e) → IsTold words e → FailsFor words read
told_up words (Ok x) e is fault = absurd is
told_up words (Err y) e is fault = subst (IsTold words) (sym is) fault

pub returns-in-Ok-clause-asked : goal.returns-in-Ok-clause-asked
returns-in-Ok-clause-asked c =
    let made = c.in_ok-command.ensures in
    let m = c.in_ok-matches.matches in
    let words = texts c.args.words.now in
    let app = made.2 in
    let rows : rows_of (found_of m) ≡ matches_of (command made.0) words =
    (c.in_ok-matches.ensures.matches (ap is_simple app)).0 ∙ ap (λ a. matches_of a words) app in
    let values : first_value (found_of m) ≡ value_of made.0 words = λ i name. (first_value-rows (found_of m) name ∙ ap (first_of name) rows) i in
    let read : HasOptions (first_value (found_of m)) c.in-Ok.options =
    c.in-Ok.ensures.read (parse_passed made.0 c.in_ok-command.field-0 app m c.in_ok-matches.ensures.parsed made.1) in
    (made.0, made.1, subst (λ v. HasOptions v c.in-Ok.options) values read, subst (λ v. HasPaths v c.paths_of.result) values c.paths_of.ensures)

pub returns-in-Ok-clause-refused : goal.returns-in-Ok-clause-refused
returns-in-Ok-clause-refused c =
    let made = c.in_ok-command.ensures in
    let app = made.2 in
    (made.0, made.1, ap (λ a. fault_of a (texts c.args.words.now)) (sym app) ∙ c.in_ok-matches.ensures.kinds (ap is_simple_and_free app))

pub returns-in_err-matches-clause-refused : goal.returns-in_err-matches-clause-refused
returns-in_err-matches-clause-refused c =
    let made = c.in_ok-command.ensures in
    let app = made.2 in
    let words = texts c.args.words.now in
    told_up words _ c.in_err-matches.field-0.0 c.from_residual-in_err-matches.ensures.1
    (told words made.0 _ c.in_err-matches.field-0.0 made.1 app (c.in_err-matches.ensures.kinds (ap is_simple_and_free app)))

-- the values of a parse that succeeds are in their ranges, so that none is refused after it
pub returns-clause-refused : goal.returns-clause-refused
returns-clause-refused c =
    let made = c.in_ok-command.ensures in
    absurd (c.in-Err.ensures.read (parse_passed made.0 c.in_ok-command.field-0 made.2 c.in_ok-matches.matches c.in_ok-matches.ensures.parsed made.1))
