-- What is shown where a target is printed: the answer shows that target, if it shows one.
use Rattle.std.proofs.Common.{◌≡◌, ℕ, List, Bool, true, false, Option, None, Some, inl, inr, refl, sym, subst}
use Rattle.gang_model.specs.Types.Tree.{Variable}
use Rattle.gang_model.specs.Debugger.Debugger as model
use Rattle.gang_model.specs.Debugger.Debugger.{Debugger, DoPrint, Refusal, Reply, Setting, Target, bad_part, found, now, reply, shown_words, unless_refused, with_target}
use Rattle.gang_model.specs.Texts.Text.{target_text}
use Rattle.std.specs.Prelude.{length, ⊤}
use Rattle.debug_answers.specs.declared.answer.Answer.{Answer}
use Rattle.debug_answers.specs.declared.answer.Answer.TheVariants as answer
use Rattle.debug_answers.specs.Meanings.{Means}
use Rattle.debug_session.specs.Sessions.{RepliesOn}
use Rattle.value_digits.specs.declared.digits.Digits.TheVariants as in_digits
use Rattle.prompt_values.specs.declared.numbered.Printed.{Printed}
use Rattle.prompt_values.specs.FormsPrinted.{IsWrittenOf}
use Rattle.prompt_values.specs.Numbered.{Kept}
use Rattle.prompt_values.specs.Printed.{TellsAnswer, line_or_none}
use Rattle.debug_prompt.specs.Written.{WritesTarget, WritesTyped}

-- an answer shows a target, or nothing
abbrev ShowsOnly : Target → model.Answer → Type 0
ShowsOnly target (model.Shows other v) = other ≡ target
ShowsOnly target given = ⊤

only_unless : (target : Target) (v : Variable) (d : Debugger) (why : Option Refusal) → ShowsOnly target (unless_refused why d (λ e. reply (model.Shows target v) d)).answer
only_unless target v d None = refl
only_unless target v d (Some r) = tt

only_found : (s : Setting) (d : Debugger) (target : Target) (f : Option Variable) → ShowsOnly target (with_target s d true target f (λ v. reply (model.Shows target v) d)).answer
only_found s d target None = tt
only_found s d target (Some v) = only_unless target v d (bad_part true target.at v.is_array v.rate (length (shown_words (now s d) v)))

-- a reply to a command that prints a target
only_printed : (W : Type 0) (s : Setting) (d : Debugger) (target : Target) (r : Reply) → RepliesOn W s (DoPrint target) d r → ShowsOnly target r.answer
only_printed W s d target r (inl (inl is)) = subst (λ (q : Reply). ShowsOnly target q.answer) (sym is) (only_found s d target (found s.program (now s d) target.name))
only_printed W s d target r (inl (inr more)) = absurd more.0
only_printed W s d target r (inr more) = absurd more.1.0

module _ (puts : List ℕ → Type 0) where
  -- what was printed of a target is written behind it
  pub of_line : (target : Target) (value : Option Printed) → puts (line_or_none (target_text target) in_digits.Decimal value) → WritesTarget puts target value
  of_line target None line = tt
  of_line target (Some value) line = line

  of_none : (target : Target) (value : Option Printed) → value ≡ None → WritesTarget puts target value
  of_none target value none = subst (WritesTarget puts target) (sym none) tt

  by_answer : (s : Setting) (d : Debugger) (target : Target) (told : Answer) (meant : model.Answer) (value : Option Printed)
      → Means s d told meant → ShowsOnly target meant → TellsAnswer puts told value → WritesTarget puts target value
  by_answer s d target answer.Here meant value is only tells = of_none target value tells
  by_answer s d target (answer.AtBreakpoint n) meant value is only tells = of_none target value tells
  by_answer s d target (answer.AtWatch n) meant value is only tells = of_none target value tells
  by_answer s d target (answer.AtFault fault) meant value is only tells = of_none target value tells
  by_answer s d target answer.HistoryEnd meant value is only tells = of_none target value tells
  by_answer s d target answer.StepLimit meant value is only tells = of_none target value tells
  by_answer s d target answer.UndoneStep meant value is only tells = of_none target value tells
  by_answer s d target answer.UndonePoke meant value is only tells = of_none target value tells
  by_answer s d target (answer.Shows other shown) meant value (v, is, inside, count) only tells =
      of_line target value (subst (λ (t : Target). puts (line_or_none (target_text t) in_digits.Decimal value)) (subst (ShowsOnly target) is only) tells)
  by_answer s d target (answer.BreaksAt n line) meant value is only tells = of_none target value tells
  by_answer s d target (answer.Watches n other) meant value is only tells = of_none target value tells
  by_answer s d target (answer.Deleted n) meant value is only tells = of_none target value tells
  by_answer s d target answer.ListsStops meant value is only tells = of_none target value tells
  by_answer s d target answer.ListsLocals meant value is only tells = of_none target value tells
  by_answer s d target answer.ListsFrames meant value is only tells = of_none target value tells
  by_answer s d target (answer.KeepsHistory n) meant value is only tells = of_none target value tells
  by_answer s d target answer.Silent meant value is only tells = of_none target value tells
  by_answer s d target (answer.Refused r) meant value is only tells = of_none target value tells

  -- what was printed by a command is written behind its target
  pub of_answer : (W : Type 0) (s : Setting) (d : Debugger) (target : Target) (r : Reply) (told : Answer) (value : Option Printed)
      → RepliesOn W s (DoPrint target) d r → Means s r.next told r.answer → TellsAnswer puts told value → WritesTarget puts target value
  of_answer W s d target r told value replies means tells = by_answer s r.next target told r.answer value means (only_printed W s d target r replies) tells

  -- it is written as what a target, or its name as an expression, has
  pub of_target : (target : Target) (typed : List ℕ) (value : Option Printed) → WritesTarget puts target value → IsWrittenOf puts (Some target) typed in_digits.Decimal value
  of_target target typed None line = tt
  of_target target typed (Some value) line = inl line

  -- what is typed, where something is, is written
  pub of_typed : (names : Bool) (typed : List ℕ) (k : Kept) (value : Option Printed) → (names ≡ true → WritesTyped true puts typed k value) → (names ≡ false → value ≡ None) → WritesTyped names puts typed k value
  of_typed true typed k value line none = line refl
  of_typed false typed k value line none = none refl
