-- A text and an input are accepted in one way, and in none where a refusal is right; and lines have one transcript without C12.
use Rattle.std.proofs.Common.{◌≡◌, ◌⊎◌, ℕ, List, inl, inr, refl, sym, ap, ◌∙◌}
use Rattle.std.specs.Prelude.{Option, Result, Ok, Err}
use Rattle.gang_model.specs.Debugger.Debugger.{fresh}
use Rattle.gang_model.specs.Debugger.Events.{Row}
use Rattle.gang_model.specs.Source.Parsed.{Name}
use Rattle.gang_model.specs.Source.Sources.{IsProgramOf}
use Rattle.gang_model.specs.Texts.InputText.{InputRefusal, rows_of}
use Rattle.gang_model.specs.Texts.Text.{Bytes}
use Rattle.gang_model.specs.Texts.Transcript.{Options as ModelOptions, setting, transcript}
use Rattle.gang_model.specs.Types.Tree.{Program}
use Rattle.gang_model.proofs.WholeTranscripts.{only_whole, transcript_whole}
use Rattle.ispc_compiler.proofs.OneProgram.{no_entry, no_program, same_program}
use Rattle.ispc_refusals.specs.declared.refusal.Refusal.{Refusal}
use Rattle.ispc_refusals.specs.declared.refusal.Refusal.TheVariants as refusal
use Rattle.ispc_debugger.specs.Runs.{AreAcceptedAs, AreAcceptedOnce, AreNotAccepted, HaveOneTranscript, IsRight}

same_ok : {A : Type 0} (a b : A) (x : Result A InputRefusal) → x ≡ Ok a → x ≡ Ok b → a ≡ b
same_ok a b x h k = let same : Ok a ≡ Ok b = sym h ∙ k in cc same

no_ok : {A : Type 0} (x : Result A InputRefusal) (a : A) (why : InputRefusal) → x ≡ Ok a → x ≡ Err why → ⊥
no_ok x a why h k = let both : Ok a ≡ Err why = sym h ∙ k in cc both

module _ (text : List ℕ) (asked : Option Name) (input : List ℕ) where
  -- a text and an input have one program, one entry and one list of rows
  pub once : AreAcceptedOnce text asked input
  once program other entry another rows more a b =
      let same = same_program text asked program other entry another a.0 b.0 in
      let read : rows_of program entry input ≡ rows_of other another input = ap (λ p. rows_of p entry input) same.0 ∙ ap (λ e. rows_of other e input) same.1 in
      (same.0, same.1, same_ok rows more (rows_of other another input) (sym read ∙ a.1) b.1)

  -- no rows are read from an input that is refused
  refused_rows : (program other : Program) (entry another : ℕ) (rows : List Row) (why : InputRefusal) → AreAcceptedAs text asked input program entry rows
      → IsProgramOf text asked other another → rows_of other another input ≡ Err why → ⊥
  refused_rows program other entry another rows why are is refused =
      let same = same_program text asked program other entry another are.0 is in
      let read : rows_of program entry input ≡ rows_of other another input = ap (λ p. rows_of p entry input) same.0 ∙ ap (λ e. rows_of other e input) same.1 in
      no_ok (rows_of other another input) rows why (sym read ∙ are.1) refused

  -- and none where they are refused, but for memory
  pub not_accepted : (r : Refusal) → IsRight text asked input r → (r ≡ refusal.Memory) ⊎ AreNotAccepted text asked input
  not_accepted (refusal.Source r) right = inr (λ program entry rows are. no_program text asked r right program entry are.0)
  not_accepted refusal.NoEntry right = inr (λ program entry rows are. no_entry text asked right program entry are.0)
  not_accepted refusal.NoScript right = absurd right
  not_accepted (refusal.Input f) right = inr (λ program entry rows are. refused_rows program right.0 entry right.1 rows right.3.0 are right.2 right.3.1)
  not_accepted refusal.Memory right = inl refl

  -- lines have one transcript without C12: the one that the definition computes
  pub one_transcript : (options : ModelOptions) (lines : List Bytes) (program : Program) (entry : ℕ) (rows : List Row) → AreAcceptedAs text asked input program entry rows
      → HaveOneTranscript text asked input options lines
  one_transcript options lines program entry rows are = (
    transcript program entry rows options lines,
    (program, entry, rows, are, transcript_whole (setting program entry rows options) lines (fresh options.history)),
    λ other is.
        let same = once is.0 program is.1 entry is.2 rows is.3 are in
        only_whole (setting is.0 is.1 is.2 options) lines (fresh options.history) other is.4
        ∙ ap (λ p. transcript p is.1 is.2 options lines) same.0
        ∙ ap (λ e. transcript program e is.2 options lines) same.1
        ∙ ap (λ r. transcript program entry r options lines) same.2,
  )
