-- Reads that come in turn with what is written, and reads that do not: rows of the definition.
use Rattle.std.proofs.Common.{◌≡◌, ℕ, List, [], ◌∷◌, Some, refl, sym, ap, subst, ◌∙◌}
use Rattle.std.specs.Prelude.{codes}
use Rattle.std.proofs.lemmas.Bool.{true≢false}
use Rattle.gang_model.specs.Debugger.Debugger.{BadCommand, Debugger, Reply, Setting, refused}
use Rattle.gang_model.specs.Texts.Text.{Bytes}
use Rattle.gang_model.specs.Texts.Transcript.{AreReplies, reply_texts}
use Rattle.debug_traits.specs.Devices.{Heard}
use Rattle.transcript.specs.Order.{Interleaves}

-- a read after this text had been written, which gave these bytes
abbrev read_of : (told came : Bytes) → Heard
read_of told came = record { told = Some told; came = came }

-- a line that spells no command
abbrev wrong_line : Bytes
wrong_line = codes "x\n"

-- and the text of its answer
abbrev wrong_answer : Bytes
wrong_answer = codes "C1 BadCommand\n"

some_is_no_none : (b : ℕ) (bytes : Bytes) → b ∷ bytes ≡ [] → ⊥
some_is_no_none b bytes e = cc e

module _ (s : Setting) (d : Debugger) where
  -- the reply to a line that spells no command has a text
  has_text : (replies : List Reply) → AreReplies s (codes "x" ∷ []) d replies → reply_texts s replies ≡ [] → ⊥
  has_text [] are none = absurd are
  has_text (r ∷ replies) are none =
      some_is_no_none 67 _ (subst (λ r. reply_texts s (r ∷ replies) ≡ []) are.0 none)

  -- an answer that is written before the next read
  in_turn : Interleaves s d (Some []) [] (read_of [] wrong_line ∷ read_of wrong_answer (codes "quit\n") ∷ [])
  in_turn = (
    ([], refl, refl, ([], refl, refl)),
    (λ none. absurd (some_is_no_none _ _ none)),
    ((wrong_answer, refl, refl, (refused BadCommand d ∷ [], (refl, refl), refl)), (λ none. refl), tt),
  )

  -- one that is written only after it
  late : Interleaves s d (Some []) [] (read_of [] wrong_line ∷ read_of [] [] ∷ []) → ⊥
  late (first, last, ((out, wrote, none, (replies, are, is)), then, rest)) = has_text replies are (sym is ∙ sym wrote)

  -- one that is written before its line is whole
  early : Interleaves s d (Some []) [] (read_of [] (codes "x") ∷ read_of wrong_answer (codes "\n") ∷ []) → ⊥
  early (first, last, ((out, wrote, none, (replies, are, is)), then, rest)) =
      some_is_no_none _ _ (wrote ∙ is ∙ ap (λ rs. reply_texts s rs) are)

  -- a read after `quit`
  after_quit : Interleaves s d (Some []) [] (read_of [] (codes "quit\n") ∷ read_of [] [] ∷ []) → ⊥
  after_quit (first, last, ((out, wrote, none, replies), then, rest)) = true≢false none

  -- a read after the end
  after_end : (came : Bytes) → Interleaves s d (Some []) [] (read_of [] [] ∷ read_of [] came ∷ []) → ⊥
  after_end came (first, last, second) = let more : read_of [] came ∷ [] ≡ [] = last refl in cc more
