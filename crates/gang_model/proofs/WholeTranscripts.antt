-- Of the transcripts of command lines just one has no answer C12: the texts of the replies to the commands that are all done.
use Rattle.std.proofs.Common.{◌≡◌, inl, inr, refl, sym, ap, ap₂, ◌∙◌, Bool, true, false, List, [], ◌∷◌, ◌++◌, Option, Some, None}
use Rattle.std.specs.Prelude.{All}
use Rattle.std.proofs.lemmas.List.Elements.{All-nil, All-cons, All-head, All-tail}
use Rattle.gang_model.specs.Debugger.Debugger.{Command, Debugger, Reply, Setting}
use Rattle.gang_model.specs.Texts.CommandText.{command_of}
use Rattle.gang_model.specs.Texts.Text.{Bytes, text}
use Rattle.gang_model.specs.Texts.Transcript.{AreReplies, FindsMemory, FirstAndRest, IsReplyTo, TranscribesWhole, is_quit, replied, reply_texts, text_and_rest, transcript_from}
use Rattle.gang_model.proofs.CommandReplies.{finds_memory}

module _ (s : Setting) where
  -- the reply of the definition is one
  pub is_replied : (command : Option Command) (d : Debugger) → IsReplyTo s command d (replied s command d)
  is_replied None d = refl
  is_replied (Some command) d = inl refl

  -- the definition's reply finds its memory
  replied_finds : (command : Option Command) (d : Debugger) → FindsMemory (replied s command d)
  replied_finds None d e = cc e
  replied_finds (Some command) d e = finds_memory s command d e

  -- and no other reply does
  only_replied : (command : Option Command) (d : Debugger) (r : Reply) → IsReplyTo s command d r → FindsMemory r → r ≡ replied s command d
  only_replied None d r is finds = is
  only_replied (Some command) d r (inl done) finds = done
  only_replied (Some command) d r (inr out) finds = absurd (finds (ap (λ (r : Reply). r.answer) out.1))

  -- ---- the replies to all commands that are done

  abbrev replied_first : (is_quit : Bool) → Reply → (Debugger → List Reply) → List Reply
  replied_first true r rest = []
  replied_first false r rest = r ∷ rest r.next

  abbrev pub replied_all : List Bytes → Debugger → List Reply
  replied_all [] d = []
  replied_all (line ∷ lines) d = replied_first (is_quit (command_of line)) (replied s (command_of line) d) (λ d. replied_all lines d)

  first_replied : (q : Bool) (command : Option Command) (d : Debugger) (Rest : Debugger → List Reply → Type 0) (rest : Debugger → List Reply) → ((d : Debugger) → Rest d (rest d))
      → FirstAndRest s q command d Rest (replied_first q (replied s command d) rest)
  first_replied true command d Rest rest h = refl
  first_replied false command d Rest rest h = (is_replied command d, h (replied s command d).next)

  -- they are replies
  pub are_replied : (lines : List Bytes) (d : Debugger) → AreReplies s lines d (replied_all lines d)
  are_replied [] d = refl
  are_replied (line ∷ lines) d = first_replied (is_quit (command_of line)) (command_of line) d (λ d replies. AreReplies s lines d replies) (λ d. replied_all lines d) (λ d. are_replied lines d)

  first_finds : (q : Bool) (r : Reply) (rest : Debugger → List Reply) → FindsMemory r → ((d : Debugger) → All FindsMemory (rest d)) → All FindsMemory (replied_first q r rest)
  first_finds true r rest finds h = All-nil FindsMemory
  first_finds false r rest finds h = All-cons FindsMemory r (rest r.next) finds (h r.next)

  -- that find their memory
  all_find : (lines : List Bytes) (d : Debugger) → All FindsMemory (replied_all lines d)
  all_find [] d = All-nil FindsMemory
  all_find (line ∷ lines) d = first_finds (is_quit (command_of line)) (replied s (command_of line) d) (λ d. replied_all lines d) (replied_finds (command_of line) d) (λ d. all_find lines d)

  first_texts : (q : Bool) (r : Reply) (rest : Debugger → List Reply) (out : Debugger → Bytes) → ((d : Debugger) → reply_texts s (rest d) ≡ out d)
      → reply_texts s (replied_first q r rest) ≡ text_and_rest s q r out
  first_texts true r rest out h = refl
  first_texts false r rest out h = ap (λ more. text s r.answer r.next ++ more) (h r.next)

  -- and their texts are the transcript
  pub all_texts : (lines : List Bytes) (d : Debugger) → reply_texts s (replied_all lines d) ≡ transcript_from s lines d
  all_texts [] d = refl
  all_texts (line ∷ lines) d = first_texts (is_quit (command_of line)) (replied s (command_of line) d) (λ d. replied_all lines d) (λ d. transcript_from s lines d) (λ d. all_texts lines d)

  only_first : (q : Bool) (command : Option Command) (d : Debugger) (Rest : Debugger → List Reply → Type 0) (rest : Debugger → List Reply) (replies : List Reply)
      → ((d : Debugger) (replies : List Reply) → Rest d replies → All FindsMemory replies → replies ≡ rest d)
      → FirstAndRest s q command d Rest replies → All FindsMemory replies → replies ≡ replied_first q (replied s command d) rest
  only_first true command d Rest rest replies h are find = are
  only_first false command d Rest rest [] h are find = absurd are
  only_first false command d Rest rest (r ∷ replies) h are find =
      let first : r ≡ replied s command d = only_replied command d r are.0 (All-head FindsMemory r replies find) in
      ap₂ (λ r replies. r ∷ replies) first (h r.next replies are.1 (All-tail FindsMemory r replies find) ∙ ap (λ (r : Reply). rest r.next) first)

  -- no others do
  only_these : (lines : List Bytes) (d : Debugger) (replies : List Reply) → AreReplies s lines d replies → All FindsMemory replies → replies ≡ replied_all lines d
  only_these [] d replies are find = are
  only_these (line ∷ lines) d replies are find =
      only_first (is_quit (command_of line)) (command_of line) d (λ d replies. AreReplies s lines d replies) (λ d. replied_all lines d) replies (λ d replies are find. only_these lines d replies are find) are find

  -- the transcript of the definition has no answer C12
  pub transcript_whole : (lines : List Bytes) (d : Debugger) → TranscribesWhole s lines d (transcript_from s lines d)
  transcript_whole lines d = (replied_all lines d, are_replied lines d, all_find lines d, sym (all_texts lines d))

  -- and is the only one without it
  pub only_whole : (lines : List Bytes) (d : Debugger) (out : Bytes) → TranscribesWhole s lines d out → out ≡ transcript_from s lines d
  only_whole lines d out (replies, are, find, is) = is ∙ ap (reply_texts s) (only_these lines d replies are find) ∙ all_texts lines d
