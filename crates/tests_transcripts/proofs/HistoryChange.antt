-- A history limit that changes: a smaller one drops the oldest events for good, a larger one may find no memory.
use Rattle.std.specs.Prelude.{◌≡◌, refl, Bool, true, false, List, [], ◌∷◌, Option, Some, None, codes}
use Rattle.std.proofs.Common.{inl, inr, arith}
use Rattle.std.specs.Fmt.{digits}
use Rattle.gang_types.specs.Values.{value_of, residue, word_of, value_in, wrapped, binary_of}
use Rattle.gang_model.specs.Types.Tree.{Program}
use Rattle.gang_model.specs.Types.Resolved.{program_of}
use Rattle.gang_model.specs.Debugger.Debugger.{Debugger, fresh, Command, DoStep, DoReverseStep, DoSetHistory, DoPrint, Memory, Reply, Setting, do_command, refused}
use Rattle.gang_model.specs.Texts.Text.{Bytes}
use Rattle.gang_model.specs.Texts.Transcript.{Transcribes, lines_of, setting}
use Rattle.tests_transcripts.proofs.Forms.{options, run}
use Rattle.tests_transcripts.proofs.HistoryLimit.{source}

row_1 : run source (codes "") (options 4 4 1000000)
    (codes "step 6\nset record full insn-number-max 2\nreverse-step 3\nprint t\nset record full insn-number-max 6\nstep 2\nreverse-step 2\nreverse-step\nset record full insn-number-max 65537\nset record full insn-number-max 0\nset record full insn-number-max 12345678\nset record full insn-number-max 10000000\n")
    ≡ codes "at 9:1 go depth 1 lanes 1111\nhistory 2\nhistory end: at 7:1 go depth 1 lanes 1111\nt = 4\nhistory 6\nat 9:1 go depth 1 lanes 1111\nat 7:1 go depth 1 lanes 1111\nC3 NoHistory\nC8 OutOfRange\nC1 BadCommand\nC1 BadCommand\nC8 OutOfRange\n"
unfolding digits value_of residue word_of value_in wrapped binary_of
row_1 = refl

-- the replies to commands, each done or refused for memory
abbrev replies : Setting → List (Bool × Command) → Debugger → List Reply
replies s [] d = []
replies s ((true, command) ∷ commands) d = let done : Reply = do_command s command d in done ∷ replies s commands done.next
replies s ((false, command) ∷ commands) d = refused Memory d ∷ replies s commands d

abbrev IsTranscript : Option Program → (commands out : Bytes) → Type 0
IsTranscript None commands out = ⊥
IsTranscript (Some p) commands out = Transcribes (setting p 0 [] (options 4 4 1000000)) (lines_of commands) (fresh 4) out

abbrev replies_of : Option Program → List (Bool × Command) → List Reply
replies_of None commands = []
replies_of (Some p) commands = replies (setting p 0 [] (options 4 4 1000000)) commands (fresh 4)

-- a growth that finds no memory changes nothing
refused_growth : IsTranscript (program_of source)
    (codes "step 6\nset record full insn-number-max 2\nreverse-step 3\nset record full insn-number-max 6\nstep 3\nreverse-step 3")
    (codes "at 9:1 go depth 1 lanes 1111\nhistory 2\nhistory end: at 7:1 go depth 1 lanes 1111\nC12 Memory\nended\nhistory end: at 8:1 go depth 1 lanes 1111\n")
unfolding digits value_of residue word_of value_in wrapped binary_of
refused_growth = (
  replies_of (program_of source) ((true, DoStep 6) ∷ (true, DoSetHistory 2) ∷ (true, DoReverseStep 3) ∷ (false, DoSetHistory 6) ∷ (true, DoStep 3) ∷ (true, DoReverseStep 3) ∷ []),
  (inl refl, (inl refl, (inl refl, (inr ((omega arith, omega arith), refl), (inl refl, (inl refl, refl)))))),
  refl,
)
