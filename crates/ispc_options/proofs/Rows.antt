-- Words, and the kinds of fault that the definition gives them.
use Rattle.std.specs.Prelude.{◌≡◌, refl, List, [], ◌∷◌, codes}
use Rattle.std.specs.Borrow.{Bor}
use Rattle.clap.specs.Faults.{fault_of}
use Rattle.clap.specs.Kinds.{Kinds}
use Rattle.clap.specs.Walk.{Text}
use Rattle.clap.specs.declared.error.kind.ErrorKind.TheVariants.{ArgumentConflict, DisplayHelp, InvalidValue, UnknownArgument, ValueValidation}
use Rattle.clap.proofs.OnLiterals.{clap_on_literals}
use Rattle.ispc_options.specs.Asked.{AreWidths, command}

-- the widths, laid somewhere
abbrev at : Text → Bor Text
at text = record { ref_ptr = (0, 0); now = text }

abbrev widths : Bor (List (Bor Text))
widths = record { ref_ptr = (0, 0); now = at (codes "4") ∷ at (codes "8") ∷ at (codes "16") ∷ [] }

are_widths : AreWidths widths
are_widths = refl

abbrev faults : List Text → Kinds
faults words = fault_of (command widths) words

no_words : faults [] ≡ []
unfolding clap_on_literals
no_words = refl

each_option : faults
    (codes "a.ispc" ∷ codes "--input" ∷ codes "a.txt" ∷ codes "--entry" ∷ codes "go" ∷ codes "--width=16" ∷ codes "--history" ∷ codes "65536"
    ∷ codes "--steps" ∷ codes "1" ∷ codes "--lane-pure" ∷ []) ≡ []
unfolding clap_on_literals
each_option = refl

unknown_option : faults (codes "--nothing" ∷ []) ≡ UnknownArgument ∷ []
unfolding clap_on_literals
unknown_option = refl

second_source : faults (codes "a.ispc" ∷ codes "b.ispc" ∷ []) ≡ UnknownArgument ∷ []
unfolding clap_on_literals
second_source = refl

width_of_five : faults (codes "--width" ∷ codes "5" ∷ []) ≡ InvalidValue ∷ []
unfolding clap_on_literals
width_of_five = refl

no_width : faults (codes "--width" ∷ []) ≡ InvalidValue ∷ []
unfolding clap_on_literals
no_width = refl

history_of_none : faults (codes "--history" ∷ codes "0" ∷ []) ≡ ValueValidation ∷ []
unfolding clap_on_literals
history_of_none = refl

too_many_steps : faults (codes "--steps" ∷ codes "10000001" ∷ []) ≡ ValueValidation ∷ []
unfolding clap_on_literals
too_many_steps = refl

history_in_words : faults (codes "--history" ∷ codes "many" ∷ []) ≡ ValueValidation ∷ []
unfolding clap_on_literals
history_in_words = refl

twice : faults (codes "--lane-pure" ∷ codes "--lane-pure" ∷ []) ≡ ArgumentConflict ∷ []
unfolding clap_on_literals
twice = refl

help : faults (codes "--help" ∷ []) ≡ DisplayHelp ∷ []
unfolding clap_on_literals
help = refl
