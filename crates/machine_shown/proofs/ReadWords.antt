-- What is read of a variable are the words that it has in the frame at a depth.
use Rattle.std.proofs.Common.{◌≡◌, ◌∙◌, refl, sym, ap, subst, ℕ, length, Option}
use Rattle.std.specs.Prelude.{slice_index}
use Rattle.gang_types.specs.declared.places.Spot.{Spot}
use Rattle.gang_types.specs.declared.places.VarId.{VarId}
use Rattle.undo_log.specs.History.{History}
use Rattle.gang_model.specs.Types.Tree.{Variable}
use Rattle.gang_model.specs.Debugger.Debugger.{shown_words}
use Rattle.debug_traits.specs.Frames.{state_at}
use Rattle.mask_states.specs.Masked.{Masked}
use Rattle.machine_states.specs.Declared.{AreDeclared}
use Rattle.machine_states.specs.Regions.{Regions}
use Rattle.machine_states.specs.Shows.{Shows}
use Rattle.machine_words.specs.declared.words.MachineWords.{MachineWords}
use Rattle.machine_words.specs.Words.{regions_in}
use Rattle.frame_steps.specs.declared.compiled.CompiledProgram.{CompiledProgram}
use Rattle.frame_steps.specs.Compiled.{program_of, variables_of}
use Rattle.frame_steps.specs.Standing.{AreSound, IsShown}
use Rattle.frame_steps.proofs.Standings.{sized}
use Rattle.machine_shown.specs.Frames.{masked_up_to, regions_up_to}
use Rattle.machine_shown.specs.Seen.{IsSeen, IsSeenAt, IsSeenOf}
use Rattle.machine_shown.specs.ShownWords.{HasNoWords, HasWords, IsCountOf, IsWordOf, WordsShown, count_shown, words_shown}
use Rattle.machine_shown.proofs.FramePlaces.{declared_up_to, shows_up_to, sized_up_to, spot_up_to}
use Rattle.machine_shown.proofs.SameWords.{no_words, same_words}
use Rattle.machine_shown.proofs.SeenVariables.{is_found, words_stand}
use Rattle.machine_shown.proofs.WordsRoom.{room_up_to, words_long, words_same}

module _ {T : Type 0} (history : T → History) (width : ℕ) (compiled : CompiledProgram) (words : MachineWords T) (sound : AreSound history width compiled words) (deep : ℕ) (id : VarId) where
  abbrev regions : Regions
  regions = regions_in history width words

  -- with no frame above the depth
  abbrev left : Regions
  left = regions_up_to deep (regions_in history width words)

  module _ (masked : Masked) (shows : IsShown history width compiled words masked) where
    abbrev left_shows : Shows (program_of compiled) (variables_of compiled) width (regions_up_to deep (regions_in history width words)) (masked_up_to deep masked)
    left_shows = shows_up_to (program_of compiled) (variables_of compiled) width regions masked shows.shows deep

    abbrev left_declared : AreDeclared (variables_of compiled) (program_of compiled) (masked_up_to deep masked)
    left_declared = declared_up_to (program_of compiled) (variables_of compiled) width regions masked shows.shows deep shows.declared

    -- what is seen at the depth is seen in the top one of the frames up to it
    pub seen_up_to : (v : Variable) → IsSeenAt compiled deep masked v → IsSeen compiled (masked_up_to deep masked) v
    seen_up_to v seen = subst (λ (spot : Option Spot). IsSeenOf compiled spot v) (spot_up_to (program_of compiled) (variables_of compiled) width regions masked shows.shows deep) seen

  module _ (shown : WordsShown) (has : HasWords width compiled (regions_up_to deep (regions_in history width words)) id shown) where
    pub is_word : (index word : ℕ) → word ≡ slice_index (words_shown width (regions_in history width words) shown) index
        → IsWordOf width compiled (regions_up_to deep (regions_in history width words)) id index word
    is_word index word is = record {
      there = λ other also.
          is ∙ ap (λ ws. slice_index ws index) (sym (words_same deep regions width compiled id shown has))
          ∙ ap (λ x. slice_index (words_shown width left x) index) (same_words width compiled left id shown other has also);
      none = λ none. absurd (no_words width compiled left id shown has none);
    }

    -- as many as are shown
    pub counted : length (words_shown width (regions_in history width words) shown) ≡ count_shown width shown
    counted = words_long width regions shown (room_up_to history width compiled words sound deep id shown has)

    pub is_count : (count : ℕ) → count ≡ count_shown width shown → IsCountOf width compiled (regions_up_to deep (regions_in history width words)) id count
    is_count count is = record {
      there = λ other also.
          is ∙ sym counted ∙ ap length (sym (words_same deep regions width compiled id shown has))
          ∙ ap (λ x. length (words_shown width left x)) (same_words width compiled left id shown other has also);
      none = λ none. absurd (no_words width compiled left id shown has none);
    }

    -- of a variable that is seen they are those of the masked state
    pub seen_words : (masked : Masked) (v : Variable) → IsShown history width compiled words masked → IsSeenAt compiled deep masked v → v.id ≡ id
        → shown_words (state_at deep masked.state) v ≡ words_shown width (regions_in history width words) shown
    seen_words masked v shows seen e =
        words_stand compiled sound.lie.compiled_is.runnable width left (masked_up_to deep masked) (left_shows masked shows) (left_declared masked shows)
        (sized_up_to (program_of compiled) (variables_of compiled) width regions masked shows.shows deep (sized history width compiled words words sound.lie refl sound.lie.laid))
        id v (seen_up_to masked shows v seen) e shown has
        ∙ words_same deep regions width compiled id shown has

  module _ (none : HasNoWords width compiled (regions_up_to deep (regions_in history width words)) id) where
    pub no_word : (index : ℕ) → IsWordOf width compiled (regions_up_to deep (regions_in history width words)) id index 0
    no_word index = record {
      there = λ shown has. absurd (no_words width compiled left id shown has none);
      none = λ same. refl;
    }

    -- a variable that is seen has words
    pub not_seen : (masked : Masked) (v : Variable) → IsShown history width compiled words masked → IsSeenAt compiled deep masked v → v.id ≡ id → ⊥
    not_seen masked v shows seen e =
        is_found compiled sound.lie.compiled_is.runnable width left (masked_up_to deep masked) (left_shows masked shows) (left_declared masked shows) id v (seen_up_to masked shows v seen) e none
