-- More than eight words spell no command.
use Rattle.std.proofs.Common.{◌≡◌, ℕ, ◌<◌, ◌≤◌, List, [], ◌∷◌, length, Option, Some, None, Bool, true, false, ◌&&◌, refl, sym, ap, ◌∙◌, arith}
use Rattle.std.specs.Prelude.{nat_lt, if◌then◌else◌}
use Rattle.std.proofs.lemmas.Bool.{false≢true}
use Rattle.std.proofs.lemmas.Bool.Decides.{nat_tests}
use Rattle.gang_model.specs.Source.Names.{same_text}
use Rattle.gang_model.specs.Debugger.Debugger.{Command, DoNothing}
use Rattle.gang_model.specs.Texts.Spellings.{Word, is_blank, all_are, words_of_line}
use Rattle.gang_model.specs.Texts.CommandText.{is_mark, Form, Alone, Counted, Numbered, MaybeNumbered, Targeted, Assigned, Entry, command_in, words_behind, command_or, command_by, commands, begins_blank, command_of}

-- no form has more than six words
long_form : (form : Form) (a b c d e f g : Word) (ws : List Word) → command_in form (a ∷ b ∷ c ∷ d ∷ e ∷ f ∷ g ∷ ws) ≡ None
long_form (Alone command) a b c d e f g ws = refl
long_form (Counted make) a b c d e f g ws = refl
long_form (Numbered make) a b c d e f g ws = refl
long_form (MaybeNumbered make) a b c d e f g ws = refl
long_form (Targeted make) a b c d e f g ws = refl
long_form Assigned a b c d e f g ws = refl

-- a command has at most two words, or four before a number
is_short : List Word → Form → Bool
is_short [] form = true
is_short (x ∷ []) form = true
is_short (x ∷ y ∷ []) form = true
is_short (x ∷ y ∷ z ∷ v ∷ []) (Numbered make) = true
is_short words form = false

are_short : List Entry → Bool
are_short [] = true
are_short (entry ∷ entries) = is_short entry.0 entry.1 && are_short entries

both_true : (s t : Bool) → (s && t) ≡ true → (s ≡ true) × (t ≡ true)
both_true true t e = (refl, e)
both_true false t e = absurd cc

long_entry : (command : List Word) (form : Form) (other : Option Command) (a b c d e f g h i : Word) (ws : List Word) → is_short command form ≡ true → other ≡ None
    → command_or (words_behind command (a ∷ b ∷ c ∷ d ∷ e ∷ f ∷ g ∷ h ∷ i ∷ ws)) form other ≡ None
unfolding is_short
long_entry [] form other a b c d e f g h i ws short is = long_form form a b c d e f g (h ∷ i ∷ ws)
long_entry (x ∷ []) form other a b c d e f g h i ws short is = go (same_text x a)
  where
    go : (t : Bool) → command_or (if t then Some (b ∷ c ∷ d ∷ e ∷ f ∷ g ∷ h ∷ i ∷ ws) else None) form other ≡ None
    go true = long_form form b c d e f g h (i ∷ ws)
    go false = is
long_entry (x ∷ y ∷ []) form other a b c d e f g h i ws short is = go (same_text x a) (same_text y b)
  where
    go : (t u : Bool) → command_or (if t then (if u then Some (c ∷ d ∷ e ∷ f ∷ g ∷ h ∷ i ∷ ws) else None) else None) form other ≡ None
    go true true = long_form form c d e f g h i ws
    go true false = is
    go false u = is
long_entry (x ∷ y ∷ z ∷ []) form other a b c d e f g h i ws short is = absurd (false≢true short)
long_entry (x ∷ y ∷ z ∷ v ∷ []) (Numbered make) other a b c d e f g h i ws short is = go (same_text x a) (same_text y b) (same_text z c) (same_text v d)
  where
    go : (t u w r : Bool)
        → command_or (if t then (if u then (if w then (if r then Some (e ∷ f ∷ g ∷ h ∷ i ∷ ws) else None) else None) else None) else None) (Numbered make) other ≡ None
    go true true true true = refl
    go true true true false = is
    go true true false r = is
    go true false w r = is
    go false u w r = is
long_entry (x ∷ y ∷ z ∷ v ∷ []) (Alone command) other a b c d e f g h i ws short is = absurd (false≢true short)
long_entry (x ∷ y ∷ z ∷ v ∷ []) (Counted make) other a b c d e f g h i ws short is = absurd (false≢true short)
long_entry (x ∷ y ∷ z ∷ v ∷ []) (MaybeNumbered make) other a b c d e f g h i ws short is = absurd (false≢true short)
long_entry (x ∷ y ∷ z ∷ v ∷ []) (Targeted make) other a b c d e f g h i ws short is = absurd (false≢true short)
long_entry (x ∷ y ∷ z ∷ v ∷ []) Assigned other a b c d e f g h i ws short is = absurd (false≢true short)
long_entry (x ∷ y ∷ z ∷ v ∷ w ∷ more) form other a b c d e f g h i ws short is = absurd (false≢true short)

long_by : (entries : List Entry) (a b c d e f g h i : Word) (ws : List Word) → are_short entries ≡ true → command_by entries (a ∷ b ∷ c ∷ d ∷ e ∷ f ∷ g ∷ h ∷ i ∷ ws) ≡ None
unfolding are_short
long_by [] a b c d e f g h i ws short = refl
long_by (entry ∷ entries) a b c d e f g h i ws short =
    let s = both_true (is_short entry.0 entry.1) (are_short entries) short in
    long_entry entry.0 entry.1 (command_by entries (a ∷ b ∷ c ∷ d ∷ e ∷ f ∷ g ∷ h ∷ i ∷ ws)) a b c d e f g h i ws s.0 (long_by entries a b c d e f g h i ws s.1)

all_short : are_short commands ≡ true
unfolding are_short is_short
all_short = refl

pub no_command : (ws : List Word) → 8 < length ws → command_by commands ws ≡ None
no_command [] lt = absurd (omega arith)
no_command (a ∷ []) lt = absurd (omega arith)
no_command (a ∷ b ∷ []) lt = absurd (omega arith)
no_command (a ∷ b ∷ c ∷ []) lt = absurd (omega arith)
no_command (a ∷ b ∷ c ∷ d ∷ []) lt = absurd (omega arith)
no_command (a ∷ b ∷ c ∷ d ∷ e ∷ []) lt = absurd (omega arith)
no_command (a ∷ b ∷ c ∷ d ∷ e ∷ f ∷ []) lt = absurd (omega arith)
no_command (a ∷ b ∷ c ∷ d ∷ e ∷ f ∷ g ∷ []) lt = absurd (omega arith)
no_command (a ∷ b ∷ c ∷ d ∷ e ∷ f ∷ g ∷ h ∷ []) lt = absurd (omega arith)
no_command (a ∷ b ∷ c ∷ d ∷ e ∷ f ∷ g ∷ h ∷ i ∷ ws) lt = long_by commands a b c d e f g h i ws all_short

-- the command of a line that is neither too long nor blank
pub of_words : (line : List ℕ) → length line ≤ 256 → all_are is_blank line ≡ false → begins_blank line ≡ false
    → command_by commands (words_of_line is_mark line) ≡ command_of line
of_words line le filled begins = sym (ap (λ t. if t then None else (if all_are is_blank line then Some DoNothing
    else (if begins_blank line then None else command_by commands (words_of_line is_mark line)))) short
    ∙ ap (λ t. if t then Some DoNothing else (if begins_blank line then None else command_by commands (words_of_line is_mark line))) filled
    ∙ ap (λ t. if t then None else command_by commands (words_of_line is_mark line)) begins)
  where
    short : nat_lt 256 (length line) ≡ false
    short = grind (arith, nat_tests)
