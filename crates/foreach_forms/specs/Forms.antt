-- The foreach forms of a program.
use Rattle.std.specs.Prelude.{ℕ, suc, List, [], ◌∷◌, ◌++◌, map, slice_index_or}
use Rattle.gang_model.specs.Types.Tree.{RoundsOf, Rows, Tiles, EachLane, EachValue, Stmt, Then, If, Loop, BodyFirst, Switch, Segment, ForEach, Function, Program}
use Rattle.gang_model.specs.Running.Step.{round_number}
use Rattle.ispc_names_table.specs.declared.table.Standing.{Standing}
use Rattle.foreach_forms.specs.declared.forms.Form.{Form}
use Rattle.foreach_forms.specs.declared.forms.Word.{Word}
use Rattle.foreach_forms.specs.declared.forms.Word.TheVariants as word

-- the word of a form
abbrev pub word_of : RoundsOf → Word
word_of (Rows dimensions) = word.ForEach
word_of (Tiles dimensions) = word.Tiled
word_of (EachLane v) = word.Active
word_of (EachValue v e) = word.Unique

-- the lines of steps
abbrev pub lines_at : List Standing → List ℕ
lines_at standings = map (λ standing. standing.place.line) standings

-- the lines of the steps of a function
abbrev pub lines_of : Function → List ℕ
lines_of f = map (λ standing. standing.place.line) f.standings

-- the forms of a statement of a function whose steps stand at these lines, those of a body before the form itself
abbrev pub forms_in : (function : ℕ) → (lines : List ℕ) → Stmt → List Form
forms_in function lines (Then first rest) = forms_in function lines first ++ forms_in function lines rest
forms_in function lines (If number test first other) = forms_in function lines first ++ forms_in function lines other
forms_in function lines (Loop number test update body) = forms_in function lines body ++ forms_in function lines update
forms_in function lines (BodyFirst number test body) = forms_in function lines body
forms_in function lines (Switch number e segments) = forms_in function lines segments
forms_in function lines (Segment label body rest) = forms_in function lines body ++ forms_in function lines rest
forms_in function lines (ForEach number form body) =
    forms_in function lines body ++ record { line = slice_index_or lines number 0; function = function; head = number; rounds = round_number number body; word = word_of form } ∷ []
forms_in function lines s = []

-- the forms of functions, the first of which has this number
abbrev pub forms_from : (first : ℕ) → List Function → List Form
forms_from first [] = []
forms_from first (f ∷ functions) = forms_in first (lines_of f) f.body ++ forms_from (suc first) functions

-- the forms of a program
abbrev pub forms_of : Program → List Form
forms_of p = forms_from 0 p.functions
