-- Changes one behind another: what each of them adds to their text.
use Rattle.std.specs.Prelude.{ℕ, ◌+◌, ◌==◌, ◌&&◌, Bool, false, List, [], ◌∷◌, Option, Some, None, codes, decimal, if◌then◌else◌}
use Rattle.std.specs.List.{concat}
use Rattle.gang_model.specs.Texts.Text.{Bytes}
use Rattle.run_page.specs.declared.variables.Variable.{Variable}
use Rattle.run_page.specs.declared.views.Change.{Change}
use Rattle.run_page.specs.declared.views.Change.TheVariants as change
use Rattle.run_page.specs.RecordText.{value_text}

-- a change is that of the part behind the one before it
abbrev pub goes_on : Option Change → (variable part : ℕ) → Bool
goes_on (Some (change.Word v last word)) variable part = (v == variable) && (last + 1 == part)
goes_on before variable part = false

-- what begins a row, and ends the one before if there is one
abbrev pub row_mark : Option Change → Bytes
row_mark None = codes "["
row_mark (Some before) = codes "],["

-- what a change adds to the text of the changes before it, of which one may be the last
abbrev pub added_text : List Variable → (before : Option Change) → Change → Bytes
added_text variables before (change.Gone v) = concat (row_mark before ∷ decimal v ∷ [])
added_text variables before (change.Word v part word) = if goes_on before v part then concat (codes "," ∷ value_text variables v word ∷ [])
    else concat (row_mark before ∷ decimal v ∷ codes "," ∷ decimal part ∷ codes "," ∷ value_text variables v word ∷ [])

-- what ends the changes
abbrev pub end_mark : Option Change → Bytes
end_mark None = codes "]"
end_mark (Some before) = codes "]]"
