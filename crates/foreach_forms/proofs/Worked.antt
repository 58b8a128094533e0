-- The forms of some statements, worked out.
use Rattle.std.specs.Prelude.{◌≡◌, refl, [], ◌∷◌}
use Rattle.gang_types.specs.declared.types.IntType.TheVariants.{Int32}
use Rattle.gang_types.specs.declared.types.Rate.TheVariants.{Varying}
use Rattle.gang_types.specs.declared.places.VarId.TheVariants.{Local}
use Rattle.gang_model.specs.Types.Tree.{Var, Number, Rows, EachLane, EachValue, Stmt, Empty, Then, If, Break, Continue, ForEach}
use Rattle.foreach_forms.specs.declared.forms.Word.TheVariants as word
use Rattle.foreach_forms.specs.Forms.{forms_in}

abbrev v : Var
v = record { id = Local 0; type = Int32; rate = Varying }

-- two steps, then a form of two steps with a form of one step in a branch of it
abbrev inner : Stmt
inner = ForEach 4 (EachLane v) (Continue 5)

abbrev nested : Stmt
nested = Then (Break 0) (Then (Break 1) (ForEach 2 (Rows []) (Then (If 3 (Number 1) inner Empty) (Break 7))))

forms_of_nested : forms_in 9 (1 ∷ 2 ∷ 3 ∷ 4 ∷ 5 ∷ []) nested ≡ record { line = 5; function = 9; head = 4; rounds = 6; word = word.Active } ∷ record { line = 3; function = 9; head = 2; rounds = 8; word = word.ForEach } ∷ []
forms_of_nested = refl

-- a form without a step in its body
an_empty_one : forms_in 0 [] (ForEach 3 (EachValue v (Number 1)) Empty) ≡ record { line = 0; function = 0; head = 3; rounds = 4; word = word.Unique } ∷ []
an_empty_one = refl

no_form : forms_in 0 [] (Then (Break 0) (If 1 (Number 1) (Break 2) Empty)) ≡ []
no_form = refl
