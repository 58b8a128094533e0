-- What is read of a flag that passed its parser.
use Rattle.std.proofs.Common.{◌≡◌, ◌↔◌, ◌⊎◌, ◌∙◌, Bool, true, false, true≢false, Option, Some, None, codes, refl, sym, ap, inl, inr}
use Rattle.std.specs.Prelude.{IfSome, IsTrue}
use Rattle.clap.specs.Matches.{first_value, one_text}
use Rattle.clap.specs.Walk.{Text}
use Rattle.clap.specs.declared.parser.matches.Found.{Found}
use Rattle.desk_options.specs.Passed.{IsFlagPassed}

pub flag_read : (found : Found) (name : Text) (b : Bool) → IsFlagPassed found name → (one_text found name ≡ None → b ≡ false)
    → (one_text found name ≡ Some (codes "true") → b ≡ true) → (one_text found name ≡ Some (codes "false") → b ≡ false)
    → IsTrue b ↔ (first_value found name ≡ Some (codes "true"))
flag_read found name b passed none set unset = (λ is_set. go (first_value found name) refl passed.given is_set, λ given. set (passed.flag ∙ given))
  where
    go : (o : Option Text) → first_value found name ≡ o → IfSome o (λ text. (text ≡ codes "true") ⊎ (text ≡ codes "false")) → b ≡ true
        → first_value found name ≡ Some (codes "true")
    go None is given is_set = absurd (true≢false (sym is_set ∙ none (passed.flag ∙ is)))
    go (Some text) is (inl e) is_set = is ∙ ap Some e
    go (Some text) is (inr e) is_set = absurd (true≢false (sym is_set ∙ unset (passed.flag ∙ (is ∙ ap Some e))))
