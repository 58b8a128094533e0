-- What holds of the values that a parse found.
use Rattle.std.specs.Prelude.{◌≡◌, ◌⊎◌, ℕ, IfSome, Some, codes, pos}
use Rattle.clap.specs.Lexer.{without_minus}
use Rattle.clap.specs.Matches.{first_value, one_text}
use Rattle.clap.specs.Values.{IsSignedIn}
use Rattle.clap.specs.Walk.{Text}
use Rattle.clap.specs.declared.parser.matches.Found.{Found}
use Rattle.ispc_options.specs.Asked.{width_text}
use Rattle.ispc_options.specs.declared.options.Width.{Width}

-- the value of a name is a number from 1 to `most`, and read without a minus
abbrev pub HasNumber : ℕ → Found → Text → Type 0
HasNumber most found name = (text : Text) × (first_value found name ≡ Some text)
    × (one_text found name ≡ Some (without_minus text)) × IsSignedIn (pos 1) (pos most) text

-- each value passed the parser of its option
pub record ArePassed (found : Found) : Type 0 where
  pub width : (w : Width) × (first_value found (codes "width") ≡ Some (width_text w))
  pub history : HasNumber 65536 found (codes "history")
  pub steps : HasNumber 10000000 found (codes "steps")
  pub flag : one_text found (codes "lane-pure") ≡ first_value found (codes "lane-pure")
  pub pure : IfSome (first_value found (codes "lane-pure"))
      (λ text. (text ≡ codes "true") ⊎ (text ≡ codes "false"))
