-- What holds of the values that a parse found.
use Rattle.std.specs.Prelude.{◌≡◌, ◌⊎◌, ⊤, IfSome, Some, codes}
use Rattle.clap.specs.Matches.{first_value, one_text}
use Rattle.clap.specs.Walk.{Text}
use Rattle.clap.specs.declared.parser.matches.Found.{Found}
use Rattle.ispc_options.specs.Asked.{width_text}
use Rattle.ispc_options.specs.Passed.{HasNumber}
use Rattle.ispc_options.specs.declared.options.Width.{Width}
use Rattle.desk_options.specs.declared.names.VerbName.{VerbName}
use Rattle.desk_options.specs.declared.names.VerbName.TheVariants.{Debug, Picture, Page, Profile, Adapter, Explain, Port}

-- each value of a program passed the parser of its option, and the source is there
pub record ArePassed (found : Found) : Type 0 where
  pub source : (text : Text) × (first_value found (codes "source") ≡ Some text)
  pub width : (w : Width) × (first_value found (codes "width") ≡ Some (width_text w))
  pub history : HasNumber 65536 found (codes "history")
  pub steps : HasNumber 10000000 found (codes "steps")

-- and so did each value that only a picture has
pub record ArePicturePassed (found : Found) : Type 0 where
  pub program : ArePassed found
  pub from : HasNumber 10000000 found (codes "from")
  pub most : HasNumber 10000000 found (codes "most")
  pub row : HasNumber 10000000 found (codes "row")
  pub flag : one_text found (codes "force") ≡ first_value found (codes "force")
  pub force : IfSome (first_value found (codes "force"))
      (λ text. (text ≡ codes "true") ⊎ (text ≡ codes "false"))

-- and so did each value that only a page has
pub record ArePagePassed (found : Found) : Type 0 where
  pub program : ArePassed found
  pub from : HasNumber 10000000 found (codes "from")
  pub most : HasNumber 1000000 found (codes "most")
  pub each : HasNumber 1000000 found (codes "each")
  pub elements : HasNumber 65536 found (codes "elements")
  pub flag : one_text found (codes "force") ≡ first_value found (codes "force")
  pub force : IfSome (first_value found (codes "force"))
      (λ text. (text ≡ codes "true") ⊎ (text ≡ codes "false"))

-- a flag passed its parser
pub record IsFlagPassed (found : Found) (name : Text) : Type 0 where
  pub flag : one_text found name ≡ first_value found name
  pub given : IfSome (first_value found name) (λ text. (text ≡ codes "true") ⊎ (text ≡ codes "false"))

-- and so did each value that only a profile has
pub record AreProfilePassed (found : Found) : Type 0 where
  pub program : ArePassed found
  pub from : HasNumber 10000000 found (codes "from")
  pub most : HasNumber 10000000 found (codes "most")
  pub top : HasNumber 65536 found (codes "top")
  pub annotate : IsFlagPassed found (codes "annotate")
  pub json : IsFlagPassed found (codes "json")
  pub compare : IsFlagPassed found (codes "compare")
  pub force : IsFlagPassed found (codes "force")

-- the values of a source that is ported passed, and the source is there
pub record ArePortedPassed (found : Found) : Type 0 where
  pub source : (text : Text) × (first_value found (codes "source") ≡ Some text)
  pub flag : one_text found (codes "force") ≡ first_value found (codes "force")
  pub force : IfSome (first_value found (codes "force"))
      (λ text. (text ≡ codes "true") ⊎ (text ≡ codes "false"))

-- the values behind a verb's name passed
abbrev pub HavePassed : VerbName → Found → Type 0
HavePassed Debug found = ArePassed found
HavePassed Picture found = ArePicturePassed found
HavePassed Page found = ArePagePassed found
HavePassed Profile found = AreProfilePassed found
HavePassed Adapter found = ⊤
HavePassed Explain found = ⊤
HavePassed Port found = ArePortedPassed found
