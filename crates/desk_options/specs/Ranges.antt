-- What the numbers of the words may be.
use Rattle.std.specs.Prelude.{◌≤◌, ⊤}
use Rattle.ispc_options.specs.Ranges.{AreInRange}
use Rattle.desk_options.specs.declared.verbs.Picture.{Picture as PictureOptions}
use Rattle.desk_options.specs.declared.verbs.Profile.{Profile as ProfileOptions}
use Rattle.desk_options.specs.declared.verbs.RunPage.{RunPage}
use Rattle.desk_options.specs.declared.verbs.Verb.{Verb}
use Rattle.desk_options.specs.declared.verbs.Verb.TheVariants.{Debug, Picture, Page, Profile, Adapter, Explain, Port}

pub record IsPictureInRange (picture : PictureOptions) : Type 0 where
  pub run : AreInRange picture.program.options
  pub least_from : 1 ≤ picture.from
  pub most_from : picture.from ≤ 10000000
  pub least_most : 1 ≤ picture.most
  pub most_most : picture.most ≤ 10000000
  pub least_row : 1 ≤ picture.row
  pub most_row : picture.row ≤ 10000000

pub record IsPageInRange (page : RunPage) : Type 0 where
  pub run : AreInRange page.program.options
  pub least_from : 1 ≤ page.from
  pub most_from : page.from ≤ 10000000
  pub least_most : 1 ≤ page.most
  pub most_most : page.most ≤ 1000000
  pub least_each : 1 ≤ page.each
  pub most_each : page.each ≤ 1000000
  pub least_elements : 1 ≤ page.elements
  pub most_elements : page.elements ≤ 65536

pub record IsProfileInRange (profile : ProfileOptions) : Type 0 where
  pub run : AreInRange profile.program.options
  pub least_from : 1 ≤ profile.from
  pub most_from : profile.from ≤ 10000000
  pub least_most : 1 ≤ profile.most
  pub most_most : profile.most ≤ 10000000
  pub least_top : 1 ≤ profile.top
  pub most_top : profile.top ≤ 65536

abbrev pub IsInRange : Verb → Type 0
IsInRange (Debug debugged) = AreInRange debugged.program.options
IsInRange (Picture picture) = IsPictureInRange picture
IsInRange (Page page) = IsPageInRange page
IsInRange (Profile profile) = IsProfileInRange profile
IsInRange Adapter = ⊤
IsInRange (Explain explained) = ⊤
IsInRange (Port ported) = ⊤
