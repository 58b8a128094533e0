-- The verbs by their names.
use Rattle.std.specs.Prelude.{List, [], ◌∷◌, Option, None, codes, find, if◌then◌else◌, option_map}
use Rattle.std.specs.Str.{bytes_eq}
use Rattle.clap.specs.Walk.{Text}
use Rattle.desk_options.specs.declared.names.VerbName.{VerbName}
use Rattle.desk_options.specs.declared.names.VerbName.TheVariants.{Debug, Picture, Page, Profile, Adapter, Explain, Port}

abbrev pub name_of : VerbName → Text
name_of Debug = codes "debug"
name_of Picture = codes "picture"
name_of Page = codes "page"
name_of Profile = codes "profile"
name_of Adapter = codes "adapter"
name_of Explain = codes "explain"
name_of Port = codes "port"

-- the verb of a name
abbrev pub named : Text → Option VerbName
named word = find (λ verb. bytes_eq word (name_of verb)) (Debug ∷ Picture ∷ Page ∷ Profile ∷ Adapter ∷ Explain ∷ Port ∷ [])

-- the verb that the first word names, with the words behind it
abbrev pub first_named : List Text → Option (VerbName × List Text)
first_named [] = None
first_named (first ∷ rest) = option_map (λ verb. (verb, rest)) (named first)

-- the same, and `help VERB` is read as `VERB --help`
abbrev pub named_words : List Text → Option (VerbName × List Text)
named_words (first ∷ name ∷ []) = if bytes_eq first (codes "help")
    then option_map (λ verb. (verb, codes "--help" ∷ [])) (named name) else first_named (first ∷ name ∷ [])
named_words words = first_named words
