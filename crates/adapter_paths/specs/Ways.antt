-- The ways of paths to their files: two paths whose ways are the same are those of one file.
use Rattle.std.specs.Prelude.{ℕ, ◌-◌, ◌==◌, ◌&&◌, ◌||◌, Bool, false, not, List, [], ◌∷◌, ◌++◌, bytes_eq, codes, length, map, slice_get, take, Option, Some, None, if◌then◌else◌}
use Rattle.std.specs.Borrow.{Bor}
use Rattle.std.specs.List.{ends_with, fold}
use Rattle.std.specs.Path.{path_components}

-- the names on a way, one behind another; the first is `/` where it begins at the root
abbrev pub Way : Type 0
Way = List (List ℕ)

abbrev pub last_of : Way → Option (List ℕ)
last_of way = slice_get way (length way - 1)

-- one up: the last name is taken back; above the root there is nothing, and above where a path begins there are folders that are not said
abbrev pub up_from : (last : Option (List ℕ)) → Way → Way
up_from None way = way ++ codes ".." ∷ []
up_from (Some name) way = if bytes_eq name (codes "/") then way else (if bytes_eq name (codes "..") then way ++ codes ".." ∷ [] else take (length way - 1) way)

abbrev pub gone_up : Way → Way
gone_up way = up_from (last_of way) way

-- one component further
abbrev pub gone : Way → (component : List ℕ) → Way
gone way component = if bytes_eq component (codes ".") then way else (if bytes_eq component (codes "..") then gone_up way else way ++ component ∷ [])

-- the way of a path, whose components are what stands between its slashes
abbrev pub way_of : (path : List ℕ) → Way
way_of path = fold gone [] (path_components path)

-- whether a way begins at the root
abbrev pub begins_at_root : Option (List ℕ) → Bool
begins_at_root None = false
begins_at_root (Some name) = bytes_eq name (codes "/")

abbrev pub is_whole : Way → Bool
is_whole way = begins_at_root (slice_get way 0)

-- whether a way ends with the names of another one
abbrev pub ends_so : (way end : Way) → Bool
ends_so way end = ends_with bytes_eq way end

-- whether a program's way may be the end of a source's: some names behind a folder that is not said
abbrev pub is_end : (program source : Way) → Bool
is_end program source = not (length program == 0) && not (is_whole program) && is_whole source

-- two ways are the same, or one is the end of the other that begins at the root
abbrev pub is_same_way : (program source : Way) → Bool
is_same_way program source = ends_so source program && ((length program == length source) || is_end program source)

abbrev pub is_same_file : (program source : List ℕ) → Bool
is_same_file program source = is_same_way (way_of program) (way_of source)

-- ---- as they are given

abbrev pub names_of : List (Bor (List ℕ)) → Way
names_of given = map (λ name. name.now) given
