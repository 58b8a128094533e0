-- Ways and pairs of paths, computed from the definitions.
use Rattle.std.proofs.Common.{◌≡◌, refl, true, false, [], ◌∷◌, codes}
use Rattle.std.specs.Path.{path_components, path_names}
use Rattle.adapter_paths.specs.Ways.{is_same_file, way_of}

-- `.`, two slashes and `..`
a_whole_path : way_of (codes "/a/./b//../c.ispc") ≡ codes "/" ∷ codes "a" ∷ codes "c.ispc" ∷ []
unfolding path_components path_names
a_whole_path = refl

above_the_root : way_of (codes "/../c.ispc") ≡ codes "/" ∷ codes "c.ispc" ∷ []
unfolding path_components path_names
above_the_root = refl

above_its_beginning : way_of (codes "./../../c.ispc") ≡ codes ".." ∷ codes ".." ∷ codes "c.ispc" ∷ []
unfolding path_components path_names
above_its_beginning = refl

-- the same file
as_it_is : is_same_file (codes "/a/c.ispc") (codes "/a/c.ispc") ≡ true
unfolding path_components path_names
as_it_is = refl

by_another_folder : is_same_file (codes "/a/c.ispc") (codes "/a/b/../c.ispc") ≡ true
unfolding path_components path_names
by_another_folder = refl

from_somewhere : is_same_file (codes "a/c.ispc") (codes "/home/a/c.ispc") ≡ true
unfolding path_components path_names
from_somewhere = refl

-- other files
another_file : is_same_file (codes "/a/c.ispc") (codes "/a/d.ispc") ≡ false
unfolding path_components path_names
another_file = refl

in_another_folder : is_same_file (codes "/a/c.ispc") (codes "/b/a/c.ispc") ≡ false
unfolding path_components path_names
in_another_folder = refl

by_half_a_name : is_same_file (codes "c.ispc") (codes "/a/bc.ispc") ≡ false
unfolding path_components path_names
by_half_a_name = refl
