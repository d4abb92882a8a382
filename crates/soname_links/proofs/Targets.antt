-- The name of a file as the text of a link, and the links of a plan.
use Rattle.std.proofs.Common.{◌≡◌, ℕ, true, nat_le, List, [], ◌∷◌, length, arith}
use Rattle.std.proofs.lemmas.Bool.{and_from, and_parts}
use Rattle.std.proofs.lemmas.List.Elements.{All-cons, All-nil}
use Rattle.std.specs.Bool.{IsTrue}
use Rattle.std.specs.List.{All}
use Rattle.lib_types.specs.Name.{is_name}
use Rattle.path_walk.proofs.NoNul.{name_clean}
use Rattle.lib_types.specs.declared.name.TheConstants.{NAME_MAX}
use Rattle.image_tree.specs.Node.{is_target}
use Rattle.image_tree.specs.declared.node.TheConstants.{NODE_TEXT_MAX}
use Rattle.image_tree.specs.Paths.{is_path}
use Rattle.soname_links.specs.Apply.{is_link, is_plan}
use Rattle.link_plan.specs.declared.kinds.Planned.{Planned}

longer : (n : ℕ) → nat_le n NAME_MAX ≡ true → nat_le n NODE_TEXT_MAX ≡ true
longer n h = grind arith

pub name_is_target : (name : List ℕ) → is_name name ≡ true → is_target name ≡ true
name_is_target name h =
    let a = and_parts _ _ h in
    let b = and_parts _ _ a.0 in
    let c = and_parts _ _ b.0 in
    let d = and_parts _ _ c.0 in
    and_from _ _ (and_from _ _ d.0 (longer (length name) d.1)) (name_clean name h)

abbrev HasPath : Planned → Type 0
HasPath planned = IsTrue (is_path planned.path)

abbrev HasFile : Planned → Type 0
HasFile planned = IsTrue (is_name planned.file)

pub paths_of : (plan : List Planned) → is_plan plan ≡ true → All HasPath plan
paths_of [] h = All-nil HasPath
paths_of (planned ∷ plan) h =
    let parts = and_parts (is_link planned) (is_plan plan) h in
    All-cons HasPath planned plan (and_parts (is_path planned.path) (is_name planned.file) parts.0).0 (paths_of plan parts.1)

pub files_of : (plan : List Planned) → is_plan plan ≡ true → All HasFile plan
files_of [] h = All-nil HasFile
files_of (planned ∷ plan) h =
    let parts = and_parts (is_link planned) (is_plan plan) h in
    All-cons HasFile planned plan (and_parts (is_path planned.path) (is_name planned.file) parts.0).1 (files_of plan parts.1)
