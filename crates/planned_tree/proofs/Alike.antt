-- Two trees that differ by links with library names alone.
use Rattle.std.proofs.Common.{◌≡◌, ◌⊎◌, inl, inr, ℕ, true, false, List, refl, ap, sym, ◌∙◌, Option, Some, None}
use Rattle.name_order.specs.LibraryName.{is_library_name}
use Rattle.std.specs.Option.{option_map}
use Rattle.hwcap_dirs.specs.Places.{is_dir}
use Rattle.conf_views.specs.Files.{key_in}
use Rattle.image_tree.specs.Tree.{Nodes, kind_at, node_at}
use Rattle.image_tree.specs.declared.node.Node.{Node}
use Rattle.image_tree.specs.declared.node.Node.TheVariants as node
use Rattle.image_tree.specs.declared.tree.Kind.{Kind}
use Rattle.image_tree.specs.declared.tree.Kind.TheVariants as kinds
use Rattle.path_walk.specs.Names.{last}
use Rattle.soname_links.proofs.KindsAt.{is_open}
use Rattle.soname_links.specs.Plan.{is_taken}
use Rattle.planned_tree.specs.Search.{file_in}

-- there is a link with a library name at the path, or nothing
pub record IsSpot (t : Nodes) (path : List ℕ) : Type 0 where
  pub name : is_library_name (last path) ≡ true
  pub kind : is_taken (kind_at t path) ≡ false
  pub node : is_open (node_at t path) ≡ true

-- both have the same at the path
pub record IsSame (t new : Nodes) (path : List ℕ) : Type 0 where
  pub kind : kind_at new path ≡ kind_at t path
  pub node : node_at new path ≡ node_at t path

abbrev pub IsAlike : Nodes → Nodes → Type 0
IsAlike t new = (path : List ℕ) → IsSame t new path ⊎ (IsSpot t path × IsSpot new path)

pub turned : (t new : Nodes) → IsAlike t new → IsAlike new t
turned t new alike path = by (alike path)
  where
    by : IsSame t new path ⊎ (IsSpot t path × IsSpot new path) → IsSame new t path ⊎ (IsSpot new path × IsSpot t path)
    by (inl same) = inl (record { kind = sym same.kind; node = sym same.node })
    by (inr spots) = inr (spots.1, spots.0)

free_no_dir : (k : Kind) → is_taken k ≡ false → is_dir k ≡ false
free_no_dir kinds.Link h = refl
free_no_dir kinds.Absent h = refl
free_no_dir kinds.File h = absurd (cc)
free_no_dir kinds.Dir h = absurd (cc)

open_no_file : (o : Option Node) → is_open o ≡ true → file_in o ≡ None
open_no_file None h = refl
open_no_file (Some (node.Link target)) h = refl
open_no_file (Some node.Dir) h = absurd (cc)
open_no_file (Some (node.File key id)) h = absurd (cc)

-- the key of a file
pub key_of : (o : Option Node) → key_in o ≡ option_map (λ file. file.0) (file_in o)
key_of None = refl
key_of (Some node.Dir) = refl
key_of (Some (node.File key id)) = refl
key_of (Some (node.Link target)) = refl

module _ (t new : Nodes) (alike : IsAlike t new) (path : List ℕ) where
  pub same_dir : is_dir (kind_at new path) ≡ is_dir (kind_at t path)
  same_dir = by (alike path)
    where
      by : IsSame t new path ⊎ (IsSpot t path × IsSpot new path) → is_dir (kind_at new path) ≡ is_dir (kind_at t path)
      by (inl same) = ap is_dir same.kind
      by (inr spots) = free_no_dir (kind_at new path) spots.1.kind ∙ sym (free_no_dir (kind_at t path) spots.0.kind)

  pub same_file : file_in (node_at new path) ≡ file_in (node_at t path)
  same_file = by (alike path)
    where
      by : IsSame t new path ⊎ (IsSpot t path × IsSpot new path) → file_in (node_at new path) ≡ file_in (node_at t path)
      by (inl same) = ap file_in same.node
      by (inr spots) = open_no_file (node_at new path) spots.1.node ∙ sym (open_no_file (node_at t path) spots.0.node)

  pub same_key : key_in (node_at new path) ≡ key_in (node_at t path)
  same_key = key_of (node_at new path) ∙ ap (option_map (λ file. file.0)) same_file ∙ sym (key_of (node_at t path))
