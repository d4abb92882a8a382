-- A text that ends in the name of a link with a library name leads nowhere.
use Rattle.std.proofs.Common.{◌≡◌, ℕ, zero, suc, true, cond, List, [], ◌∷◌, ◌++◌, append_assoc, codes, refl, ap, sym, ◌∙◌, Result, Ok, Err}
use Rattle.std.specs.Str.{bytes_eq}
use Rattle.lib_types.proofs.SortedPairs.{by_test}
use Rattle.lib_types.specs.Name.{is_name}
use Rattle.name_order.specs.LibraryName.{is_library_name}
use Rattle.image_tree.specs.Paths.{components, join, root, stem}
use Rattle.image_tree.specs.Tree.{Nodes, IsTree, kind_at}
use Rattle.image_tree.specs.declared.tree.Kind.{Kind}
use Rattle.image_tree.specs.declared.tree.Kind.TheVariants as kinds
use Rattle.path_walk.proofs.Joining.{names_joined}
use Rattle.path_walk.proofs.KindsAt.{folder_dir, start_dir}
use Rattle.path_walk.proofs.Linked.{name_is_component, no_dots}
use Rattle.path_walk.specs.Names.{parent}
use Rattle.path_walk.specs.Walk.{Stop, Ends, Follows, at_child, at_file, at_link, resolution, start_of, steps, target_at, walk}
use Rattle.path_walk.specs.declared.walk.Mode.TheVariants.{Plain}
use Rattle.path_walk.specs.declared.walk.TheConstants.{LINKS_MAX}
use Rattle.path_walk.specs.declared.walk.WalkFault.TheVariants.{Absent, NotDir}
use Rattle.hwcap_dirs.specs.Places.{is_dir}
use Rattle.planned_tree.proofs.Walks.{hidden}
use Rattle.path_walk.proofs.Alone.{of_folder}

-- ---- a name

-- the names of a text with a name more
joined_names : (text name : List ℕ) → is_name name ≡ true → components (join text name) ≡ components text ++ name ∷ []
joined_names text name h =
    let one = name_is_component name h in
    ap components (append_assoc (stem text) root name) ∙ names_joined (stem text) name
    ∙ ap (λ names. names ++ components name) (of_folder text) ∙ ap (λ names. components text ++ names) one

-- ---- a walk with a name more

module _ (t : Nodes) (tree : IsTree t) (name : List ℕ) where
  abbrev at_end : Kind → List ℕ → Stop
  at_end kind place = cond (is_dir kind) (steps t Plain (name ∷ []) place) (Ends (Err NotDir))

  abbrev onto : Stop → Stop
  onto (Ends (Ok place)) = at_end (kind_at t place) place
  onto (Ends (Err fault)) = Ends (Err fault)
  onto (Follows names place) = Follows (names ++ name ∷ []) place

  onto_link : (first target : List ℕ) (rest : List (List ℕ)) (place : List ℕ) → at_link Plain first target (rest ++ name ∷ []) place ≡ onto (at_link Plain first target rest place)
  onto_link first target rest place = by_test (is_library_name first)
      (λ e. rw e refl)
      (λ e. rw e (ap (λ names. Follows names (start_of target place)) (sym (append_assoc (components target) rest (name ∷ [])))))

  onto_file : (rest : List (List ℕ)) (place : List ℕ) → kind_at t place ≡ kinds.File → at_file (rest ++ name ∷ []) place ≡ onto (at_file rest place)
  onto_file [] place k = sym (ap (λ k. at_end k place) k)
  onto_file (next ∷ rest) place k = refl

  onto_child : (kind : Kind) (link link_more file file_more dir dir_more : Stop) → (kind ≡ kinds.Link → link_more ≡ onto link) → (kind ≡ kinds.File → file_more ≡ onto file)
      → (kind ≡ kinds.Dir → dir_more ≡ onto dir) → at_child kind link_more file_more dir_more ≡ onto (at_child kind link file dir)
  onto_child kinds.Absent link link_more file file_more dir dir_more l f d = refl
  onto_child kinds.Link link link_more file file_more dir dir_more l f d = l refl
  onto_child kinds.File link link_more file file_more dir dir_more l f d = f refl
  onto_child kinds.Dir link link_more file file_more dir dir_more l f d = d refl

  steps_onto : (names : List (List ℕ)) (place : List ℕ) → kind_at t place ≡ kinds.Dir → steps t Plain (names ++ name ∷ []) place ≡ onto (steps t Plain names place)
  steps_onto [] place here = sym (ap (λ k. at_end k place) here)
  steps_onto (first ∷ rest) place here =
      let path = join place first in
      let more = rest ++ name ∷ [] in
      let target = target_at t path in
      by_test (bytes_eq first (codes ".."))
      (λ e. rw e (steps_onto rest (parent place) (folder_dir t tree place (parent place) refl here)))
      (λ e.
      rw e (onto_child (kind_at t path) (at_link Plain first target rest place) (at_link Plain first target more place) (at_file rest path) (at_file more path)
      (steps t Plain rest path) (steps t Plain more path) (λ k. onto_link first target rest place) (λ k. onto_file rest path k) (λ k. steps_onto rest path k)))

  -- ---- from link to link

  abbrev GoesOn : Stop → Type 0
  GoesOn (Ends result) = Unit {0}
  GoesOn (Follows names place) = kind_at t place ≡ kinds.Dir

  goes_on_link : (first target : List ℕ) (rest : List (List ℕ)) (place : List ℕ) → kind_at t place ≡ kinds.Dir → GoesOn (at_link Plain first target rest place)
  goes_on_link first target rest place here = by_test (is_library_name first)
      (λ e. rw e tt)
      (λ e. rw e (start_dir t target place here))

  goes_on_file : (rest : List (List ℕ)) (place : List ℕ) → GoesOn (at_file rest place)
  goes_on_file [] place = tt
  goes_on_file (next ∷ rest) place = tt

  goes_on_child : (kind : Kind) (link file dir : Stop) → GoesOn link → GoesOn file → (kind ≡ kinds.Dir → GoesOn dir) → GoesOn (at_child kind link file dir)
  goes_on_child kinds.Absent link file dir l f d = tt
  goes_on_child kinds.Link link file dir l f d = l
  goes_on_child kinds.File link file dir l f d = f
  goes_on_child kinds.Dir link file dir l f d = d refl

  goes_on : (names : List (List ℕ)) (place : List ℕ) → kind_at t place ≡ kinds.Dir → GoesOn (steps t Plain names place)
  goes_on [] place here = tt
  goes_on (first ∷ rest) place here =
      let path = join place first in
      let target = target_at t path in
      by_test (bytes_eq first (codes ".."))
      (λ e. rw e (goes_on rest (parent place) (folder_dir t tree place (parent place) refl here)))
      (λ e.
      rw e (goes_on_child (kind_at t path) (at_link Plain first target rest place) (at_file rest path) (steps t Plain rest path)
      (goes_on_link first target rest place here) (goes_on_file rest path) (λ k. goes_on rest path k)))

  ended : (links : ℕ) (result : Result (List ℕ) _) → walk t Plain links (Ends result) ≡ result
  ended zero result = refl
  ended (suc links) result = refl

  module _ (dir : List ℕ) (here : is_dir (kind_at t dir) ≡ true) (dead : steps t Plain (name ∷ []) dir ≡ Ends (Err Absent)) where
    walk_onto : (links : ℕ) (stop : Stop) → GoesOn stop → walk t Plain links stop ≡ Ok dir → walk t Plain links (onto stop) ≡ Err Absent
    walk_onto links (Ends (Ok place)) g e =
        let found : Ok place ≡ Ok dir = sym (ended links (Ok place)) ∙ e in
        let same : place ≡ dir = cc in
        ap (λ p. walk t Plain links (at_end (kind_at t p) p)) same
        ∙ ap (λ b. walk t Plain links (cond b (steps t Plain (name ∷ []) dir) (Ends (Err NotDir)))) here
        ∙ ap (walk t Plain links) dead ∙ ended links (Err Absent)
    walk_onto links (Ends (Err fault)) g e = let found : Err fault ≡ Ok dir = sym (ended links (Err fault)) ∙ e in absurd (cc)
    walk_onto zero (Follows names place) g e = absurd (cc)
    walk_onto (suc links) (Follows names place) g e =
        ap (walk t Plain links) (steps_onto names place g) ∙ walk_onto links (steps t Plain names place) (goes_on names place g) e

    not_found : (text : List ℕ) → is_name name ≡ true → resolution t text Plain ≡ Ok dir → resolution t (join text name) Plain ≡ Err Absent
    unfolding resolution
    not_found text named e =
        ap (λ names. walk t Plain LINKS_MAX (steps t Plain names root)) (joined_names text name named)
        ∙ ap (walk t Plain LINKS_MAX) (steps_onto (components text) root refl)
        ∙ walk_onto LINKS_MAX (steps t Plain (components text) root) (goes_on (components text) root refl) e

-- the text of a directory with the name of a link there, which is a library name
pub link_not_found : (t : Nodes) (text dir name : List ℕ) → IsTree t → is_name name ≡ true → is_library_name name ≡ true → resolution t text Plain ≡ Ok dir → is_dir (kind_at t dir) ≡ true
    → kind_at t (join dir name) ≡ kinds.Link → resolution t (join text name) Plain ≡ Err Absent
link_not_found t text dir name tree named library leads here link =
    let path = join dir name in
    let child = at_child (kind_at t path) (at_link Plain name (target_at t path) [] dir) (at_file [] path) (steps t Plain [] path) in
    let stops : child ≡ Ends (Err Absent) =
    ap (λ k. at_child k (at_link Plain name (target_at t path) [] dir) (at_file [] path) (steps t Plain [] path)) link ∙ hidden name (target_at t path) [] dir library in
    let dead : steps t Plain (name ∷ []) dir ≡ Ends (Err Absent) = ap (λ b. cond b (steps t Plain [] (parent dir)) child) (no_dots name named).1 ∙ stops in
    not_found t tree name dir here dead text named leads
