-- A path text that can be resolved has no NUL.
use Rattle.std.proofs.Common.{◌≡◌, ◌<◌, ℕ, zero, suc, Bool, true, false, cond, not, ◌&&◌, ◌==◌, nat_eq, nat_le, List, [], ◌∷◌, ◌++◌, codes, length, filter, Ok, Err, refl, ap, sym, subst, ◌∙◌, arith}
use Rattle.std.proofs.lemmas.Bool.{and_from, and_parts}
use Rattle.std.proofs.lemmas.Bool.Decides.{nat_tests}
use Rattle.std.proofs.lemmas.List.Folds.{list_all-append}
use Rattle.std.proofs.lemmas.List.Splits.{length-slice_split, slice_split-cons_no, slice_split-cons_yes}
use Rattle.std.proofs.lemmas.Slice.Eq.{bytes_eq-Decides}
use Rattle.std.specs.List.{list_all, onto_first, slice_split, starts_with}
use Rattle.std.specs.Str.{bytes_eq}
use Rattle.lib_types.proofs.SortedPairs.{by_test}
use Rattle.lib_types.specs.Name.{have_no_slash, is_name, slash}
use Rattle.name_order.specs.LibraryName.{is_library_name}
use Rattle.image_tree.specs.Node.{has_no_nul}
use Rattle.image_tree.specs.Paths.{are_names, components, folder, is_kept, is_path, is_slash, join, root}
use Rattle.image_tree.specs.Tree.{Nodes, kind_at}
use Rattle.image_tree.specs.declared.path.TheConstants.{PATH_MAX}
use Rattle.image_tree.specs.declared.tree.Kind.{Kind}
use Rattle.image_tree.specs.declared.tree.Kind.TheVariants as kinds
use Rattle.path_walk.specs.Names.{parent}
use Rattle.path_walk.specs.Walk.{Stop, Ends, Follows, at_child, at_file, at_link, is_plain_mode, resolution, start_of, steps, target_at, walk}
use Rattle.path_walk.specs.declared.walk.Mode.{Mode}
use Rattle.path_walk.specs.declared.walk.TheConstants.{LINKS_MAX}
use Rattle.path_walk.specs.declared.walk.WalkFault.TheVariants.{Absent}

abbrev are_clean : List (List ℕ) → Bool
are_clean parts = list_all has_no_nul parts

-- ---- a text by its parts

onto_clean : (b : ℕ) (parts : List (List ℕ)) → 0 < length parts → are_clean (onto_first b parts) ≡ true → (not (b == 0) ≡ true) × (are_clean parts ≡ true)
onto_clean b [] some all = absurd (omega arith)
onto_clean b (part ∷ parts) some all =
    let whole = and_parts (not (b == 0) && has_no_nul part) (are_clean parts) all in
    let first = and_parts (not (b == 0)) (has_no_nul part) whole.0 in (first.0, and_from _ _ first.1 whole.1)

slash_clean : (b : ℕ) → is_slash b ≡ true → not (b == 0) ≡ true
slash_clean b e = let same : b ≡ 47 = grind (arith, nat_tests) in rw same refl

pub by_parts : (text : List ℕ) → are_clean (slice_split is_slash text) ≡ true → has_no_nul text ≡ true
by_parts [] all = refl
by_parts (b ∷ text) all = by_test (is_slash b)
    (λ e.
    let split = sym (ap are_clean (slice_split-cons_yes is_slash b text e)) ∙ all in
    and_from _ _ (slash_clean b e) (by_parts text (and_parts (has_no_nul []) _ split).1))
    (λ e.
    let split = sym (ap are_clean (slice_split-cons_no is_slash b text e)) ∙ all in
    let parts = onto_clean b (slice_split is_slash text) (omega (arith, length-slice_split is_slash text)) split in
    and_from _ _ parts.0 (by_parts text parts.1))

-- a part that isn't kept is empty or a dot
unkept_clean : (part : List ℕ) → is_kept part ≡ false → has_no_nul part ≡ true
unkept_clean [] e = refl
unkept_clean (b ∷ part) e = by_test (bytes_eq (b ∷ part) (codes "."))
    (λ h. subst (λ (z : List ℕ). has_no_nul z ≡ true) (sym ((bytes_eq-Decides (b ∷ part) (codes ".")).0 h)) refl)
    (λ h.
    let some : (length (b ∷ part) == 0) ≡ false = grind (arith, nat_tests) in
    let kept : is_kept (b ∷ part) ≡ true = rw (some, h) refl in let z : true ≡ false = sym kept ∙ e in absurd (cc))

kept_clean : (parts : List (List ℕ)) → are_clean (filter is_kept parts) ≡ true → are_clean parts ≡ true
kept_clean [] all = refl
kept_clean (part ∷ parts) all = by_test (is_kept part)
    (λ e.
    let both = and_parts (has_no_nul part) (are_clean (filter is_kept parts)) (sym (ap (λ k. are_clean (cond k (part ∷ filter is_kept parts) (filter is_kept parts))) e) ∙ all) in
    and_from _ _ both.0 (kept_clean parts both.1))
    (λ e. and_from _ _ (unkept_clean part e) (kept_clean parts (sym (ap (λ k. are_clean (cond k (part ∷ filter is_kept parts) (filter is_kept parts))) e) ∙ all)))

-- ---- names

bytes_clean : (bytes : List ℕ) → have_no_slash bytes ≡ true → has_no_nul bytes ≡ true
bytes_clean [] h = refl
bytes_clean (b ∷ bytes) h =
    let parts = and_parts (not (b == slash) && not (b == 0)) (have_no_slash bytes) h in
    and_from _ _ (and_parts _ _ parts.0).1 (bytes_clean bytes parts.1)

pub name_clean : (name : List ℕ) → is_name name ≡ true → has_no_nul name ≡ true
name_clean name h = bytes_clean name (and_parts _ _ (and_parts _ _ h).0).1

names_clean : (names : List (List ℕ)) → list_all is_name names ≡ true → are_clean names ≡ true
names_clean [] all = refl
names_clean (name ∷ names) all = and_from _ _ (name_clean name (and_parts _ _ all).0) (names_clean names (and_parts _ _ all).1)

path_clean : (path : List ℕ) → is_path path ≡ true → has_no_nul path ≡ true
path_clean [] h = refl
path_clean (b ∷ rest) h =
    let parts = and_parts (nat_le (length (b ∷ rest)) PATH_MAX && starts_with nat_eq (b ∷ rest) root) (are_names rest) h in
    let begins : starts_with nat_eq (b ∷ rest) root ≡ true = (and_parts (nat_le (length (b ∷ rest)) PATH_MAX) (starts_with nat_eq (b ∷ rest) root) parts.0).1 in
    let starts : nat_eq 47 b ≡ true = (and_parts (nat_eq 47 b) _ begins).0 in
    let here : is_slash b ≡ true = grind (arith, nat_tests) in
    and_from _ _ (slash_clean b here) (by_parts rest (names_clean (slice_split is_slash rest) parts.1))

pub joined_clean : (place name : List ℕ) → has_no_nul place ≡ true → has_no_nul name ≡ true → has_no_nul (join place name) ≡ true
joined_clean place name h k =
    let below : has_no_nul (folder place) ≡ true = by_test (bytes_eq place root)
    (λ e. rw e refl)
    (λ e. rw e (list_all-append (λ b. not (b == 0)) place root ∙ and_from _ _ h refl)) in
    list_all-append (λ b. not (b == 0)) (folder place) name ∙ and_from _ _ below k

-- ---- a walk

module _ (t : Nodes) (mode : Mode) where
  -- there is nothing at a path with a NUL
  there_clean : (place name : List ℕ) → (kind_at t (join place name) ≡ kinds.Absent → ⊥) → has_no_nul name ≡ true
  there_clean place name there =
      let path = join place name in
      let whole : has_no_nul path ≡ true = by_test (bytes_eq path root)
      (λ e. subst (λ (z : List ℕ). has_no_nul z ≡ true) (sym ((bytes_eq-Decides path root).0 e)) refl)
      (λ e. by_test (is_path path) (path_clean path) (λ f. absurd (there (rw (e, f) refl)))) in
      (and_parts _ _ (sym (list_all-append (λ b. not (b == 0)) (folder place) name) ∙ whole)).1

  -- the walk doesn't end with a fault, and the names that are left have no NUL
  abbrev IsClean : Stop → Type 0
  IsClean (Ends (Ok place)) = Unit {0}
  IsClean (Ends (Err fault)) = ⊥
  IsClean (Follows names place) = are_clean names ≡ true

  file_clean : (rest : List (List ℕ)) (place : List ℕ) → IsClean (at_file rest place) → are_clean rest ≡ true
  file_clean [] place h = refl
  file_clean (name ∷ rest) place h = absurd h

  link_clean : (name target : List ℕ) (rest : List (List ℕ)) (place : List ℕ) → IsClean (at_link mode name target rest place) → are_clean rest ≡ true
  link_clean name target rest place h = by_test (is_plain_mode mode && is_library_name name)
      (λ e. absurd (subst (λ b. IsClean (cond b (Ends (Err Absent)) (Follows (components target ++ rest) (start_of target place)))) e h))
      (λ e.
      let both : are_clean (components target ++ rest) ≡ true = subst (λ b. IsClean (cond b (Ends (Err Absent)) (Follows (components target ++ rest) (start_of target place)))) e h in
      (and_parts _ _ (sym (list_all-append has_no_nul (components target) rest) ∙ both)).1)

  steps_clean : (names : List (List ℕ)) (place : List ℕ) → IsClean (steps t mode names place) → are_clean names ≡ true
  steps_clean [] place h = refl
  steps_clean (name ∷ rest) place h =
      let above = steps t mode rest (parent place) in
      let path = join place name in
      let link = at_link mode name (target_at t path) rest place in
      let child : Kind → Stop = λ k. at_child k link (at_file rest path) (steps t mode rest path) in
      by_test (bytes_eq name (codes ".."))
      (λ e.
      let same : name ≡ codes ".." = (bytes_eq-Decides name (codes "..")).0 e in
      and_from _ _ (subst (λ (z : List ℕ). has_no_nul z ≡ true) (sym same) refl)
      (steps_clean rest (parent place) (subst (λ b. IsClean (cond b above (child (kind_at t path)))) e h)))
      (λ e.
      let below : IsClean (child (kind_at t path)) = subst (λ b. IsClean (cond b above (child (kind_at t path)))) e h in
      elim (kind_at t path) as (λ k. kind_at t path ≡ k → IsClean (child k) → are_clean (name ∷ rest) ≡ true) [
        | kinds.Absent ↦ λ k c. absurd c
        | kinds.Link ↦ λ k c. and_from _ _ (there_clean place name (λ a. let z : kinds.Link ≡ kinds.Absent = sym k ∙ a in cc)) (link_clean name (target_at t path) rest place c)
        | kinds.File ↦ λ k c. and_from _ _ (there_clean place name (λ a. let z : kinds.File ≡ kinds.Absent = sym k ∙ a in cc)) (file_clean rest path c)
        | kinds.Dir ↦ λ k c. and_from _ _ (there_clean place name (λ a. let z : kinds.Dir ≡ kinds.Absent = sym k ∙ a in cc)) (steps_clean rest path c)
      ] refl below)

  walk_clean : (links : ℕ) (stop : Stop) (place : List ℕ) → walk t mode links stop ≡ Ok place → IsClean stop
  walk_clean links (Ends (Ok end)) place h = tt
  walk_clean zero (Ends (Err fault)) place h = absurd (cc)
  walk_clean (suc links) (Ends (Err fault)) place h = absurd (cc)
  walk_clean zero (Follows names from) place h = absurd (cc)
  walk_clean (suc links) (Follows names from) place h = steps_clean names from (walk_clean links (steps t mode names from) place h)

  pub led_clean : (text place : List ℕ) → resolution t text mode ≡ Ok place → has_no_nul text ≡ true
  unfolding resolution
  led_clean text place h =
      by_parts text (kept_clean (slice_split is_slash text) (steps_clean (components text) root (walk_clean LINKS_MAX (steps t mode (components text) root) place h)))
