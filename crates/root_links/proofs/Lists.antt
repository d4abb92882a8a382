-- Items of lists, and consecutive equal directories.
use Rattle.std.proofs.Common.{◌≡◌, inl, inr, ◌<◌, ◌+◌, ℕ, zero, suc, true, false, cond, ◌||◌, not, List, [], ◌∷◌, ◌++◌, drop, take, length, refl, ap, sym, subst, ◌∙◌, Some, slice_get, add-one, arith}
use Rattle.std.proofs.lemmas.Bool.{and_parts, false≢true}
use Rattle.std.proofs.lemmas.Cmp.{nat_list_eq_equiv}
use Rattle.std.proofs.lemmas.List.Kept.{Contains-dedup, Contains-from_dedup}
use Rattle.std.proofs.lemmas.Map.Views.{Contains-from_any, list_any-from_Contains}
use Rattle.std.proofs.lemmas.Slice.Eq.{bytes_eq-Decides}
use Rattle.std.specs.List.{dedup, dedup_from, list_any}
use Rattle.std.specs.Str.{bytes_eq}
use Rattle.image_tree.specs.Node.{is_target}
use Rattle.image_tree.specs.Paths.{is_path}
use Rattle.image_tree.specs.Tree.{Nodes}
use Rattle.image_tree.specs.declared.node.Node.TheVariants.{Link}
use Rattle.lib_types.proofs.SortedPairs.{by_test}
use Rattle.root_links.specs.Links.{IsOfLinks, Linking, are_valid, dir_of, dirs_in, is_valid, links_in, with_link, with_links}
use Rattle.root_links.specs.Steps.{is_last_of}
use Rattle.root_links.specs.declared.making.NewLink.{NewLink}
use Rattle.lib_types.proofs.SameTexts.{exact}

module _ {A : Type 0} where
  -- an item, and the items after it
  drop_suc : (xs : List A) (i : ℕ) (x : A) → slice_get xs i ≡ Some x → drop i xs ≡ x ∷ drop (suc i) xs
  drop_suc [] i x e = absurd (cc)
  drop_suc (y ∷ xs) zero x e = let same : y ≡ x = cc in ap (λ z. z ∷ xs) same
  drop_suc (y ∷ xs) (suc i) x e = drop_suc xs i x e

  pub drop_next : (xs : List A) (i : ℕ) (x : A) → slice_get xs i ≡ Some x → drop i xs ≡ x ∷ drop (i + 1) xs
  drop_next xs i x e = rw add-one (drop_suc xs i x e)

  -- the items before it, and the item
  take_suc : (xs : List A) (i : ℕ) (x : A) → slice_get xs i ≡ Some x → take (suc i) xs ≡ take i xs ++ x ∷ []
  take_suc [] i x e = absurd (cc)
  take_suc (y ∷ xs) zero x e = let same : y ≡ x = cc in ap (λ z. z ∷ []) same
  take_suc (y ∷ xs) (suc i) x e = ap (λ z. y ∷ z) (take_suc xs i x e)

  pub take_next : (xs : List A) (i : ℕ) (x : A) → slice_get xs i ≡ Some x → take (i + 1) xs ≡ take i xs ++ x ∷ []
  take_next xs i x e = rw add-one (take_suc xs i x e)

  pub within : (xs : List A) (i : ℕ) (x : A) → slice_get xs i ≡ Some x → i < length xs
  within [] i x e = absurd (cc)
  within (y ∷ xs) zero x e = omega arith
  within (y ∷ xs) (suc i) x e = let rest = within xs i x e in omega (arith, rest)

  pub take_whole : (xs : List A) → take (length xs) xs ≡ xs
  take_whole [] = refl
  take_whole (x ∷ xs) = ap (λ z. x ∷ z) (take_whole xs)

  drop_all : (xs : List A) (n : ℕ) → n ≡ length xs → drop n xs ≡ []
  drop_all [] zero e = refl
  drop_all [] (suc n) e = refl
  drop_all (x ∷ xs) zero e = absurd (omega (arith, e))
  drop_all (x ∷ xs) (suc n) e = drop_all xs n (omega (arith, e))

-- ---- links

-- each link of a valid list is valid
pub valid_at : (links : List Linking) (i : ℕ) (l : Linking) → slice_get links i ≡ Some l → are_valid links ≡ true → (is_path l.0 ≡ true) × (is_target l.1 ≡ true)
valid_at [] i l e all = absurd (cc)
valid_at (k ∷ links) zero l e all = let same : k ≡ l = cc in subst (λ (z : Linking). (is_path z.0 ≡ true) × (is_target z.1 ≡ true)) same (and_parts (is_path k.0) (is_target k.1) (and_parts (is_valid k) (are_valid links) all).0)
valid_at (k ∷ links) (suc i) l e all = valid_at links i l e (and_parts (is_valid k) (are_valid links) all).1

pub link_at : (links : List Linking) (i : ℕ) (l : Linking) → slice_get links i ≡ Some l → IsOfLinks links l.0 (Some (Link l.1))
link_at [] i l e = absurd (cc)
link_at (k ∷ links) zero l e = let same : l ≡ k = cc in inl (ap (λ (z : Linking). z.0) same, ap (λ (z : Linking). Some (Link z.1)) same)
link_at (k ∷ links) (suc i) l e = inr (link_at links i l e)

pub one_link_more : (t : Nodes) (links : List Linking) (l : Linking) → with_links t (links ++ l ∷ []) ≡ with_link (with_links t links) l
one_link_more t [] l = refl
one_link_more t (k ∷ links) l = one_link_more (with_link t k) links l

-- ---- directories

pub last_dir : (dirs : List (List ℕ)) (i : ℕ) (dir next : List ℕ) → slice_get dirs i ≡ Some dir → slice_get dirs (i + 1) ≡ Some next → is_last_of (drop i dirs) ≡ not (bytes_eq next dir)
last_dir dirs i dir next e f = ap is_last_of (drop_next dirs i dir e ∙ ap (λ z. dir ∷ z) (drop_next dirs (i + 1) next f))

as_many : (links : List NewLink) → length (dirs_in (links_in links)) ≡ length links
as_many [] = refl
as_many (l ∷ links) = let rest = as_many links in omega (arith, rest)

pub end_dir : (links : List NewLink) (i : ℕ) (dir : List ℕ) → slice_get (dirs_in (links_in links)) i ≡ Some dir → i + 1 ≡ length links → is_last_of (drop i (dirs_in (links_in links))) ≡ true
end_dir links i dir e end =
    let dirs = dirs_in (links_in links) in
    ap is_last_of (drop_next dirs i dir e ∙ ap (λ z. dir ∷ z) (drop_all dirs (i + 1) (end ∙ sym (as_many links))))

-- the directory of a link of the list
pub dir_of_link : (links : List Linking) (i : ℕ) (l : Linking) (dir : List ℕ) → slice_get links i ≡ Some l → dir ≡ dir_of l → slice_get (dirs_in links) i ≡ Some dir
dir_of_link [] i l dir e is = absurd (cc)
dir_of_link (k ∷ links) zero l dir e is = let same : k ≡ l = cc in ap (λ (z : Linking). Some (dir_of z)) same ∙ ap (λ (z : List ℕ). Some z) (sym is)
dir_of_link (k ∷ links) (suc i) l dir e is = dir_of_link links i l dir e is

-- if the next directory is a different one, `dedup` keeps this one
pub last_stays : (dir : List ℕ) (dirs : List (List ℕ)) → is_last_of (dir ∷ dirs) ≡ true → dedup bytes_eq (dir ∷ dirs) ≡ dir ∷ dedup bytes_eq dirs
last_stays dir [] h = refl
last_stays dir (next ∷ dirs) h = by_test (bytes_eq next dir)
    (λ e. absurd (false≢true (sym (ap not e) ∙ h)))
    (λ e. ap (λ b. cond b (dedup_from bytes_eq dir dirs) (dir ∷ dedup_from bytes_eq next dirs)) e)

pub others_go : (dir : List ℕ) (dirs : List (List ℕ)) → is_last_of (dir ∷ dirs) ≡ false → dedup bytes_eq (dir ∷ dirs) ≡ dedup bytes_eq dirs
others_go dir [] h = absurd (false≢true (sym h))
others_go dir (next ∷ dirs) h = by_test (bytes_eq next dir)
    (λ e. ap (λ b. cond b (dedup_from bytes_eq dir dirs) (dir ∷ dedup_from bytes_eq next dirs)) e ∙ ap (λ d. dedup_from bytes_eq d dirs) (sym ((bytes_eq-Decides next dir).0 e)))
    (λ e. absurd (false≢true (sym h ∙ ap not e)))

-- a directory in the list is also in the list without consecutive duplicates
pub once : (z : List ℕ) (dirs : List (List ℕ)) → list_any (bytes_eq z) dirs ≡ true → list_any (bytes_eq z) (dedup bytes_eq dirs) ≡ true
once z dirs h = list_any-from_Contains nat_list_eq_equiv z (dedup bytes_eq dirs) (Contains-dedup nat_list_eq_equiv exact dirs z (Contains-from_any exact z dirs h))

pub none_once : (z : List ℕ) (dirs : List (List ℕ)) → list_any (bytes_eq z) dirs ≡ false → list_any (bytes_eq z) (dedup bytes_eq dirs) ≡ false
none_once z dirs h = by_test (list_any (bytes_eq z) (dedup bytes_eq dirs))
    (λ e. absurd (false≢true (sym h ∙ list_any-from_Contains nat_list_eq_equiv z dirs (Contains-from_dedup bytes_eq dirs z (Contains-from_any exact z (dedup bytes_eq dirs) e)))))
    (λ e. e)

pub in_either : (d : List ℕ) (xs ys : List (List ℕ)) → list_any (bytes_eq d) (xs ++ ys) ≡ (list_any (bytes_eq d) xs || list_any (bytes_eq d) ys)
in_either d [] ys = refl
in_either d (x ∷ xs) ys = by_test (bytes_eq d x)
    (λ e. rw e refl)
    (λ e. rw e (in_either d xs ys))
