-- A path is its directory joined with its last name.
use Rattle.std.proofs.Common.{◌≡◌, ◌<◌, ◌+◌, ℕ, suc, Bool, true, false, cond, List, [], ◌∷◌, ◌++◌, append_assoc, drop, length, length-append, refl, ap, sym, subst, ◌∙◌, Option, Some, None, unwrap_or, arith, if◌then◌else◌, nat_eq}
use Rattle.std.proofs.lemmas.Bool.{and_parts, eqb-true, false≢true}
use Rattle.std.proofs.lemmas.Bool.Decides.{Decides-eqb}
use Rattle.std.proofs.lemmas.List.{drop_at}
use Rattle.std.proofs.lemmas.Slice.Eq.{starts_is}
use Rattle.std.specs.List.{starts_with}
use Rattle.std.specs.Str.{bytes_eq}
use Rattle.lib_types.specs.Name.{slash}
use Rattle.image_tree.proofs.Below.{not_root}
use Rattle.image_tree.proofs.Prefixes.{path_above}
use Rattle.image_tree.proofs.Rising.{first_name, name_goes_on}
use Rattle.image_tree.specs.Paths.{folder, is_below, is_path, is_slash, join, name_after, root}
use Rattle.path_walk.specs.Names.{before_last, last, more_before, parent, unless_empty}

-- ---- the bytes before the last slash, and those after it

abbrev some_empty : Option (List ℕ)
some_empty = Some []

some_before : (b : ℕ) (o : Option (List ℕ)) → more_before b o ≡ None → (o ≡ None) × (is_slash b ≡ false)
some_before b (Some front) e = absurd (cc)
some_before b None e = (refl, by (is_slash b) e)
  where
    by : (c : Bool) → (if c then some_empty else None) ≡ None → c ≡ false
    by true e = absurd (cc)
    by false e = refl

-- a text without a slash is one name
whole_name : (xs : List ℕ) → before_last xs ≡ None → first_name xs ≡ xs
whole_name [] e = refl
whole_name (b ∷ rest) e =
    let parts = some_before b (before_last rest) e in
    name_goes_on b rest parts.1 ∙ ap (λ z. b ∷ z) (whole_name rest parts.0)

record IsCut (xs front : List ℕ) : Type 0 where
  whole : xs ≡ front ++ slash ∷ drop (length front + 1) xs
  name : first_name (drop (length front + 1) xs) ≡ drop (length front + 1) xs

one_more : (b : ℕ) (front xs : List ℕ) → drop (length (b ∷ front) + 1) (b ∷ xs) ≡ drop (length front + 1) xs
one_more b front xs = let more : length (b ∷ front) + 1 ≡ suc (length front + 1) = omega arith in ap (λ n. drop n (b ∷ xs)) more

cut : (xs front : List ℕ) → before_last xs ≡ Some front → IsCut xs front
cut [] front e = absurd (cc)
cut (b ∷ rest) front e = by (λ f is. cut rest f is) (before_last rest) refl e
  where
    first : (c : Bool) → is_slash b ≡ c → before_last rest ≡ None → (if c then some_empty else None) ≡ Some front → IsCut (b ∷ rest) front
    first false s none e = absurd (cc)
    first true s none e =
        let empty : [] ≡ front = cc in
        subst (IsCut (b ∷ rest)) empty (record { whole = ap (λ x. x ∷ rest) (eqb-true b slash s); name = whole_name rest none })

    by : ((f : List ℕ) → before_last rest ≡ Some f → IsCut rest f) → (o : Option (List ℕ)) → before_last rest ≡ o → more_before b o ≡ Some front → IsCut (b ∷ rest) front
    by before None is e = first (is_slash b) refl is e
    by before (Some f) is e =
        let same : b ∷ f ≡ front = cc in
        let next = before f is in
        subst (IsCut (b ∷ rest)) same (record {
          whole = ap (λ x. b ∷ x) next.whole ∙ ap (λ x. (b ∷ f) ++ slash ∷ x) (sym (one_more b f rest));
          name = ap first_name (one_more b f rest) ∙ next.name ∙ sym (one_more b f rest);
        })

-- ---- a path

module _ (q : List ℕ) (proper : is_path q ≡ true) where
  first_byte : (b : ℕ) (xs ys : List ℕ) → b ∷ xs ≡ slash ∷ ys → b ≡ slash
  first_byte b xs ys e = cc

  -- a path has a slash
  has_front : (xs : List ℕ) → is_path xs ≡ true → before_last xs ≡ None → ⊥
  has_front [] h e = absurd (cc)
  has_front (b ∷ rest) h e =
      let whole : b ∷ rest ≡ root ++ drop (length root) (b ∷ rest) = (starts_is Decides-eqb (b ∷ rest) root (starts_with nat_eq (b ∷ rest) root) refl).0 (and_parts _ _ (and_parts _ _ h).0).1 in
      let byte : b ≡ slash = first_byte b rest _ whole in
      let slash_first : is_slash b ≡ true = ap is_slash byte in
      false≢true (sym (some_before b (before_last rest) e).1 ∙ slash_first)

  folder_of : (front : List ℕ) → is_path (front ++ slash ∷ drop (length front + 1) q) ≡ true → folder (unless_empty front) ≡ front ++ root
  folder_of [] h = refl
  folder_of (b ∷ f) h = ap (λ c. cond c [] (b ∷ f) ++ root) (not_root (b ∷ f) (path_above (b ∷ f) (drop (length (b ∷ f) + 1) q) (λ e. cc) h))

  by_front : (o : Option (List ℕ)) → before_last q ≡ o → (join (parent q) (last q) ≡ q) × (first_name (last q) ≡ last q)
  by_front None e = absurd (has_front q proper e)
  by_front (Some front) e =
      let is = cut q front e in
      let named : last q ≡ drop (length front + 1) q = ap (λ o. drop (length (unwrap_or o []) + 1) q) e in
      let above : folder (parent q) ≡ front ++ root = ap (λ o. folder (unless_empty (unwrap_or o []))) e ∙ folder_of front (sym (ap is_path is.whole) ∙ proper) in (
        ap (λ f. f ++ last q) above ∙ ap (λ z. (front ++ root) ++ z) named ∙ append_assoc front root (drop (length front + 1) q) ∙ sym is.whole,
        ap first_name named ∙ is.name ∙ sym named,
      )

  -- the directory joined with the last name is the path
  pub joined : join (parent q) (last q) ≡ q
  joined = (by_front (before_last q) refl).0

  last_whole : first_name (last q) ≡ last q
  last_whole = (by_front (before_last q) refl).1

  -- the path is below its directory, followed by its last name
  pub below_parent : is_below (parent q) q ≡ true
  below_parent = (starts_is Decides-eqb q (folder (parent q)) (is_below (parent q) q) refl).1 (last q) (sym joined)

  pub named_after : name_after (length (folder (parent q))) q ≡ last q
  named_after = ap (λ x. first_name (drop (length (folder (parent q))) x)) (sym joined) ∙ ap first_name (drop_at (folder (parent q)) (last q) (length (folder (parent q))) refl) ∙ last_whole

  -- the directory's path is shorter, unless the directory is the root
  pub shorter : bytes_eq (parent q) root ≡ false → length (parent q) < length q
  shorter other = by (before_last q) refl
    where
      longer : (front : List ℕ) → IsCut q front → bytes_eq (unless_empty front) root ≡ false → length (unless_empty front) < length q
      longer [] is other = absurd (false≢true (sym other))
      longer (b ∷ f) is other =
          let size : length q ≡ length ((b ∷ f) ++ slash ∷ drop (length (b ∷ f) + 1) q) = ap length is.whole in
          let sum = length-append (b ∷ f) (slash ∷ drop (length (b ∷ f) + 1) q) in
          omega (arith, size, sum)

      by : (o : Option (List ℕ)) → before_last q ≡ o → length (parent q) < length q
      by None e = absurd (has_front q proper e)
      by (Some front) e =
          let same : parent q ≡ unless_empty front = ap (λ o. unless_empty (unwrap_or o [])) e in
          subst (λ (d : List ℕ). length d < length q) (sym same) (longer front (cut q front e) (sym (ap (λ d. bytes_eq d root) same) ∙ other))
