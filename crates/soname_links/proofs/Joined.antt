-- A name in a directory has a path, and no other name has it.
use Rattle.std.proofs.Common.{◌≡◌, inl, inr, ℕ, true, false, cond, not, ◌&&◌, ◌==◌, nat_le, nat_eq, List, [], ◌∷◌, ◌++◌, append_assoc, length, drop, refl, ap, sym, subst, ◌∙◌}
use Rattle.std.proofs.lemmas.Bool.{and_from, and_parts}
use Rattle.std.proofs.lemmas.List.Folds.{list_all-append}
use Rattle.std.specs.List.{list_all, slice_split, starts_with}
use Rattle.std.specs.Str.{bytes_eq}
use Rattle.lib_types.proofs.Bools.{and_false}
use Rattle.lib_types.specs.Name.{have_no_slash, is_name, slash}
use Rattle.image_tree.proofs.Prefixes.{parts_joined}
use Rattle.path_walk.proofs.Linked.{IsFolder, join_below, name_alone}
use Rattle.image_tree.specs.Paths.{are_names, is_path, is_slash, join, root, stem}
use Rattle.image_tree.specs.declared.path.TheConstants.{PATH_MAX}

-- ---- the path of a name

one_named : (name : List ℕ) → is_name name ≡ true → are_names name ≡ true
one_named name h = ap (list_all is_name) (name_alone name h) ∙ and_from _ _ h refl

names_below_path : (p name : List ℕ) → is_path p ≡ true → is_name name ≡ true → (starts_with nat_eq (p ++ slash ∷ name) root && are_names (drop 1 (p ++ slash ∷ name))) ≡ true
names_below_path [] name proper h = absurd (cc)
names_below_path (x ∷ p) name proper h =
    let parts = and_parts _ _ proper in
    and_from _ _ (and_parts _ _ parts.0).1
    (ap (list_all is_name) (parts_joined p name) ∙ list_all-append is_name (slice_split is_slash p) (slice_split is_slash name) ∙ and_from _ _ parts.1 (one_named name h))

pub path_of_name : (p name : List ℕ) → IsFolder p → is_name name ≡ true → nat_le (length (join p name)) PATH_MAX ≡ true → is_path (join p name) ≡ true
path_of_name p name (inl e) h short =
    subst (λ (z : List ℕ). is_path (join z name) ≡ true) (sym e) (and_from _ _ (and_from _ _ (subst (λ (z : List ℕ). nat_le (length (join z name)) PATH_MAX ≡ true) e short) refl) (one_named name h))
path_of_name p name (inr below) h short =
    let whole = join_below p name below.0 in
    let parts = and_parts _ _ (names_below_path p name below.1 h) in
    subst (λ (z : List ℕ). is_path z ≡ true) (sym whole) (and_from _ _ (and_from _ _ (subst (λ (z : List ℕ). nat_le (length z) PATH_MAX ≡ true) whole short) parts.0) parts.1)

-- ---- paths of different names

has_slash : (front rest : List ℕ) → have_no_slash (front ++ slash ∷ rest) ≡ false
has_slash [] rest = refl
has_slash (b ∷ front) rest = ap (λ c. (not (b == slash) && not (b == 0)) && c) (has_slash front rest) ∙ and_false _

cut_same : (a b x y : List ℕ) → have_no_slash x ≡ true → have_no_slash y ≡ true → a ++ slash ∷ x ≡ b ++ slash ∷ y → (a ≡ b) × (x ≡ y)
cut_same [] [] x y h k e = let same : x ≡ y = cc in (refl, same)
cut_same [] (c ∷ b) x y h k e =
    let rest : x ≡ b ++ slash ∷ y = cc in
    let z : true ≡ false = sym h ∙ ap have_no_slash rest ∙ has_slash b y in absurd (cc)
cut_same (c ∷ a) [] x y h k e =
    let rest : y ≡ a ++ slash ∷ x = cc in
    let z : true ≡ false = sym k ∙ ap have_no_slash rest ∙ has_slash a x in absurd (cc)
cut_same (c ∷ a) (d ∷ b) x y h k e =
    let first : c ≡ d = cc in
    let rest : a ++ slash ∷ x ≡ b ++ slash ∷ y = cc in
    let same = cut_same a b x y h k rest in
    let whole : c ∷ a ≡ d ∷ b = cc in (whole, same.1)

stem_below : (p : List ℕ) → bytes_eq p root ≡ false → stem p ≡ p
stem_below p e = ap (λ b. cond b [] p) e

stem_root : (p : List ℕ) → p ≡ root → stem p ≡ []
stem_root p e = ap stem e

not_empty : (p : List ℕ) → is_path p ≡ true → p ≡ [] → ⊥
not_empty p proper e = let z : false ≡ true = sym (ap is_path e) ∙ proper in cc

stem_same : (p q : List ℕ) → IsFolder p → IsFolder q → stem p ≡ stem q → p ≡ q
stem_same p q (inl a) (inl b) e = a ∙ sym b
stem_same p q (inl a) (inr b) e = absurd (not_empty q b.1 (sym (stem_below q b.0) ∙ sym e ∙ stem_root p a))
stem_same p q (inr a) (inl b) e = absurd (not_empty p a.1 (sym (stem_below p a.0) ∙ e ∙ stem_root q b))
stem_same p q (inr a) (inr b) e = sym (stem_below p a.0) ∙ e ∙ stem_below q b.0

pub no_slash_in : (name : List ℕ) → is_name name ≡ true → have_no_slash name ≡ true
no_slash_in name h = (and_parts _ _ (and_parts _ _ h).0).1

-- one path is that of one name in one directory
pub join_same : (p q x y : List ℕ) → IsFolder p → IsFolder q → is_name x ≡ true → is_name y ≡ true → join p x ≡ join q y → (p ≡ q) × (x ≡ y)
join_same p q x y f g h k e =
    let whole : stem p ++ slash ∷ x ≡ stem q ++ slash ∷ y = sym (append_assoc (stem p) root x) ∙ e ∙ append_assoc (stem q) root y in
    let parts = cut_same (stem p) (stem q) x y (no_slash_in x h) (no_slash_in y k) whole in
    (stem_same p q f g parts.0, parts.1)
