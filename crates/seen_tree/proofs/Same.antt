-- At paths that were seen, the part agrees with the tree. A resolution that uses only such paths gives the same result in both.
use Rattle.std.proofs.Common.{◌≡◌, ℕ, zero, suc, Bool, true, false, cond, List, [], ◌∷◌, ◌++◌, codes, refl, ap, sym, subst, ◌∙◌, Option, Some, None, Result, Ok, Err}
use Rattle.std.specs.Str.{bytes_eq}
use Rattle.lib_types.proofs.SortedPairs.{by_test}
use Rattle.image_tree.proofs.Above.{found_any}
use Rattle.image_tree.specs.Paths.{components, is_below, is_path, join, root}
use Rattle.image_tree.specs.Tree.{Nodes, has_below, kind_at, kind_there, node_at}
use Rattle.image_tree.specs.declared.node.Node.{Node}
use Rattle.image_tree.specs.declared.node.Node.TheVariants.{Dir}
use Rattle.image_tree.specs.declared.tree.Kind.{Kind}
use Rattle.image_tree.specs.declared.tree.Kind.TheVariants as kinds
use Rattle.path_walk.proofs.KindsAt.{at_none, at_path, at_root}
use Rattle.path_walk.specs.Names.{parent}
use Rattle.path_walk.specs.Walk.{Stop, Ends, Follows, at_child, at_file, at_link, resolution, steps, target_at, target_in, walk}
use Rattle.path_walk.specs.declared.walk.Mode.{Mode}
use Rattle.path_walk.specs.declared.walk.WalkFault.{WalkFault}
use Rattle.root_folder.proofs.Dirs.{dir_above}
use Rattle.root_folder.specs.Whole.{IsWhole}
use Rattle.seen_tree.proofs.Found.{any_found}
use Rattle.seen_tree.specs.Part.{AreSeen, IsPart, IsSeen, below, looked_by, passed, walked}

kind_by : (o : Option Node) (b c : Bool) → (b ≡ true → c ≡ true) → (c ≡ true → o ≡ Some Dir) → kind_there o b ≡ kind_there o c
kind_by (Some n) b c up dir = refl
kind_by None false false up dir = refl
kind_by None true c up dir = let z : None ≡ Some Dir = dir (up refl) in absurd (cc)
kind_by None false true up dir = let z : None ≡ Some Dir = dir refl in absurd (cc)

pub seen_parts : (t part : Nodes) (xs ys : List (List ℕ)) → AreSeen t part (xs ++ ys) → AreSeen t part xs × AreSeen t part ys
seen_parts t part [] ys all = (tt, all)
seen_parts t part (x ∷ xs) ys all = let more = seen_parts t part xs ys all.1 in ((all.0, more.0), more.1)

module _ (t part : Nodes) (whole : IsWhole t) (is : IsPart t part) where
  -- if the part has a node below a path, so has the tree
  pub below_too : (q : List ℕ) → has_below part q ≡ true → has_below t q ≡ true
  below_too q h =
      let one = any_found (λ (e : List ℕ × Node). is_below q e.0) part is.sorted h in
      found_any (λ (e : List ℕ × Node). is_below q e.0) t one.path one.node (is.nodes one.path one.node one.found) one.passes

  -- at a path that was seen, the part and the tree have the same kind
  pub kind_seen : (q : List ℕ) → IsSeen t part q → kind_at part q ≡ kind_at t q
  kind_seen q seen = by_test (bytes_eq q root)
      (λ e. at_root part q e ∙ sym (at_root t q e))
      (λ e. by_test (is_path q)
      (λ p.
      at_path part q e p ∙ ap (λ o. kind_there o (has_below part q)) seen
      ∙ kind_by (node_at t q) (has_below part q) (has_below t q) (below_too q) (dir_above t whole q p) ∙ sym (at_path t q e p))
      (λ p. at_none part q e p ∙ sym (at_none t q e p)))

  module _ (mode : Mode) where
    abbrev IsSame : List (List ℕ) → List ℕ → Type 0
    IsSame names place = (steps part mode names place ≡ steps t mode names place) × (passed part names place ≡ passed t names place)

    child_seen : (name : List ℕ) (rest : List (List ℕ)) (place path : List ℕ) (kind : Kind) → IsSeen t part path → AreSeen t part (below kind (passed t rest path))
        → (AreSeen t part (passed t rest path) → IsSame rest path)
        → (at_child kind (at_link mode name (target_at part path) rest place) (at_file rest path) (steps part mode rest path)
        ≡ at_child kind (at_link mode name (target_at t path) rest place) (at_file rest path) (steps t mode rest path))
        × (below kind (passed part rest path) ≡ below kind (passed t rest path))
    child_seen name rest place path kinds.Absent here all more = (refl, refl)
    child_seen name rest place path kinds.Link here all more = (ap (λ o. at_link mode name (target_in o) rest place) here, refl)
    child_seen name rest place path kinds.File here all more = (refl, refl)
    child_seen name rest place path kinds.Dir here all more = more all

    -- a walk that uses only paths that were seen
    pub steps_seen : (names : List (List ℕ)) (place : List ℕ) → AreSeen t part (passed t names place) → IsSame names place
    steps_seen [] place all = (refl, refl)
    steps_seen (name ∷ rest) place all =
        let path = join place name in
        let up = passed t rest (parent place) in
        let down = path ∷ below (kind_at t path) (passed t rest path) in
        by_test (bytes_eq name (codes ".."))
        (λ e.
        let more = steps_seen rest (parent place) (subst (AreSeen t part) (ap (λ b. cond b up down) e) all) in
        (rw e more.0, rw e more.1))
        (λ e.
        let seen : AreSeen t part down = subst (AreSeen t part) (ap (λ b. cond b up down) e) all in
        let kind : kind_at part path ≡ kind_at t path = kind_seen path seen.0 in
        let child = child_seen name rest place path (kind_at t path) seen.0 seen.1 (steps_seen rest path) in (
          rw e (ap (λ k. at_child k (at_link mode name (target_at part path) rest place) (at_file rest path) (steps part mode rest path)) kind ∙ child.0),
          rw e (ap (λ more. path ∷ more) (ap (λ k. below k (passed part rest path)) kind ∙ child.1)),
        ))

    pub walk_seen : (links : ℕ) (stop : Stop) → AreSeen t part (walked t mode links stop)
        → (walk part mode links stop ≡ walk t mode links stop) × (walked part mode links stop ≡ walked t mode links stop)
    walk_seen zero (Ends (Ok place)) all = (refl, refl)
    walk_seen zero (Ends (Err fault)) all = (refl, refl)
    walk_seen (suc links) (Ends (Ok place)) all = (refl, refl)
    walk_seen (suc links) (Ends (Err fault)) all = (refl, refl)
    walk_seen zero (Follows names place) all = (refl, refl)
    walk_seen (suc links) (Follows names place) all =
        let parts = seen_parts t part (passed t names place) (walked t mode links (steps t mode names place)) all in
        let first = steps_seen names place parts.0 in
        let more = walk_seen links (steps t mode names place) parts.1 in (
          ap (walk part mode links) first.0 ∙ more.0,
          ap (λ xs. xs ++ walked part mode links (steps part mode names place)) first.1
              ∙ ap (λ xs. passed t names place ++ xs) (ap (walked part mode links) first.0 ∙ more.1),
        )

    -- a text resolves to the same path, and the same paths are looked up
    pub text_seen : (text : List ℕ) → AreSeen t part (looked_by t text mode)
        → (resolution part text mode ≡ resolution t text mode) × (looked_by part text mode ≡ looked_by t text mode)
    unfolding resolution looked_by
    text_seen text all = walk_seen (suc 40) (Follows (components text) root) all

    end_of_walk : (links : ℕ) (stop : Stop) (place : List ℕ) → AreSeen t part (walked t mode links stop) → walk t mode links stop ≡ Ok place → IsSeen t part place
    end_of_walk zero (Ends (Ok end)) place all e = let same : end ≡ place = cc in subst (IsSeen t part) same all.0
    end_of_walk (suc links) (Ends (Ok end)) place all e = let same : end ≡ place = cc in subst (IsSeen t part) same all.0
    end_of_walk zero (Ends (Err fault)) place all e = absurd (cc)
    end_of_walk (suc links) (Ends (Err fault)) place all e = absurd (cc)
    end_of_walk zero (Follows names from) place all e = absurd (cc)
    end_of_walk (suc links) (Follows names from) place all e =
        end_of_walk links (steps t mode names from) place (seen_parts t part (passed t names from) (walked t mode links (steps t mode names from)) all).1 e

    -- the path that a text resolves to was seen
    pub end_seen : (text place : List ℕ) → AreSeen t part (looked_by t text mode) → resolution t text mode ≡ Ok place → IsSeen t part place
    unfolding resolution looked_by
    end_seen text place all e = end_of_walk (suc 40) (Follows (components text) root) place all e
