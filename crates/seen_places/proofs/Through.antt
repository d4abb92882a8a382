-- A walk in the tree with the planned links passes paths that a walk in the tree passes, planned links, and the files that these name.
use Rattle.std.proofs.Common.{◌≡◌, ◌⊎◌, inl, inr, ℕ, zero, suc, Bool, true, false, cond, not, ◌&&◌, ◌||◌, ◌==◌, nat_eq, List, [], ◌∷◌, ◌++◌, codes, refl, ap, sym, subst, ◌∙◌, Option, Some, None, Ok, Err, arith}
use Rattle.std.proofs.lemmas.Bool.{and_parts}
use Rattle.std.proofs.lemmas.Bool.Decides.{nat_tests}
use Rattle.std.proofs.lemmas.List.{append_cancel_right}
use Rattle.std.proofs.lemmas.Slice.Eq.{bytes_eq-Decides}
use Rattle.std.specs.List.{AllByRecursion, starts_with}
use Rattle.std.specs.Str.{bytes_eq}
use Rattle.image_tree.proofs.Above.{found_entry}
use Rattle.image_tree.proofs.OneMore.{put_here}
use Rattle.image_tree.specs.Paths.{components, folder, is_path, join, root}
use Rattle.image_tree.specs.Tree.{Nodes, has_below, kind_at, kind_there, node_at}
use Rattle.image_tree.specs.declared.node.Node.{Node}
use Rattle.image_tree.specs.declared.node.Node.TheVariants as node
use Rattle.image_tree.specs.declared.tree.Kind.{Kind}
use Rattle.image_tree.specs.declared.tree.Kind.TheVariants as kinds
use Rattle.lib_types.proofs.Bools.{not_true}
use Rattle.lib_types.proofs.SortedPairs.{by_test}
use Rattle.lib_types.specs.Name.{have_no_slash, is_name, slash}
use Rattle.link_plan.specs.declared.kinds.Planned.{Planned}
use Rattle.path_walk.proofs.KindsAt.{at_none, at_path, at_root, kind_of_node}
use Rattle.path_walk.proofs.Last.{last_alone, last_joined}
use Rattle.path_walk.proofs.Linked.{name_is_component, no_dots}
use Rattle.path_walk.specs.Names.{last, parent}
use Rattle.path_walk.specs.Walk.{Stop, Ends, Follows, at_child, at_file, at_link, start_of, steps, target_at, target_in}
use Rattle.path_walk.specs.declared.walk.Mode.TheVariants.{Full}
use Rattle.root_folder.proofs.Dirs.{dir_above}
use Rattle.root_folder.specs.Whole.{IsWhole}
use Rattle.seen_tree.proofs.Same.{seen_parts}
use Rattle.seen_tree.specs.Part.{AreSeen, IsSeen, below, passed, walked}
use Rattle.soname_links.specs.Plan.{with_link, with_links}
use Rattle.seen_places.proofs.Planned.{not_put}
use Rattle.seen_places.specs.Planned.{is_put, unput}
use Rattle.path_walk.proofs.Alone.{IsAlone, AreAlone, components_alone, both_alone}

-- ---- texts without a slash

-- two paths of one directory
next_to : (place d name soname file : List ℕ) → IsAlone name → is_name soname ≡ true → join place name ≡ join d soname → join place file ≡ join d file
next_to place d name soname file alone named same =
    let one : name ≡ soname = sym (last_alone place name alone) ∙ ap last same ∙ last_joined d soname named in
    let stem : folder place ≡ folder d = append_cancel_right (folder place) (folder d) soname (ap (λ n. folder place ++ n) (sym one) ∙ same) in
    ap (λ f. f ++ file) stem

not_rooted : (name : List ℕ) → is_name name ≡ true → starts_with nat_eq name root ≡ false
not_rooted [] h = absurd (cc)
not_rooted (b ∷ name) h =
    let parts = and_parts (not (b == slash) && not (b == 0)) (have_no_slash name) (and_parts _ _ (and_parts _ _ h).0).1 in
    ap (λ c. c && starts_with nat_eq name []) (turned b (not_true (b == slash) (and_parts _ _ parts.0).0))
  where
    turned : (b : ℕ) → (b == slash) ≡ false → nat_eq slash b ≡ false
    turned b h = grind (arith, nat_tests)

-- ---- the planned links

-- the link names a file next to it, which was seen and stays a file
pub record IsNear (plan : List Planned) (t part : Nodes) (planned : Planned) : Type 0 where
  pub dir : List ℕ
  pub soname : List ℕ
  pub named : is_name soname ≡ true
  pub path : planned.path ≡ join dir soname
  pub file_named : is_name planned.file ≡ true
  pub file : kind_at (with_links t plan) (join dir planned.file) ≡ kinds.File
  pub seen : IsSeen t part (join dir planned.file)

-- a planned link, with its node
pub record IsPlannedAt (P : Planned → Type 0) (t : Nodes) (q : List ℕ) : Type 0 where
  pub planned : Planned
  pub holds : P planned
  pub path : planned.path ≡ q
  pub node : node_at t q ≡ Some (node.Link planned.file)

pub planned_at : (P : Planned → Type 0) (plan : List Planned) (t : Nodes) (q : List ℕ) → AllByRecursion P plan → is_put plan q ≡ true → IsPlannedAt P (with_links t plan) q
planned_at P [] t q all h = absurd (cc)
planned_at P (planned ∷ plan) t q all h = by_test (is_put plan q)
    (λ e. planned_at P plan (with_link t planned) q all.1 e)
    (λ e.
    let here : bytes_eq q planned.path ≡ true = first (bytes_eq q planned.path) (is_put plan q) e h in
    let same : q ≡ planned.path = (bytes_eq-Decides q planned.path).0 here in
    record {
      planned = planned;
      holds = all.0;
      path = sym same;
      node = not_put plan (with_link t planned) q e ∙ ap (node_at (with_link t planned)) same ∙ put_here planned.path (node.Link planned.file) t;
    })
  where
    first : (a b : Bool) → b ≡ false → (a || b) ≡ true → a ≡ true
    first true b e h = refl
    first false b e h = absurd (cc)

kind_two : (o : Option Node) (b c : Bool) → (b ≡ true → o ≡ Some node.Dir) → (c ≡ true → o ≡ Some node.Dir) → kind_there o b ≡ kind_there o c
kind_two (Some n) b c up dir = refl
kind_two None false false up dir = refl
kind_two None true c up dir = let z : None ≡ Some node.Dir = up refl in absurd (cc)
kind_two None false true up dir = let z : None ≡ Some node.Dir = dir refl in absurd (cc)

-- other paths keep their kinds
pub same_kind : (t : Nodes) (plan : List Planned) → IsWhole t → IsWhole (with_links t plan) → (q : List ℕ) → is_put plan q ≡ false → kind_at (with_links t plan) q ≡ kind_at t q
same_kind t plan whole later q e =
    let after : Nodes = with_links t plan in
    let same : node_at after q ≡ node_at t q = not_put plan t q e in
    by_test (bytes_eq q root)
    (λ r. at_root after q r ∙ sym (at_root t q r))
    (λ r. by_test (is_path q)
    (λ p.
    at_path after q r p ∙ ap (λ o. kind_there o (has_below after q)) same
    ∙ kind_two (node_at t q) (has_below after q) (has_below t q) (λ b. sym same ∙ dir_above after later q p b) (dir_above t whole q p)
    ∙ sym (at_path t q r p))
    (λ p. at_none after q r p ∙ sym (at_none t q r p)))

-- ---- walks

module _ (t part : Nodes) (plan : List Planned) (whole : IsWhole t) (later : IsWhole (with_links t plan)) (near : AllByRecursion (IsNear plan t part) plan) where
  abbrev after : Nodes
  after = with_links t plan

  keep_seen : (paths : List (List ℕ)) → AreSeen t part paths → AreSeen t part (unput plan paths)
  keep_seen [] all = tt
  keep_seen (z ∷ paths) all = by_test (is_put plan z)
      (λ e. subst (λ b. AreSeen t part (cond (not b) (z ∷ unput plan paths) (unput plan paths))) (sym e) (keep_seen paths all.1))
      (λ e. subst (λ b. AreSeen t part (cond (not b) (z ∷ unput plan paths) (unput plan paths))) (sym e) (all.0, keep_seen paths all.1))

  pub unput_both : (xs ys : List (List ℕ)) → AreSeen t part (unput plan xs) → AreSeen t part (unput plan ys) → AreSeen t part (unput plan (xs ++ ys))
  unput_both [] ys first more = more
  unput_both (z ∷ xs) ys first more = by_test (is_put plan z)
      (λ e.
      subst (λ b. AreSeen t part (cond (not b) (z ∷ unput plan (xs ++ ys)) (unput plan (xs ++ ys)))) (sym e)
      (unput_both xs ys (subst (λ b. AreSeen t part (cond (not b) (z ∷ unput plan xs) (unput plan xs))) e first) more))
      (λ e.
      let here : AreSeen t part (z ∷ unput plan xs) = subst (λ b. AreSeen t part (cond (not b) (z ∷ unput plan xs) (unput plan xs))) e first in
      subst (λ b. AreSeen t part (cond (not b) (z ∷ unput plan (xs ++ ys)) (unput plan (xs ++ ys)))) (sym e) (here.0, unput_both xs ys here.1 more))

  -- the walk must follow a planned link, to a file that was seen
  record IsAtLink (stop : Stop) : Type 0 where
    file : List ℕ
    rest : List (List ℕ)
    place : List ℕ
    stop_is : stop ≡ Follows (file ∷ rest) place
    named : is_name file ≡ true
    kind : kind_at after (join place file) ≡ kinds.File
    seen : IsSeen t part (join place file)

  -- the names that are left have no slash
  abbrev IsGood : Stop → Type 0
  IsGood (Ends result) = Unit {0}
  IsGood (Follows names place) = AreAlone names

  -- both walks stop at the same, or that in the tree with the planned links is at one of these
  abbrev StopsSo : Stop → Stop → Type 0
  StopsSo new old = ((new ≡ old) × IsGood old) ⊎ IsAtLink new

  abbrev Goes : List (List ℕ) → List ℕ → Type 0
  Goes names place = AreSeen t part (unput plan (passed after names place)) × StopsSo (steps after Full names place) (steps t Full names place)

  file_good : (rest : List (List ℕ)) (path : List ℕ) → IsGood (at_file rest path)
  file_good [] path = tt
  file_good (name ∷ rest) path = tt

  module _ (name : List ℕ) (rest : List (List ℕ)) (place : List ℕ) where
    abbrev path : List ℕ
    path = join place name

    -- at a planned link
    at_planned : IsAlone name → is_put plan (join place name) ≡ true
        → AreSeen t part (unput plan (join place name ∷ below (kind_at after (join place name)) (passed after rest (join place name))))
        × IsAtLink (at_child (kind_at after (join place name)) (at_link Full name (target_at after (join place name)) rest place) (at_file rest (join place name)) (steps after Full rest (join place name)))
    at_planned alone p =
        let link = planned_at (IsNear plan t part) plan t path near p in
        let one = link.holds in
        let file : List ℕ = link.planned.file in
        let proper : is_path path ≡ true = (and_parts _ _ (found_entry after path (node.Link file) later.entries link.node)).0 in
        let kind : kind_at after path ≡ kinds.Link = kind_of_node after path (node.Link file) proper link.node in
        let same : join place file ≡ join one.dir file = next_to place one.dir name one.soname file alone one.named (sym link.path ∙ one.path) in
        let goes_on : at_link Full name (target_at after path) rest place ≡ Follows (file ∷ rest) place =
        ap (λ o. Follows (components (target_in o) ++ rest) (start_of (target_in o) place)) link.node
        ∙ ap (λ names. Follows (names ++ rest) (start_of file place)) (name_is_component file one.file_named)
        ∙ ap (λ b. Follows (file ∷ rest) (cond b root place)) (not_rooted file one.file_named) in (
          subst (λ k. AreSeen t part (unput plan (path ∷ below k (passed after rest path)))) (sym kind)
              (subst (λ b. AreSeen t part (cond (not b) (path ∷ []) [])) (sym p) tt),
          record {
            file = file;
            rest = rest;
            place = place;
            stop_is = ap (λ k. at_child k (at_link Full name (target_at after path) rest place) (at_file rest path) (steps after Full rest path)) kind ∙ goes_on;
            named = one.file_named;
            kind = ap (kind_at after) same ∙ one.file;
            seen = subst (IsSeen t part) (sym same) one.seen;
          },
        )

    -- at another path
    child_goes : (k : Kind) → IsAlone name → AreAlone rest → is_put plan (join place name) ≡ false → IsSeen t part (join place name) → AreSeen t part (below k (passed t rest (join place name)))
        → (AreSeen t part (passed t rest (join place name)) → Goes rest (join place name))
        → AreSeen t part (unput plan (join place name ∷ below k (passed after rest (join place name))))
        × StopsSo (at_child k (at_link Full name (target_at after (join place name)) rest place) (at_file rest (join place name)) (steps after Full rest (join place name)))
        (at_child k (at_link Full name (target_at t (join place name)) rest place) (at_file rest (join place name)) (steps t Full rest (join place name)))
    child_goes kinds.Absent alone more p here all next = (keep_seen (path ∷ []) (here, tt), inl (refl, tt))
    child_goes kinds.File alone more p here all next = (keep_seen (path ∷ []) (here, tt), inl (refl, file_good rest path))
    child_goes kinds.Link alone more p here all next = (
      keep_seen (path ∷ []) (here, tt),
      inl (
        ap (λ o. at_link Full name (target_in o) rest place) (not_put plan t path p),
        both_alone (components (target_at t path)) rest (components_alone (target_at t path)) more,
      ),
    )
    child_goes kinds.Dir alone more p here all next =
        let goes = next all in (unput_both (path ∷ []) (passed after rest path) (keep_seen (path ∷ []) (here, tt)) goes.0, goes.1)

    child : IsAlone name → AreAlone rest → IsSeen t part (join place name) → AreSeen t part (below (kind_at t (join place name)) (passed t rest (join place name)))
        → (AreSeen t part (passed t rest (join place name)) → Goes rest (join place name))
        → AreSeen t part (unput plan (join place name ∷ below (kind_at after (join place name)) (passed after rest (join place name))))
        × StopsSo (at_child (kind_at after (join place name)) (at_link Full name (target_at after (join place name)) rest place) (at_file rest (join place name)) (steps after Full rest (join place name)))
        (at_child (kind_at t (join place name)) (at_link Full name (target_at t (join place name)) rest place) (at_file rest (join place name)) (steps t Full rest (join place name)))
    child alone more here all next = by_test (is_put plan path)
        (λ p. let at = at_planned alone p in (at.0, inr at.1))
        (λ p.
        subst (λ k. AreSeen t part (unput plan (path ∷ below k (passed after rest path)))
        × StopsSo (at_child k (at_link Full name (target_at after path) rest place) (at_file rest path) (steps after Full rest path))
        (at_child (kind_at t path) (at_link Full name (target_at t path) rest place) (at_file rest path) (steps t Full rest path)))
        (sym (same_kind t plan whole later path p)) (child_goes (kind_at t path) alone more p here all next))

  goes : (names : List (List ℕ)) (place : List ℕ) → AreAlone names → AreSeen t part (passed t names place) → Goes names place
  goes [] place alone all = (tt, inl (refl, tt))
  goes (name ∷ rest) place alone all =
      let path = join place name in
      let up = passed t rest (parent place) in
      let down = path ∷ below (kind_at t path) (passed t rest path) in
      by_test (bytes_eq name (codes ".."))
      (λ e.
      let more = goes rest (parent place) alone.1 (subst (AreSeen t part) (ap (λ b. cond b up down) e) all) in
      (rw e more.0, rw e more.1))
      (λ e.
      let seen : AreSeen t part down = subst (AreSeen t part) (ap (λ b. cond b up down) e) all in
      let here = child name rest place alone.0 alone.1 seen.0 seen.1 (goes rest path alone.1) in
      (rw e here.0, rw e here.1))

  -- the walk ends at the file of a planned link
  file_end : (links : ℕ) (rest : List (List ℕ)) (q : List ℕ) → IsSeen t part q → AreSeen t part (walked after Full links (at_file rest q))
  file_end zero [] q here = (here, tt)
  file_end (suc links) [] q here = (here, tt)
  file_end zero (name ∷ rest) q here = tt
  file_end (suc links) (name ∷ rest) q here = tt

  link_end : (links : ℕ) (stop : Stop) → IsAtLink stop → AreSeen t part (unput plan (walked after Full links stop))
  link_end zero stop at = subst (λ s. AreSeen t part (unput plan (walked after Full zero s))) (sym at.stop_is) tt
  link_end (suc links) stop at =
      let q = join at.place at.file in
      let dots : bytes_eq at.file (codes "..") ≡ false = (no_dots at.file at.named).1 in
      let first : passed after (at.file ∷ at.rest) at.place ≡ q ∷ [] =
      ap (λ b. cond b (passed after at.rest (parent at.place)) (q ∷ below (kind_at after q) (passed after at.rest q))) dots
      ∙ ap (λ k. q ∷ below k (passed after at.rest q)) at.kind in
      let next : steps after Full (at.file ∷ at.rest) at.place ≡ at_file at.rest q =
      ap (λ b. cond b (steps after Full at.rest (parent at.place))
      (at_child (kind_at after q) (at_link Full at.file (target_at after q) at.rest at.place) (at_file at.rest q) (steps after Full at.rest q))) dots
      ∙ ap (λ k. at_child k (at_link Full at.file (target_at after q) at.rest at.place) (at_file at.rest q) (steps after Full at.rest q)) at.kind in
      subst (λ s. AreSeen t part (unput plan (walked after Full (suc links) s))) (sym at.stop_is)
      (unput_both (passed after (at.file ∷ at.rest) at.place) (walked after Full links (steps after Full (at.file ∷ at.rest) at.place))
      (subst (λ l. AreSeen t part (unput plan l)) (sym first) (keep_seen (q ∷ []) (at.seen, tt)))
      (subst (λ s. AreSeen t part (unput plan (walked after Full links s))) (sym next) (keep_seen (walked after Full links (at_file at.rest q)) (file_end links at.rest q at.seen))))

  goes_on : (links : ℕ) (new old : Stop) → StopsSo new old → (IsGood old → AreSeen t part (unput plan (walked after Full links old))) → AreSeen t part (unput plan (walked after Full links new))
  goes_on links new old (inl same) next = subst (λ s. AreSeen t part (unput plan (walked after Full links s))) (sym same.0) (next same.1)
  goes_on links new old (inr at) next = link_end links new at

  pub walk_goes : (links : ℕ) (stop : Stop) → IsGood stop → AreSeen t part (walked t Full links stop) → AreSeen t part (unput plan (walked after Full links stop))
  walk_goes zero (Ends (Ok place)) good all = keep_seen (place ∷ []) all
  walk_goes zero (Ends (Err fault)) good all = tt
  walk_goes (suc links) (Ends (Ok place)) good all = keep_seen (place ∷ []) all
  walk_goes (suc links) (Ends (Err fault)) good all = tt
  walk_goes zero (Follows names place) good all = tt
  walk_goes (suc links) (Follows names place) good all =
      let parts = seen_parts t part (passed t names place) (walked t Full links (steps t Full names place)) all in
      let first = goes names place good parts.0 in
      unput_both (passed after names place) (walked after Full links (steps after Full names place)) first.0
      (goes_on links (steps after Full names place) (steps t Full names place) first.1 (λ g. walk_goes links (steps t Full names place) g parts.1))
