-- Links that are added to a tree: the libraries in each directory stay the same, and the part of a directory's tree stays one.
use Rattle.std.proofs.Common.{◌≡◌, ◌<◌, ◌+◌, ℕ, true, false, cond, ◌||◌, List, [], ◌∷◌, ◌++◌, drop, flat_map, get_or, length, refl, ap, sym, subst, ◌∙◌, Option, Some, None}
use Rattle.std.proofs.lemmas.Bool.{and_parts}
use Rattle.std.specs.List.{list_all}
use Rattle.std.specs.Option.{is_some, option_and_then}
use Rattle.image_tree.proofs.Above.{found_entry}
use Rattle.image_tree.specs.Node.{is_target}
use Rattle.image_tree.specs.Paths.{is_path}
use Rattle.image_tree.specs.Tree as tree
use Rattle.image_tree.specs.Tree.{IsTree, Nodes, clashes, is_entry, node_at}
use Rattle.image_tree.specs.declared.node.Node.{Node}
use Rattle.image_tree.specs.declared.node.Node.TheVariants as node
use Rattle.lib_types.proofs.SortedPairs.{by_test}
use Rattle.library_files.specs.Places.{is_link_to}
use Rattle.link_plan.specs.declared.kinds.Planned.{Planned}
use Rattle.looked_tree.proofs.Loads.{are_now_seen, known_all, looks_more, looks_none, looks_on, next_item}
use Rattle.looked_tree.specs.Looked as looking
use Rattle.looked_tree.specs.Looked.{HasLooked, IsLookedOf, Loads, Looked}
use Rattle.place_libraries.specs.Libraries.{library_at}
use Rattle.root_folder.specs.Crash.{HasWholeTree}
use Rattle.root_folder.specs.Folder.{FolderContent, FolderState}
use Rattle.root_folder.specs.Whole.{IsWhole}
use Rattle.seen_places.proofs.Each.{all_both}
use Rattle.seen_tree.proofs.Looked.{nodes_stay, nothing_seen}
use Rattle.seen_tree.proofs.WithNode.{no_clash, part_with, seen_here}
use Rattle.seen_tree.specs.Part.{IsPart, KeepsNodes}
use Rattle.seen_tree.specs.Seen.{seen, with_found}
use Rattle.soname_links.proofs.Stays.{IsReady, dirs_stay, files_stay}
use Rattle.tree_face.specs.Known.{IfKnown}
use Rattle.looked_search.specs.Sonames.{AddsSonames, AddsTo, AddsTree, AreThose, HasLinksAt, KeepsLibraries, link_target}

-- ---- links

of_target : (o : Option Node) (target : List ℕ) → link_target o ≡ Some target → o ≡ Some (node.Link target)
of_target None target e = absurd (cc)
of_target (Some node.Dir) target e = absurd (cc)
of_target (Some (node.File key id)) target e = absurd (cc)
of_target (Some (node.Link text)) target e = let same : text ≡ target = cc in ap (λ x. Some (node.Link x)) same

no_target : (o : Option Node) → link_target o ≡ None → (text : List ℕ) → is_link_to text o ≡ false
no_target None e text = refl
no_target (Some node.Dir) e text = refl
no_target (Some (node.File key id)) e text = refl
no_target (Some (node.Link target)) e text = absurd (cc)

-- a link of a tree has a valid path and a valid target
pub link_valid : (t : Nodes) → list_all is_entry t ≡ true → (q target : List ℕ) → link_target (node_at t q) ≡ Some target → (is_path q ≡ true) × (is_target target ≡ true)
link_valid t entries q target e =
    and_parts (is_path q) (is_target target) (found_entry t q (node.Link target) entries (of_target (node_at t q) target e))

module _ (t later : Nodes) (is : IsPart t later) (q : List ℕ) where
  -- a node of the part is that of the tree
  same_there : (n : Node) → node_at later q ≡ Some n → HasLinksAt t later q
  same_there n e text = ap (is_link_to text) (e ∙ sym (is.nodes q n e))

  -- if the tree has no link there, it doesn't matter whether the part has the node
  same_without : ((text : List ℕ) → is_link_to text (node_at t q) ≡ false) → HasLinksAt t later q
  same_without none = by (node_at later q) refl
    where
      by : (o : Option Node) → node_at later q ≡ o → HasLinksAt t later q
      by (Some n) e = same_there n e
      by None e = λ text. ap (is_link_to text) e ∙ sym (none text)

-- a path without a node has had none before
none_before : (old new : Nodes) → KeepsNodes old new → (q : List ℕ) → node_at new q ≡ None → node_at old q ≡ None
none_before old new keeps q none = by (node_at old q) refl
  where
    by : (o : Option Node) → node_at old q ≡ o → o ≡ None
    by None e = refl
    by (Some n) e = let z : Some n ≡ None = sym (keeps q n e) ∙ none in absurd (cc)

-- ---- the libraries in each directory

pub keeps_all : (t : Nodes) → KeepsLibraries t t
keeps_all t = record { nodes = λ q n e. e; dirs = λ d e. e; libraries = λ what d e. refl }

keeps_on : (a b c : Nodes) → KeepsLibraries a b → KeepsLibraries b c → KeepsLibraries a c
keeps_on a b c first next = record {
  nodes = λ q n e. next.nodes q n (first.nodes q n e);
  dirs = λ d e. next.dirs d (first.dirs d e);
  libraries = λ what d e. next.libraries what d (first.dirs d e) ∙ first.libraries what d e;
}

-- ---- a link where there was nothing

module _ (old : Nodes) (is_tree : IsTree old) (q target : List ℕ) (none : node_at old q ≡ None) where
  abbrev link : Node
  link = node.Link target

  abbrev found : Nodes
  found = with_found old q (Some (node.Link target))

  abbrev planned : Planned
  planned = record { place = 0; soname = []; file = target; path = q }

  as_old : clashes old q (node.Link target) ≡ true → with_found old q (Some (node.Link target)) ≡ old
  as_old c = ap (λ o. cond (is_some o || clashes old q link) old (tree.put old q link)) none ∙ ap (λ b. cond b old (tree.put old q link)) c

  as_put : clashes old q (node.Link target) ≡ false → with_found old q (Some (node.Link target)) ≡ tree.put old q (node.Link target)
  as_put c = ap (λ o. cond (is_some o || clashes old q link) old (tree.put old q link)) none ∙ ap (λ b. cond b old (tree.put old q link)) c

  ready : clashes old q (node.Link target) ≡ false → IsReady old (planned ∷ [])
  ready c = record { sorted = is_tree.sorted; free = rw none refl; clear = rw c refl }

  put_keeps : clashes old q (node.Link target) ≡ false → KeepsLibraries old (tree.put old q (node.Link target))
  put_keeps c = record {
    nodes = subst (KeepsNodes old) (as_put c) (nodes_stay old q (Some link));
    dirs = λ d dir. dirs_stay (planned ∷ []) old (ready c) d dir;
    libraries = λ what d dir. files_stay (λ name found. option_and_then (λ path. library_at what path name name) found) (λ name. refl) d (planned ∷ []) old (ready c) dir;
  }

  found_keeps : KeepsLibraries old (with_found old q (Some (node.Link target)))
  found_keeps = by_test (clashes old q link)
      (λ c. subst (KeepsLibraries old) (sym (as_old c)) (keeps_all old))
      (λ c. subst (KeepsLibraries old) (sym (as_put c)) (put_keeps c))

  -- the link of a tree, put into its part
  module _ (t : Nodes) (whole : IsWhole t) (is : IsPart t old) (at : node_at t q ≡ Some (node.Link target)) where
    free : clashes old q (node.Link target) ≡ false
    free = no_clash t old is q link at whole

    now_there : node_at (with_found old q (Some (node.Link target))) q ≡ Some (node.Link target)
    now_there = ap (λ s. node_at s q) (as_put free) ∙ seen_here t old is q link at ∙ at

    link_added : AddsTo t old (with_found old q (Some (node.Link target))) (q ∷ []) []
    link_added = record {
      part = subst (IsPart t) (sym (as_put free)) (part_with t old is q link at whole);
      links = λ later keeps part left. (same_there t later part q link (keeps q link now_there), tt);
    }

-- ---- one path

module _ (q : List ℕ) (old : Nodes) where
  -- the tree has a node there
  pub was_there : (a : FolderState) (x : Looked) → is_some (node_at old q) ≡ true → AddsSonames (q ∷ []) [] a a x x old old
  was_there a x there = record {
    keeps = keeps_all old;
    looks = looks_none a x;
    known = known_all a.contents (λ c. IsLookedOf c.now x → (t : Nodes) → IsWhole t → IsPart t old → AreThose c.now t old → AddsTo t old old (q ∷ []) [])
        (λ c looked t whole is those. record { part = is; links = λ later keeps part left. (by (node_at old q) refl there t later keeps part, tt) });
  }
    where
      by : (o : Option Node) → node_at old q ≡ o → is_some o ≡ true → (t later : Nodes) → KeepsNodes old later → IsPart t later → HasLinksAt t later q
      by None e h t later keeps part = absurd (cc)
      by (Some n) e h t later keeps part = same_there t later part q n (keeps q n e)

  module _ (is_tree : IsTree old) (none : node_at old q ≡ None) (a b : FolderState) (x y : Looked) (loads : Loads (λ t. q ∷ []) (λ t. []) a b x y) where
    -- the directory's tree has the node that was looked up
    abbrev Sees : FolderContent → Type 0
    Sees c = IsLookedOf c.now x → node_at y.seen.part q ≡ node_at c.now q

    sees : IfKnown a.contents Sees
    sees = by a.contents loads.looks
      where
        by : (o : Option FolderContent) → IfKnown o (λ c. IsLookedOf c.now x → HasLooked c.now x y (q ∷ []) [] [] []) → IfKnown o Sees
        by None looks = tt
        by (Some c) looks = λ is. (are_now_seen c.now x y (q ∷ []) [] (looks is)).0

    -- no link is there
    pub no_link : link_target (node_at y.seen.part q) ≡ None → AddsSonames (q ∷ []) [] a b x y old old
    no_link nothing = record { keeps = keeps_all old; looks = looks_on (λ t. q ∷ []) (λ t. []) a b x y loads; known = by a.contents sees }
      where
        by : (o : Option FolderContent) → IfKnown o Sees
            → IfKnown o (λ c. IsLookedOf c.now x → (t : Nodes) → IsWhole t → IsPart t old → AreThose c.now t old → AddsTo t old old (q ∷ []) [])
        by None s = tt
        by (Some c) s = λ looked t whole is those.
            let same : node_at t q ≡ node_at y.seen.part q = those q none ∙ sym (s looked) in
            record { part = is; links = λ later keeps part left. (same_without t later part q (λ text. ap (is_link_to text) same ∙ no_target (node_at y.seen.part q) nothing text), tt) }

    -- a link is there
    pub one_link : (target : List ℕ) → link_target (node_at y.seen.part q) ≡ Some target → AddsSonames (q ∷ []) [] a b x y old (with_found old q (Some (node.Link target)))
    one_link target there = record { keeps = found_keeps old is_tree q target none; looks = looks_on (λ t. q ∷ []) (λ t. []) a b x y loads; known = by a.contents sees }
      where
        by : (o : Option FolderContent) → IfKnown o Sees
            → IfKnown o (λ c. IsLookedOf c.now x → (t : Nodes) → IsWhole t → IsPart t old → AreThose c.now t old → AddsTo t old (with_found old q (Some (node.Link target))) (q ∷ []) [])
        by None s = tt
        by (Some c) s = λ looked t whole is those.
            link_added old is_tree q target none t whole is (those q none ∙ sym (s looked) ∙ of_target (node_at y.seen.part q) target there)

-- ---- one path after another

pub begins : (all : List (List ℕ)) (a : FolderState) (x : Looked) (old : Nodes) → AddsSonames all all a a x x old old
begins all a x old = record {
  keeps = keeps_all old;
  looks = looks_none a x;
  known = known_all a.contents (λ c. IsLookedOf c.now x → (t : Nodes) → IsWhole t → IsPart t old → AreThose c.now t old → AddsTo t old old all all)
      (λ c looked t whole is those. record { part = is; links = λ later keeps part left. left });
}

module _ (all paths left : List (List ℕ)) (a b c : FolderState) (x y z : Looked) (old mid new : Nodes) (first : AddsSonames all (paths ++ left) a b x y old mid) (next : AddsSonames paths [] b c y z mid new) where
  abbrev Before : FolderContent → Type 0
  Before k = IsLookedOf k.now x → (t : Nodes) → IsWhole t → IsPart t old → AreThose k.now t old → AddsTo t old mid all (paths ++ left)

  abbrev Later : FolderContent → Type 0
  Later k = IsLookedOf k.now y → (t : Nodes) → IsWhole t → IsPart t mid → AreThose k.now t mid → AddsTo t mid new paths []

  pub adds_on : AddsSonames all left a c x z old new
  adds_on = record {
    keeps = keeps_on old mid new first.keeps next.keeps;
    looks = looks_more a b c x y z first.looks next.looks;
    known = by a.contents first.known first.looks.known (subst (λ o. IfKnown o Later) first.looks.reads.keeps.contents next.known);
  }
    where
      by : (o : Option FolderContent) → IfKnown o Before → IfKnown o (λ k. IsLookedOf k.now x → IsLookedOf k.now y) → IfKnown o Later
          → IfKnown o (λ k. IsLookedOf k.now x → (t : Nodes) → IsWhole t → IsPart t old → AreThose k.now t old → AddsTo t old new all left)
      by None f l n = tt
      by (Some k) f l n = λ looked t whole is those.
          let one = f looked t whole is those in
          let two = n (l looked) t whole one.part (λ q none. those q (none_before old mid first.keeps.nodes q none)) in
          record {
            part = two.part;
            links = λ later keeps part rest. one.links later (λ q n e. keeps q n (next.keeps.nodes q n e)) part
                (all_both (HasLinksAt t later) paths left (two.links later keeps part tt) rest);
          }

-- ---- a list of items

module _ {X : Type 0} (f : X → List (List ℕ)) (all : List (List ℕ)) (a b c : FolderState) (x y z : Looked) (old mid new : Nodes) where
  pub items_on : (xs : List X) (i : ℕ) (item e : X) → i < length xs → item ≡ get_or xs i item → e ≡ item → AddsSonames all (flat_map f (drop i xs)) a b x y old mid
      → AddsSonames (f e) [] b c y z mid new → AddsSonames all (flat_map f (drop (i + 1) xs)) a c x z old new
  items_on xs i item e less is same first next =
      adds_on all (f e) (flat_map f (drop (i + 1) xs)) a b c x y z old mid new (subst (λ l. AddsSonames all (flat_map f l) a b x y old mid) (next_item xs i item e less is same) first) next

-- ---- from nothing looked up

-- nothing was looked up yet
pub none_looked : (t : Nodes) → IsWhole t → IsLookedOf t (looking.looked (seen [] []) [])
none_looked t whole = record { seen = nothing_seen t whole; names = tt }

pub from_nothing : (paths : List (List ℕ)) (a b : FolderState) (y : Looked) (old new : Nodes) → HasWholeTree a
    → AddsSonames paths [] a b (looking.looked (seen [] []) []) y old new → AddsTree paths a b old new
from_nothing paths a b y old new whole adds = record { keeps = adds.keeps; reads = adds.looks.reads; known = by a.contents whole adds.known }
  where
    by : (o : Option FolderContent) → IfKnown o (λ c. IsWhole c.now)
        → IfKnown o (λ c. IsLookedOf c.now (looking.looked (seen [] []) []) → (t : Nodes) → IsWhole t → IsPart t old → AreThose c.now t old → AddsTo t old new paths [])
        → IfKnown o (λ c. (t : Nodes) → IsWhole t → IsPart t old → AreThose c.now t old → AddsTo t old new paths [])
    by None w known = tt
    by (Some c) w known = known (none_looked c.now w)
