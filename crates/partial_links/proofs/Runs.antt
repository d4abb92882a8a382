-- A run that makes planned links, and then replaces files, leaves what the next one repairs.
use Rattle.std.proofs.Common.{◌≡◌, ◌⊎◌, ◌≤◌, inl, inr, ℕ, Bool, true, false, cond, nat_lt, List, [], ◌∷◌, drop, Option, Some, None, Result, Ok, Err, refl, ap, sym, subst, ◌∙◌, arith}
use Rattle.std.proofs.lemmas.Bool.Decides.{nat_tests}
use Rattle.std.specs.Option.{option_map}
use Rattle.atomic_replace.specs.Replace.{Write}
use Rattle.aux_cache.specs.Stamps.{AreRecordable}
use Rattle.elf_dynamic.specs.Begun.{lacks_one}
use Rattle.hwcap_dirs.specs.declared.kinds.Scope.{Scope}
use Rattle.image_session.specs.Aux.{stamps_of_slot}
use Rattle.image_session.specs.Session.{Loaded}
use Rattle.image_tree.specs.Tree.{Nodes, IsPathSorted, IsTree, node_at}
use Rattle.image_tree.specs.declared.tree.TheConstants.{NODES_MAX}
use Rattle.ldconfig_core.specs.Outcome.{Lacking, Refusal, TooLarge, Writes, first_refusal, refusals, update_outcome}
use Rattle.ldso_conf.specs.Reading.{conf_lacks}
use Rattle.library_search.specs.Begun.{wanted_keys}
use Rattle.library_search.specs.Ldconfig.{conf_of, links_in}
use Rattle.link_plan.specs.declared.kinds.Planned.{Planned}
use Rattle.root_folder.specs.Crash.{HasMoments, HasWholeTree, IsSettled, Leaves}
use Rattle.root_folder.specs.Folder.{FolderContent, FolderState, KeepsFolder}
use Rattle.root_folder.specs.Found.{Found, found_eq}
use Rattle.root_folder.specs.Whole.{IsWhole}
use Rattle.root_links.specs.Links.{HasMade, IsOfLinks, MakesAll, MakesPart, MayHaveMade}
use Rattle.root_links.specs.declared.fault.LinkFault.{LinkFault}
use Rattle.root_writes.specs.Writing.{States, WritesRoot}
use Rattle.root_writes.specs.declared.fault.WriteFault.{WriteFault}
use Rattle.root_writes.specs.declared.fault.WriteFault.TheVariants.{Files, Links}
use Rattle.soname_links.specs.Apply.{nodes_with}
use Rattle.tree_face.specs.Disk.{Content}
use Rattle.tree_face.specs.Known.{IfKnown, Relates}
use Rattle.tree_face.specs.Store.{Contents}
use Rattle.tree_face.specs.declared.disk.Tag.{Tag}
use Rattle.partial_links.proofs.Left.{all_made, crash_leaves, first_made}
use Rattle.partial_links.proofs.Repaired.{repaired}
use Rattle.partial_links.proofs.Slots.{slot_recordable}
use Rattle.partial_links.proofs.Trees.{whole_tree}
use Rattle.partial_links.specs.Left.{IsLeft, MightBeLeft, Repairs, linkings}
use Rattle.partial_links.specs.Partial.{HasPart, IsOfPlan}
use Rattle.partial_links.specs.Resumed.{is_image}

-- ---- what is left

module _ (tag : Tag) (asked : List Planned) (writes : List Write) (result : Result (Unit {0}) WriteFault) (old new : States) (c : FolderContent) (known : old.folder.contents ≡ Some c)
    (written : WritesRoot tag (linkings asked) writes result old new) where
  leaves : Leaves (IsOfLinks (linkings asked)) old.folder new.folder
  leaves = by result written
    where
      by : (r : Result (Unit {0}) WriteFault) → WritesRoot tag (linkings asked) writes r old new → Leaves (IsOfLinks (linkings asked)) old.folder new.folder
      by (Ok done) w = w.0.leaves
      by (Err (Links fault)) w = w.0.leaves
      by (Err (Files fault)) w = w.0.leaves

  module _ (n : FolderContent) (there : new.folder.contents ≡ Some n) where
    related : (R : FolderContent → FolderContent → Type 0) → Relates R old.folder.contents new.folder.contents → R c n
    related R is = subst (λ o. Relates R o (Some n)) known (subst (λ o. Relates R old.folder.contents o) there is)

    all : MakesAll tag (linkings asked) old.folder new.folder → HasPart c.now asked n.now
    all makes =
        let has : HasMade (linkings asked) c n = related (HasMade (linkings asked)) makes.contents in
        subst (λ (t : Nodes). HasPart c.now asked t) (sym has.now) (all_made c.now asked)

    some : (fault : LinkFault) → MakesPart tag (linkings asked) fault old.folder new.folder → HasPart c.now asked n.now
    some fault makes =
        let has : MayHaveMade (linkings asked) fault c n = related (MayHaveMade (linkings asked) fault) makes.contents in
        subst (λ (t : Nodes). HasPart c.now asked t) (sym has.now) (first_made c.now asked has.made)

    part_there : HasPart c.now asked n.now
    part_there = by result written
      where
        by : (r : Result (Unit {0}) WriteFault) → WritesRoot tag (linkings asked) writes r old new → HasPart c.now asked n.now
        by (Ok done) w = all w.0
        by (Err (Links fault)) w = some fault w.0
        by (Err (Files fault)) w = all w.0

  left_part : ((p : List ℕ) (x : Found) → old.folder.since old.folder.time p x ≡ old.folder.may p x) → (left : Nodes) → IsLeft old.folder new.folder left → HasPart c.now asked left
  left_part moments left (inr crash) = crash_leaves old.folder new.folder c asked known moments crash.0 leaves left crash.1
  left_part moments left (inl is) = by new.folder.contents refl is
    where
      by : (o : Option FolderContent) → new.folder.contents ≡ o → option_map (λ (n : FolderContent). n.now) o ≡ Some left → HasPart c.now asked left
      by None e is = absurd (cc)
      by (Some n) e is = let same : n.now ≡ left = cc in subst (λ (t : Nodes). HasPart c.now asked t) same (part_there n e)

left_sorted : (old new : FolderState) → HasWholeTree new → (left : Nodes) → IsLeft old new left → IsPathSorted left
left_sorted old new whole left (inr crash) = crash.1.sorted
left_sorted old new whole left (inl is) = by new.contents whole is
  where
    by : (o : Option FolderContent) → IfKnown o (λ n. IsWhole n.now) → option_map (λ (n : FolderContent). n.now) o ≡ Some left → IsPathSorted left
    by None whole is = absurd (cc)
    by (Some n) whole is = let same : n.now ≡ left = cc in subst (λ (t : Nodes). IsPathSorted t) same whole.sorted

-- ---- the next run

-- if an update writes, the planned tree has room
not_many : (a b c : Bool) (n : ℕ) (rest : List Refusal) → first_refusal ((a, Lacking) ∷ (b, Lacking) ∷ (c, TooLarge n 0) ∷ rest) ≡ Writes → c ≡ false
not_many true b c n rest h = absurd (cc)
not_many false true c n rest h = absurd (cc)
not_many false false true n rest h = absurd (cc)
not_many false false false n rest h = refl

not_over : (most n : ℕ) → nat_lt most n ≡ false → n ≤ most
not_over most n h = grind (arith, nat_tests)

room_for : (scope : Scope) (held : Contents) (s : Loaded) → update_outcome scope held s ≡ Writes → nodes_with s.tree (links_in scope held s.tree s.stamps) ≤ NODES_MAX
unfolding update_outcome
room_for scope held s h =
    let nodes = nodes_with s.tree (links_in scope held s.tree s.stamps) in
    let conf_lack = conf_lacks (conf_of scope) held s.tree in
    let wanted_lack = lacks_one held (wanted_keys scope held s.tree s.stamps) in
    not_over NODES_MAX nodes (not_many conf_lack wanted_lack (nat_lt NODES_MAX nodes) nodes (drop 3 (refusals scope held s)) h)

-- links that aren't asked for aren't made
wider : (t left : Nodes) (plan : List Planned) (asked : Bool) → HasPart t (cond asked plan []) left → HasPart t plan left
wider t left plan true part path = part path
wider t left plan false part path = by (part path)
  where
    by : (node_at left path ≡ node_at t path) ⊎ ⊥ → (node_at left path ≡ node_at t path) ⊎ IsOfPlan plan path (node_at left path)
    by (inl same) = inl same
    by (inr none) = absurd none

-- a reading changes nothing of what is left
module _ (start old new : FolderState) (keeps : KeepsFolder start old) where
  same_moments : HasMoments start → (p : List ℕ) (x : Found) → old.since old.time p x ≡ old.may p x
  same_moments moments p x =
      ap (λ f. f old.time p x) keeps.since ∙ ap (λ t. start.since t p x) keeps.time ∙ moments.now p x ∙ sym (ap (λ f. f p x) keeps.may)

  same_settled : IsSettled start → IsSettled old
  same_settled settled = record {
    settled = subst (λ o. IfKnown o (λ (c : FolderContent). (p : List ℕ) → c.settled p ≡ node_at c.now p)) (sym keeps.contents) settled.settled;
    left = subst (λ o. IfKnown o (λ (c : FolderContent). (p : List ℕ) (x : Found) → old.may p x ≡ found_eq (node_at c.now p) x)) (sym keeps.contents)
        (subst (λ (f : List ℕ → Found → Bool). IfKnown start.contents (λ (c : FolderContent). (p : List ℕ) (x : Found) → f p x ≡ found_eq (node_at c.now p) x)) (sym keeps.may) settled.left);
  }

  same_left : (left : Nodes) → IsLeft start new left → IsLeft old new left
  same_left left (inl is) = inl is
  same_left left (inr crash) = inr (same_settled crash.0, subst (λ t. MightBeLeft t new left) (sym keeps.time) crash.1)

-- An update of this image has read the directory, and made the links of its plan, or some of them: whatever is left is repaired.
pub repairs : (scope : Scope) → is_image scope ≡ false → (held : Contents) (s : Loaded) (aux : Content) (plan : List Planned) (asked : Bool) (tag : Tag) (writes : List Write)
    (result : Result (Unit {0}) WriteFault) (start : FolderState) (old new : States) (c : FolderContent)
    → s.stamps ≡ stamps_of_slot aux → start.contents ≡ Some c → s.tree ≡ c.now → update_outcome scope held s ≡ Writes → plan ≡ links_in scope held s.tree s.stamps
    → KeepsFolder start old.folder → HasMoments start → HasWholeTree start → HasWholeTree new.folder
    → WritesRoot tag (linkings (cond asked plan [])) writes result old new → Repairs scope held s start new.folder
repairs scope none held s aux plan asked tag writes result start old new c stamps_are known tree_is outcome plan_is keeps moments whole later written left is =
    let here = same_left start old.folder new.folder keeps left is in
    let made = left_part tag (cond asked plan []) writes result old new c (keeps.contents ∙ known) written (same_moments start old.folder new.folder keeps moments) left here in
    let part : HasPart c.now plan left = wider c.now left plan asked made in
    let room = room_for scope held s outcome in
    let of_dir : IsWhole c.now = subst (λ o. IfKnown o (λ (c : FolderContent). IsWhole c.now)) known whole in
    let tree : IsTree s.tree = whole_tree s.tree (subst (λ (t : Nodes). IsWhole t) (sym tree_is) of_dir) (omega (arith, room)) in
    repaired scope none held s left tree (subst AreRecordable (sym stamps_are) (slot_recordable aux)) (left_sorted start new.folder later left is) room
    (subst (λ (p : List Planned). HasPart s.tree p left) plan_is (subst (λ (t : Nodes). HasPart t plan left) (sym tree_is) part))
