-- What a crash leaves of a directory, over several calls.
use Rattle.std.proofs.Common.{◌≡◌, ◌≤◌, ◌⊎◌, ℕ, Bool, true, List, refl, ap, sym, subst, ◌∙◌, inl, inr, ⊎_elim, arith, Option, Some, None, Result, Ok, Err}
use Rattle.std.proofs.lemmas.Slice.Eq.{bytes_eq-Decides}
use Rattle.std.specs.Str.{bytes_eq}
use Rattle.lib_types.proofs.SortedPairs.{by_test}
use Rattle.lib_types.specs.declared.fault.Failed.{Failed}
use Rattle.image_tree.specs.Tree.{node_at}
use Rattle.image_tree.specs.declared.node.Node.TheVariants.{Link}
use Rattle.tree_face.specs.Known.{IfKnown}
use Rattle.root_folder.proofs.Moments.{found_is}
use Rattle.root_folder.specs.Crash.{AddsLink, HasMoments, Leaves, LeavesAtMost, LeavesSame, Settles, is_link_to}
use Rattle.root_folder.specs.Folder.{FolderContent, FolderState, KeepsFolder}
use Rattle.root_folder.specs.Found.{Found, found_eq}
use Rattle.root_folder.specs.Whole.{is_in}
use Rattle.lib_types.proofs.Bools.{or_true}

module _ (P : List ℕ → Found → Type 0) where
  -- two calls in sequence
  pub leaves_on : (a b c : FolderState) → Leaves P a b → Leaves P b c → Leaves P a c
  leaves_on a b c first next = record {
    later = omega (arith, first.later, next.later);
    during = λ t p x le since. ⊎_elim (λ e. first.during t p x le e) (λ allowed. inr allowed) (next.during t p x (omega (arith, le, first.later)) since);
    now = λ p x may. ⊎_elim (λ e. first.now p x e) (λ allowed. inr allowed) (next.now p x may);
  }

  module _ (a b : FolderState) where
    -- a call that reads
    pub reading_leaves : KeepsFolder a b → Leaves P a b
    reading_leaves keeps = record {
      later = let same = keeps.time in omega (arith, same);
      during = λ t p x le since. inl (sym (ap (λ (f : ℕ → List ℕ → Found → Bool). f t p x) keeps.since) ∙ since);
      now = λ p x may. inl (sym (ap (λ (f : List ℕ → Found → Bool). f p x) keeps.may) ∙ may);
    }

    -- a path at which a crash leaves what it might have left before
    same_during : (t : ℕ) (p : List ℕ) (x : Found) → LeavesSame p a b → t ≤ a.time → b.since t p x ≡ true → (a.since t p x ≡ true) ⊎ P p x
    same_during t p x same le since = inl (sym (same.during t x le) ∙ since)

    same_now : (p : List ℕ) (x : Found) → LeavesSame p a b → b.may p x ≡ true → (a.may p x ≡ true) ⊎ P p x
    same_now p x same may = inl (sym (same.now x) ∙ may)

    -- a link that P allows
    module _ (path target : List ℕ) (allowed : P path (Some (Link target))) where
      it_is : (x : Found) → is_link_to target x ≡ true → P path x
      it_is x e = subst (λ (f : Found). P path f) (found_is (Some (Link target)) x e) allowed

      at_most : (r : Result (Unit {0}) Failed) → AddsLink path target a b r → LeavesAtMost (is_link_to target) path a b
      at_most (Ok x) adds = record { now = λ x may. sym (adds.done.now x) ∙ may; during = λ t x le since. sym (adds.done.during t x le) ∙ since }
      at_most (Err x) adds = adds.failed

      pub link_leaves : (r : Result (Unit {0}) Failed) → AddsLink path target a b r → Leaves P a b
      link_leaves r adds = record {
        later = adds.goes_on.later;
        during = λ t p x le since. by_test (bytes_eq p path)
            (λ here.
            let same : p ≡ path = (bytes_eq-Decides p path).0 here in
            let there : b.since t path x ≡ true = subst (λ (q : List ℕ). b.since t q x ≡ true) same since in
            subst (λ (q : List ℕ). (a.since t q x ≡ true) ⊎ P q x) (sym same)
            (⊎_elim (λ e. inl e) (λ e. inr (it_is x e)) (or_true (a.since t path x) (is_link_to target x) ((at_most r adds).during t x le there))))
            (λ other. same_during t p x (adds.others p other) le since);
        now = λ p x may. by_test (bytes_eq p path)
            (λ here.
            let same : p ≡ path = (bytes_eq-Decides p path).0 here in
            let there : b.may path x ≡ true = subst (λ (q : List ℕ). b.may q x ≡ true) same may in
            subst (λ (q : List ℕ). (a.may q x ≡ true) ⊎ P q x) (sym same)
            (⊎_elim (λ e. inl e) (λ e. inr (it_is x e)) (or_true (a.may path x) (is_link_to target x) ((at_most r adds).now x there))))
            (λ other. same_now p x (adds.others p other) may);
      }

    -- an fsync of a directory
    module _ (dir : List ℕ) (laws : HasMoments a) where
      settled_now : (c : Option FolderContent) → a.contents ≡ c → (p : List ℕ) (x : Found) → IfKnown c (λ c. b.may p x ≡ found_eq (node_at c.now p) x) → b.may p x ≡ true → a.may p x ≡ true
      settled_now None is p x done may = laws.unknown is p x
      settled_now (Some c) is p x done may =
          let held : IfKnown (Some c) (λ c. (p : List ℕ) → a.may p (node_at c.now p) ≡ true) = subst (λ (o : Option FolderContent). IfKnown o (λ c. (p : List ℕ) → a.may p (node_at c.now p) ≡ true)) is laws.held in
          subst (λ (f : Found). a.may p f ≡ true) (found_is (node_at c.now p) x (sym done ∙ may)) (held p)

      at_path : (c : Option FolderContent) (p : List ℕ) (x : Found) → is_in dir p ≡ true
          → IfKnown c (λ c. (p : List ℕ) (x : Found) → is_in dir p ≡ true → b.may p x ≡ found_eq (node_at c.now p) x) → IfKnown c (λ c. b.may p x ≡ found_eq (node_at c.now p) x)
      at_path None p x inside done = tt
      at_path (Some c) p x inside done = done p x inside

      pub settling_leaves : (r : Result (Unit {0}) Failed) → Settles dir a b r → Leaves P a b
      settling_leaves (Ok u) settles = record {
        later = settles.goes_on.later;
        during = λ t p x le since. inl (sym (settles.during t p x le) ∙ since);
        now = λ p x may. by_test (is_in dir p)
            (λ inside. inl (settled_now a.contents refl p x (at_path a.contents p x inside settles.done) may))
            (λ other. same_now p x (settles.others p other) may);
      }
      settling_leaves (Err e) settles = record {
        later = settles.goes_on.later;
        during = λ t p x le since. inl (sym (settles.during t p x le) ∙ since);
        now = λ p x may. same_now p x (settles.failed p) may;
      }
