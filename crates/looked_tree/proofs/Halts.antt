-- Walks that look up their paths: one step after another, and one link after another.
use Rattle.std.proofs.Common.{◌≡◌, ℕ, zero, suc, false, cond, ◌-◌, ◌+◌, List, [], ◌∷◌, ◌++◌, append-nil, codes, refl, ap, sym, subst, ◌∙◌, Ok, Err}
use Rattle.std.specs.Str.{bytes_eq}
use Rattle.image_tree.specs.Paths.{components, join, root}
use Rattle.image_tree.specs.Tree.{Nodes, kind_at}
use Rattle.image_tree.specs.declared.tree.Kind.TheVariants as kinds
use Rattle.path_walk.specs.Names.{parent}
use Rattle.path_walk.specs.Walk.{Stop, Ends, Follows, at_child, at_file, at_link, steps, target_at, target_in}
use Rattle.path_walk.specs.declared.walk.Mode.{Mode}
use Rattle.path_walk.specs.declared.walk.WalkFault.{WalkFault}
use Rattle.root_folder.specs.Folder.{FolderContent, FolderState}
use Rattle.seen_tree.specs.Part.{IsSeen, below, looked_by, passed, walked}
use Rattle.tree_face.specs.Known.{IfKnown}
use Rattle.looked_tree.proofs.Loads.{are_now_seen, begins, goes_on, kind_looked, known_all, known_both}
use Rattle.looked_tree.specs.Halts.{GoesOn, HaltsAt, IsStep, stepped}
use Rattle.looked_tree.specs.Looked.{Asked, HasLooked, IsLookedOf, Loads, LoadsPart, Looked}
use Rattle.looked_tree.specs.declared.walking.Halt.{Halt}
use Rattle.looked_tree.specs.declared.walking.Halt.TheVariants as halt
use Rattle.looked_tree.specs.declared.walking.Step.{Step}
use Rattle.looked_tree.specs.declared.walking.Step.TheVariants as step

-- ---- one name

module _ (mode : Mode) (name : List ℕ) (rest : List (List ℕ)) (place : List ℕ) where
  abbrev path : List ℕ
  path = join place name

  down : (t : Nodes) → bytes_eq name (codes "..") ≡ false → passed t (name ∷ rest) place ≡ path ∷ below (kind_at t path) (passed t rest path)
  down t e = ap (λ b. cond b (passed t rest (parent place)) (path ∷ below (kind_at t path) (passed t rest path))) e

  by_child : (t : Nodes) → bytes_eq name (codes "..") ≡ false → steps t mode (name ∷ rest) place
      ≡ at_child (kind_at t path) (at_link mode name (target_at t path) rest place) (at_file rest path) (steps t mode rest path)
  by_child t e = ap (λ b. cond b (steps t mode rest (parent place)) (at_child (kind_at t path) (at_link mode name (target_at t path) rest place) (at_file rest path) (steps t mode rest path))) e

  is_stepped : bytes_eq name (codes "..") ≡ false → stepped name place ≡ path ∷ []
  is_stepped e = ap (λ b. cond b [] (path ∷ [])) e

  -- the path of the name was looked up
  pub goes_down : (t part : Nodes) (s : Step) → bytes_eq name (codes "..") ≡ false → kind_at part path ≡ kind_at t path → IsSeen t part path
      → IsStep part mode name rest place s → GoesOn t mode name rest place s
  goes_down t part (step.To new) e kind seen (dir, is) =
      let there : kind_at t path ≡ kinds.Dir = sym kind ∙ dir in
      subst (λ (p : List ℕ). (passed t (name ∷ rest) place ≡ stepped name place ++ passed t rest p) × (steps t mode (name ∷ rest) place ≡ steps t mode rest p)) (sym is) (
        down t e ∙ ap (λ k. path ∷ below k (passed t rest path)) there ∙ ap (λ xs. xs ++ passed t rest path) (sym (is_stepped e)),
        by_child t e ∙ ap (λ k. at_child k (at_link mode name (target_at t path) rest place) (at_file rest path) (steps t mode rest path)) there,
      )
  goes_down t part (step.Halts h) e kind seen (none, halts) = (
    down t e ∙ ap (λ xs. path ∷ xs) (ap (λ k. below k (passed t rest path)) (sym kind) ∙ none (passed t rest path)) ∙ sym (is_stepped e),
    subst (HaltsAt h)
        (ap (λ k. at_child k (at_link mode name (target_at part path) rest place) (at_file rest path) (steps t mode rest path)) kind
        ∙ ap (λ o. at_child (kind_at t path) (at_link mode name (target_in o) rest place) (at_file rest path) (steps t mode rest path)) seen
        ∙ sym (by_child t e))
        (halts (steps t mode rest path)),
  )

  -- what follows a name, after the name's path was looked up
  pub step_looked : (s : Step) (a b : FolderState) (x y : Looked) → bytes_eq name (codes "..") ≡ false
      → Loads (λ t. path ∷ []) (λ t. []) a b x y → IsStep y.seen.part mode name rest place s
      → Loads (λ t. stepped name place) (λ t. []) a b x y × IfKnown a.contents (λ c. IsLookedOf c.now x → GoesOn c.now mode name rest place s)
  step_looked s a b x y e loads is = (
    subst (λ paths. Loads (λ t. paths) (λ t. []) a b x y) (sym (is_stepped e)) loads,
    known_both a.contents (λ c. IsLookedOf c.now x → HasLooked c.now x y (path ∷ []) [] [] []) (λ c. Unit {0})
        (λ c. IsLookedOf c.now x → GoesOn c.now mode name rest place s)
        (λ c looks u known.
        let has = looks known in
        goes_down c.now y.seen.part s e (kind_looked c.now x y path [] has) (are_now_seen c.now x y (path ∷ []) [] has).0 is)
        loads.looks (known_all a.contents (λ c. Unit {0}) (λ c. tt)),
  )

-- ---- the names of a text

-- Of the walk by these names from `start`, these are left, from `place`.
pub record IsWalking (mode : Mode) (names : List (List ℕ)) (start : List ℕ) (left : List (List ℕ)) (place : List ℕ) (a b : FolderState) (x y : Looked) : Type 0 where
  pub loads : LoadsPart (λ t. passed t names start) (λ t. passed t left place) (λ t. []) (λ t. []) a b x y
  pub stops : IfKnown a.contents (λ c. IsLookedOf c.now x → steps c.now mode left place ≡ steps c.now mode names start)

module _ (mode : Mode) (names : List (List ℕ)) (start : List ℕ) where
  abbrev Halted : Halt → FolderState → FolderState → Looked → Looked → Type 0
  Halted h a b x y = Loads (λ t. passed t names start) (λ t. []) a b x y × IfKnown a.contents (λ c. IsLookedOf c.now x → HaltsAt h (steps c.now mode names start))

  module _ (name : List ℕ) (rest : List (List ℕ)) (place : List ℕ) (a b c : FolderState) (x y z : Looked)
      (on : IsWalking mode names start (name ∷ rest) place a b x y) (next : Loads (λ t. stepped name place) (λ t. []) b c y z) where
    -- what is known at `b`, from what is known at `a`
    moved : (P : FolderContent → Type 0) → IfKnown b.contents P → IfKnown a.contents P
    moved P h = subst (λ o. IfKnown o P) on.loads.reads.keeps.contents h

    module _ (s : Step) (goes : IfKnown b.contents (λ k. IsLookedOf k.now y → GoesOn k.now mode name rest place s)) where
      -- the rest, if the walk goes on from a directory, or nothing
      abbrev left_by : Step → Asked
      left_by (step.To new) t = passed t rest new
      left_by (step.Halts h) t = []

      split : (t : Nodes) (s : Step) → GoesOn t mode name rest place s → passed t (name ∷ rest) place ≡ stepped name place ++ left_by s t
      split t (step.To new) g = g.0
      split t (step.Halts h) g = g.0 ∙ sym (append-nil (stepped name place))

      steps_left : LoadsPart (λ t. passed t names start) (left_by s) (λ t. []) (λ t. []) a c x z
      steps_left = goes_on (λ t. passed t names start) (λ t. passed t (name ∷ rest) place) (λ t. []) (λ t. []) a b c x y z on.loads
          (λ t. stepped name place) (left_by s) (λ t. []) (λ t. []) next
          (known_both b.contents (λ k. IsLookedOf k.now y → GoesOn k.now mode name rest place s) (λ k. Unit {0})
          (λ k. IsLookedOf k.now y → HasLooked k.now y z (stepped name place) [] [] []
          → (passed k.now (name ∷ rest) place ≡ stepped name place ++ left_by s k.now) × ([] ≡ [] ++ []))
          (λ k g u known has. (split k.now s (g known), refl)) goes (known_all b.contents (λ k. Unit {0}) (λ k. tt)))

      -- what is known of the step
      gone : IfKnown a.contents (λ k. IsLookedOf k.now x → (steps k.now mode (name ∷ rest) place ≡ steps k.now mode names start) × GoesOn k.now mode name rest place s)
      gone = known_both a.contents (λ k. IsLookedOf k.now x → IsLookedOf k.now y × (steps k.now mode (name ∷ rest) place ≡ steps k.now mode names start))
          (λ k. IsLookedOf k.now y → GoesOn k.now mode name rest place s)
          (λ k. IsLookedOf k.now x → (steps k.now mode (name ∷ rest) place ≡ steps k.now mode names start) × GoesOn k.now mode name rest place s)
          (λ k now g is. ((now is).1, g (now is).0))
          (known_both a.contents (λ k. IsLookedOf k.now x → HasLooked k.now x y (passed k.now names start) (passed k.now (name ∷ rest) place) [] [])
          (λ k. IsLookedOf k.now x → steps k.now mode (name ∷ rest) place ≡ steps k.now mode names start)
          (λ k. IsLookedOf k.now x → IsLookedOf k.now y × (steps k.now mode (name ∷ rest) place ≡ steps k.now mode names start))
          (λ k has same is. ((has is).known, same is)) on.loads.looks on.stops)
          (moved (λ k. IsLookedOf k.now y → GoesOn k.now mode name rest place s) goes)

    pub walk_on : (new : List ℕ) → IfKnown b.contents (λ k. IsLookedOf k.now y → GoesOn k.now mode name rest place (step.To new)) → IsWalking mode names start rest new a c x z
    walk_on new goes = record {
      loads = steps_left (step.To new) goes;
      stops = known_both a.contents
          (λ k. IsLookedOf k.now x → (steps k.now mode (name ∷ rest) place ≡ steps k.now mode names start) × GoesOn k.now mode name rest place (step.To new)) (λ k. Unit {0})
          (λ k. IsLookedOf k.now x → steps k.now mode rest new ≡ steps k.now mode names start)
          (λ k g u is. sym (g is).1.1 ∙ (g is).0) (gone (step.To new) goes) (known_all a.contents (λ k. Unit {0}) (λ k. tt));
    }

    pub walk_halts : (h : Halt) → IfKnown b.contents (λ k. IsLookedOf k.now y → GoesOn k.now mode name rest place (step.Halts h)) → Halted h a c x z
    walk_halts h goes = (
      steps_left (step.Halts h) goes,
      known_both a.contents
          (λ k. IsLookedOf k.now x → (steps k.now mode (name ∷ rest) place ≡ steps k.now mode names start) × GoesOn k.now mode name rest place (step.Halts h)) (λ k. Unit {0})
          (λ k. IsLookedOf k.now x → HaltsAt h (steps k.now mode names start))
          (λ k g u is. subst (HaltsAt h) (g is).0 (g is).1.1) (gone (step.Halts h) goes) (known_all a.contents (λ k. Unit {0}) (λ k. tt)),
    )

-- ---- one link after another

pub text_begins : (text : List ℕ) (mode : Mode) (a : FolderState) (x : Looked)
    → LoadsPart (λ t. looked_by t text mode) (λ t. walked t mode 41 (Follows (components text) root)) (λ t. []) (λ t. []) a a x x
unfolding looked_by
text_begins text mode a x = begins (λ t. looked_by t text mode) (λ t. []) a x

module _ (mode : Mode) (whole : Asked) (links : ℕ) (names : List (List ℕ)) (place : List ℕ) (a b c : FolderState) (x y z : Looked)
    (on : LoadsPart whole (λ t. walked t mode (suc links) (Follows names place)) (λ t. []) (λ t. []) a b x y)
    (next : Loads (λ t. passed t names place) (λ t. []) b c y z) where
  follows : (h : Halt) (rest : Asked) → ((t : Nodes) (stop : Stop) → HaltsAt h stop → walked t mode links stop ≡ rest t)
      → IfKnown b.contents (λ k. IsLookedOf k.now y → HaltsAt h (steps k.now mode names place))
      → LoadsPart whole rest (λ t. []) (λ t. []) a c x z
  follows h rest same halts = goes_on whole (λ t. walked t mode (suc links) (Follows names place)) (λ t. []) (λ t. []) a b c x y z on
      (λ t. passed t names place) rest (λ t. []) (λ t. []) next
      (known_both b.contents (λ k. IsLookedOf k.now y → HaltsAt h (steps k.now mode names place)) (λ k. Unit {0})
      (λ k. IsLookedOf k.now y → HasLooked k.now y z (passed k.now names place) [] [] []
      → (walked k.now mode (suc links) (Follows names place) ≡ passed k.now names place ++ rest k.now) × ([] ≡ [] ++ []))
      (λ k g u known has. (ap (λ xs. passed k.now names place ++ xs) (same k.now (steps k.now mode names place) (g known)), refl))
      halts (known_all b.contents (λ k. Unit {0}) (λ k. tt)))

  reached : (t : Nodes) (n : ℕ) (end : List ℕ) → walked t mode n (Ends (Ok end)) ≡ end ∷ []
  reached t zero end = refl
  reached t (suc n) end = refl

  nowhere : (t : Nodes) (n : ℕ) (fault : WalkFault) → walked t mode n (Ends (Err fault)) ≡ []
  nowhere t zero fault = refl
  nowhere t (suc n) fault = refl

  -- the walk ends nowhere
  pub text_nowhere : IfKnown b.contents (λ k. IsLookedOf k.now y → HaltsAt halt.Nowhere (steps k.now mode names place)) → Loads whole (λ t. []) a c x z
  text_nowhere halts = follows halt.Nowhere (λ t. []) (λ t stop h. ap (walked t mode links) h.1 ∙ nowhere t links h.0) halts

  -- the walk ends at a path, which is looked up too
  pub text_reaches : (end : List ℕ) (d : FolderState) (w : Looked) → IfKnown b.contents (λ k. IsLookedOf k.now y → HaltsAt (halt.Reached end) (steps k.now mode names place))
      → Loads (λ t. end ∷ []) (λ t. []) c d z w → Loads whole (λ t. []) a d x w
  text_reaches end d w halts last =
      goes_on whole (λ t. end ∷ []) (λ t. []) (λ t. []) a c d x z w
      (follows (halt.Reached end) (λ t. end ∷ []) (λ t stop h. ap (walked t mode links) h ∙ reached t links end) halts)
      (λ t. end ∷ []) (λ t. []) (λ t. []) (λ t. []) last
      (known_all c.contents (λ k. IsLookedOf k.now z → HasLooked k.now z w (end ∷ []) [] [] [] → (end ∷ [] ≡ (end ∷ []) ++ []) × ([] ≡ [] ++ [])) (λ k is has. (refl, refl)))

  -- the walk follows a link
  pub text_follows : (more : List (List ℕ)) (from : List ℕ) (h : Halt) → ((stop : Stop) → HaltsAt h stop → stop ≡ Follows more from)
      → IfKnown b.contents (λ k. IsLookedOf k.now y → HaltsAt h (steps k.now mode names place))
      → LoadsPart whole (λ t. walked t mode links (Follows more from)) (λ t. []) (λ t. []) a c x z
  text_follows more from h same halts =
      follows h (λ t. walked t mode links (Follows more from)) (λ t stop here. ap (walked t mode links) (same stop here)) halts
