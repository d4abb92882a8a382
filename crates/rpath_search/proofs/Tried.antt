-- The paths are tried in order.
use Rattle.std.proofs.Common.{◌≡◌, ◌+◌, ◌-◌, ◌≤◌, ◌++◌, ℕ, zero, suc, Bool, true, false, not, List, [], ◌∷◌, take, drop, filter, find, Option, Some, None, refl, ap, sym, subst, ◌∙◌, arith}
use Rattle.std.proofs.Math.Seq.{take-add}
use Rattle.std.proofs.lemmas.List.{append-nil}
use Rattle.std.proofs.lemmas.List.Elements.{filter-append, filter_map-append}
use Rattle.std.specs.List.{position_or_len}
use Rattle.lib_types.specs.declared.abi.Abi.{Abi}
use Rattle.tree_face.proofs.StoreUse.{IsPartial, reads_all, reads_none}
use Rattle.tree_face.specs.Known.{IfKnown}
use Rattle.tree_face.specs.Store.{Contents, StoreState}
use Rattle.tree_face.specs.StoreUse.{Ending, Complete, DeviceFailed, GaveUp}
use Rattle.image_tree.specs.Tree.{Nodes, node_at}
use Rattle.path_walk.specs.Files.{file_at}
use Rattle.elf_dynamic.proofs.BegunKeys.{keys_early, keys_then, none_lacks}
use Rattle.elf_dynamic.specs.Begun.{ReadsBy, file_keys, key_in, lacks_one}
use Rattle.rpath_search.specs.Search.{files_of, first_good, is_good, looked_at}
use Rattle.rpath_search.specs.Searching.{AreHeld, Finds, SearchesNextTo, Tries, is_among, keys_next_to}
use Rattle.rpath_search.specs.Trying.{HasTried, IsAfter}
use Rattle.rpath_search.specs.declared.search.Answer.{Answer}

-- the paths after the next path
rest_is : (paths : List (List ℕ)) (i : ℕ) (path : List ℕ) (more : List (List ℕ)) → drop i paths ≡ path ∷ more → drop (i + 1) paths ≡ more
rest_is [] zero path more e = absurd (cc)
rest_is [] (suc i) path more e = absurd (cc)
rest_is (p ∷ paths) zero path more e = let same : paths ≡ more = cc in same
rest_is (p ∷ paths) (suc i) path more e = let next : suc i + 1 ≡ suc (i + 1) = omega arith in rw next (rest_is paths i path more e)

held_if : (e : Ending) (held : Contents) (keys : List (List ℕ)) → IsPartial e → AreHeld held keys e
held_if Complete held keys partial = absurd partial
held_if DeviceFailed held keys partial = tt
held_if GaveUp held keys partial = tt

module _ (t : Nodes) (places : List (List ℕ)) where
  abbrev keys : List (List ℕ) → List (List ℕ)
  keys paths = keys_next_to t places paths

  keys_append : (xs ys : List (List ℕ)) → keys (xs ++ ys) ≡ keys xs ++ keys ys
  keys_append xs ys =
      let f : List ℕ → Bool = λ real. not (is_among places real) in
      ap (λ l. file_keys t (filter f l)) (filter_map-append (file_at t) xs ys)
      ∙ ap (file_keys t) (filter-append f (files_of t xs) (files_of t ys))
      ∙ filter_map-append (λ real. key_in (node_at t real)) (filter f (files_of t xs)) (filter f (files_of t ys))

module _ (known : Option Contents) (t : Nodes) (abi : Abi) (places paths : List (List ℕ)) where
  -- before the first path
  pub none_tried : (s : StoreState) → HasTried known t abi places paths paths s s
  none_tried s = record { count = 0; left = refl; reads = nothing known; held = none known; following = all known }
    where
      nothing : (k : Option Contents) → ReadsBy k [] Complete s s
      nothing None = reads_none _ _ s
      nothing (Some held) = reads_none _ _ s

      none : (k : Option Contents) → IfKnown k (λ held. lacks_one held [] ≡ false)
      none None = tt
      none (Some held) = refl

      all : (k : Option Contents) → IfKnown k (λ held. IsAfter held t abi paths 0)
      all None = tt
      all (Some held) = record { place = omega arith; first = refl }

  -- the search fails after at most n paths
  stops : (n : ℕ) (e : Ending) (before after : StoreState) → IsPartial e → IfKnown known (λ held. n ≤ looked_at held t abi paths) →
      ReadsBy known (keys t places (take n paths)) e before after → SearchesNextTo known t abi places paths e before after
  stops n e before after partial few reads = by known few reads
    where
      by : (k : Option Contents) → IfKnown k (λ held. n ≤ looked_at held t abi paths) → ReadsBy k (keys t places (take n paths)) e before after → SearchesNextTo k t abi places paths e before after
      by None few reads = record { count = n; begins = reads; exactly = tt; none_lacks = tt }
      by (Some held) few reads =
          let m = looked_at held t abi paths - n in
          let split = ap (keys t places) (take-add n m paths) ∙ keys_append t places (take n paths) (take m (drop n paths)) in
          record {
            count = n + m;
            begins = subst (λ ks. ReadsBy (Some held) ks e before after) (sym split)
                (keys_early (Some held) (keys t places (take n paths)) (keys t places (take m (drop n paths))) e before after partial reads);
            exactly = omega (arith, few);
            none_lacks = held_if e held (keys t places (take (n + m) paths)) partial;
          }

  module _ (rest : List (List ℕ)) (before here : StoreState) (so_far : HasTried known t abi places paths rest before here) where
    abbrev i : ℕ
    i = so_far.count

    -- out of memory before the next path
    pub gives_up : SearchesNextTo known t abi places paths GaveUp before here
    gives_up = stops i GaveUp before here tt (few known so_far.following) (reads_all _ _ before here _ so_far.reads)
      where
        few : (k : Option Contents) → IfKnown k (λ held. IsAfter held t abi paths i) → IfKnown k (λ held. i ≤ looked_at held t abi paths)
        few None a = tt
        few (Some held) a = let place = a.place in omega (arith, place)

    module _ (path : List ℕ) (more : List (List ℕ)) (next : rest ≡ path ∷ more) where
      at_hand : drop i paths ≡ path ∷ more
      at_hand = so_far.left ∙ next

      one_more : take (i + 1) paths ≡ take i paths ++ path ∷ []
      one_more = take-add i 1 paths ∙ ap (λ l. take i paths ++ take 1 l) at_hand

      keys_more : keys t places (take (i + 1) paths) ≡ keys t places (take i paths) ++ keys t places (path ∷ [])
      keys_more = ap (keys t places) one_more ∙ keys_append t places (take i paths) (path ∷ [])

      reads_more : (e : Ending) (after : StoreState) → ReadsBy known (keys t places (path ∷ [])) e here after → ReadsBy known (keys t places (take (i + 1) paths)) e before after
      reads_more e after reads =
          subst (λ ks. ReadsBy known ks e before after) (sym keys_more)
          (keys_then known (keys t places (take i paths)) (keys t places (path ∷ [])) e before here after so_far.held so_far.reads reads)

      held_on : (k : Option Contents) → IfKnown k (λ held. lacks_one held (keys t places (take i paths)) ≡ false) → IfKnown k (λ held. lacks_one held (keys t places (path ∷ [])) ≡ false)
          → IfKnown k (λ held. lacks_one held (keys t places (take (i + 1) paths)) ≡ false)
      held_on None a b = tt
      held_on (Some held) a b = ap (lacks_one held) keys_more ∙ none_lacks held (keys t places (take i paths)) (keys t places (path ∷ [])) a b

      -- the path isn't good
      pub tried_on : (after : StoreState) → IfKnown known (λ held. is_good held t abi path ≡ false) → IfKnown known (λ held. lacks_one held (keys t places (path ∷ [])) ≡ false)
          → ReadsBy known (keys t places (path ∷ [])) Complete here after → HasTried known t abi places paths more before after
      tried_on after bad held reads = record {
        count = i + 1;
        left = rest_is paths i path more at_hand;
        reads = reads_more Complete after reads;
        held = held_on known so_far.held held;
        following = after_on known so_far.following bad;
      }
        where
          after_on : (k : Option Contents) → IfKnown k (λ held. IsAfter held t abi paths i) → IfKnown k (λ held. is_good held t abi path ≡ false) → IfKnown k (λ held. IsAfter held t abi paths (i + 1))
          after_on None a b = tt
          after_on (Some held) a b =
              let p = is_good held t abi in
              let tail = sym (rest_is paths i path more at_hand) in
              let further : position_or_len p (path ∷ more) ≡ 1 + position_or_len p more = rw b refl in
              let same : find p (path ∷ more) ≡ find p more = rw b refl in
              let place = a.place ∙ ap (λ l. i + position_or_len p l) at_hand in
              let following = ap (position_or_len p) tail in
              record { place = omega (arith, place, further, following); first = a.first ∙ ap (find p) at_hand ∙ same ∙ ap (find p) tail }

      -- the path is good
      pub found_on : (after : StoreState) → IfKnown known (λ held. is_good held t abi path ≡ true) → IfKnown known (λ held. lacks_one held (keys t places (path ∷ [])) ≡ false)
          → ReadsBy known (keys t places (path ∷ [])) Complete here after → SearchesNextTo known t abi places paths Complete before after
      found_on after good held reads = record {
        count = i + 1;
        begins = reads_more Complete after reads;
        exactly = exactly known so_far.following good;
        none_lacks = held_on known so_far.held held;
      }
        where
          exactly : (k : Option Contents) → IfKnown k (λ held. IsAfter held t abi paths i) → IfKnown k (λ held. is_good held t abi path ≡ true) → IfKnown k (λ held. i + 1 ≡ looked_at held t abi paths)
          exactly None a b = tt
          exactly (Some held) a b =
              let p = is_good held t abi in
              let here : position_or_len p (path ∷ more) ≡ 0 = rw b refl in
              let place = a.place ∙ ap (λ l. i + position_or_len p l) at_hand in
              omega (arith, place, here)

      pub finds_on : (a : Answer) → IfKnown known (λ held. Tries held t abi places path (Some a)) → IfKnown known (λ held. Finds held t abi places (first_good held t abi paths) (Some a))
      finds_on a tries = by known so_far.following tries
        where
          by : (k : Option Contents) → IfKnown k (λ held. IsAfter held t abi paths i) → IfKnown k (λ held. Tries held t abi places path (Some a))
              → IfKnown k (λ held. Finds held t abi places (first_good held t abi paths) (Some a))
          by None following tries = tt
          by (Some held) following tries =
              let p = is_good held t abi in
              let here : find p (path ∷ more) ≡ Some path = rw tries.0 refl in
              let first : first_good held t abi paths ≡ Some path = following.first ∙ ap (find p) at_hand ∙ here in
              rw first tries.1

      -- the search fails at this path
      pub failed_on : (e : Ending) (after : StoreState) → IsPartial e → ReadsBy known (keys t places (path ∷ [])) e here after → SearchesNextTo known t abi places paths e before after
      failed_on e after partial reads = stops (i + 1) e before after partial (few known so_far.following) (reads_more e after reads)
        where
          few : (k : Option Contents) → IfKnown k (λ held. IsAfter held t abi paths i) → IfKnown k (λ held. i + 1 ≤ looked_at held t abi paths)
          few None a = tt
          few (Some held) a = let place = a.place in omega (arith, place)

    -- all paths were tried
    module _ (end : rest ≡ []) where
      none_left : drop i paths ≡ []
      none_left = so_far.left ∙ end

      pub all_tried : SearchesNextTo known t abi places paths Complete before here
      all_tried = by known so_far.following so_far.held so_far.reads
        where
          by : (k : Option Contents) → IfKnown k (λ held. IsAfter held t abi paths i) → IfKnown k (λ held. lacks_one held (keys t places (take i paths)) ≡ false)
              → ReadsBy k (keys t places (take i paths)) Complete before here → SearchesNextTo k t abi places paths Complete before here
          by None a none reads = record { count = i; begins = reads; exactly = tt; none_lacks = tt }
          by (Some held) a none reads =
              let p = is_good held t abi in
              let place = a.place ∙ ap (λ l. i + position_or_len p l) none_left in
              let same : take (i + 1) paths ≡ take i paths = take-add i 1 paths ∙ ap (λ l. take i paths ++ take 1 l) none_left ∙ append-nil (take i paths) in
              record {
                count = i + 1;
                begins = subst (λ l. ReadsBy (Some held) (keys t places l) Complete before here) (sym same) reads;
                exactly = omega (arith, place);
                none_lacks = rw same none;
              }

      pub finds_none : IfKnown known (λ held. Finds held t abi places (first_good held t abi paths) None)
      finds_none = by known so_far.following
        where
          by : (k : Option Contents) → IfKnown k (λ held. IsAfter held t abi paths i) → IfKnown k (λ held. Finds held t abi places (first_good held t abi paths) None)
          by None a = tt
          by (Some held) a =
              let first : first_good held t abi paths ≡ None = a.first ∙ ap (find (is_good held t abi)) none_left in
              rw first tt

-- an answer for a path shows that the path is good
pub good_answer : (known : Option Contents) (t : Nodes) (abi : Abi) (places : List (List ℕ)) (path : List ℕ) (a : Answer) →
    IfKnown known (λ held. Tries held t abi places path (Some a)) → IfKnown known (λ held. is_good held t abi path ≡ true)
good_answer None t abi places path a tries = tt
good_answer (Some held) t abi places path a tries = tries.0

pub no_answer : (known : Option Contents) (t : Nodes) (abi : Abi) (places : List (List ℕ)) (path : List ℕ) →
    IfKnown known (λ held. Tries held t abi places path None) → IfKnown known (λ held. is_good held t abi path ≡ false)
no_answer None t abi places path tries = tt
no_answer (Some held) t abi places path tries = tries
