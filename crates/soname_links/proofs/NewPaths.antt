-- How many paths of a plan the tree has no node at: each link counts that is the last one at such a path.
use Rattle.std.proofs.Common.{◌≡◌, ◌<◌, ◌≤◌, ◌+◌, ◌-◌, ℕ, Bool, true, false, cond, not, ◌&&◌, ◌||◌, List, [], ◌∷◌, length, get_or, drop, take, refl, ap, sym, subst, ◌∙◌, Some, None, arith}
use Rattle.std.proofs.lemmas.Slice.Eq.{bytes_eq-Decides}
use Rattle.std.proofs.lemmas.List.{at_drop_more, drop_all, take_rest}
use Rattle.std.specs.List.{cons_option, filter_map, list_any}
use Rattle.std.specs.Option.{is_none, is_some}
use Rattle.std.specs.Str.{bytes_eq}
use Rattle.lib_types.proofs.SortedPairs.{by_test}
use Rattle.string_pool.proofs.Counted.{count_few, count_next, unless_there}
use Rattle.string_pool.proofs.Members.{is_in}
use Rattle.string_pool.specs.Order.{ascending}
use Rattle.image_tree.specs.Tree.{Nodes, node_at}
use Rattle.soname_links.specs.Apply.{is_at_path, is_last_new, new_path, new_paths}
use Rattle.link_plan.specs.declared.kinds.Planned.{Planned}
use Rattle.lib_types.proofs.Bools.{one_if}

module _ (t : Nodes) where
  -- among the new paths is one without a node, if a link has it
  there : (path : List ℕ) → is_none (node_at t path) ≡ true → (plan : List Planned) → is_in (filter_map (new_path t) plan) path ≡ list_any (is_at_path path) plan
  there path none [] = refl
  there path none (planned ∷ plan) = by_test (bytes_eq path planned.path)
      (λ e.
      let same : path ≡ planned.path = (bytes_eq-Decides path planned.path).0 e in
      let new : is_none (node_at t planned.path) ≡ true = subst (λ (q : List ℕ). is_none (node_at t q) ≡ true) same none in
      ap (λ b. is_in (cons_option (cond b (Some planned.path) None) (filter_map (new_path t) plan)) path) new ∙ ap (λ b. b || is_in (filter_map (new_path t) plan) path) e
      ∙ sym (ap (λ b. b || list_any (is_at_path path) plan) e))
      (λ e.
      let here : is_in (cons_option (new_path t planned) (filter_map (new_path t) plan)) path ≡ is_in (filter_map (new_path t) plan) path =
      elim (is_none (node_at t planned.path)) as (λ b. is_in (cons_option (cond b (Some planned.path) None) (filter_map (new_path t) plan)) path ≡ is_in (filter_map (new_path t) plan) path)
      [ true ↦ ap (λ b. b || is_in (filter_map (new_path t) plan) path) e | false ↦ refl ] in
      here ∙ there path none plan ∙ sym (ap (λ b. b || list_any (is_at_path path) plan) e))

  count_last : (planned : Planned) (plan : List Planned) → length (new_paths t (planned ∷ plan)) ≡ one_if (is_last_new t planned plan) + length (new_paths t plan)
  count_last planned plan =
      let rest = filter_map (new_path t) plan in
      let later = list_any (is_at_path planned.path) plan in
      by_test (is_none (node_at t planned.path))
      (λ e.
      let some : new_path t planned ≡ Some planned.path = ap (λ b. cond b (Some planned.path) None) e in
      let whole : length (new_paths t (planned ∷ plan)) ≡ length (ascending (planned.path ∷ rest)) = ap (λ o. length (ascending (cons_option o rest))) some in
      let last : one_if (is_last_new t planned plan) ≡ one_if (not later) = ap (λ o. one_if (is_some o && not later)) some in
      let one : unless_there (is_in rest planned.path) ≡ one_if (not later) = ap unless_there (there planned.path e plan) ∙ turned later in
      let next = count_next planned.path rest in
      omega (arith, whole, last, one, next))
      (λ e.
      let none : new_path t planned ≡ None = ap (λ b. cond b (Some planned.path) None) e in
      let whole : length (new_paths t (planned ∷ plan)) ≡ length (new_paths t plan) = ap (λ o. length (ascending (cons_option o rest))) none in
      let last : one_if (is_last_new t planned plan) ≡ 0 = ap (λ o. one_if (is_some o && not later)) none in
      omega (arith, whole, last))
    where
      turned : (b : Bool) → unless_there b ≡ one_if (not b)
      turned true = refl
      turned false = refl

  -- the link at an index, and those after it
  count_at : (plan : List Planned) (i : ℕ) (planned : Planned) → i < length plan → planned ≡ get_or plan i planned
      → length (new_paths t (drop i plan)) ≡ one_if (is_last_new t planned (drop (i + 1) plan)) + length (new_paths t (drop (i + 1) plan))
  count_at plan i planned within is =
      at_drop_more (λ (p : List Planned). length (new_paths t p)) plan i planned within ∙ ap (λ (p : Planned). length (new_paths t (p ∷ drop (i + 1) plan))) (sym is)
      ∙ count_last planned (drop (i + 1) plan)

  pub count_on : (plan : List Planned) (i : ℕ) (planned : Planned) (count total : ℕ) (last : Bool) → i < length plan → planned ≡ get_or plan i planned → last ≡ is_last_new t planned (take (length plan - (i + 1)) (drop (i + 1) plan))
      → count + length (new_paths t (drop i plan)) ≡ total → (count + one_if last) + length (new_paths t (drop (i + 1) plan)) ≡ total
  count_on plan i planned count total last within is e whole =
      let next = count_at plan i planned within is in
      let same : one_if last ≡ one_if (is_last_new t planned (drop (i + 1) plan)) = ap one_if e ∙ ap (λ (later : List Planned). one_if (is_last_new t planned later)) (take_rest plan (i + 1)) in
      omega (arith, next, same, whole)

  no_paths : length (new_paths t []) ≡ 0
  unfolding ascending
  no_paths = refl

  -- all links were counted
  pub count_whole : (plan : List Planned) (i count : ℕ) → length plan ≤ i → count + length (new_paths t (drop i plan)) ≡ length (new_paths t plan) → count ≡ length (new_paths t plan)
  count_whole plan i count following whole =
      let none : length (new_paths t (drop i plan)) ≡ 0 = ap (λ (p : List Planned). length (new_paths t p)) (drop_all i plan following) ∙ no_paths in
      omega (arith, none, whole)

  pub few_paths : (plan : List Planned) → length (new_paths t plan) ≤ length (filter_map (new_path t) plan)
  few_paths plan = count_few (filter_map (new_path t) plan)

  few_new : (plan : List Planned) → length (filter_map (new_path t) plan) ≤ length plan
  few_new [] = omega arith
  few_new (planned ∷ plan) =
      let rest = few_new plan in
      elim (new_path t planned) as (λ o. length (cons_option o (filter_map (new_path t) plan)) ≤ length (planned ∷ plan)) [
        | None ↦ omega (arith, rest)
        | Some path ↦ omega (arith, rest)
      ]

  -- no more than there are links
  pub few_links : (plan : List Planned) → length (new_paths t plan) ≤ length plan
  few_links plan = omega (arith, few_paths plan, few_new plan)
