-- What was seen of a directory, with the planned links, is a part of the directory's tree with the links.
use Rattle.std.proofs.Common.{◌≡◌, ℕ, true, cond, ◌||◌, List, [], ◌∷◌, ◌++◌, map, ap, sym, subst}
use Rattle.std.specs.List.{list_any}
use Rattle.std.specs.Str.{bytes_eq}
use Rattle.indexmap.specs.IndexSet.{insert_key}
use Rattle.file_table.specs.Analyses.{Analyses, HaveNames}
use Rattle.hwcap_dirs.specs.Places.{are_dirs}
use Rattle.hwcap_dirs.specs.declared.kinds.Place.{Place}
use Rattle.image_tree.specs.Paths.{is_path}
use Rattle.image_tree.specs.Tree.{Nodes}
use Rattle.lib_types.proofs.SortedPairs.{by_test}
use Rattle.link_plan.specs.declared.kinds.Planned.{Planned}
use Rattle.seen_tree.specs.Part.{AreSeen, IsSeen}
use Rattle.seen_tree.specs.Seen.{IsSeenOf, Seen, with_path, with_paths}
use Rattle.soname_links.specs.Plan.{links, with_link, with_links}
use Rattle.seen_places.proofs.Each.{all_both}
use Rattle.seen_places.proofs.Planned.{all_with, part_planned, put_seen, whole_planned}
use Rattle.seen_places.specs.Planned.{is_put, with_plan}
use Rattle.lib_types.proofs.SameTexts.{itself}

paths_put : (plan : List Planned) (t part : Nodes) → AreSeen (with_links t plan) (with_links part plan) (map (λ planned. planned.path) plan)
paths_put [] t part = tt
paths_put (planned ∷ plan) t part = (
  put_seen (planned ∷ plan) t part planned.path (ap (λ b. b || is_put plan planned.path) (itself planned.path)),
  paths_put plan (with_link t planned) (with_link part planned),
)

module _ (t part : Nodes) where
  one_path : (looked : List (List ℕ)) (q : List ℕ) → AreSeen t part looked → AreSeen t part (q ∷ []) → AreSeen t part (with_path looked q)
  one_path looked q all here = by_test (is_path q)
      (λ p.
      subst (λ b. AreSeen t part (cond b (insert_key bytes_eq looked q) looked)) (sym p)
      (by_test (list_any (bytes_eq q) looked)
      (λ e. subst (λ b. AreSeen t part (cond b looked (looked ++ q ∷ []))) (sym e) all)
      (λ e. subst (λ b. AreSeen t part (cond b looked (looked ++ q ∷ []))) (sym e) (all_both (IsSeen t part) looked (q ∷ []) all here))))
      (λ p. subst (λ b. AreSeen t part (cond b (insert_key bytes_eq looked q) looked)) (sym p) all)

  more_paths : (paths looked : List (List ℕ)) → AreSeen t part looked → AreSeen t part paths → AreSeen t part (with_paths looked paths)
  more_paths [] looked all more = all
  more_paths (q ∷ paths) looked all more = more_paths paths (with_path looked q) (one_path looked q all (more.0, tt)) more.1
