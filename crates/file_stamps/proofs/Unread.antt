-- Files that have an analysis may be left out when files are read.
use Rattle.std.proofs.Common.{◌≡◌, ◌++◌, ◌&&◌, ◌||◌, ℕ, Bool, true, false, List, [], ◌∷◌, refl, ap, sym, ◌∙◌}
use Rattle.std.proofs.lemmas.List.Folds.{list_any-append}
use Rattle.std.specs.List.{list_any}
use Rattle.std.specs.Option.{is_none}
use Rattle.std.specs.Str.{bytes_eq}
use Rattle.lib_types.proofs.SortedPairs.{by_test}
use Rattle.string_pool.proofs.Members.{kept_in}
use Rattle.file_table.specs.Analyses.{Analyses, KeepsAnalyses, unread}
use Rattle.image_tree.specs.Tree.{Nodes}
use Rattle.file_stamps.proofs.KeptAnalyses.{still_read}
use Rattle.file_stamps.specs.Files.{AreRead}

pub unread_twice : (what : Analyses) (paths : List (List ℕ)) → unread what (unread what paths) ≡ unread what paths
unread_twice what [] = refl
unread_twice what (path ∷ paths) = by_test (is_none (what path))
    (λ e. rw (e, e) (ap (λ l. path ∷ l) (unread_twice what paths)))
    (λ e. rw e (unread_twice what paths))

pub all_read : (t : Nodes) (what new : Analyses) (paths : List (List ℕ)) → KeepsAnalyses what new → AreRead t new (unread what paths) → AreRead t new paths
all_read t what new paths kept read path there = by_test (is_none (what path))
    (λ e. read path (kept_in (λ path. is_none (what path)) path paths ∙ ap (λ b. b && list_any (bytes_eq path) paths) e ∙ there))
    (λ e. still_read t what new path kept (rw e refl))

-- each path that is left is among all paths
among_all : (what : Analyses) (paths : List (List ℕ)) (path : List ℕ) → list_any (bytes_eq path) (unread what paths) ≡ true → list_any (bytes_eq path) paths ≡ true
among_all what paths path there = second (is_none (what path)) (list_any (bytes_eq path) paths) (sym (kept_in (λ path. is_none (what path)) path paths) ∙ there)
  where
    second : (a b : Bool) → (a && b) ≡ true → b ≡ true
    second true b e = e
    second false b e = absurd (cc)

-- the paths of the new table are among the old table's paths and the given paths
pub among_both : (what : Analyses) (paths old new : List (List ℕ)) → new ≡ old ++ unread what paths → (path : List ℕ) → list_any (bytes_eq path) new ≡ true
    → (list_any (bytes_eq path) old || list_any (bytes_eq path) paths) ≡ true
among_both what paths old new rows path there =
    either (list_any (bytes_eq path) old) (list_any (bytes_eq path) (unread what paths)) (list_any (bytes_eq path) paths) (among_all what paths path)
    (sym (list_any-append (bytes_eq path) old (unread what paths)) ∙ ap (list_any (bytes_eq path)) (sym rows) ∙ there)
  where
    either : (a b c : Bool) → (b ≡ true → c ≡ true) → (a || b) ≡ true → (a || c) ≡ true
    either true b c h e = e
    either false b c h e = h e
