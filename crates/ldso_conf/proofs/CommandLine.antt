-- Directories of the command line: no file is read for them.
use Rattle.std.proofs.Common.{◌≡◌, ◌<◌, ◌≤◌, ◌+◌, ◌∙◌, ◌||◌, ◌++◌, ℕ, zero, suc, true, false, List, [], ◌∷◌, drop, length, map, add-one, arith, get_or, Option, Some, None, refl, sym, ap, subst}
use Rattle.std.proofs.Math.Nat.{add-zero, zero-add}
use Rattle.std.proofs.lemmas.List.{append-nil, drop_all}
use Rattle.std.proofs.lemmas.List.Sums.{sum_by-cons}
use Rattle.std.specs.List.{flat_map, list_any}
use Rattle.std.specs.Prelude.{IsSomeAnd, option_map, sum_by}
use Rattle.image_tree.specs.Tree.{Nodes}
use Rattle.tree_face.proofs.StoreUse.{unread}
use Rattle.tree_face.specs.Store.{Contents, StoreState}
use Rattle.tree_face.specs.StoreUse.{Complete, GaveUp, ReadsFiles}
use Rattle.ldso_conf.specs.Reading.{Given, IsConfOf, Item, ReadsConf, bytes_taken, command_line, conf_bytes, conf_items, conf_keys, conf_lacks, given, is_missing, key_begun, reading}
use Rattle.ldso_conf.specs.Visits.{IsConfFrom, Progress, nothing_read, with_dir, with_items}
use Rattle.ldso_conf.specs.declared.kinds.Conf.{Conf}
use Rattle.ldso_conf.proofs.Items.{with_more}
use Rattle.ldso_conf.proofs.Uses.{held_named, key_of_named, reads_all, reads_none, reads_nothing, size_of_named}
use Rattle.ldso_conf.proofs.Visiting.{take_dir}

-- ---- the items of the directories

abbrev pub all_given : List (List ℕ) → List Item
all_given dirs = map given dirs

no_keys : (dirs : List (List ℕ)) → flat_map key_begun (all_given dirs) ≡ []
no_keys [] = refl
no_keys (dir ∷ dirs) = ap (λ l. l ++ flat_map key_begun (all_given dirs)) (key_of_named dir command_line) ∙ no_keys dirs

none_missing : (dirs : List (List ℕ)) → list_any is_missing (all_given dirs) ≡ false
none_missing [] = refl
none_missing (dir ∷ dirs) = ap (λ b. b || list_any is_missing (all_given dirs)) (held_named dir command_line) ∙ none_missing dirs

no_bytes : (dirs : List (List ℕ)) → sum_by bytes_taken (all_given dirs) ≡ 0
no_bytes [] = refl
no_bytes (dir ∷ dirs) =
    sum_by-cons bytes_taken (given dir) (all_given dirs) ∙ ap (λ n. n + sum_by bytes_taken (all_given dirs)) (size_of_named dir command_line)
    ∙ ap (λ n. 0 + n) (no_bytes dirs)

module _ (dirs : List (List ℕ)) (held : Contents) (t : Nodes) where
  pub given_keys : conf_keys (Given dirs) held t ≡ []
  unfolding conf_keys conf_items
  given_keys = no_keys dirs

  pub given_bytes : conf_bytes (Given dirs) held t ≡ 0
  unfolding conf_bytes conf_items
  given_bytes = no_bytes dirs

  pub given_held : conf_lacks (Given dirs) held t ≡ false
  unfolding conf_lacks conf_items
  given_held = none_missing dirs

-- ---- no file is read

module _ (dirs : List (List ℕ)) (t : Nodes) (s : StoreState) where
  pub given_reads : ReadsConf (Given dirs) t Complete s s
  given_reads = at s.held where
    at : (known : Option Contents) → ReadsFiles (IsSomeAnd known (λ held. conf_lacks (Given dirs) held t ≡ true)) (option_map (λ held. conf_keys (Given dirs) held t) known)
        (option_map (λ held. conf_bytes (Given dirs) held t) known) Complete s s
    at None = unread s
    at (Some held) = rw (given_keys dirs held t, given_bytes dirs held t) (reads_all ⊥ _ _ _ s s (reads_nothing s))

  pub given_gave_up : ReadsConf (Given dirs) t GaveUp s s
  given_gave_up = reads_none _ _ _ s

-- ---- the loop over them

-- the remaining directories give the rest
abbrev pub with_rest : Progress → ℕ → List (List ℕ) → Progress
with_rest r i dirs = with_items r (all_given (drop i dirs))

with_none : (r : Progress) → with_items r [] ≡ r
with_none r = rw (append-nil r.dirs, append-nil r.origins, append-nil r.reports, append-nil r.read, add-zero r.files) refl

one_given : (r new : Progress) (dir : List ℕ) (rest : List (List ℕ)) → new ≡ with_dir r dir command_line → with_items new (all_given rest) ≡ with_items r (all_given (dir ∷ rest))
one_given r new dir rest e = ap (λ p. with_items p (all_given rest)) ((take_dir r new dir command_line e).reader) ∙ with_more r (given dir ∷ []) (all_given rest)

pub next_given : (r new : Progress) (dirs : List (List ℕ)) (i : ℕ) → i < length dirs → new ≡ with_dir r (get_or dirs i []) command_line → with_rest new (i + 1) dirs ≡ with_rest r i dirs
next_given r new [] i h e = absurd (omega arith)
next_given r new (dir ∷ dirs) zero h e = one_given r new dir dirs e
next_given r new (dir ∷ dirs) (suc i) h e = rw add-one (subst (λ n. with_items new (all_given (drop n dirs)) ≡ with_rest r i dirs) (add-one i) (next_given r new dirs i (omega arith) e))

-- all were added
pub as_given : (conf : Conf) (reader : Progress) (dirs : List (List ℕ)) (i : ℕ) → length dirs ≤ i → with_rest reader i dirs ≡ with_items nothing_read (all_given dirs)
    → IsConfFrom conf reader → (held : Contents) (t : Nodes) → IsConfOf (Given dirs) conf held t
unfolding reading conf_items conf_keys conf_lacks
as_given conf reader dirs i ends rest is held t =
    let none : drop i dirs ≡ [] = drop_all i dirs ends in
    let e : reader ≡ with_items nothing_read (all_given dirs) = sym (with_none reader) ∙ (rw none at rest) in
    record {
      dirs = is.dirs ∙ ap (λ (p : Progress). p.dirs) e;
      origins = is.origins ∙ ap (λ (p : Progress). p.origins) e;
      reports = is.reports ∙ ap (λ (p : Progress). p.reports) e;
      files = is.files ∙ ap (λ (p : Progress). p.files) e ∙ zero-add (length (flat_map key_begun (all_given dirs)));
      all_held = none_missing dirs;
    }

pub ruleset given_laws = (next_given, as_given)
