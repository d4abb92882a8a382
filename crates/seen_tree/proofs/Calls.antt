-- The calls of readings in sequence.
use Rattle.std.proofs.Common.{◌≡◌, ◌≤◌, ◌+◌, ℕ, true, false, cond, List, [], ◌∷◌, ◌++◌, append_assoc, append-nil, length, length-append, refl, ap, sym, ◌∙◌, Option, Some, None, Result, Ok, Err, arith}
use Rattle.std.proofs.lemmas.List.Elements.{filter_map-append}
use Rattle.std.specs.List.{list_any}
use Rattle.std.specs.Str.{bytes_eq}
use Rattle.indexmap.specs.IndexSet.{insert_key}
use Rattle.lib_types.specs.Counts.{raised}
use Rattle.root_folder.specs.Folder.{FolderState, HasNoFault, KeepsFolder, Reads}
use Rattle.root_folder.specs.declared.folder.FolderCall.{FolderCall}
use Rattle.root_folder.specs.declared.folder.FolderCall.TheVariants as calls
use Rattle.root_folder.specs.declared.folder.FolderCounts.{FolderCounts}
use Rattle.root_tree.specs.ReadTree.{HasCause, HasRead, KeepsMade, ReadsOn}
use Rattle.root_tree.specs.declared.fault.TreeRead.{TreeRead}
use Rattle.root_tree.specs.declared.fault.TreeRead.TheVariants.{Failed, TooLarge, NoMemory}
use Rattle.tree_face.proofs.Follows.{follow}
use Rattle.tree_face.proofs.Known.{relates_on}
use Rattle.tree_face.specs.Follows.{IsFollowedBy}
use Rattle.tree_face.specs.Known.{Relates}
use Rattle.seen_tree.specs.Seen.{ListsMore, LooksMore, Makes, dir_of, dirs_of, path_of, paths_of}
use Rattle.lib_types.proofs.Counts.{raised_on}

-- ---- calls

pub raised_none : (c : ℕ) → c ≡ raised c 0
raised_none c = omega arith

none_follows : (a : Option (List FolderCall)) → Relates (IsFollowedBy []) a a
none_follows None = tt
none_follows (Some a) = sym (append-nil a)

pub no_calls : (s : FolderState) → Makes [] s s
no_calls s = record { calls = none_follows s.calls; looks = raised_none s.counts.looks; lists = raised_none s.counts.lists }

pub makes_on : (xs ys : List FolderCall) (a b c : FolderState) → Makes xs a b → Makes ys b c → Makes (xs ++ ys) a c
makes_on xs ys a b c first next = record {
  calls = relates_on (IsFollowedBy xs) (IsFollowedBy ys) (IsFollowedBy (xs ++ ys)) (λ a b c. follow xs ys a b c) a.calls b.calls c.calls first.calls next.calls;
  looks =
      let size : length (paths_of (xs ++ ys)) ≡ length (paths_of xs) + length (paths_of ys) = ap length (filter_map-append path_of xs ys) ∙ length-append (paths_of xs) (paths_of ys) in
      next.looks ∙ ap (λ n. raised n (length (paths_of ys))) first.looks ∙ raised_on a.counts.looks (length (paths_of xs)) (length (paths_of ys)) ∙ ap (raised a.counts.looks) (sym size);
  lists =
      let size : length (dirs_of (xs ++ ys)) ≡ length (dirs_of xs) + length (dirs_of ys) = ap length (filter_map-append dir_of xs ys) ∙ length-append (dirs_of xs) (dirs_of ys) in
      next.lists ∙ ap (λ n. raised n (length (dirs_of ys))) first.lists ∙ raised_on a.counts.lists (length (dirs_of xs)) (length (dirs_of ys)) ∙ ap (raised a.counts.lists) (sym size);
}

-- ---- paths that are looked up

pub no_more : (looked : List (List ℕ)) (s : FolderState) → LooksMore looked looked s s
no_more looked s = record { made = []; looked = sym (append-nil looked); listed = refl; calls = no_calls s }

added_on : {X : Type 0} (a b c xs ys : List X) → b ≡ a ++ xs → c ≡ b ++ ys → c ≡ a ++ (xs ++ ys)
added_on a b c xs ys first next = next ∙ ap (λ l. l ++ ys) first ∙ append_assoc a xs ys

pub looks_on : (x y z : List (List ℕ)) (a b c : FolderState) → LooksMore x y a b → LooksMore y z b c → LooksMore x z a c
looks_on x y z a b c first next = record {
  made = first.made ++ next.made;
  looked = added_on x y z (paths_of first.made) (paths_of next.made) first.looked next.looked ∙ ap (λ l. x ++ l) (sym (filter_map-append path_of first.made next.made));
  listed = filter_map-append dir_of first.made next.made ∙ ap (λ l. l ++ dirs_of next.made) first.listed ∙ next.listed;
  calls = makes_on first.made next.made a b c first.calls next.calls;
}

-- a path that wasn't looked up before
pub one_more : {A : Type 0} (looked after : List (List ℕ)) (q : List ℕ) (a b : FolderState) (x : A) → Reads {A = A} (calls.Look q) a b (Ok x) → list_any (bytes_eq q) looked ≡ false
    → after ≡ insert_key bytes_eq looked q → LooksMore looked after a b
one_more looked after q a b x reads fresh is = record {
  made = calls.Look q ∷ [];
  looked = is ∙ ap (λ t. cond t looked (looked ++ q ∷ [])) fresh;
  listed = refl;
  calls = record {
    calls = reads.added;
    looks = ap (λ c. c.looks) reads.counts;
    lists = ap (λ c. c.lists) reads.counts ∙ raised_none a.counts.lists;
  };
}

-- ---- directories that are listed

pub lists_on : (x y z : List (List ℕ)) (k l m : List (List ℕ)) (a b c : FolderState) → ListsMore x y k l a b → ListsMore y z l m b c → ListsMore x z k m a c
lists_on x y z k l m a b c first next = record {
  made = first.made ++ next.made;
  looked = added_on x y z (paths_of first.made) (paths_of next.made) first.looked next.looked ∙ ap (λ l. x ++ l) (sym (filter_map-append path_of first.made next.made));
  listed = added_on k l m (dirs_of first.made) (dirs_of next.made) first.listed next.listed ∙ ap (λ d. k ++ d) (sym (filter_map-append dir_of first.made next.made));
  calls = makes_on first.made next.made a b c first.calls next.calls;
}

pub lists_none : (x y dirs : List (List ℕ)) (a b : FolderState) → LooksMore x y a b → ListsMore x y dirs dirs a b
lists_none x y dirs a b looks = record {
  made = looks.made;
  looked = looks.looked;
  listed = sym (append-nil dirs) ∙ ap (λ d. dirs ++ d) (sym looks.listed);
  calls = looks.calls;
}
