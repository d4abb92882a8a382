-- What the reading of the conf files looks up in a view of a tree, in sequence.
use Rattle.std.proofs.Common.{◌≡◌, ◌+◌, ◌∙◌, ℕ, cond, List, [], ◌∷◌, ◌++◌, append-nil, length, nat_le, Option, Some, None, Vec, Global, refl, sym, ap, subst}
use Rattle.std.proofs.lemmas.List.Concat.{flat_map-append}
use Rattle.std.specs.List.{flat_map, list_any}
use Rattle.lib_types.proofs.SortedPairs.{by_test}
use Rattle.conf_patterns.specs.Patterns.{Found}
use Rattle.conf_views.proofs.Looks.{looks_both, looks_none, looks_on}
use Rattle.conf_views.specs.Files.{file_at}
use Rattle.conf_views.specs.Patterns.{results_listed, results_looked}
use Rattle.conf_views.specs.View.{IsSameView, LooksBut, LooksUp, ViewState}
use Rattle.conf_views.specs.declared.view.FoundFile.{FoundFile}
use Rattle.image_tree.specs.Tree.{Nodes}
use Rattle.image_tree.specs.declared.path.TheConstants.{PATH_MAX}
use Rattle.path_walk.specs.declared.walk.Mode.TheVariants.{Plain}
use Rattle.seen_tree.specs.Part.{looked_by}
use Rattle.tree_face.specs.Known.{IfKnown}
use Rattle.tree_face.specs.Store.{Contents}
use Rattle.ldso_conf.proofs.Items.{until_whole}
use Rattle.ldso_conf.proofs.Visiting.{none_by, some_by}
use Rattle.ldso_conf.specs.Looked.{file_paths, include_paths, item_paths, items_listed, items_looked, patterns_listed, patterns_looked}
use Rattle.ldso_conf.specs.Reading.{Item, Reads, Reports, ConfFile, all_from, asked, asked_by, begun, conf_items, included, named, place_in, until_missing}
use Rattle.ldso_conf.specs.Visits.{HasContent, HasTaken, LooksFor, LooksTo, Progress, nothing_read}
use Rattle.ldso_conf.specs.declared.kinds.ConfReport.{ConfReport}
use Rattle.ldso_conf.specs.declared.kinds.Origin.{Origin}
use Rattle.ldso_conf.specs.declared.reading.TheConstants.{CONF_MAX, DEPTH_MAX}
use Rattle.ldso_conf.specs.declared.steps.Step.{Step}

-- ---- the lines of a file

-- ---- items

module _ (t : Nodes) where
  looked_parts : (xs ys : List Item) → patterns_looked t (xs ++ ys) ≡ patterns_looked t xs ++ patterns_looked t ys
  looked_parts xs ys = flat_map-append (item_paths (results_looked t)) xs ys

  listed_parts : (xs ys : List Item) → patterns_listed t (xs ++ ys) ≡ patterns_listed t xs ++ patterns_listed t ys
  listed_parts xs ys = flat_map-append (item_paths (results_listed t)) xs ys

  -- of the items that are left, the first ones
  items_on : (whole part rest : List Item) (a b c : ViewState) → LooksTo t whole (part ++ rest) a b → IsSameView a b → LooksFor t part b c → LooksTo t whole rest a c
  items_on whole part rest a b c first same next =
      looks_on (patterns_looked t whole) (patterns_listed t whole) (patterns_looked t part) (patterns_looked t rest) (patterns_listed t part) (patterns_listed t rest) a b c
      (subst (λ dirs. LooksBut (patterns_looked t whole) (patterns_looked t part ++ patterns_looked t rest) (patterns_listed t whole) dirs a b) (listed_parts part rest)
      (subst (λ paths. LooksBut (patterns_looked t whole) paths (patterns_listed t whole) (patterns_listed t (part ++ rest)) a b) (looked_parts part rest) first))
      same next

  -- ---- a file

  module _ (f : Found) (key : List ℕ) where
    pub large_looked : (known : Option Contents) (s : ViewState) → IfKnown known (λ held. HasContent (held key) None)
        → IfKnown known (λ held. LooksFor t (begun f key (held key) ∷ []) s s)
    large_looked None s h = tt
    large_looked (Some held) s h = let large = none_by (nat_le (length h.bytes) CONF_MAX) h.bytes h.read in rw (h.there, large) (looks_none [] [] s)

    pub small_looked : (known : Option Contents) (content : Vec ℕ Global) (a b : ViewState)
        → LooksUp (file_paths (results_looked t) f.0 content.items) (file_paths (results_listed t) f.0 content.items) a b
        → IfKnown known (λ held. HasContent (held key) (Some content)) → IfKnown known (λ held. LooksFor t (begun f key (held key) ∷ []) a b)
    small_looked None content a b looks h = tt
    small_looked (Some held) content a b looks h =
        let small = some_by (nat_le (length h.bytes) CONF_MAX) h.bytes content.items h.read in
        let paths = file_paths (results_looked t) f.0 content.items in
        let dirs = file_paths (results_listed t) f.0 content.items in
        let one : LooksFor t (Reads f key content.items ∷ []) a b = subst (λ p. LooksUp p (dirs ++ []) a b) (sym (append-nil paths)) (subst (λ d. LooksUp paths d a b) (sym (append-nil dirs)) looks) in
        rw (h.there, small.0, ← small.1) one

  -- ---- a visit

  module _ (known : Option Contents) (whole : Contents → List Item) where
    -- no file is opened
    pub alone_looked : (report : ConfReport) (s : ViewState) → ((held : Contents) → whole held ≡ Reports report ∷ []) → IfKnown known (λ held. LooksFor t (whole held) s s)
    alone_looked report s alone = by known where
      by : (known : Option Contents) → IfKnown known (λ held. LooksFor t (whole held) s s)
      by None = tt
      by (Some held) = rw (alone held) (looks_none [] [] s)

  -- the file itself
  pub file_looked : (known : Option Contents) (whole rest : Contents → List Item) (item : Contents → Item) (a b : ViewState)
      → IfKnown known (λ held. whole held ≡ item held ∷ rest held) → IfKnown known (λ held. LooksFor t (item held ∷ []) a b)
      → IfKnown known (λ held. LooksTo t (whole held) (rest held) a b)
  file_looked None whole rest item a b is looks = tt
  file_looked (Some held) whole rest item a b is looks =
      let items = item held ∷ rest held in
      subst (λ xs. LooksTo t xs (rest held) a b) (sym is)
      (items_on items (item held ∷ []) (rest held) a a b (looks_none (patterns_looked t items) (patterns_listed t items) a) (record { tree = refl; whole = refl }) looks)

  -- one more step
  pub step_looked : (known : Option Contents) (whole : Contents → List Item) (file : Contents → List (List ℕ) → FoundFile → List Item) (step : Step) (steps : List Step) (now next : Progress)
      (a b c : ViewState) → IfKnown known (λ held. LooksTo t (whole held) (asked (file held) now.read (step ∷ steps)) a b) → IsSameView a b
      → IfKnown known (λ held. HasTaken (asked_by (file held) now.read step) now next) → IfKnown known (λ held. LooksFor t (asked_by (file held) now.read step) b c)
      → IfKnown known (λ held. LooksTo t (whole held) (asked (file held) next.read steps) a c)
  step_looked None whole file step steps now next a b c first same taken looks = tt
  step_looked (Some held) whole file step steps now next a b c first same taken looks =
      let part = asked_by (file held) now.read step in
      subst (λ places. LooksTo t (whole held) (asked (file held) places steps) a c) (sym (ap (λ (p : Progress). p.read) taken.reader))
      (items_on (whole held) part (asked (file held) (now.read ++ flat_map place_in part) steps) a b c first same looks)

  -- a step without a file
  all_known : {A : Type 0} (P : A → Type 0) (known : Option A) → ((x : A) → P x) → IfKnown known P
  all_known P None f = tt
  all_known P (Some x) f = f x

  pub report_looked : (known : Option Contents) (report : ConfReport) (s : ViewState) → IfKnown known (λ held. LooksFor t (Reports report ∷ []) s s)
  report_looked known report s = all_known (λ held. LooksFor t (Reports report ∷ []) s s) known (λ held. looks_none [] [] s)

  pub dir_looked : (known : Option Contents) (dir : List ℕ) (origin : Origin) (s : ViewState) → IfKnown known (λ held. LooksFor t (named dir origin ∷ []) s s)
  dir_looked known dir origin s = all_known (λ held. LooksFor t (named dir origin ∷ []) s s) known
      (λ held. by_test {P = LooksFor t (named dir origin ∷ []) s s} (nat_le (length dir) PATH_MAX) (λ short. rw short (looks_none [] [] s)) (λ long. rw long (looks_none [] [] s)))

-- ---- the whole reading

module _ (path : List ℕ) (t : Nodes) where
  abbrev Looks : Contents → ViewState → ViewState → Type 0
  Looks held a b = LooksUp (items_looked (ConfFile path) held t) (items_listed (ConfFile path) held t) a b

  -- the path doesn't resolve
  pub no_conf_looked : (known : Option Contents) (a b : ViewState) → file_at t path ≡ None → LooksUp (looked_by t path Plain) [] a b → IfKnown known (λ held. Looks held a b)
  unfolding items_looked items_listed conf_items
  no_conf_looked None a b none looks = tt
  no_conf_looked (Some held) a b none looks =
      rw none (subst (λ paths. LooksUp paths [] a b) (sym (append-nil (looked_by t path Plain))) looks)

  module _ (start : Progress) (file : FoundFile) (there : file_at t path ≡ Some file) (none : start ≡ nothing_read) where
    as_looked : (held : Contents) (reader : Progress) (a b c : ViewState) → LooksUp (looked_by t path Plain) [] a b → IsSameView a b
        → HasTaken (included t held (DEPTH_MAX + 1) start.read file) start reader → LooksFor t (included t held (DEPTH_MAX + 1) start.read file) b c → Looks held a c
    unfolding items_looked items_listed conf_items
    as_looked held reader a b c first same taken next =
        let from : included t held (DEPTH_MAX + 1) start.read file ≡ all_from t held (file_at t path) = rw (none, there) refl in
        let items : included t held (DEPTH_MAX + 1) start.read file ≡ until_missing (all_from t held (file_at t path)) =
        sym (until_whole (included t held (DEPTH_MAX + 1) start.read file) taken.held) ∙ ap until_missing from in
        let all = until_missing (all_from t held (file_at t path)) in
        looks_both (looked_by t path Plain) (patterns_looked t all) [] (patterns_listed t all) a b c first same (subst (λ xs. LooksFor t xs b c) items next)

    pub conf_looked : (u : Nodes) → u ≡ t → (known : Option Contents) (reader : Progress) (a b c : ViewState) → LooksUp (looked_by t path Plain) [] a b → IsSameView a b
        → IfKnown known (λ held. HasTaken (included u held (DEPTH_MAX + 1) start.read file) start reader)
        → IfKnown known (λ held. LooksFor u (included u held (DEPTH_MAX + 1) start.read file) b c) → IfKnown known (λ held. Looks held a c)
    conf_looked u is None reader a b c first same taken next = tt
    conf_looked u is (Some held) reader a b c first same taken next =
        as_looked held reader a b c first same (subst (λ x. HasTaken (included x held (DEPTH_MAX + 1) start.read file) start reader) is taken)
        (subst (λ x. LooksFor x (included x held (DEPTH_MAX + 1) start.read file) b c) is next)
