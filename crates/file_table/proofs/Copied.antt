-- A copy of the rows of some paths.
use Rattle.std.proofs.Common.{◌≡◌, ◌<◌, ◌+◌, ◌||◌, ℕ, zero, suc, Bool, true, false, cond, List, [], ◌∷◌, ◌++◌, drop, get_or, length, take, refl, ap, sym, ◌∙◌, Option, Some, None, arith, subst}
use Rattle.std.proofs.lemmas.Cmp.{nat_list_cmp_total, tied_itself}
use Rattle.std.proofs.lemmas.List.{append-nil, map-append, take_more}
use Rattle.std.proofs.lemmas.List.Elements.{filter-append}
use Rattle.std.proofs.lemmas.List.Folds.{list_any-append}
use Rattle.std.proofs.lemmas.Slice.Eq.{bytes_eq-Decides}
use Rattle.std.specs.Cmp.Lexicographic.{slice_cmp}
use Rattle.std.specs.List.{AllByRecursion}
use Rattle.std.specs.List.Sorted.{IsStrictlySortedBy}
use Rattle.std.specs.Map.{keys_of}
use Rattle.std.specs.Option.{is_some}
use Rattle.std.specs.Ordering.{nat_cmp}
use Rattle.std.specs.Str.{bytes_eq}
use Rattle.std.specs.declared.cmp.Ordering.TheVariants.{Less, Equal}
use Rattle.lib_types.proofs.SortedPairs.{by_test}
use Rattle.lib_types.specs.declared.analysis.Analysis.{Analysis}
use Rattle.string_pool.proofs.Members.{is_in, cmp}
use Rattle.file_table.specs.Analyses.{Analyses, AgreeOn, analysed}
use Rattle.file_table.specs.Table.{Rows, analysis_at, with_analysis}

-- the copy has the same ELF information for these paths, and none for other paths
pub record IsCopied (what : Analyses) (done : List (List ℕ)) (copy : Rows) : Type 0 where
  pub keys : keys_of copy ≡ analysed what done
  pub same : (q : List ℕ) → analysis_at copy q ≡ cond (is_in done q) (what q) None

-- ---- a path after the others

pub without : (P : List ℕ → Type 0) (xs : List (List ℕ)) (k : List ℕ) (ys : List (List ℕ)) → AllByRecursion P (xs ++ k ∷ ys) → P k
without P [] k ys a = a.0
without P (x ∷ xs) k ys a = without P xs k ys a.1

not_before : (xs : List (List ℕ)) (k : List ℕ) (ys : List (List ℕ)) → IsStrictlySortedBy (slice_cmp nat_cmp) (xs ++ k ∷ ys) → is_in xs k ≡ false
unfolding IsStrictlySortedBy
not_before [] k ys s = refl
not_before (x ∷ xs) k ys s = by_test (bytes_eq k x)
    (λ e.
    let same : k ≡ x = (bytes_eq-Decides k x).0 e in
    let less : cmp x k ≡ Less = without (λ y. cmp x y ≡ Less) xs k ys s.0 in
    let z : Equal ≡ Less = sym (tied_itself nat_list_cmp_total x) ∙ subst (λ (y : List ℕ). cmp x y ≡ Less) same less in absurd (cc))
    (λ e. ap (λ b. b || is_in xs k) e ∙ not_before xs k ys s.1)

-- ---- a path without ELF information gets a row

pub put_last : (rows : Rows) (path : List ℕ) (analysis : Analysis) → analysis_at rows path ≡ None → with_analysis rows path analysis ≡ rows ++ (path, analysis) ∷ []
put_last [] path analysis none = refl
put_last (e ∷ rows) path analysis none = by_test (bytes_eq path e.0)
    (λ h. let z : Some e.1 ≡ None = rw h at none in absurd (cc))
    (λ h. rw h (ap (λ rs. e ∷ rs) (put_last rows path analysis (rw h at none))))

at_last : (rows : Rows) (path q : List ℕ) (analysis : Analysis) → analysis_at (rows ++ (path, analysis) ∷ []) q ≡ cond (is_some (analysis_at rows q)) (analysis_at rows q) (cond (bytes_eq q path) (Some analysis) None)
at_last [] path q analysis = refl
at_last (e ∷ rows) path q analysis = by_test (bytes_eq q e.0) (λ h. rw h refl) (λ h. rw h (at_last rows path q analysis))

-- ---- one more path

module _ (what : Analyses) (done : List (List ℕ)) (path : List ℕ) (rest : List (List ℕ)) (sorted : IsStrictlySortedBy (slice_cmp nat_cmp) (done ++ path ∷ rest)) (copy : Rows) (is : IsCopied what done copy) where
  here : is_in done path ≡ false
  here = not_before done path rest sorted

  in_more : (q : List ℕ) → is_in (done ++ path ∷ []) q ≡ (is_in done q || bytes_eq q path)
  in_more q = list_any-append (bytes_eq q) done (path ∷ []) ∙ elim (bytes_eq q path) as (λ b. (is_in done q || (b || false)) ≡ (is_in done q || b)) [ true ↦ refl | false ↦ refl ]

  more_of : (q : List ℕ) (found : Option Analysis) → what path ≡ found → cond (is_some (cond (is_in done q) (what q) None)) (cond (is_in done q) (what q) None) (cond (bytes_eq q path) found None)
      ≡ cond (is_in done q || bytes_eq q path) (what q) None
  more_of q found e = by_test (bytes_eq q path)
      (λ h.
      let same : q ≡ path = (bytes_eq-Decides q path).0 h in
      let not_in : is_in done q ≡ false = ap (is_in done) same ∙ here in
      rw (h, not_in) (sym (ap what same ∙ e)))
      (λ h. rw h (elim (is_in done q) as (λ b. cond (is_some (cond b (what q) None)) (cond b (what q) None) None ≡ cond (b || false) (what q) None)
      [ true ↦ elim (what q) as (λ o. cond (is_some o) o None ≡ o) [ None ↦ refl | Some a ↦ refl ] | false ↦ refl ]))

  pub one_more : (analysis : Analysis) → what path ≡ Some analysis → IsCopied what (done ++ path ∷ []) (with_analysis copy path analysis)
  one_more analysis e =
      let none : analysis_at copy path ≡ None = is.same path ∙ ap (λ b. cond b (what path) None) here in
      let put = put_last copy path analysis none in
      record {
        keys = ap keys_of put ∙ map-append (λ (row : List ℕ × Analysis). row.0) copy ((path, analysis) ∷ []) ∙ ap (λ ks. ks ++ path ∷ []) is.keys
            ∙ sym (filter-append (λ p. is_some (what p)) done (path ∷ []) ∙ ap (λ o. analysed what done ++ cond (is_some o) (path ∷ []) []) e);
        same = λ q.
            ap (λ rows. analysis_at rows q) put ∙ at_last copy path q analysis
            ∙ ap (λ o. cond (is_some o) o (cond (bytes_eq q path) (Some analysis) None)) (is.same q)
            ∙ more_of q (Some analysis) e ∙ ap (λ b. cond b (what q) None) (sym (in_more q));
      }

  pub none_more : what path ≡ None → IsCopied what (done ++ path ∷ []) copy
  none_more e = record {
    keys = is.keys ∙ sym (filter-append (λ p. is_some (what p)) done (path ∷ []) ∙ ap (λ o. analysed what done ++ cond (is_some o) (path ∷ []) []) e ∙ append-nil (analysed what done));
    same = λ q. is.same q ∙ by q (is_in done q) refl ∙ ap (λ b. cond b (what q) None) (sym (in_more q));
  }
    where
      by : (q : List ℕ) (b : Bool) → is_in done q ≡ b → cond (is_in done q) (what q) None ≡ cond (is_in done q || bytes_eq q path) (what q) None
      by q true f = rw f refl
      by q false f = by_test (bytes_eq q path)
          (λ h. rw (f, h) (sym (ap what ((bytes_eq-Decides q path).0 h) ∙ e)))
          (λ h. rw (f, h) refl)

-- ---- the paths in order

divided : (paths : List (List ℕ)) (i : ℕ) (d : List ℕ) → i < length paths → paths ≡ take i paths ++ get_or paths i d ∷ drop (suc i) paths
divided [] i d h = absurd (omega arith)
divided (path ∷ paths) zero d h = refl
divided (path ∷ paths) (suc i) d h = ap (λ ps. path ∷ ps) (divided paths i d (omega arith))

module _ (what : Analyses) (paths : List (List ℕ)) (sorted : IsStrictlySortedBy (slice_cmp nat_cmp) paths) (i : ℕ) (path : List ℕ) (h : i < length paths) (is : path ≡ get_or paths i path) (copy : Rows)
    (so_far : IsCopied what (take i paths) copy) where
  whole : paths ≡ take i paths ++ path ∷ drop (suc i) paths
  whole = divided paths i path h ∙ ap (λ p. take i paths ++ p ∷ drop (suc i) paths) (sym is)

  in_turn : IsStrictlySortedBy (slice_cmp nat_cmp) (take i paths ++ path ∷ drop (suc i) paths)
  in_turn = subst (λ (ps : List (List ℕ)). IsStrictlySortedBy (slice_cmp nat_cmp) ps) whole sorted

  further : take (i + 1) paths ≡ take i paths ++ path ∷ []
  further = take_more paths i path h ∙ ap (λ p. take i paths ++ p ∷ []) (sym is)

  pub next_copied : (analysis : Analysis) → what path ≡ Some analysis → IsCopied what (take (i + 1) paths) (with_analysis copy path analysis)
  next_copied analysis e =
      subst (λ (done : List (List ℕ)). IsCopied what done (with_analysis copy path analysis)) (sym further) (one_more what (take i paths) path (drop (suc i) paths) in_turn copy so_far analysis e)

  pub next_passed : what path ≡ None → IsCopied what (take (i + 1) paths) copy
  next_passed e = subst (λ (done : List (List ℕ)). IsCopied what done copy) (sym further) (none_more what (take i paths) path (drop (suc i) paths) in_turn copy so_far e)

-- ---- all paths

pub all_same : (what : Analyses) (paths : List (List ℕ)) (copy : Rows) → IsCopied what paths copy → AgreeOn paths what (analysis_at copy)
all_same what paths copy is path there = is.same path ∙ ap (λ b. cond b (what path) None) there

pub none_copied : (what : Analyses) → IsCopied what [] []
none_copied what = record { keys = refl; same = λ q. refl }
