-- The visit of a file: either a reason not to open it is reported, or its steps are processed.
use Rattle.std.proofs.Common.{◌≡◌, ◌<◌, ◌-◌, ◌∙◌, ℕ, zero, suc, Bool, true, false, cond, List, [], ◌∷◌, ◌++◌, length, Option, Some, None, Vec, Global, refl, sym, ap, arith, nat_le}
use Rattle.std.proofs.Math.Nat.{add-zero}
use Rattle.std.proofs.lemmas.List.{append-nil}
use Rattle.std.specs.List.{flat_map}
use Rattle.lib_types.proofs.SortedPairs.{by_test}
use Rattle.tree_face.specs.Known.{IfKnown}
use Rattle.tree_face.specs.Store.{Contents}
use Rattle.image_tree.specs.Tree.{Nodes}
use Rattle.image_tree.specs.declared.path.TheConstants.{PATH_MAX}
use Rattle.conf_patterns.specs.Patterns.{Found}
use Rattle.conf_views.specs.Files.{file_with}
use Rattle.ldso_conf.specs.Reading.{Item, Reports, asked, begun, included, included_by, named, place_in, reported, reported_at, steps_in, was_read, with_steps}
use Rattle.ldso_conf.specs.Steps.{steps_of}
use Rattle.ldso_conf.specs.Visits.{Progress, HasContent, HasEnded, HasLoaded, HasTaken, IsToBeginAs, with_begun, with_dir, with_items, with_read, with_report}
use Rattle.ldso_conf.specs.declared.kinds.ConfKind.TheVariants.{NotFile, Repeated, TooDeep, TooLarge, LongPath}
use Rattle.ldso_conf.specs.declared.kinds.ConfReport.{ConfReport}
use Rattle.ldso_conf.specs.declared.kinds.Origin.{Origin}
use Rattle.ldso_conf.specs.declared.reading.TheConstants.{CONF_MAX}
use Rattle.ldso_conf.specs.declared.steps.Step.{Step}

-- ---- items for which no file is opened

pub take_report : (r new : Progress) (report : ConfReport) → new ≡ with_report r report → HasTaken (Reports report ∷ []) r new
take_report r new report e = record { held = refl; reader = e ∙ sym same } where
  same : with_items r (Reports report ∷ []) ≡ with_report r report
  same = rw (append-nil r.dirs, append-nil r.origins, append-nil r.read, add-zero r.files) refl

pub take_dir : (r new : Progress) (dir : List ℕ) (origin : Origin) → new ≡ with_dir r dir origin → HasTaken (named dir origin ∷ []) r new
take_dir r new dir origin e =
    by_test {P = HasTaken (named dir origin ∷ []) r new} (nat_le (length dir) PATH_MAX)
    (λ short. rw short record { held = refl; reader = (rw short at e) ∙ sym (rw (append-nil r.reports, append-nil r.read, add-zero r.files) refl) })
    (λ long. rw long (take_report r new (reported_at origin dir LongPath) (rw long at e)))

pub dir_files : (r new : Progress) (dir : List ℕ) (origin : Origin) → new ≡ with_dir r dir origin → new.files ≡ r.files
dir_files r new dir origin e =
    by_test {P = new.files ≡ r.files} (nat_le (length dir) PATH_MAX)
    (λ short. ap (λ (p : Progress). p.files) (rw short at e))
    (λ long. ap (λ (p : Progress). p.files) (rw long at e))

-- ---- a file that is not to be opened

module _ (left : ℕ) (r : Progress) (f : Found) (there : Option (List ℕ)) where
  alone : (report : ConfReport) (t : Nodes) (held : Contents) → included_by held left r.read f there ≡ Reports report → included t held left r.read (file_with f there) ≡ Reports report ∷ []
  alone report t held e = at left e where
    at : (n : ℕ) → included_by held n r.read f there ≡ Reports report → included t held n r.read (file_with f there) ≡ Reports report ∷ []
    at zero e = ap (λ item. item ∷ []) e
    at (suc n) e = ap (with_steps (included t held n) t r.read) e

  pub not_file : (new : Progress) → there ≡ None → new ≡ with_report r (reported f.0 NotFile) → HasEnded left r f there new
  not_file new none e = record { report = reported f.0 NotFile; alone = λ t held. alone (reported f.0 NotFile) t held (rw none refl); reported = e }

  pub repeated : (new : Progress) (key : List ℕ) → there ≡ Some key → was_read r.read f.1 ≡ true → new ≡ with_report r (reported f.0 Repeated) → HasEnded left r f there new
  repeated new key some read e = record { report = reported f.0 Repeated; alone = λ t held. alone (reported f.0 Repeated) t held (rw (some, read) refl); reported = e }

  pub too_deep : (new : Progress) (key : List ℕ) → there ≡ Some key → was_read r.read f.1 ≡ false → left ≡ 0 → new ≡ with_report r (reported f.0 TooDeep) → HasEnded left r f there new
  too_deep new key some unread none e = record { report = reported f.0 TooDeep; alone = λ t held. alone (reported f.0 TooDeep) t held (rw (some, unread, none) refl); reported = e }

  pub begins : (key : List ℕ) → there ≡ Some key → was_read r.read f.1 ≡ false → 0 < left → IsToBeginAs left r f there r key
  begins key some unread deep = record { same = refl; deep = deep; is_file = some; unread = unread }

-- ---- a file that is opened

pub some_by : (b : Bool) (x y : List ℕ) → Some y ≡ cond b (Some x) None → (b ≡ true) × (y ≡ x)
some_by true x y e = let same : y ≡ x = cc in (refl, same)
some_by false x y e = absurd (cc)

pub none_by : (b : Bool) (x : List ℕ) → None ≡ cond b (Some x) None → b ≡ false
none_by true x e = absurd (cc)
none_by false x e = refl

module _ (t : Nodes) (r : Progress) (f : Found) (key : List ℕ) where
  load_small : (held : Contents) (content : Vec ℕ Global) → HasContent (held key) (Some content) →
      HasLoaded t (begun f key (held key)) r (with_read (with_begun r) f.1) (steps_of t f.0 content.items)
  load_small held content h =
      let small = some_by (nat_le (length h.bytes) CONF_MAX) h.bytes content.items h.read in
      rw (h.there, small.0, small.1) record { held = refl; reader = sym (rw (append-nil r.dirs, append-nil r.origins, append-nil r.reports) refl); left = refl }

  load_large : (held : Contents) → HasContent (held key) None → HasLoaded t (begun f key (held key)) r (with_report (with_begun r) (reported f.0 TooLarge)) []
  load_large held h =
      let large = none_by (nat_le (length h.bytes) CONF_MAX) h.bytes h.read in
      rw (h.there, large) record { held = refl; reader = sym (rw (append-nil r.dirs, append-nil r.origins, append-nil r.read) refl); left = refl }

  pub loads_small : (known : Option Contents) (content : Vec ℕ Global) (new : Progress) (steps : List Step) → new ≡ with_read (with_begun r) f.1 → steps ≡ steps_of t f.0 content.items →
      IfKnown known (λ held. HasContent (held key) (Some content)) → IfKnown known (λ held. HasLoaded t (begun f key (held key)) r new steps)
  loads_small None content new steps e k h = h
  loads_small (Some held) content new steps e k h = rw (e, k) (load_small held content h)

  pub loads_large : (known : Option Contents) (new : Progress) (steps : List Step) → new ≡ with_report (with_begun r) (reported f.0 TooLarge) → steps ≡ [] →
      IfKnown known (λ held. HasContent (held key) None) → IfKnown known (λ held. HasLoaded t (begun f key (held key)) r new steps)
  loads_large None new steps e k h = h
  loads_large (Some held) new steps e k h = rw (e, k) (load_large held h)

module _ (t : Nodes) (left : ℕ) (r : Progress) (f : Found) (there : Option (List ℕ)) (new : Progress) (key : List ℕ) (b : IsToBeginAs left r f there new key) (held : Contents) where
  -- the items of the file
  pub by_file : included t held left r.read (file_with f there) ≡ with_steps (included t held (left - 1)) t r.read (begun f key (held key))
  by_file = at left b.deep where
    at : (n : ℕ) → 0 < n → included t held n r.read (file_with f there) ≡ with_steps (included t held (n - 1)) t r.read (begun f key (held key))
    at zero deep = absurd (omega arith)
    at (suc n) deep =
        let e : suc n - 1 ≡ n = omega arith in
        rw (b.is_file, b.unread) (ap (λ m. with_steps (included t held m) t r.read (begun f key (held key))) (sym e))

  -- the file was loaded, and its steps are left
  pub by_steps : (item : Item) (now : Progress) (steps : List Step) → item ≡ begun f key (held key) → HasLoaded t item new now steps →
      included t held left r.read (file_with f there) ≡ (item ∷ []) ++ asked (included t held (left - 1)) now.read steps
  by_steps item now steps e loaded =
      by_file ∙ rw (← e, loaded.left, loaded.reader, b.same) (ap (λ places. item ∷ asked (included t held (left - 1)) (r.read ++ places) (steps_in t item)) places) where
        places : place_in item ≡ flat_map place_in (item ∷ [])
        places = sym (append-nil (place_in item))

module _ (t : Nodes) (left : ℕ) (r : Progress) (f : Found) (there : Option (List ℕ)) (new : Progress) (key : List ℕ) (b : IsToBeginAs left r f there new key) (now : Progress) (steps : List Step) where
  pub steps_left : (known : Option Contents) → IfKnown known (λ held. HasLoaded t (begun f key (held key)) new now steps) →
      IfKnown known (λ held. included t held left r.read (file_with f there) ≡ begun f key (held key) ∷ asked (included t held (left - 1)) now.read steps)
  steps_left None loaded = tt
  steps_left (Some held) loaded = by_steps t left r f there new key b held (begun f key (held key)) now steps refl loaded

  pub file_taken : (known : Option Contents) → IfKnown known (λ held. HasLoaded t (begun f key (held key)) new now steps) → IfKnown known (λ held. HasTaken (begun f key (held key) ∷ []) r now)
  file_taken None loaded = tt
  file_taken (Some held) loaded = record { held = rw loaded.held refl; reader = rw b.same at loaded.reader }
