-- Both images of a sample are edited, so both updates write all three files.
use Rattle.std.proofs.Common.{◌≡◌, ◌<◌, ◌++◌, ◌/◌, ◌%◌, ℕ, zero, suc, Bool, true, false, List, [], ◌∷◌, fold, Some, refl, ap, ◌∙◌, if◌then◌else◌, arith}
use Rattle.hwcap_dirs.specs.declared.kinds.Scope.TheVariants.{Image}
use Rattle.ldconfig_core.specs.Outcome.{manifest_with, new_manifest}
use Rattle.ldconfig_core.specs.Texts.{AreTextsOf, UpdateTexts, of_manifest, update_slots, writes_of}
use Rattle.image_session.specs.Session.{Loaded}
use Rattle.mtree_manifest.specs.Canon.{canon}
use Rattle.atomic_replace.specs.OneByOne.{slots_of}
use Rattle.library_search.specs.Ldconfig.{links_in, planned_in}
use Rattle.tree_face.specs.declared.disk.Slot.TheVariants.{Cache, Aux}
use Rattle.tree_face.specs.Store.{Contents}
use Rattle.sample_runs.specs.declared.files.SampleFile.{SampleFile}
use Rattle.sample_runs.specs.Files.{drawn, files_from, has_hwcaps_file, is_replaced, next, sample_files}
use Rattle.sample_runs.specs.Images.{all_replaced, empty_image, first_image, with_files, with_hwcaps_file, with_library, with_newer, with_replaced}

-- ---- the first image

with_files_edited : (n : ℕ) (image : Loaded) (file : SampleFile) → (with_files n image file).edited ≡ true
with_files_edited n image file = by (has_hwcaps_file file)
  where
    by : (b : Bool) → (if b then with_hwcaps_file n (with_library image file) file else with_library image file).edited ≡ true
    by true = refl
    by false = refl

stays_edited : (n : ℕ) (files : List SampleFile) (image : Loaded) → image.edited ≡ true → (fold (with_files n) image files).edited ≡ true
stays_edited n [] image is = is
stays_edited n (file ∷ files) image is = stays_edited n files (with_files n image file) (with_files_edited n image file)

pub first_edited : (n : ℕ) → 0 < n → (first_image n).edited ≡ true
unfolding first_image sample_files
first_edited zero some = absurd (omega (arith, some))
first_edited (suc n) some =
    let m : ℕ = suc n in
    stays_edited m (files_from (next (next m)) 1 n) (with_files m empty_image (record { index = 0; major = drawn (next m) % 20; minor = drawn (next (next m)) % 4 })) (with_files_edited m empty_image (record { index = 0; major = drawn (next m) % 20; minor = drawn (next (next m)) % 4 }))

-- ---- the second image

with_replaced_edited : (image : Loaded) (file : SampleFile) → image.edited ≡ true → (with_replaced image file).edited ≡ true
with_replaced_edited image file is = by (is_replaced file)
  where
    by : (b : Bool) → (if b then with_newer image file else image).edited ≡ true
    by true = refl
    by false = is

stays_replaced : (files : List SampleFile) (image : Loaded) → image.edited ≡ true → (fold with_replaced image files).edited ≡ true
stays_replaced [] image is = is
stays_replaced (file ∷ files) image is = stays_replaced files (with_replaced image file) (with_replaced_edited image file is)

pub replaced_edited : (n : ℕ) (image : Loaded) → 0 < n → (all_replaced n image).edited ≡ true
unfolding sample_files
replaced_edited zero image some = absurd (omega (arith, some))
replaced_edited (suc n) image some = stays_replaced (files_from (next (next (suc n))) 1 n) _ refl

-- ---- the files

pub writes_all : (held : Contents) (s : Loaded) (texts : UpdateTexts) → AreTextsOf Image held s texts → s.edited ≡ true → slots_of (writes_of texts) ≡ update_slots
unfolding new_manifest
writes_all held s texts are edited =
    let written : texts.manifest ≡ Some (canon (planned_in Image held s.tree s.stamps)) = are.manifest_is ∙ ap (λ b. manifest_with Image b (planned_in Image held s.tree s.stamps) (links_in Image held s.tree s.stamps)) edited in
    ap (λ m. slots_of (of_manifest m ++ (Cache, texts.cache) ∷ (Aux, texts.aux) ∷ [])) written
