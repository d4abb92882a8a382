-- The text of a sample.
use Rattle.std.specs.Prelude.{ℕ, Bool, false, ◌==◌, List, [], ◌∷◌, ◌++◌, codes, decimal, length, Some}
use Rattle.std.specs.List.{count_by}
use Rattle.std.specs.Option.{is_none, is_some, option_map_or}
use Rattle.hwcap_dirs.specs.declared.kinds.Scope.TheVariants.{Image}
use Rattle.cache_lookup.specs.Scan.{scan}
use Rattle.cache_reader.specs.Cache.{CachedEntry, read}
use Rattle.lib_types.specs.declared.abi.Abi.TheVariants.{X86_64}
use Rattle.image_session.specs.Session.{Loaded}
use Rattle.library_search.specs.Begun.{opened_in}
use Rattle.library_search.specs.Ldconfig.{entries_in, links_in}
use Rattle.tree_face.specs.Store.{Contents}
use Rattle.update_world.specs.Turns.{readings_after}
use Rattle.update_world.specs.declared.post.Post.{Post}
use Rattle.update_world.specs.declared.post.Reading.{Reading}
use Rattle.update_world.specs.declared.post.Turn.{Turn}
use Rattle.update_world.specs.declared.post.Turn.TheVariants.{Step, Load}
use Rattle.sample_runs.specs.declared.files.SampleFile.{SampleFile}
use Rattle.sample_runs.specs.declared.updates.SampleUpdate.{SampleUpdate}
use Rattle.sample_runs.specs.Files.{sample_files, soname}
use Rattle.sample_runs.specs.Images.{first_image, second_image}

-- ---- updates

unfoldable pub libs_text : ℕ → ℕ → List ℕ
libs_text number libs = codes "update " ++ decimal number ++ codes ": " ++ decimal libs

unfoldable pub links_text : ℕ → ℕ → List ℕ
links_text links opened = codes " libs, " ++ decimal links ++ codes " links, " ++ decimal opened

unfoldable pub size_text : ℕ → List ℕ
size_text size = codes " files opened, " ++ decimal size

-- the line of an update with these numbers
unfoldable pub update_line : ℕ → ℕ → ℕ → ℕ → ℕ → List ℕ
update_line number libs links opened bytes = libs_text number libs ++ links_text links opened ++ size_text bytes ++ codes " bytes\n"

-- the line of the update of this image, which writes this cache
abbrev pub line_of : Contents → ℕ → Loaded → List ℕ → List ℕ
line_of held number s cache =
    update_line number (length (entries_in Image held s.tree s.stamps)) (length (links_in Image held s.tree s.stamps)) (opened_in Image held s.tree s.stamps) (length cache)

-- ---- look-ups

abbrev pub caps : List (List ℕ)
caps = codes "x86-64-v3" ∷ []

-- whether the loader finds the library by these entries
abbrev pub is_found : List CachedEntry → SampleFile → Bool
is_found entries file = is_some (scan entries (soname file) X86_64 caps)

unfoldable pub lookups_line : ℕ → ℕ → List ℕ
lookups_line found n = codes "lookups: " ++ decimal found ++ codes " found of " ++ decimal n ++ codes "\n"

-- ---- readings

-- updater 0 has tag 0 and writes the second cache, updater 1 has tag 1 and writes the first cache
abbrev pub posts : List ℕ → List ℕ → List Post
posts first second = record { tag = record { 0 = 0 }; bytes = second } ∷ record { tag = record { 0 = 1 }; bytes = first } ∷ []

-- a step of each updater, and a loader after each step
abbrev pub round : List Turn
round = Step 0 ∷ Load ∷ Step 1 ∷ Load ∷ []

abbrev pub schedule : List Turn
schedule = round ++ round ++ round ++ round ++ round

-- what the loaders read while both updaters replace the first cache
unfoldable pub readings : List ℕ → List ℕ → List Reading
readings first second = readings_after (Some first) (posts first second) [] schedule

abbrev pub is_first : Reading → Bool
is_first reading = is_none reading.writer

abbrev pub is_by : ℕ → Reading → Bool
is_by tag reading = option_map_or (λ t. t.0 == tag) reading.writer false

unfoldable pub readings_line : List Reading → List ℕ
readings_line rs =
    codes "readings: " ++ decimal (count_by is_first rs) ++ codes " first, " ++ decimal (count_by (is_by 0) rs) ++ codes " tag 0, "
    ++ decimal (count_by (is_by 1) rs) ++ codes " tag 1\n"

-- ---- all of it

-- the lines after those of the updates, from the caches that the updates write
abbrev pub last_lines : ℕ → List ℕ → List ℕ → List ℕ
last_lines n first second = lookups_line (count_by (is_found (read second)) (sample_files n)) n ++ readings_line (readings first second)

-- the text with the numbers of two updates
abbrev pub text_with : ℕ → SampleUpdate → SampleUpdate → List ℕ
text_with n first second =
    update_line 1 first.libs first.links first.opened (length first.cache)
    ++ update_line 2 second.libs second.links second.opened (length second.cache)
    ++ last_lines n first.cache second.cache

unfoldable pub sample_text : Contents → ℕ → List ℕ → List ℕ → List ℕ
sample_text held n first second =
    line_of held 1 (first_image n) first ++ line_of held 2 (second_image held n) second ++ last_lines n first second
