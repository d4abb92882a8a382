-- How the code gathers the search directories: one directory at a time, with a set of the directories that were already added.
use Rattle.std.specs.Prelude.{ℕ, Bool, List, [], ◌++◌, not, if◌then◌else◌, filter, flat_map}
use Rattle.std.specs.List.{filter_map, list_any}
use Rattle.std.specs.Str.{bytes_eq}
use Rattle.image_tree.specs.Tree.{Nodes}
use Rattle.hwcap_dirs.specs.Places.{Led, led_at, firsts, places_of}
use Rattle.hwcap_dirs.specs.declared.kinds.Place.{Place}

abbrev pub was_met : List (List ℕ) → Led → Bool
was_met met led = list_any (bytes_eq led.1) met

-- the search directories of a directory, unless it was already added
abbrev pub new_places : Nodes → List (List ℕ) → Led → List Place
new_places t met led = if was_met met led then [] else places_of t led

-- the search directories of the directories that were not added yet
abbrev pub places_left : Nodes → List (List ℕ) → List Led → List Place
places_left t met leds = flat_map (places_of t) (filter (λ led. not (was_met met led)) (firsts leds))

-- the search directories so far, and those of the directories that these paths resolve to
abbrev pub all_places : Nodes → List (List ℕ) → List Place → List (List ℕ) → List Place
all_places t met places texts = places ++ places_left t met (filter_map (led_at t) texts)
