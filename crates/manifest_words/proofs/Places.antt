-- The path that a first word names.
use Rattle.std.proofs.Common.{◌≡◌, ◌≤◌, ℕ, Bool, false, cond, drop, eqb, not, ◌&&◌, ◌||◌, List, [], ◌∷◌, ◌++◌, length, flat_map, length-append, Option, Some, None, ap, sym, ◌∙◌, refl, arith}
use Rattle.std.specs.List.{list_all}
use Rattle.std.proofs.lemmas.Bool.{eq-eqb, ne_eqb}
use Rattle.std.proofs.lemmas.List.{append-nil}
use Rattle.std.proofs.Math.Seq.{drop-append_seam}
use Rattle.lib_types.specs.Name.{is_name}
use Rattle.image_tree.specs.Paths.{is_path}
use Rattle.manifest_words.specs.Paths.{Stack, current, is_full, below, is_place, place_fault_of, path_of, place, names_of}
use Rattle.manifest_words.specs.Naming.{Names, is_place_after, place_fault_after}

-- a path gets longer exactly if there are names
no_longer : (base : List ℕ) (names : List (List ℕ)) → eqb (length (below base names)) (length base) ≡ eqb (length names) 0
no_longer base [] = eq-eqb _ _ (omega (arith, length-append base []))
no_longer base (name ∷ names) =
    let whole = length-append base (47 ∷ name ++ flat_map (λ n. 47 ∷ n) names) in
    ne_eqb _ _ (λ e. absurd (omega arith)) ∙ sym (ne_eqb (length (name ∷ names)) 0 (λ e. absurd (omega arith)))

place_after : (is_dir : Bool) (base : List ℕ) (names : List (List ℕ)) → is_place_after is_dir (list_all is_name names) (length base) (below base names) ≡ is_place is_dir base names
place_after is_dir base names = ap (λ t. (list_all is_name names && (is_dir || not t)) && (eqb (length (below base names)) 0 || is_path (below base names))) (no_longer base names)

-- the error of a word, given its path
pub fault_after : (is_dir : Bool) (base word new : List ℕ) (found : Option (List (List ℕ))) (good : Bool) → Names base new found (Some good) → place_fault_after word (is_place_after is_dir good (length base) new) ≡ place_fault_of is_dir base word found
fault_after is_dir base word new None good e = absurd (cc)
fault_after is_dir base word new (Some names) good e =
    let all : good ≡ list_all is_name names = cc in
    let path : new ≡ below base names = e.1 in
    rw (all, path) (ap (place_fault_after word) (place_after is_dir base names))

-- a relative word is resolved from the current directory
place_is : (dirs : Stack) (first : List ℕ) → is_full first ≡ false → place dirs first ≡ path_of (names_of first) (current dirs)
place_is dirs first relative = ap (λ t. path_of (names_of first) (cond t [] (current dirs))) relative

comes_after : (base : List ℕ) (found : Option (List (List ℕ))) → (more : List ℕ) × (path_of found base ≡ base ++ more)
comes_after base None = ([], sym (append-nil base))
comes_after base (Some names) = (flat_map (λ n. 47 ∷ n) names, refl)

pub place_longer : (dirs : Stack) (first : List ℕ) → is_full first ≡ false → length (current dirs) ≤ length (place dirs first)
place_longer dirs first relative =
    let more = comes_after (current dirs) (names_of first) in
    let whole = ap length (place_is dirs first relative ∙ more.1) in
    omega (arith, length-append (current dirs) more.0)

pub place_from : (dirs : Stack) (first : List ℕ) → is_full first ≡ false → current dirs ++ drop (length (current dirs)) (place dirs first) ≡ place dirs first
place_from dirs first relative =
    let more = comes_after (current dirs) (names_of first) in
    let whole = place_is dirs first relative ∙ more.1 in
    ap (λ p. current dirs ++ drop (length (current dirs)) p) whole ∙ ap (λ m. current dirs ++ m) (drop-append_seam (current dirs) more.0) ∙ sym whole
