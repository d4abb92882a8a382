-- The offsets of all texts, from where the table ends after each text.
use Rattle.std.proofs.Common.{◌≡◌, ℕ, ◌+◌, ◌<◌, ◌≤◌, List, [], ◌∷◌, length, map, get_or, Some, Bor, refl, ap, ◌∙◌, arith}
use Rattle.std.proofs.lemmas.List.{get_or-map, length-map}
use Rattle.std.proofs.lemmas.Option.{get_or_from_slice_get, slice_get-get_or, slice_get-map, slice_get_within}
use Rattle.std.specs.List.{slice_get}
use Rattle.std.specs.Option.{option_map}
use Rattle.string_pool.specs.InOrder.{table_of}
use Rattle.string_pool.specs.Hosts.{host_of}
use Rattle.string_pool.specs.Laid.{AreEnds, table_to}
use Rattle.string_pool.specs.SharedEnds.{shared_offset}
use Rattle.string_pool.proofs.Laying.{table_to_fits}
use Rattle.string_pool.proofs.Offsets.{host_there, offset_at}

abbrev pub no_text : Bor (List ℕ)
no_text = record { ref_ptr = (0, 0); now = [] }

pub map_twice : {X Y Z : Type 0} (f : X → Y) (g : Y → Z) (xs : List X) → map (λ x. g (f x)) xs ≡ map g (map f xs)
map_twice f g [] = refl
map_twice f g (x ∷ xs) = ap (λ zs. g (f x) ∷ zs) (map_twice f g xs)

-- the text at an index
pub text_at : (texts : List (Bor (List ℕ))) (i : ℕ) → i < length texts → slice_get (map (λ text. text.now) texts) i ≡ Some (get_or texts i no_text).now
text_at texts i within = slice_get-map (λ text. text.now) texts i ∙ ap (option_map (λ text. text.now)) (slice_get-get_or texts i no_text within)

module _ (texts : List (Bor (List ℕ))) (hosts ends : List ℕ) (hosts_are : hosts ≡ map (host_of (map (λ text. text.now) texts)) (map (λ text. text.now) texts)) (many : length ends ≡ length texts)
    (ends_are : AreEnds (map (λ text. text.now) texts) (length texts) ends) (i number : ℕ) (at : number ≡ i) (within : i < length texts) where
  abbrev ts : List (List ℕ)
  ts = map (λ text. text.now) texts

  abbrev t : List ℕ
  t = (get_or texts i no_text).now

  there : slice_get ts i ≡ Some t
  there = text_at texts i within

  host_value : get_or hosts number 0 ≡ host_of ts t
  host_value = ap (λ (xs : List ℕ). get_or xs number 0) hosts_are ∙ ap (λ n. get_or (map (host_of ts) ts) n 0) at
      ∙ get_or-map (host_of ts) ts i t 0 (slice_get_within ts i t there) ∙ ap (host_of ts) (get_or_from_slice_get ts i t t there)

  pub host_index : number < length hosts
  host_index = omega (arith, at, within, ap length hosts_are, length-map ts (host_of ts), length-map texts (λ text. text.now))

  inside : host_of ts t < length texts
  inside =
      let found = host_there ts i t there in
      omega (arith, slice_get_within ts (host_of ts t) found.0 found.1, length-map texts (λ text. text.now))

  pub host_within : get_or hosts number 0 < length ends
  host_within = omega (arith, host_value, inside, many)

  end_value : get_or ends (get_or hosts number 0) 0 ≡ length (table_to ts (host_of ts t + 1))
  end_value = ap (λ n. get_or ends n 0) host_value ∙ get_or_from_slice_get ends (host_of ts t) (length (table_to ts (host_of ts t + 1))) 0 (ends_are (host_of ts t) inside)

  pub end_is : get_or ends (get_or hosts number 0) 0 ≡ shared_offset ts t + length t + 1
  end_is =
      let found = host_there ts i t there in
      end_value ∙ offset_at ts t found.0 found.1

  pub end_fits : get_or ends (get_or hosts number 0) 0 ≤ length (table_of ts)
  end_fits = omega (arith, end_value, table_to_fits ts (host_of ts t + 1))
