-- At files that were seen, the part has the same identities and keys as the tree. So its files have the same ELF information and cached records.
use Rattle.std.proofs.Common.{◌≡◌, ℕ, zero, suc, ◌||◌, List, [], ◌∷◌, ◌++◌, take, refl, ap, ◌∙◌}
use Rattle.std.proofs.Math.Bool.{or-true}
use Rattle.std.specs.List.{before_first, cons_option, position_or_len}
use Rattle.std.specs.Option.{option_and_then, option_map, option_or}
use Rattle.std.specs.Str.{bytes_eq}
use Rattle.aux_cache.specs.Stamps.{stamp_of}
use Rattle.aux_cache.specs.declared.stamps.Stamp.{Stamp}
use Rattle.elf_dynamic.specs.Analysis.{analysis}
use Rattle.elf_dynamic.specs.Begun.{key_in}
use Rattle.file_stamps.specs.Files.{what_is}
use Rattle.file_stamps.specs.Info.{info_by, info_in, stamps_before, info_stamps}
use Rattle.file_stamps.specs.Stamped.{id_at, id_in, of_stamp, stamp_at, stamp_by, stamps_at}
use Rattle.file_table.specs.Analyses.{Analyses, AgreeOn}
use Rattle.image_tree.specs.Tree.{Nodes}
use Rattle.tree_face.specs.Store.{Contents}
use Rattle.string_pool.proofs.Members.{is_in}
use Rattle.seen_tree.specs.Part.{AreSeen, IsSeen}
use Rattle.seen_places.proofs.Each.{of_all}
use Rattle.lib_types.proofs.SameTexts.{itself}

module _ (t part : Nodes) where
  -- the first of the paths that were seen
  first_seen : (n : ℕ) (paths : List (List ℕ)) → AreSeen t part paths → AreSeen t part (take n paths)
  first_seen zero [] all = tt
  first_seen zero (path ∷ paths) all = tt
  first_seen (suc n) [] all = tt
  first_seen (suc n) (path ∷ paths) all = (all.0, first_seen n paths all.1)

  module _ (held : Contents) where
    pub what_seen : (path : List ℕ) → IsSeen t part path → what_is held part path ≡ what_is held t path
    what_seen path seen = ap (λ o. option_map analysis (option_and_then held (key_in o))) seen

    stamp_seen : (path : List ℕ) → IsSeen t part path → stamp_at held part path ≡ stamp_at held t path
    stamp_seen path seen = ap (λ o. stamp_by (id_in o) (option_map analysis (option_and_then held (key_in o)))) seen

    pub stamps_seen : (paths : List (List ℕ)) → AreSeen t part paths → stamps_at held part paths ≡ stamps_at held t paths
    stamps_seen [] all = refl
    stamps_seen (path ∷ paths) all =
        ap (λ stamp. cons_option stamp (stamps_at held part paths)) (stamp_seen path all.0) ∙ ap (cons_option (stamp_at held t path)) (stamps_seen paths all.1)

    info_by_seen : (stamps : List Stamp) (path : List ℕ) → IsSeen t part path → info_by held part stamps path ≡ info_by held t stamps path
    info_by_seen stamps path seen =
        ap (λ o. option_or (option_map of_stamp (option_and_then (stamp_of stamps) (id_in o))) (option_map analysis (option_and_then held (key_in o)))) seen

    -- the ELF information of files that were seen is the same
    pub info_seen : (loaded : List Stamp) (paths : List (List ℕ)) → AreSeen t part paths → AgreeOn paths (info_in held t loaded paths) (info_in held part loaded paths)
    info_seen loaded paths all path there =
        ap (λ stamps. info_by held part (loaded ++ stamps) path) (stamps_seen (before_first (bytes_eq path) paths) (first_seen (position_or_len (bytes_eq path) paths) paths all))
        ∙ info_by_seen (stamps_before held t loaded paths path) path (of_all (IsSeen t part) paths path all there)

  -- the cached records of files that were seen are the same
  pub stamps_info_seen : (what new : Analyses) (paths : List (List ℕ)) → AreSeen t part paths → AgreeOn paths what new → info_stamps part new paths ≡ info_stamps t what paths
  stamps_info_seen what new [] all same = refl
  stamps_info_seen what new (path ∷ paths) all same =
      ap (λ id. cons_option (stamp_by id (new path)) (info_stamps part new paths)) (ap id_in all.0)
      ∙ ap (λ a. cons_option (stamp_by (id_at t path) a) (info_stamps part new paths)) (same path (ap (λ b. b || is_in paths path) (itself path)))
      ∙ ap (cons_option (stamp_by (id_at t path) (what path))) (stamps_info_seen what new paths all.1 (λ q h. same q (ap (λ b. bytes_eq q path || b) h ∙ or-true (bytes_eq q path))))
