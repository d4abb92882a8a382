-- The index of an identity in sorted stamps, or the index at which it would be inserted.
use Rattle.std.specs.Prelude.{◌≡◌, ℕ, ◌<◌, ◌≤◌, List, length}
use Rattle.std.specs.List.{AllWithin, HoldsAt}
use Rattle.std.specs.declared.cmp.Ordering.TheVariants.{Less, Equal, Greater}
use Rattle.image_tree.specs.declared.node.Id.{Id}
use Rattle.aux_cache.specs.Ids.{id_cmp}
use Rattle.aux_cache.specs.declared.stamps.Stamp.{Stamp}

-- the stamp at this index has the identity
pub record IsIndexOf (stamps : List Stamp) (id : Id) (index : ℕ) : Type 0 where
  pub within : index < length stamps
  pub same : HoldsAt (λ s. id_cmp s.id id ≡ Equal) stamps index

-- No stamp has the identity. A stamp with it would be inserted at this index.
pub record IsGapFor (stamps : List Stamp) (id : Id) (index : ℕ) : Type 0 where
  pub within : index ≤ length stamps
  pub before : AllWithin (λ s. id_cmp s.id id ≡ Less) stamps 0 index
  pub after : AllWithin (λ s. id_cmp s.id id ≡ Greater) stamps index (length stamps)
