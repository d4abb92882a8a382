-- A map from file identities to stamps, as the list of its stamps.
use Rattle.std.proofs.Common.{◌≡◌, List, ap, sym, subst, ◌∙◌}
use Rattle.std.specs.BTreeMap.{insert_entry}
use Rattle.std.specs.List.Sorted.{IsStrictlySortedBy}
use Rattle.std.specs.Map.{keys_of, values_of}
use Rattle.image_tree.specs.declared.node.Id.{Id}
use Rattle.aux_cache.proofs.Sorted.{ids_of, put_pairs}
use Rattle.aux_cache.specs.Ids.{id_cmp}
use Rattle.aux_cache.specs.Stamps.{IsSortedById, by_id, put}
use Rattle.aux_cache.specs.declared.stamps.Stamp.{Stamp}

module _ (es : List (Id × Stamp)) (are : es ≡ by_id (values_of es)) where
  pub put_values : (s : Stamp) → values_of (insert_entry id_cmp es s.id s) ≡ put (values_of es) s
  put_values s = ap (λ l. values_of (insert_entry id_cmp l s.id s)) are

  pub put_are : (s : Stamp) → insert_entry id_cmp es s.id s ≡ by_id (values_of (insert_entry id_cmp es s.id s))
  put_are s = ap (λ l. insert_entry id_cmp l s.id s) are ∙ put_pairs (values_of es) s ∙ ap by_id (sym (put_values s))

  pub sorted_values : IsStrictlySortedBy id_cmp (keys_of es) → IsSortedById (values_of es)
  sorted_values sorted = subst (λ ids. IsStrictlySortedBy id_cmp ids) (ap keys_of are ∙ ids_of (values_of es)) sorted
