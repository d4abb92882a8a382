-- The contract of a check of a directory, from the contracts of its parts.
use Rattle.std.proofs.Common.{◌≡◌, ◌∷◌, ◌&&◌, inl, inr, true, false, not, Bool, ℕ, List, [], Option, Some, None, Ok, Err, if◌then◌else◌, refl, subst, sym}
use Rattle.image_session.proofs.ReadSlots.{reads_next, reads_none}
use Rattle.image_session.specs.declared.fault.SlotFault.{SlotFault}
use Rattle.ldconfig_core.specs.Stages.{texts_of}
use Rattle.ldconfig_core.specs.declared.preparing.Prepared.{Prepared}
use Rattle.root_folder.specs.Folder.{FolderState}
use Rattle.root_update.specs.Check.{ChecksRoot, Compares, FindsChanges, ReadsNoCache, aux_slots}
use Rattle.root_update.specs.Loading.{UsesAux}
use Rattle.link_plan.specs.declared.kinds.Planned.{Planned}
use Rattle.root_update.specs.Made.{MakesNone, Prepares, RootStates, root_states}
use Rattle.root_update.specs.Update.{asked_links}
use Rattle.root_update.specs.declared.fault.RootFault.{RootFault}
use Rattle.root_update.specs.declared.fault.RootFault.TheVariants as faults
use Rattle.root_update.specs.declared.parts.AuxUse.{AuxUse}
use Rattle.root_update.specs.declared.parts.AuxUse.TheVariants.{Unused, Replaced, Updated}
use Rattle.root_update.specs.declared.parts.RootParts.{RootParts}
use Rattle.tree_face.specs.Disk.{Content, DiskContent, DiskState, content_eq}
use Rattle.tree_face.specs.DiskUse.{ReadsOnly}
use Rattle.tree_face.specs.Known.{IfKnown}
use Rattle.tree_face.specs.Store.{StoreState}
use Rattle.tree_face.specs.StoreUse.{Complete}
use Rattle.tree_face.specs.declared.disk.Slot.TheVariants.{Cache}

-- nothing was made
pub unmade : (parts : RootParts) (fault : RootFault) (old new : RootStates) → MakesNone parts.scope parts.aux fault old new → ChecksRoot parts (Err fault) old new
unmade parts (faults.Slot fault) old new is = inl is
unmade parts (faults.Tree fault) old new is = is
unmade parts (faults.Update fault) old new is = is
unmade parts (faults.Write fault) old new is = absurd is

-- ---- the files that are read

pub unread : (a b : DiskState) → b ≡ a → ReadsOnly [] Complete a b
unread a b same = subst (λ (s : DiskState). ReadsOnly [] Complete a s) (sym same) (reads_none a)

pub aux_read : (how : AuxUse) (aux : Content) (a b : DiskState) → UsesAux how aux a b → ReadsOnly (aux_slots how) Complete a b
aux_read Unused aux a b is = unread a b is.1
aux_read Replaced aux a b is = unread a b is.1
aux_read Updated aux a b is = is.reads

cache_read : (asked differs : Bool) (cache : List ℕ) (a b : DiskState) → Compares asked cache (Ok differs) a b → ReadsOnly (if asked then Cache ∷ [] else []) Complete a b
cache_read true differs cache a b is = is.1
cache_read false differs cache a b is = unread a b is.1

-- whether the cache differs, if one is asked for
anyway : (known : Option DiskContent) (differs : Bool) → differs ≡ false → IfKnown known (λ c. differs ≡ false)
anyway None differs is = tt
anyway (Some c) differs is = is

compared : (asked differs : Bool) (cache : List ℕ) (a b : DiskState) → Compares asked cache (Ok differs) a b
    → IfKnown a.contents (λ c. differs ≡ (asked && not (content_eq c.now.cache (Some cache))))
compared true differs cache a b is = is.0
compared false differs cache a b is = anyway a.contents differs is.0

module _ (parts : RootParts) (prepared : Prepared) (old : RootStates) (f1 : FolderState) (s1 : StoreState) (d1 d2 : DiskState) (made : Prepares parts.scope parts.aux (Ok prepared) old (root_states f1 s1 d1)) where
  pub no_cache : (cache : List ℕ) (fault : SlotFault) → Compares parts.cache cache (Err fault) d1 d2 → ChecksRoot parts (Err (faults.Slot fault)) old (root_states f1 s1 d2)
  no_cache cache fault is = inr (by parts.cache is refl)
    where
      by : (asked : Bool) → Compares asked cache (Err fault) d1 d2 → parts.cache ≡ asked → ReadsNoCache parts fault old (root_states f1 s1 d2)
      by false is e = absurd is
      by true is e = record { asked = e; image = made.0; plan = prepared.plan; texts = texts_of prepared; disk = d1; makes = made.1.0; reads = is }

  pub finds : (differs : Bool) (cache : List ℕ) (links : List Planned) → cache ≡ prepared.cache.items → links ≡ asked_links parts prepared.plan → Compares parts.cache cache (Ok differs) d1 d2
      → FindsChanges parts (record { links = links; cache = differs; report = prepared.report; looked = prepared.looked }) old (root_states f1 s1 d2)
  finds differs cache links same asked given =
      let is = subst (λ (c : List ℕ). Compares parts.cache c (Ok differs) d1 d2) same given in
      let aux = aux_read parts.aux made.1.0.loads.aux old.disk d1 made.1.0.loads.aux_is in
      record {
        image = made.0;
        plan = prepared.plan;
        texts = texts_of prepared;
        disk = d1;
        makes = made.1.0;
        info = record { report = made.1.1.0; links = asked; looked = made.1.1.1 };
        cache_is = subst (λ (known : Option DiskContent). IfKnown known (λ c. differs ≡ (parts.cache && not (content_eq c.now.cache (Some prepared.cache.items)))))
            aux.keeps.contents (compared parts.cache differs prepared.cache.items d1 d2 is);
        reads = reads_next (aux_slots parts.aux) (if parts.cache then Cache ∷ [] else []) Complete old.disk d1 d2 aux (cache_read parts.cache differs prepared.cache.items d1 d2 is);
      }
