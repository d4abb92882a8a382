-- Paths in one text: appending to the text, adding a path, and rows described by their parts and nodes.
use Rattle.std.proofs.Common.{◌≡◌, ◌≤◌, ◌<◌, ◌+◌, ◌-◌, ℕ, zero, suc, List, [], ◌∷◌, ◌++◌, length, map, drop, take, get_or, set, refl, ap, sym, subst, ◌∙◌, arith}
use Rattle.lib_types.proofs.Offsets.{part_kept, part_within, pushed as part_pushed, pushed_within as part_pushed_within, rows_kept, rows_within}
use Rattle.std.proofs.lemmas.List.{length-map}
use Rattle.std.specs.List.{insert, remove, zip}
use Rattle.std.specs.Map.{keys_of}
use Rattle.image_tree.specs.OneText.{entry_in, entries_in, parts_in_rows, nodes_of, AreWithin}
use Rattle.lib_types.specs.Part.{part_of, IsLonger, IsWithin}
use Rattle.image_tree.specs.Tree.{Nodes}
use Rattle.image_tree.specs.declared.node.Node.{Node}
use Rattle.lib_types.specs.declared.part.Part.{Part}
use Rattle.image_tree.specs.declared.tree.row.Row.{Row}

-- ---- parts within a text

pub row_within : (count : ℕ) (rows : List Row) (i : ℕ) (d : Row) → AreWithin count (parts_in_rows rows) → i < length rows → IsWithin count (get_or rows i d).part
row_within count [] i d h l = absurd (omega arith)
row_within count (row ∷ rows) zero d h l = h.0
row_within count (row ∷ rows) (suc i) d h l = row_within count rows i d h.1 (omega arith)

pub within_taken : (count : ℕ) (rows : List Row) (i : ℕ) → AreWithin count (parts_in_rows rows) → AreWithin count (parts_in_rows (take i rows))
within_taken count rows zero h = tt
within_taken count [] (suc i) h = tt
within_taken count (row ∷ rows) (suc i) h = (h.0, within_taken count rows i h.1)

pub within_dropped : (count : ℕ) (rows : List Row) (i : ℕ) → AreWithin count (parts_in_rows rows) → AreWithin count (parts_in_rows (drop i rows))
within_dropped count rows zero h = h
within_dropped count [] (suc i) h = tt
within_dropped count (row ∷ rows) (suc i) h = within_dropped count rows i h.1

pub within_removed : (count : ℕ) (rows : List Row) (i : ℕ) → AreWithin count (parts_in_rows rows) → AreWithin count (parts_in_rows (remove rows i))
within_removed count [] i h = within_nothing i
  where
    within_nothing : (i : ℕ) → AreWithin count (parts_in_rows (remove [] i))
    within_nothing zero = tt
    within_nothing (suc i) = tt
within_removed count (row ∷ rows) zero h = h.1
within_removed count (row ∷ rows) (suc i) h = (h.0, within_removed count rows i h.1)

within_inserted : (count : ℕ) (rows : List Row) (i : ℕ) (row : Row) → i ≤ length rows → AreWithin count (parts_in_rows rows) → IsWithin count row.part → AreWithin count (parts_in_rows (insert rows i row))
within_inserted count rows zero row l h is = (is, h)
within_inserted count [] (suc i) row l h is = absurd (omega arith)
within_inserted count (r ∷ rows) (suc i) row l h is = (h.0, within_inserted count rows i row (omega arith) h.1 is)

-- ---- rows after one was overwritten

pub set_alike : {Y : Type 0} (f : Row → Y) (rows : List Row) (i : ℕ) (row old : Row) → old ≡ get_or rows i old → f row ≡ f old → map f (set rows i row) ≡ map f rows
set_alike f [] i row old e same = refl
set_alike f (r ∷ rows) zero row old e same = ap (λ y. y ∷ map f rows) (same ∙ ap f e)
set_alike f (r ∷ rows) (suc i) row old e same = ap (λ ys. f r ∷ ys) (set_alike f rows i row old e same)

written : (parts old : List Part) (i : ℕ) (part d : Part) → i < length parts → length parts ≡ length old → part ≡ get_or parts i d
    → set (take i parts ++ drop i old) i part ≡ take (suc i) parts ++ drop (suc i) old
written [] old i part d l n e = absurd (omega arith)
written (p ∷ parts) [] i part d l n e = absurd (omega arith)
written (p ∷ parts) (o ∷ old) zero part d l n e = ap (λ x. x ∷ old) e
written (p ∷ parts) (o ∷ old) (suc i) part d l n e = ap (λ ps. p ∷ ps) (written parts old i part d (omega arith) (omega arith) e)

pub written_more : (parts old : List Part) (i : ℕ) (part d : Part) → i < length parts → length parts ≡ length old → part ≡ get_or parts i d
    → set (take i parts ++ drop i old) i part ≡ take (i + 1) parts ++ drop (i + 1) old
written_more parts old i part d l n e =
    let next : suc i ≡ i + 1 = omega arith in
    subst (λ k. set (take i parts ++ drop i old) i part ≡ take k parts ++ drop k old) next (written parts old i part d l n e)

-- ---- entries by parts and nodes

pub entries_are : (text : List ℕ) (rows : List Row) → entries_in text rows ≡ zip (map (part_of text) (parts_in_rows rows)) (nodes_of rows)
entries_are text [] = refl
entries_are text (row ∷ rows) = ap (λ es. entry_in text row ∷ es) (entries_are text rows)

pub rows_count : (text : List ℕ) (rows : List Row) (t : Nodes) → entries_in text rows ≡ t → length rows ≡ length t
rows_count text rows t e = sym (length-map rows (entry_in text)) ∙ ap length e

pub same_count : (rows old : List Row) → nodes_of rows ≡ nodes_of old → length rows ≡ length old
same_count rows old e = sym (length-map rows (λ row. row.node)) ∙ ap length e ∙ length-map old (λ row. row.node)

pub paths_are : (text : List ℕ) (rows : List Row) → keys_of (entries_in text rows) ≡ map (part_of text) (parts_in_rows rows)
paths_are text [] = refl
paths_are text (row ∷ rows) = ap (λ ps. part_of text row.part ∷ ps) (paths_are text rows)

-- rows whose parts were overwritten have these paths and the old nodes
pub settled : (text : List ℕ) (rows old : List Row) (parts : List Part) (paths : List (List ℕ)) → map (part_of text) parts ≡ paths → parts_in_rows rows ≡ parts → nodes_of rows ≡ nodes_of old
    → entries_in text rows ≡ zip paths (nodes_of old)
settled text rows old parts paths same e nodes =
    entries_are text rows ∙ ap (λ ps. zip (map (part_of text) ps) (nodes_of rows)) e ∙ ap (λ ps. zip ps (nodes_of rows)) same ∙ ap (zip paths) nodes

pub zipped : (text : List ℕ) (rows : List Row) → zip (keys_of (entries_in text rows)) (nodes_of rows) ≡ entries_in text rows
zipped text rows = ap (λ ps. zip ps (nodes_of rows)) (paths_are text rows) ∙ sym (entries_are text rows)

pub entries_removed : (text : List ℕ) (rows : List Row) (i : ℕ) → entries_in text (remove rows i) ≡ remove (entries_in text rows) i
entries_removed text [] zero = refl
entries_removed text [] (suc i) = refl
entries_removed text (row ∷ rows) zero = refl
entries_removed text (row ∷ rows) (suc i) = ap (λ es. entry_in text row ∷ es) (entries_removed text rows i)

entries_inserted : (text : List ℕ) (rows : List Row) (i : ℕ) (row : Row) → i ≤ length rows → entries_in text (insert rows i row) ≡ insert (entries_in text rows) i (entry_in text row)
entries_inserted text rows zero row l = refl
entries_inserted text [] (suc i) row l = absurd (omega arith)
entries_inserted text (r ∷ rows) (suc i) row l = ap (λ es. entry_in text r ∷ es) (entries_inserted text rows i row (omega arith))

pub entries_taken : (text : List ℕ) (rows : List Row) (i : ℕ) → entries_in text (take i rows) ≡ take i (entries_in text rows)
entries_taken text rows zero = refl
entries_taken text [] (suc i) = refl
entries_taken text (row ∷ rows) (suc i) = ap (λ es. entry_in text row ∷ es) (entries_taken text rows i)

pub entries_dropped : (text : List ℕ) (rows : List Row) (i : ℕ) → entries_in text (drop i rows) ≡ drop i (entries_in text rows)
entries_dropped text rows zero = refl
entries_dropped text [] (suc i) = refl
entries_dropped text (row ∷ rows) (suc i) = entries_dropped text rows i

-- rows with the node of one row replaced
pub entries_with_node : (text : List ℕ) (old new : List Row) (i : ℕ) (node : Node) (d : List ℕ × Node) → i < length old → parts_in_rows new ≡ parts_in_rows old → nodes_of new ≡ set (nodes_of old) i node
    → entries_in text new ≡ set (entries_in text old) i ((get_or (entries_in text old) i d).0, node)
entries_with_node text old new i node d l parts nodes =
    entries_are text new ∙ ap (λ ps. zip (map (part_of text) ps) (nodes_of new)) parts ∙ ap (zip (map (part_of text) (parts_in_rows old))) nodes ∙ zip_set old i l
  where
    zip_set : (rows : List Row) (i : ℕ) → i < length rows → zip (map (part_of text) (parts_in_rows rows)) (set (nodes_of rows) i node) ≡ set (entries_in text rows) i ((get_or (entries_in text rows) i d).0, node)
    zip_set [] i l = absurd (omega arith)
    zip_set (row ∷ rows) zero l = ap (λ es. (part_of text row.part, node) ∷ es) (sym (entries_are text rows))
    zip_set (row ∷ rows) (suc i) l = ap (λ es. entry_in text row ∷ es) (zip_set rows i (omega arith))

-- ---- one more path

module _ (text new : List ℕ) (longer : IsLonger text new) where
  module _ (parts : List Part) (within : AreWithin (length text) parts) where
    pub kept_within : AreWithin (length new) parts
    kept_within = rows_within part_of IsWithin part_within part_kept text new parts longer within

    kept : map (part_of new) parts ≡ map (part_of text) parts
    kept = rows_kept part_of IsWithin part_within part_kept text new parts longer within

    pub pushed : (part : Part) (path : List ℕ) → part_of new part ≡ path → map (part_of new) (parts ++ part ∷ []) ≡ map (part_of text) parts ++ path ∷ []
    pushed = part_pushed part_of IsWithin part_within part_kept text new parts longer within

  module _ (rows : List Row) (within : AreWithin (length text) (parts_in_rows rows)) where
    pub entries_kept : entries_in new rows ≡ entries_in text rows
    entries_kept = entries_are new rows ∙ ap (λ ps. zip ps (nodes_of rows)) (kept (parts_in_rows rows) within) ∙ sym (entries_are text rows)

    pub added_entry_within : (i : ℕ) (row : Row) → i ≤ length rows → IsWithin (length new) row.part → AreWithin (length new) (parts_in_rows (insert rows i row))
    added_entry_within i row l is = within_inserted (length new) rows i row l (kept_within (parts_in_rows rows) within) is

    pub added_entry : (i : ℕ) (row : Row) (path : List ℕ) → i ≤ length rows → part_of new row.part ≡ path → entries_in new (insert rows i row) ≡ insert (entries_in text rows) i (path, row.node)
    added_entry i row path l e =
        entries_inserted new rows i row l ∙ ap (λ p. insert (entries_in new rows) i (p, row.node)) e ∙ ap (λ es. insert es i (path, row.node)) entries_kept
