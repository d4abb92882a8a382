-- Names, targets and files' paths in one text. They stay the same when the text gets longer. A target may be the end of a path.
use Rattle.std.proofs.Common.{◌≡◌, ◌≤◌, ◌+◌, ◌-◌, ℕ, List, ◌++◌, true, append_assoc, drop, take, Option, Some, None, length, refl, ap, sym, ◌∙◌, nat_eq, arith}
use Rattle.std.proofs.Math.Seq.{drop-append-add, drop-append_seam, take-append_seam}
use Rattle.std.proofs.lemmas.List.{length-append, length-drop, length-take-le, take-append-drop}
use Rattle.std.proofs.lemmas.Bool.Decides.{Decides-eqb}
use Rattle.std.proofs.lemmas.Slice.Eq.{ends_is}
use Rattle.std.specs.List.{ends_with}
use Rattle.std.specs.Option.{option_map, ForSome}
use Rattle.lib_types.proofs.Offsets.{part_kept, part_within}
use Rattle.library_files.specs.LinkRows.{link_in, IsLinkWithin}
use Rattle.lib_types.specs.Part.{part_of, IsWithin}
use Rattle.library_files.specs.declared.followed.LinkRow.{LinkRow}
use Rattle.lib_types.specs.declared.part.Part.{Part}

file_within : (count more : ℕ) (file : Option Part) → count ≤ more → ForSome file (IsWithin count) → ForSome file (IsWithin more)
file_within count more file le h part is = part_within count more part le (h part is)

pub row_within : (count more : ℕ) (row : LinkRow) → count ≤ more → IsLinkWithin count row → IsLinkWithin more row
row_within count more row le h = (part_within count more row.name le h.0, (part_within count more row.target le h.1.0, file_within count more row.file le h.1.1))

file_kept : (text more : List ℕ) (file : Option Part) → ForSome file (IsWithin (length text)) → option_map (part_of (text ++ more)) file ≡ option_map (part_of text) file
file_kept text more (Some part) h = ap Some (part_kept text more part (h part refl))
file_kept text more None h = refl

pub link_kept : (text more : List ℕ) (row : LinkRow) → IsLinkWithin (length text) row → link_in (text ++ more) row ≡ link_in text row
link_kept text more row h =
    ap (λ n. record { name = n; target = part_of (text ++ more) row.target; file = option_map (part_of (text ++ more)) row.file }) (part_kept text more row.name h.0)
    ∙ ap (λ n. record { name = part_of text row.name; target = n; file = option_map (part_of (text ++ more)) row.file }) (part_kept text more row.target h.1.0)
    ∙ ap (λ f. record { name = part_of text row.name; target = part_of text row.target; file = f }) (file_kept text more row.file h.1.1)

-- ---- the end of a part

module _ (text bytes : List ℕ) (part : Part) (within : IsWithin (length text) part) (ends : ends_with nat_eq (part_of text part) bytes ≡ true) where
  abbrev whole : List ℕ
  whole = drop part.from text

  abbrev front : List ℕ
  front = take (length (part_of text part) - length bytes) (part_of text part)

  abbrev rest : List ℕ
  rest = drop (part.to - part.from) whole

  parted : part_of text part ≡ front ++ bytes
  parted = (ends_is Decides-eqb (part_of text part) bytes (ends_with nat_eq (part_of text part) bytes) refl).0 ends

  count : part.to - part.from ≡ length front + length bytes
  count =
      let left = length-drop part.from text in
      sym (length-take-le (part.to - part.from) whole (omega (arith, left, within.0, within.1))) ∙ ap length parted ∙ length-append front bytes

  there : drop (part.to - length bytes) text ≡ bytes ++ rest
  there =
      let before : length (take part.from text) ≡ part.from = length-take-le part.from text (omega (arith, within.0, within.1)) in
      let at : part.to - length bytes ≡ length (take part.from text) + length front = omega (arith, before, count, within.0) in
      ap (λ n. drop n text) at
      ∙ ap (drop (length (take part.from text) + length front)) (sym (take-append-drop part.from text))
      ∙ drop-append-add (take part.from text) whole (length front)
      ∙ ap (drop (length front)) (sym (take-append-drop (part.to - part.from) whole) ∙ ap (λ xs. xs ++ rest) parted ∙ append_assoc front bytes rest)
      ∙ drop-append_seam front (bytes ++ rest)

  pub end_is : part_of text (record { from = part.to - length bytes; to = part.to }) ≡ bytes
  end_is =
      let size : part.to - (part.to - length bytes) ≡ length bytes = omega (arith, count, within.0) in
      ap (λ n. take n (drop (part.to - length bytes) text)) size ∙ ap (take (length bytes)) there ∙ take-append_seam bytes rest
