-- A tree and the same tree with its planned links give the same search.
use Rattle.std.proofs.Common.{◌≡◌, true, List, ap, subst, sym, ◌∙◌}
use Rattle.hwcap_dirs.specs.Places.{are_dirs}
use Rattle.hwcap_dirs.specs.declared.kinds.Place.{Place}
use Rattle.soname_links.proofs.Rooms.{have_room}
use Rattle.soname_links.specs.Plan.{links, with_links}
use Rattle.file_table.specs.Analyses.{Analyses, HaveNames}
use Rattle.link_plan.specs.declared.kinds.Planned.{Planned}
use Rattle.image_tree.specs.Tree.{Nodes, IsTree}
use Rattle.planned_tree.proofs.Alike.{IsAlike, same_file}
use Rattle.planned_tree.proofs.Places.{same_places}
use Rattle.planned_tree.proofs.Planned.{planned_alike}
use Rattle.planned_tree.proofs.Reading.{same_items}
use Rattle.planned_tree.specs.Search.{IsSearchedAlike}

pub searched_alike : (t new : Nodes) (plan : List Planned) (what : Analyses) (places : List Place) → IsTree t → IsTree new → HaveNames what → are_dirs t places ≡ true
    → plan ≡ links what t places → new ≡ with_links t plan → IsSearchedAlike t new
searched_alike t new plan what places tree after named dirs made put =
    let room = have_room what named t tree places dirs in
    let alike : IsAlike t new = subst (λ (n : Nodes). IsAlike t n) (sym (put ∙ ap (with_links t) made)) (planned_alike t (links what t places) room) in
    record { conf = same_items t new tree after alike; places = same_places t new tree after alike; files = same_file t new alike }
