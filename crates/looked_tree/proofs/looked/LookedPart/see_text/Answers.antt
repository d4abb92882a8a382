use Rattle.std.proofs.Common.{rules, arith, ◌≡◌, ◌-◌, ◌∷◌, ◌++◌, ℕ, suc, List, [], ap, sym, subst, ◌∙◌}
use Rattle.std.specs.Option.{option_copied}
use Rattle.image_tree.specs.Paths.{components, root}
use Rattle.path_walk.specs.Rest.{names_in}
use Rattle.path_walk.specs.Walk.{Follows, Stop, start_of, steps}
use Rattle.tree_face.specs.Known.{IfKnown}
use Rattle.looked_tree.proofs.Halts.{text_begins, text_follows, text_nowhere, text_reaches}
use Rattle.looked_tree.proofs.Loads.{ok_then}
use Rattle.looked_tree.specs.Halts.{HaltsAt}
use Rattle.looked_tree.specs.Looked.{IsLookedOf, Loads, LoadsPart}
use Rattle.looked_tree.specs.declared.walking.Halt.TheVariants as halt
use Rattle.seen_tree.specs.Part.{looked_by, walked}
use Rattle.looked_tree.proofs.looked.LookedPart.see_text.Goals as goal

pub loop-links-init : goal.loop-links-init
loop-links-init g c =
    let text = c.args.text.now in
    let mode = c.args.mode in
    let a = g.F.Folder.state c.args.folder.now in
    let x = c.args.self.now in
    let place : c.in_ok-place.place ≡ root = search rules in
    subst (λ (p : List ℕ). LoadsPart (λ t. looked_by t text mode) (λ t. walked t mode 41 (Follows (components c.in_ok-path.path.items) p)) (λ t. []) (λ t. []) a a x x) (sym place)
    (subst (λ (s : List ℕ). LoadsPart (λ t. looked_by t text mode) (λ t. walked t mode 41 (Follows (components s) root)) (λ t. []) (λ t. []) a a x x) (sym c.in_ok-path.ensures)
    (text_begins text mode a x))

pub returns-in-Reached-clause-loads : goal.returns-in-Reached-clause-loads
returns-in-Reached-clause-loads g c =
    let text = c.args.text.now in
    let mode = c.args.mode in
    let path = c.deref.result.now in
    let place = c.loop-links.place in
    let end = c.in-Reached.end in
    let a = g.F.Folder.state c.args.folder.now in
    let b = g.F.Folder.state c.loop-links.folder in
    let d = g.F.Folder.state c.walk.new.folder in
    let e = g.F.Folder.state c.see.new.folder in
    let x = c.args.self.now in
    let y = c.loop-links.self in
    let n = c.loop-links.links - 1 in
    let less : c.loop-links.links ≡ suc n = omega (arith, c.loop-links-test.true) in
    let on = subst (λ m. LoadsPart (λ t. looked_by t text mode) (λ t. walked t mode m (Follows (components path) place)) (λ t. []) (λ t. []) a b x y) less
    (subst (λ (s : List ℕ). LoadsPart (λ t. looked_by t text mode) (λ t. walked t mode c.loop-links.links (Follows (components s) place)) (λ t. []) (λ t. []) a b x y)
    (sym c.deref.ensures.value) c.loop-links.invariant) in
    let halts = subst (λ h. IfKnown b.contents (λ k. IsLookedOf k.now y → HaltsAt h (steps k.now mode (components path) place))) c.in-Reached.is c.in_ok-end.ensures.halts in
    ok_then c.see.result (Loads (λ t. c.as_bytes.result.now ∷ []) (λ t. []) d e c.walk.new.self c.see.new.self) (Loads (λ t. looked_by t text mode) (λ t. []) a e x c.see.new.self)
    (λ last. text_reaches mode (λ t. looked_by t text mode) n (components path) place a b d x y c.walk.new.self on c.in_ok-end.ensures.loads end e c.see.new.self halts
    (subst (λ (q : List ℕ). Loads (λ t. q ∷ []) (λ t. []) d e c.walk.new.self c.see.new.self) c.as_bytes.ensures last)) c.see.ensures.loads

pub returns-in-Nowhere-clause-loads : goal.returns-in-Nowhere-clause-loads
returns-in-Nowhere-clause-loads g c =
    let text = c.args.text.now in
    let mode = c.args.mode in
    let path = c.deref.result.now in
    let place = c.loop-links.place in
    let a = g.F.Folder.state c.args.folder.now in
    let b = g.F.Folder.state c.loop-links.folder in
    let x = c.args.self.now in
    let y = c.loop-links.self in
    let n = c.loop-links.links - 1 in
    let less : c.loop-links.links ≡ suc n = omega (arith, c.loop-links-test.true) in
    let on = subst (λ m. LoadsPart (λ t. looked_by t text mode) (λ t. walked t mode m (Follows (components path) place)) (λ t. []) (λ t. []) a b x y) less
    (subst (λ (s : List ℕ). LoadsPart (λ t. looked_by t text mode) (λ t. walked t mode c.loop-links.links (Follows (components s) place)) (λ t. []) (λ t. []) a b x y)
    (sym c.deref.ensures.value) c.loop-links.invariant) in
    let halts = subst (λ h. IfKnown b.contents (λ k. IsLookedOf k.now y → HaltsAt h (steps k.now mode (components path) place))) c.in-Nowhere.is c.in_ok-end.ensures.halts in
    text_nowhere mode (λ t. looked_by t text mode) n (components path) place a b (g.F.Folder.state c.walk.new.folder) x y c.walk.new.self on c.in_ok-end.ensures.loads halts

pub loop-links-preserved : goal.loop-links-preserved
loop-links-preserved g c =
    let text = c.args.text.now in
    let mode = c.args.mode in
    let path = c.deref.result.now in
    let place = c.loop-links.place in
    let a = g.F.Folder.state c.args.folder.now in
    let b = g.F.Folder.state c.loop-links.folder in
    let x = c.args.self.now in
    let y = c.loop-links.self in
    let n = c.loop-links.links - 1 in
    let less : c.loop-links.links ≡ suc n = omega (arith, c.loop-links-test.true) in
    let on = subst (λ m. LoadsPart (λ t. looked_by t text mode) (λ t. walked t mode m (Follows (components path) place)) (λ t. []) (λ t. []) a b x y) less
    (subst (λ (s : List ℕ). LoadsPart (λ t. looked_by t text mode) (λ t. walked t mode c.loop-links.links (Follows (components s) place)) (λ t. []) (λ t. []) a b x y)
    (sym c.deref.ensures.value) c.loop-links.invariant) in
    let target = c.in-Link.target in
    let rest = names_in (option_copied c.in-Link.rest) in
    let more = components c.in_ok-more-in-Link.more.items in
    let from = c.in_ok-start_of-in-Link.field-0 in
    let more_is : more ≡ components target ++ rest = c.in_ok-more-in-Link.ensures ∙ ap (λ s. components s ++ rest) c.as_bytes-in-Link.ensures in
    let from_is : from ≡ start_of target c.in-Link.place = c.in_ok-start_of-in-Link.ensures ∙ ap (λ s. start_of s c.in-Link.place) c.as_bytes-in-Link-2.ensures in
    let halts = subst (λ h. IfKnown b.contents (λ k. IsLookedOf k.now y → HaltsAt h (steps k.now mode (components path) place))) c.in-Link.is c.in_ok-end.ensures.halts in
    text_follows mode (λ t. looked_by t text mode) n (components path) place a b (g.F.Folder.state c.walk.new.folder) x y c.walk.new.self on c.in_ok-end.ensures.loads
    more from (halt.Link c.in-Link.place target c.in-Link.rest)
    (λ (stop : Stop) e. e ∙ ap (λ names. Follows names (start_of target c.in-Link.place)) (sym more_is) ∙ ap (Follows more) (sym from_is)) halts
