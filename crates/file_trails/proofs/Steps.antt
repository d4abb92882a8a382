-- One step of a walk, and one link after another.
use Rattle.std.proofs.Common.{◌≡◌, ℕ, zero, suc, true, false, cond, ◌+◌, List, [], ◌∷◌, ◌++◌, codes, refl, ap, sym, ◌∙◌, append-nil, append_assoc, arith, Option, Some, None}
use Rattle.std.specs.Str.{bytes_eq}
use Rattle.image_tree.specs.Paths.{components, join, root}
use Rattle.image_tree.specs.Tree.{Nodes, kind_at}
use Rattle.image_tree.specs.declared.tree.Kind.{Kind}
use Rattle.image_tree.specs.declared.tree.Kind.TheVariants as kinds
use Rattle.path_walk.specs.Names.{parent}
use Rattle.path_walk.specs.Walk.{Stop, Follows, at_child, at_file, at_link, start_of, steps, target_at}
use Rattle.path_walk.specs.declared.walk.Mode.TheVariants.{Full}
use Rattle.file_trails.specs.Steps.{Goes, IsEnd, IsStep, Passes}
use Rattle.file_trails.specs.Trail.{met, met_at, met_by, trail}
use Rattle.file_trails.specs.declared.trail.Onward.{Onward}
use Rattle.file_trails.specs.declared.trail.Step.{Step}
use Rattle.file_trails.specs.declared.trail.Step.TheVariants as step

module _ (t : Nodes) (name place : List ℕ) where
  abbrev path : List ℕ
  path = join place name

  pub goes_up : bytes_eq name (codes "..") ≡ true → IsStep t name place (step.To (parent place))
  goes_up e rest = (
    ap (λ b. cond b (met t rest (parent place)) (met_at (kind_at t path) path (met t rest path))) e,
    ap (λ b. cond b (steps t Full rest (parent place)) (at_child (kind_at t path) (at_link Full name (target_at t path) rest place) (at_file rest path) (steps t Full rest path))) e,
  )

  module _ (e : bytes_eq name (codes "..") ≡ false) (rest : List (List ℕ)) (k : Kind) (is : kind_at t path ≡ k) where
    met_down : met t (name ∷ rest) place ≡ met_at k path (met t rest path)
    met_down = ap (λ b. cond b (met t rest (parent place)) (met_at (kind_at t path) path (met t rest path))) e ∙ ap (λ k. met_at k path (met t rest path)) is

    steps_down : steps t Full (name ∷ rest) place ≡ at_child k (at_link Full name (target_at t path) rest place) (at_file rest path) (steps t Full rest path)
    steps_down = ap (λ b. cond b (steps t Full rest (parent place)) (at_child (kind_at t path) (at_link Full name (target_at t path) rest place) (at_file rest path) (steps t Full rest path))) e
        ∙ ap (λ k. at_child k (at_link Full name (target_at t path) rest place) (at_file rest path) (steps t Full rest path)) is

  pub goes_down : bytes_eq name (codes "..") ≡ false → kind_at t path ≡ kinds.Dir → IsStep t name place (step.To path)
  goes_down e is rest = (met_down e rest kinds.Dir is, steps_down e rest kinds.Dir is)

  ends_at_file : (rest : List (List ℕ)) → IsEnd (at_file rest path)
  ends_at_file [] = (_, refl)
  ends_at_file (name ∷ rest) = (_, refl)

  pub stops_at_file : bytes_eq name (codes "..") ≡ false → kind_at t path ≡ kinds.File → IsStep t name place (step.File path)
  stops_at_file e is rest = (met_down e rest kinds.File is, ((ends_at_file rest).0, steps_down e rest kinds.File is ∙ (ends_at_file rest).1))

  pub stops_at_link : bytes_eq name (codes "..") ≡ false → kind_at t path ≡ kinds.Link → IsStep t name place (step.Link path)
  stops_at_link e is rest = (met_down e rest kinds.Link is, steps_down e rest kinds.Link is)

  pub nowhere : bytes_eq name (codes "..") ≡ false → kind_at t path ≡ kinds.Absent → IsStep t name place step.Nowhere
  nowhere e is rest = (met_down e rest kinds.Absent is, (_, steps_down e rest kinds.Absent is))

-- ---- one link after another

module _ (t : Nodes) (old new whole : List (List ℕ)) (walks : ℕ) (names : List (List ℕ)) (place : List ℕ) where
  nothing_left : (n : ℕ) (stop : Stop) → IsEnd stop → met_by t n stop ≡ []
  nothing_left zero stop end = ap (met_by t zero) end.1
  nothing_left (suc n) stop end = ap (met_by t (suc n)) end.1

  -- the walk follows a link
  goes_on : (more : ℕ) (next : List (List ℕ)) (from : List ℕ) → walks ≡ more + 1 → old ++ met_by t walks (Follows names place) ≡ whole
      → new ≡ old ++ met t names place → steps t Full names place ≡ Follows next from → new ++ met_by t more (Follows next from) ≡ whole
  goes_on more next from less all adds stops =
      let s : walks ≡ suc more = omega (arith, less) in
      ap (λ xs. xs ++ met_by t more (Follows next from)) adds
      ∙ append_assoc old (met t names place) (met_by t more (Follows next from))
      ∙ ap (λ stop. old ++ (met t names place ++ met_by t more stop)) (sym stops)
      ∙ ap (λ n. old ++ met_by t n (Follows names place)) (sym s)
      ∙ all

  -- the walk ends
  ends_here : (more : ℕ) → walks ≡ more + 1 → old ++ met_by t walks (Follows names place) ≡ whole → new ≡ old ++ met t names place → IsEnd (steps t Full names place) → new ≡ whole
  ends_here more less all adds end =
      let s : walks ≡ suc more = omega (arith, less) in
      adds
      ∙ ap (λ xs. old ++ xs) (sym (append-nil (met t names place)) ∙ ap (λ xs. met t names place ++ xs) (sym (nothing_left more _ end)))
      ∙ ap (λ n. old ++ met_by t n (Follows names place)) (sym s)
      ∙ all

  -- no more links are followed
  pub no_more : walks ≡ 0 → old ++ met_by t walks (Follows names place) ≡ whole → old ≡ whole
  no_more none all = sym (append-nil old) ∙ ap (λ n. old ++ met_by t n (Follows names place)) (sym none) ∙ all

  module _ (list : List (List ℕ)) (o : Option Onward) (more : ℕ) (listed : list ≡ names) (less : walks ≡ more + 1) (all : old ++ met_by t walks (Follows names place) ≡ whole)
      (passes : Passes t list place old new o) where
    passed : (r : Option Onward) → o ≡ r → Passes t names place old new r
    passed r e = rw (listed, e) at passes

    pub trail_on : (onward : Onward) → o ≡ Some onward → new ++ met_by t more (Follows onward.names onward.place) ≡ whole
    trail_on onward e = goes_on more onward.names onward.place less all (passed (Some onward) e).0 (passed (Some onward) e).1

    pub trail_ends : o ≡ None → new ≡ whole
    trail_ends e = ends_here more less all (passed None e).0 (passed None e).1

pub trail_begins : (t : Nodes) (path : List ℕ) (first names : List (List ℕ)) (place : List ℕ) → names ≡ components path → place ≡ root
    → first ++ met_by t 41 (Follows names place) ≡ first ++ trail t path
unfolding trail
trail_begins t path first names place e h = ap (λ ns. first ++ met_by t 41 (Follows ns place)) e ∙ ap (λ p. first ++ met_by t 41 (Follows (components path) p)) h

-- ---- the names of a text

-- The walk by these names from `start` is at `place`, where these are left. The step by the next name is `s`.
module _ (t : Nodes) (name here : List ℕ) (more : List (List ℕ)) (place at : List ℕ) (left names : List (List ℕ)) (start : List ℕ) (first old new : List (List ℕ)) (s : Step)
    (split : left ≡ name ∷ more) (named : here ≡ name) (placed : at ≡ place) (same : old ≡ first)
    (met_is : met t left place ≡ met t names start) (steps_is : steps t Full left place ≡ steps t Full names start) (is : IsStep t here at s) where
  goes : (r : Step) → s ≡ r → Goes t name more place r
  goes r e = rw (e, named, placed) at (is more)

  whole_met : (ms : List (List ℕ)) → met t (name ∷ more) place ≡ ms → met t names start ≡ ms
  whole_met ms e = sym met_is ∙ ap (λ r. met t r place) split ∙ e

  whole_steps : (stop : Stop) → steps t Full (name ∷ more) place ≡ stop → steps t Full names start ≡ stop
  whole_steps stop e = sym steps_is ∙ ap (λ r. steps t Full r place) split ∙ e

  added : (path : List ℕ) → new ≡ old ++ path ∷ [] → met t (name ∷ more) place ≡ path ∷ [] → new ≡ first ++ met t names start
  added path push e = push ∙ ap (λ xs. xs ++ path ∷ []) same ∙ ap (λ xs. first ++ xs) (sym (whole_met _ e))

  pub pass_link : (path : List ℕ) (onward : Onward) → s ≡ step.Link path → new ≡ old ++ path ∷ [] → onward.names ≡ components (target_at t path) ++ more → onward.place ≡ start_of (target_at t path) place
      → Passes t names start first new (Some onward)
  pass_link path onward e push left_is start_is = (
    added path push (goes (step.Link path) e).0,
    whole_steps _ ((goes (step.Link path) e).1 ∙ ap (λ ns. Follows ns (start_of (target_at t path) place)) (sym left_is) ∙ ap (Follows onward.names) (sym start_is)),
  )

  pub pass_file : (path : List ℕ) → s ≡ step.File path → new ≡ old ++ path ∷ [] → Passes t names start first new None
  pass_file path e push = (added path push (goes (step.File path) e).0, ((goes (step.File path) e).1.0, whole_steps _ (goes (step.File path) e).1.1))

  pub pass_nowhere : s ≡ step.Nowhere → Passes t names start first old None
  pass_nowhere e = (
    same ∙ sym (append-nil first) ∙ ap (λ xs. first ++ xs) (sym (whole_met _ (goes step.Nowhere e).0)),
    ((goes step.Nowhere e).1.0, whole_steps _ (goes step.Nowhere e).1.1),
  )

  pub pass_on : (next : List ℕ) → s ≡ step.To next → (met t more next ≡ met t names start) × (steps t Full more next ≡ steps t Full names start)
  pass_on next e = (sym (whole_met _ (goes (step.To next) e).0), sym (whole_steps _ (goes (step.To next) e).1))

pub pass_all : (t : Nodes) (place : List ℕ) (left names : List (List ℕ)) (start : List ℕ) (first old : List (List ℕ)) → left ≡ [] → old ≡ first
    → met t left place ≡ met t names start → steps t Full left place ≡ steps t Full names start → Passes t names start first old None
pass_all t place left names start first old none same met_is steps_is = (
  same ∙ sym (append-nil first) ∙ ap (λ xs. first ++ xs) (ap (λ r. met t r place) (sym none) ∙ met_is),
  (_, sym steps_is ∙ ap (λ r. steps t Full r place) none),
)
