-- The turns of a schedule, one after another.
use Rattle.std.proofs.Common.{◌≡◌, ◌+◌, ◌≤◌, ◌<◌, ℕ, suc, arith, List, [], ◌∷◌, ◌++◌, length, take, drop, get_or, Option, Some, None, refl, sym, ap, subst, ◌∙◌, inl, inr, append_assoc, append-nil, take-suc, drop-cons, slice_get, length-append, All, Contains, ◌-◌, is_some, option_and_then, not-suc-le-zero}
use Rattle.std.specs.Option.{option_map, option_map_or}
use Rattle.std.proofs.lemmas.Bool.{false≢true}
use Rattle.std.proofs.lemmas.List.Elements.{All-cons, All-nil}
use Rattle.std.proofs.lemmas.List.Kept.{AllPairs-cons}
use Rattle.std.proofs.lemmas.Option.{get_or_from_slice_get, slice_get_within}
use Rattle.tree_face.specs.Disk.{Content}
use Rattle.update_world.specs.declared.post.Post.{Post}
use Rattle.update_world.specs.declared.post.Reading.{Reading}
use Rattle.update_world.specs.declared.post.Turn.{Turn}
use Rattle.update_world.specs.declared.post.Turn.TheVariants.{Step, Load}
use Rattle.update_world.specs.Turns.{call_of, calls, last_of, publishers, read_in, reading, reading_after, readings_after}
use Rattle.update_world.specs.Worlds.{HasTaken, HasTakenPart, IsWhole, NeverFalls, Worlds}
use Rattle.update_world.proofs.Calls.{calls_more, publishers_more}
use Rattle.update_world.proofs.Lists.{dropped}

module _ (schedule : List Turn) (a : Worlds) where
  pub taken_none : HasTaken (take 0 schedule) a a
  taken_none = record { first = refl; posts = refl; turns = sym (append-nil a.turns) }

  module _ (b : Worlds) where
    pub taken_all : HasTaken (take (length schedule) schedule) a b → HasTaken schedule a b
    taken_all h = subst (λ l. HasTaken l a b) (all schedule) h
      where
        all : (l : List Turn) → take (length l) l ≡ l
        all [] = refl
        all (x ∷ l) = ap (λ m. x ∷ m) (all l)

    pub taken_part : (k : ℕ) → HasTaken (take k schedule) a b → HasTakenPart schedule a b
    taken_part k h = (k, h)

    module _ (c : Worlds) (k : ℕ) (turn : Turn) (within : k < length schedule) (is : turn ≡ get_or schedule k turn) (one : HasTaken (turn ∷ []) b c) where
      pub taken_on : HasTaken (take k schedule) a b → HasTaken (take (suc k) schedule) a c
      taken_on h = record {
        first = one.first ∙ h.first;
        posts = one.posts ∙ h.posts;
        turns =
            one.turns
            ∙ ap (λ ts. ts ++ turn ∷ []) h.turns
            ∙ append_assoc a.turns (take k schedule) (turn ∷ [])
            ∙ ap (λ ts. a.turns ++ ts) (ap (λ (t : Turn). take k schedule ++ t ∷ []) is ∙ sym (take-suc schedule k turn within));
      }

      pub rest_on : (readings out all : List Reading) → readings ++ readings_after b.first b.posts b.turns (drop k schedule) ≡ all → out ≡ read_in b.first b.posts b.turns turn
          → (readings ++ out) ++ readings_after c.first c.posts c.turns (drop (suc k) schedule) ≡ all
      rest_on readings out all rest read =
          append_assoc readings out _
          ∙ ap (λ l. readings ++ (l ++ readings_after c.first c.posts c.turns (drop (suc k) schedule))) read
          ∙ ap (λ l. readings ++ (read_in b.first b.posts b.turns turn ++ l)) same
          ∙ ap (λ l. readings ++ readings_after b.first b.posts b.turns l) (sym (drop-cons schedule k turn within ∙ ap (λ (t : Turn). t ∷ drop (suc k) schedule) (sym is)))
          ∙ rest
        where
          same : readings_after c.first c.posts c.turns (drop (suc k) schedule) ≡ readings_after b.first b.posts (b.turns ++ turn ∷ []) (drop (suc k) schedule)
          same =
              ap (λ (f : Content). readings_after f c.posts c.turns (drop (suc k) schedule)) one.first
              ∙ ap (λ (ps : List Post). readings_after b.first ps c.turns (drop (suc k) schedule)) one.posts
              ∙ ap (λ ts. readings_after b.first b.posts ts (drop (suc k) schedule)) one.turns

pub read_all : (w : Worlds) (k : ℕ) (schedule : List Turn) (readings all : List Reading) → length schedule ≤ k
    → readings ++ readings_after w.first w.posts w.turns (drop k schedule) ≡ all → readings ≡ all
read_all w k schedule readings all past rest = sym (append-nil readings) ∙ ap (λ l. readings ++ readings_after w.first w.posts w.turns l) (sym (dropped schedule k past)) ∙ rest

module _ (first : Content) (posts : List Post) where
  among : (o : Option ℕ) (p : Post) → option_and_then (slice_get posts) o ≡ Some p → Contains posts p
  among None p e = absurd (false≢true (ap is_some e))
  among (Some k) p e = (k, slice_get_within posts k p e, get_or_from_slice_get posts k p p e)

  whole_by : (n : ℕ) (last : Option Post) → ((p : Post) → last ≡ Some p → Contains posts p)
      → IsWhole first posts (record { published = n; writer = option_map (λ p. p.tag) last; bytes = option_map_or (λ p. Some p.bytes) last first })
  whole_by n None contains = inl (refl, refl)
  whole_by n (Some p) contains = inr (p, contains p refl, refl, refl)

  is_whole : (published : List ℕ) → IsWhole first posts (reading first posts published)
  is_whole published = whole_by (length published) (last_of posts published) (λ p e. among (slice_get published (length published - 1)) p e)

  -- each reading is a whole content
  pub all_whole : (before turns : List Turn) → All (IsWhole first posts) (readings_after first posts before turns)
  all_whole before [] = All-nil (IsWhole first posts)
  all_whole before (Step i ∷ turns) = all_whole (before ++ Step i ∷ []) turns
  all_whole before (Load ∷ turns) = All-cons (IsWhole first posts) (reading_after first posts before) _ (is_whole (publishers (calls (length posts) before))) (all_whole (before ++ Load ∷ []) turns)

  abbrev count_after : List Turn → ℕ
  count_after turns = length (publishers (calls (length posts) turns))

  grows : (turns : List Turn) (turn : Turn) → count_after turns ≤ count_after (turns ++ turn ∷ [])
  grows turns turn =
      let more : count_after (turns ++ turn ∷ []) ≡ count_after turns + length (publishers (call_of (length posts) turns turn)) =
      ap (λ cs. length (publishers cs)) (calls_more (length posts) turns turn)
      ∙ ap (λ (l : List ℕ). length l) (publishers_more (calls (length posts) turns) (call_of (length posts) turns turn))
      ∙ length-append (publishers (calls (length posts) turns)) (publishers (call_of (length posts) turns turn)) in
      omega (arith, more)

  all_from : (n : ℕ) (before turns : List Turn) → n ≤ count_after before → All (λ (r : Reading). n ≤ r.published) (readings_after first posts before turns)
  all_from n before [] h = All-nil (λ (r : Reading). n ≤ r.published)
  all_from n before (Step i ∷ turns) h = all_from n (before ++ Step i ∷ []) turns (let more = grows before (Step i) in omega (arith, h, more))
  all_from n before (Load ∷ turns) h =
      All-cons (λ (r : Reading). n ≤ r.published) (reading_after first posts before) _ h (all_from n (before ++ Load ∷ []) turns (let more = grows before Load in omega (arith, h, more)))

  -- a later reading never has fewer renames than an earlier one
  pub never_falls : (before turns : List Turn) → NeverFalls (readings_after first posts before turns)
  never_falls before [] = λ i j d less within. absurd (not-suc-le-zero within)
  never_falls before (Step i ∷ turns) = never_falls (before ++ Step i ∷ []) turns
  never_falls before (Load ∷ turns) =
      AllPairs-cons (λ (a b : Reading). a.published ≤ b.published) (reading_after first posts before) _
      (all_from (count_after before) (before ++ Load ∷ []) turns (grows before Load)) (never_falls (before ++ Load ∷ []) turns)
